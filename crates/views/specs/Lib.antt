pub mod Shown
pub mod Texts
pub mod Objects
pub mod Views
