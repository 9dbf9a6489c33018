pub mod Boxes
pub mod Kept
pub mod Written
pub mod Looks
pub mod Keys
pub mod Elements
