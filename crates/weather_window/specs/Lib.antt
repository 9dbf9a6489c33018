pub mod Values
pub mod Window
pub mod Changes
pub mod Running
