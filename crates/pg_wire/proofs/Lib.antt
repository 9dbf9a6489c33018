pub mod Passed
pub mod Reading
pub mod Settling
