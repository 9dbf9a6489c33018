pub mod Prospect
pub mod Touching
