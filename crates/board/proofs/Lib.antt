pub mod Parts
pub mod Kept
pub mod Anew
pub mod Counted
pub mod Crossing
pub mod Below
