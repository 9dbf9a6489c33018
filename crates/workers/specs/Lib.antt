pub mod Passages
pub mod Doorways
pub mod Work
pub mod Staying
