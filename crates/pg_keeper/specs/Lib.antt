pub mod Batch
pub mod Endings
pub mod Loads
