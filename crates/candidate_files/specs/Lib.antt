pub mod Candidates
pub mod Good
