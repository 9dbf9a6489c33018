pub mod Attached
pub mod Floors
pub mod Answers
pub mod Newest
pub mod Reads
