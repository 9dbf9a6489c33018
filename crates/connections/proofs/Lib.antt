pub mod Lines
pub mod Steps
pub mod Joins
pub mod Crossing
pub mod RoundLaws
pub mod RunLaws
pub mod Counting
