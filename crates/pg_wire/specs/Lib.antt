pub mod Crossing
pub mod Frontend
pub mod Backend
pub mod Answers
