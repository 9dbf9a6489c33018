pub mod Digits
pub mod Routes
pub mod Names
pub mod Responses
pub mod Heads
pub mod Received
pub mod Requests
pub mod Reading
