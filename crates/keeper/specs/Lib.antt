pub mod Order
pub mod Kept
pub mod Account
pub mod Seen
pub mod InMemory
