pub mod Requests
pub mod Index
pub mod ByPerson
pub mod Replies
