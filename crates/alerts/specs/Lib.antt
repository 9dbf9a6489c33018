pub mod Alerts
pub mod Notices
pub mod Follows
pub mod Seen
pub mod Ringing
pub mod InMemory
