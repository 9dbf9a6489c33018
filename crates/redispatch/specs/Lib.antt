pub mod Filing
pub mod Filed
pub mod Judging
pub mod Turns
