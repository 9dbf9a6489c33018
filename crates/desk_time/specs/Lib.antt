pub mod Limits
pub mod Digits
pub mod Numbers
pub mod Calendar
pub mod Moments
