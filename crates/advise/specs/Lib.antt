pub mod Places
pub mod Listing
pub mod Candidates
pub mod Legal
pub mod Advice
pub mod Verdicts
pub mod Search
pub mod Text
