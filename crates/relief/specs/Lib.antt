pub mod Roster
pub mod Refusals
pub mod Handovers
pub mod Calls
pub mod Seated
