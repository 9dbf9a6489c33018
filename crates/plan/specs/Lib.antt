pub mod Check
pub mod Change
pub mod Findings
pub mod Phases
pub mod Texts
pub mod AlternateNeeds
pub mod Fuel
pub mod Distant
