pub mod Versions
pub mod Cuts
pub mod Phases
pub mod Findings
pub mod Rows
pub mod Kept
pub mod Plans
pub mod Releases
