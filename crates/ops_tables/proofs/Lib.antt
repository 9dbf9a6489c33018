pub mod Orders
pub mod Found
pub mod Distinct
pub mod Crossing
