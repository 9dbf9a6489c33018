pub mod Due
pub mod Held
pub mod Limits
pub mod Fuel
pub mod ByTail
