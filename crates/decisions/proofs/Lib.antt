pub mod AttachedLaws
pub mod FloorLaws
pub mod Held
pub mod Open
pub mod Turns
