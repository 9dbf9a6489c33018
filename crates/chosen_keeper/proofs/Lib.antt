pub mod ConfLaws
pub mod Crossing
