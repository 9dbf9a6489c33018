pub mod Once
pub mod Without
pub mod DueLaws
pub mod TailLaws
pub mod Halves
pub mod FuelLaws
pub mod Crossing
