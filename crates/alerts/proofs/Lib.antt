pub mod Sameness
pub mod Laws
pub mod Crossing
pub mod RungLaws
