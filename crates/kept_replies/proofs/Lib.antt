pub mod SetLaws
pub mod PersonLaws
pub mod FoundLaws
pub mod FloorLaws
pub mod AskedLaws
pub mod HeldLaws
pub mod Crossing
