pub mod CanonicalLaws
pub mod GroupLaws
pub mod LengthLaws
pub mod CondLaws
mod DigitLaws
mod VisibilityLaws
mod SkyLaws
pub mod ShapedLaws
pub mod WordLaws
