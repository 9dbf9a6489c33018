pub mod Crossing
pub mod OrderLaws
mod PlaceLaws
mod Places
pub mod SeenLaws
pub mod SortLaws
pub mod AccountLaws
