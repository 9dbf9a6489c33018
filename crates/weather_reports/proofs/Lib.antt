mod MetarLaws
pub mod PartLaws
pub mod Crossing
pub mod ForecastLaws
pub mod TafLaws
