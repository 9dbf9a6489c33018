pub mod Concerned
pub mod Weather
pub mod Laws
pub mod Text
pub mod Legible
pub mod Revisions
pub mod Valid
