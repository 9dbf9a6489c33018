mod StationLaws
mod NewerLaws
mod AirportLaws
mod AttachedLaws
pub mod Pieces
pub mod TextLaws
