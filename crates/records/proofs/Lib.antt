mod Places
mod MarkLaws
mod Whole
mod NameLaws
mod FloorLaws
mod MapLaws
mod PlainRows
mod AgainRows
mod Formed
pub mod RowLaws
mod CheckLaws
pub mod VersionLaws
