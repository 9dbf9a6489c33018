pub mod Same
pub mod Reading
pub mod Reports
pub mod Latest
pub mod Lines
pub mod Index
pub mod Swept
