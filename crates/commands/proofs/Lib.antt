pub mod Handed
pub mod Reading
pub mod Opened
pub mod InputLaws
pub mod Says
pub mod RungLaws
