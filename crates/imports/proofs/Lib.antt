pub mod RecordLaws
pub mod LineLaws
