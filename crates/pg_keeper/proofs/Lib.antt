pub mod EndingLaws
pub mod LoadLaws
