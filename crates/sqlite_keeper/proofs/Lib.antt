pub mod Crossing
pub mod StepLaws
pub mod LoadLaws
