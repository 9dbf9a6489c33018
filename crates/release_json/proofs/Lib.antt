pub mod CutLaws
pub mod PhaseLaws
pub mod FindingLaws
pub mod KeptLaws
pub mod ReleaseForms
pub mod ReleaseLaws
pub mod PlainLaws
