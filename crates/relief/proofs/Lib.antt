pub mod NameLaws
pub mod PlaceLaws
pub mod LineLaws
pub mod HandoverLaws
pub mod CallLaws
pub mod HeardLaws
