pub mod SearchLaws
pub mod ListingLaws
pub mod FindingLaws
pub mod VerdictLaws
pub mod SilentLaws
pub mod AdviceLaws
pub mod TextLaws
