pub mod CandidateLaws
pub mod GoodLaws
