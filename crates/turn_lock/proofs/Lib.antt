pub mod ElementLaws
pub mod ViewLaws
pub mod TurnLaws
pub mod StepLaws
pub mod PassLaws
pub mod StateLaws
