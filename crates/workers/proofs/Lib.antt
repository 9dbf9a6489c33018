pub mod PassageLaws
pub mod DoorLaws
pub mod TurnLaws
pub mod WorkLaws
pub mod CrewLaws
pub mod StayLaws
pub mod Crossing
