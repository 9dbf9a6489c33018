pub mod Connections
pub mod Writing
pub mod Crossed
pub mod Doors
pub mod Rounds
