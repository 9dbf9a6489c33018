pub mod Clocks
pub mod Streams
pub mod Crossing
pub mod Doors
pub mod Calls
pub mod Seen
pub mod InMemory
pub mod System
