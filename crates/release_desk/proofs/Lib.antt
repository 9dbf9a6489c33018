pub mod KeeperCrossing
pub mod BellCrossing
