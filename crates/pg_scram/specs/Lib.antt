pub mod Keyed
pub mod Exchange
