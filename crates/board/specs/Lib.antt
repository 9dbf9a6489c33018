pub mod Prepare
pub mod Below
