pub mod Numbers
pub mod Plans
pub mod Calls
pub mod Makers
