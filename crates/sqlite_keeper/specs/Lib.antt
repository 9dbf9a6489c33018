pub mod Troubles
pub mod Statements
pub mod Transactions
pub mod Keeping
pub mod Leaving
