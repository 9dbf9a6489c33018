pub mod Turns
pub mod Totals
mod Firsts
