pub mod Minima
pub mod Flown
pub mod Floor
pub mod Lowest
pub mod Raised
pub mod FewHours
pub mod Alternate
pub mod Within
