pub mod Parts
pub mod Then
pub mod Named
pub mod Ids
pub mod Judged
