pub mod Own
pub mod Parts
pub mod Reached
pub mod Rows
pub mod Kinds
pub mod Judged
