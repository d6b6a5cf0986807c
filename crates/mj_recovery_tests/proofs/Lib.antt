pub mod Hex
pub mod Names
pub mod Parts
pub mod Gathered
pub mod Whole
pub mod Fitting
