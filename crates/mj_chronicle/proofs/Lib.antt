pub mod Weights
pub mod LastEnds
