pub mod Looks
pub mod Missing
pub mod Ranges
