pub mod Naming
pub mod Image
pub mod Reading
pub mod Stops
pub mod Whole
