pub mod Writes
pub mod Altered
pub mod CellCounts
pub mod Effects
pub mod Course
pub mod IndexIs
pub mod Slow
pub mod Placing
mod GentlePlaces
pub mod Gentle
pub mod Turning
pub mod GroupFits
