mod Blocks
mod Rings
mod Room
pub mod Out
pub mod Cuts
pub mod Kept
pub mod Newer
pub mod Both
