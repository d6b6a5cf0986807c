mod Bytes
mod Scans
pub mod Entries
mod Cuts
mod Parts
pub mod Heads
pub mod Recovers
pub mod Always
pub mod WhileServing
pub mod WhileMounting
pub mod Computed
pub mod Laws
mod Found
pub mod Stepping
pub mod Uncommitted
pub mod Few
pub mod Quiet
pub mod Gathers
