pub mod MapLaws
pub mod Kept
mod Computed
