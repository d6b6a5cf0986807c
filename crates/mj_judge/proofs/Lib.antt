pub mod PartMaps
pub mod Passes
pub mod Counted
pub mod Alike
pub mod Distinct
pub mod FoundRows
pub mod FirstSome
pub mod Lesser
