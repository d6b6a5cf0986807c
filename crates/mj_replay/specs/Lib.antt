pub mod Fronts
pub mod Pieces
pub mod Replays
pub mod Replayed
pub mod Lumps
