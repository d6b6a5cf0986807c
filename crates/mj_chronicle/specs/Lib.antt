pub mod Weight
pub mod Ends
pub mod Room
pub mod Inside
