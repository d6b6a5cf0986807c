pub mod Layered
pub mod Slots
pub mod Listed
pub mod There
pub mod Inside
