pub mod Gives
pub mod View
pub mod Places
pub mod Values
