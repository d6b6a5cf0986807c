pub mod Refused
pub mod Sent
pub mod Stops
pub mod Laid
