pub mod Formatting
pub mod Refusals
pub mod Sending
