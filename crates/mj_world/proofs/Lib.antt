pub mod Numbers
pub mod Stays
pub mod Between
pub mod Refused
pub mod Carried
pub mod Waits
