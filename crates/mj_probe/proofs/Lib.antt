pub mod Looking
pub mod Behind
pub mod Least
pub mod Units
