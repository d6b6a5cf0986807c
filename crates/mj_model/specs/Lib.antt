pub mod Took
pub mod Reply
pub mod Chronicle
pub mod Model
