pub mod Fulls
pub mod Planning
