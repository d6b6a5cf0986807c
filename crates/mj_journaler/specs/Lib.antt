pub mod Buffered
pub mod Outstanding
pub mod Ring
pub mod Journal
pub mod Keeps
pub mod Calls
pub mod Cutting
pub mod Inside
