pub mod Cached
pub mod Refused
pub mod Inside
pub mod PlainLists
pub mod Ranges
pub mod PlainParts
pub mod HasTree
pub mod Reads
