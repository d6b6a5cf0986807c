pub mod Orders
pub mod Map
