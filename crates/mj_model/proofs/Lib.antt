pub mod TookLemmas
pub mod ModelLemmas
