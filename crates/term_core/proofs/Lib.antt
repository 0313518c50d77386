pub mod OrderLemmas
pub mod PoolLemmas
