pub mod OrderLemmas
pub mod SnapshotLemmas
