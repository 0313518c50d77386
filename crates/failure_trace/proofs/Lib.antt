pub mod TraceTests
pub mod TraceOnce
pub mod FrontLemmas
pub mod LineLemmas
pub mod TextOnce
pub mod TextFaults
pub mod ReadBack
pub mod SnapshotSteps
pub mod TracedLemmas
pub mod ProjectionLemmas
pub mod NumberLemmas
pub mod BindingLemmas
pub mod ToldLemmas
pub mod ProjectLemmas
mod TraceRows
mod JournalRows
