pub mod ListLemmas
pub mod DistinctLemmas
pub mod SnapshotLemmas
pub mod CoalescedLemmas
pub mod OrderLemmas
pub mod HomomorphismLemmas
pub mod SetLemmas
pub mod ToldLemmas
pub mod AnswerLemmas
pub mod EqualSideLemmas
pub mod RowOrderLemmas
pub mod ValidityLemmas
pub mod RebaseLemmas
pub mod RenumberLemmas
pub mod FrontierLemmas
pub mod FiringLemmas
pub mod NumberingLemmas
pub mod RenamingLemmas
pub mod PoolRenaming
mod DefinitionFacts
mod WorkedFacts
mod FiringFacts
mod AnswerFacts
