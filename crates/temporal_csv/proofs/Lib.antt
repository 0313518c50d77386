pub mod RecordsLemmas
pub mod TableLemmas
pub mod WriterLemmas
pub mod StoredLemmas
pub mod StoredFacts
pub mod OutcomeLemmas
