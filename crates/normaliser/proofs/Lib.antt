pub mod LabelLemmas
pub mod InsideLemmas
pub mod CutLemmas
pub mod PieceLemmas
pub mod GroupLemmas
pub mod SnapshotLemmas
pub mod LawLemmas
pub mod NormaliseLemmas
mod NormalisedFacts
