pub mod LookUpLemmas
pub mod ArenaLemmas
pub mod SoundLemmas
