pub mod Fired
pub mod Adding
pub mod Candidates
pub mod Merging
