-- What a shelf holds, what a sink was given, and the counts of their faults.
pub mod Faults
pub mod Fetching
pub mod Held
pub mod InMemory
pub mod Layout
pub mod Texts
pub mod Transfer
