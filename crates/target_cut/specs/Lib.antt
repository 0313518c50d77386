pub mod Component
pub mod Cuts
pub mod Search
