pub mod Mapping
pub mod Reading
pub mod Steps
pub mod Canonical
