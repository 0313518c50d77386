pub mod Store
pub mod Changes
pub mod Splits
pub mod Lists
pub mod Facts
pub mod Layout
