pub mod Checked
pub mod Listed
pub mod Names
pub mod Numbered
pub mod States
