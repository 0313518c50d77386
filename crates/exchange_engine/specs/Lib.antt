pub mod Loading
pub mod Gathered
pub mod Ran
pub mod Solved
pub mod Failed
pub mod Grouped
pub mod Answered
pub mod Chased
