pub mod Order
pub mod Pool
pub mod Slots
