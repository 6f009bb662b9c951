pub mod Finding
pub mod Slots
pub mod Changed
pub mod ThreePages
