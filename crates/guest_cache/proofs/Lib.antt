pub mod Swaps
pub mod FreeSlots
