pub mod Planned
pub mod Pages
pub mod DiskBlocks
pub mod Zeros
pub mod Progress
pub mod Counted
pub mod KeepsCount
