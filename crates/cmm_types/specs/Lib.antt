pub mod Bytes
pub mod InRange
pub mod NoPlan
pub mod Sums
pub mod Laws
