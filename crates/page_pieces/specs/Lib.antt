pub mod Ownership
pub mod Shown
pub mod Lending
