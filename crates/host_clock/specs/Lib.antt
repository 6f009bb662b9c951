pub mod Victim
pub mod Laws
