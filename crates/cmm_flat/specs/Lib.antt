pub mod Mapping
pub mod State
pub mod Flat
pub mod Legal
pub mod Failures
pub mod WorkedJournals
pub mod Laws
