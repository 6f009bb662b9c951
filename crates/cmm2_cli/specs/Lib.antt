pub mod Reports
pub mod Status
pub mod Refusal
pub mod Playing
pub mod Demo
pub mod Outcome
pub mod Running
pub mod Calls
