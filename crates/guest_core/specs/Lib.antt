pub mod Between
pub mod TurnParts
