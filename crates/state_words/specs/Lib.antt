pub mod SeatView
pub mod Accesses
pub mod WordsRule
pub mod Steps
pub mod Plays
pub mod Slots
pub mod Closing
pub mod Laws
