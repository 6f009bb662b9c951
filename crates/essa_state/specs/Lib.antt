pub mod StateWord
pub mod Layout
pub mod Orders
pub mod Moves
pub mod PageValue
pub mod PageBody
pub mod Laws
