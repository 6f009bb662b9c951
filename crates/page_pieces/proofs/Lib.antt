pub mod Arcs
pub mod Claims
pub mod Crosses
pub mod Loans
pub mod Lodges
pub mod Shows
