pub mod Texts
pub mod Lines
pub mod Report
pub mod JournalLines
