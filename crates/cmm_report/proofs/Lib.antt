pub mod Joined
pub mod Written
pub mod Splits
pub mod HexLaws
pub mod Digits
pub mod ReplyLaws
pub mod JournalLaws
pub mod ReportLaws
