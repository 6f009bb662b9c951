pub mod Joined
pub mod Marked
pub mod FirstMarked
