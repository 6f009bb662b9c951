-- Each part of fit is kept by one change of the tables: of one page's info, one place of the index, one entry, one slot,
-- one processor's phase (`Changes`). A part has a file of its own.
pub mod Faults
pub mod Changes
pub mod PageFits
pub mod SwapLaws
pub mod Shapes
pub mod FlatTags
pub mod TagsKept
pub mod Currents
pub mod CurrentsKept
pub mod EntryLaws
pub mod PinLaws
pub mod Sums
pub mod SlotsKept
pub mod EntriesKept
pub mod PagesKept
pub mod LocksKept
pub mod RowChanges
pub mod SyncTables
pub mod PinsKept
pub mod TeardownsKept
pub mod Untagged
pub mod Unpinned
pub mod Unshown
pub mod Tables
pub mod Backing
pub mod WholePages
