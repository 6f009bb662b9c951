pub mod MapsView
pub mod SlotTable
pub mod EntryChains
pub mod FirstPlace
pub mod EntryCounts
pub mod Laws
