-- A guest before its first turn fits its fresh pages and its fresh disk.
pub mod OpeningFiles
pub mod OpeningMaps
pub mod Opening
