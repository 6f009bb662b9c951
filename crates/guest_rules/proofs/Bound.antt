-- Over a storage that never misses a command ends within its number of turns: a rank falls with each turn that moves.
pub mod Ranks
pub mod RoomRanks
pub mod TearRanks
pub mod WantedKept
pub mod SyncSteps
pub mod RoomSteps
pub mod TearSteps
pub mod Steps
pub mod TurnsKept
pub mod Bound
