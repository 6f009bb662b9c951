-- Why a turn answered as it did, what stands after a reply, that no turn discards wrongly, and what it leaves of the plan
-- and of the counts of failures.
pub mod Ends
pub mod RowEnds
pub mod RoomEnds
pub mod TurnEnds
pub mod ShownPins
pub mod ShownEntries
pub mod ShownRead
pub mod ShownWritten
pub mod Processors
pub mod CauseForms
pub mod RoomMoves
pub mod TearMoves
pub mod TornSlots
pub mod TakenOff
pub mod SyncPhases
pub mod PagesSynced
pub mod SyncCauses
pub mod RoomCauses
pub mod TearCauses
pub mod Causes
pub mod NoPage
pub mod TurnCauses
pub mod Summary
pub mod FailuresKept
