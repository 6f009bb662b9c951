-- Every run of a turn is one of its cases (`TurnCases` has them, `Inversion` the theorem). The table of turns is walked
-- once, here; every law on turns is by these cases.
pub mod TurnCases
pub mod MapsFound
pub mod Placed
pub mod Commands
pub mod FileSizes
pub mod Passed
pub mod TornPast
pub mod WantedTags
pub mod FirstPage
pub mod Stuck
pub mod Refusals
pub mod Reached
pub mod CaseFill
pub mod CaseMissed
pub mod CaseWrite
pub mod CasePin
pub mod CaseRoom
pub mod CaseTear
pub mod CaseSync
pub mod CaseUse
pub mod CaseEntry
pub mod Inversion
