mod Ready
mod Commands
mod Entries
mod Missing
mod Opened
mod OtherTurns
mod Spots
mod Syncs
mod Teardown
pub mod AloneRuns
