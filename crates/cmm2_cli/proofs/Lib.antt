mod AcceptedRuns
mod FromGuest
mod Sums
mod Taken
mod FromMachine
mod MachineReports
mod NoMemory
