pub mod KernelState
pub mod Names
pub mod Machines
pub mod LastLooks
pub mod Opening
pub mod Closing
