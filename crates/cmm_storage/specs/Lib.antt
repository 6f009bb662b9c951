pub mod StorageCall
pub mod StorageView
pub mod Hold
pub mod Program
pub mod Runs
pub mod Views
pub mod NoisyState
pub mod Laws
