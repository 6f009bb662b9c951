pub mod CacheView
pub mod SwapTable
pub mod Laws
