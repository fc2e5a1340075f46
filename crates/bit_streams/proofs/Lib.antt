pub mod Chained
pub mod Given
pub mod ReadChains
