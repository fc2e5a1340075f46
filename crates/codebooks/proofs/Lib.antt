pub mod Handing
pub mod ReadChains
pub mod Sinking
pub mod Turning
