pub mod Cursors
pub mod Laws
pub mod Reversed
