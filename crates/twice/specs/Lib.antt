pub mod Calls
pub mod Laws
pub mod Parts
pub mod Places
pub mod Slots
