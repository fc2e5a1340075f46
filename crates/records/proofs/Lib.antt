pub mod Chunks
pub mod Puts
