pub mod Several
pub mod Told
