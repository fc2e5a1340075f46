pub mod Extending
pub mod Newest
