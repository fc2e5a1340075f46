pub mod GolombLaws
pub mod Parsed
