pub mod Answers
pub mod Partials
pub mod Parts
pub mod LowBits
