pub mod Answers
pub mod Bytes
pub mod Histories
pub mod Order
pub mod Rows
pub mod Tables
