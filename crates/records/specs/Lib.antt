pub mod ByteRecords
pub mod Faults
pub mod Held
pub mod Laws
pub mod Places
pub mod Records
