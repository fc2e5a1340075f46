pub mod Chains
pub mod Finding
pub mod Handing
pub mod Insert
pub mod Laws
pub mod Order
pub mod Same
