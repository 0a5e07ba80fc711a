pub mod Redacted
pub mod Laws
pub mod Chains
pub mod Clients
