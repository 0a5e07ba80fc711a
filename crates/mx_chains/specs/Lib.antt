pub mod Chains
pub mod Heard
pub mod OfEngine
pub mod Seen
