pub mod Latest
pub mod Members
mod Walk
