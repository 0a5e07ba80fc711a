pub mod Event
pub mod Kinds
