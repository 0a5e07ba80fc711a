pub mod Heroes
pub mod SentBy
pub mod Picking
pub mod Leaving
pub mod Still
pub mod State
pub mod OfVisible
