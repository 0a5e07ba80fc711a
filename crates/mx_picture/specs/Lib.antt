pub mod Rests
pub mod Forward
pub mod Values
