mod Behind
mod Seeing
pub mod Chaining
mod Hearing
