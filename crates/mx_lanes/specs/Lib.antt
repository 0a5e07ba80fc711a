pub mod Book
pub mod Held
pub mod Laws
pub mod Order
pub mod Parts
pub mod Space
pub mod Segments
