pub mod Pieces
pub mod Known
