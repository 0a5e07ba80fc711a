pub mod Windows
pub mod Lasts
pub mod Laws
