pub mod Values
pub mod Records
pub mod Fits
pub mod Laws
pub mod Texts
