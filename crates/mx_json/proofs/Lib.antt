pub mod Order
pub mod Search
pub mod Fractions
pub mod Reading
pub mod Induction
pub mod Data
pub mod Texts
pub mod Sizes
pub mod Whole
pub mod ReadBack
pub mod PlainKeys
mod Dotted
