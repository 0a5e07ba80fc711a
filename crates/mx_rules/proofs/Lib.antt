pub mod FiveParts
pub mod Objects
pub mod Pushing
pub mod Putting
pub mod ReadBack
pub mod Readings
pub mod WriteBack
