pub mod Globs
pub mod Walks
