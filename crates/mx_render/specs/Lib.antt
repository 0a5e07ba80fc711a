pub mod Errors
pub mod Rendered
