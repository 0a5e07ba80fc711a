pub mod Indices
pub mod Lines
pub mod Valid
pub mod Utf8
