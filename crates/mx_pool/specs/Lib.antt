pub mod Connections
pub mod Lines
pub mod Runs
pub mod Serving
pub mod Sets
