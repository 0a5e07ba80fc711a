pub mod Grouped
pub mod Keys
pub mod Named
pub mod Puts
