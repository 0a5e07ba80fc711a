pub mod Orders
pub mod Names
pub mod Listed
pub mod Stories
pub mod Longer
pub mod Pictured
pub mod Alike
