pub mod Books
pub mod Orders
pub mod Stands
pub mod Walk
mod Joined
pub mod UpTo
