pub mod Printing
pub mod Seen
pub mod Stands
pub mod Turns
pub mod Laws
pub mod Looped
