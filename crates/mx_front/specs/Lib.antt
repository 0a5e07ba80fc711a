pub mod Queue
pub mod World
pub mod Told
pub mod Turns
pub mod Calls
pub mod Shown
pub mod Start
pub mod Laws
