mod AtOnce
mod Judging
mod Later
mod Readings
mod Standing
pub mod Staying
pub mod Waited
pub mod Watching
pub mod OfEngine
