pub mod Again
pub mod Aims
pub mod Asked
pub mod EventsDecided
pub mod Plans
pub mod Stored
pub mod Waiting
