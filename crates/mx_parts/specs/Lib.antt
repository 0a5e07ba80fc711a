pub mod Gathers
pub mod Under
pub mod Picks
pub mod Readings
pub mod Sections
pub mod Shows
pub mod Lazy
pub mod OfVisible
