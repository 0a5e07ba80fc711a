pub mod Lanes
mod Walk
