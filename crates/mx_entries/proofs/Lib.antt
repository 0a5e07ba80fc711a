mod Changes
pub mod Crosses
mod Walk
