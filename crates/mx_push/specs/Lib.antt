pub mod Conditions
pub mod Counts
pub mod Laws
pub mod Notifies
pub mod Properties
pub mod Settings
