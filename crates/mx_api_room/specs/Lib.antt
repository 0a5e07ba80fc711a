pub mod Asked
pub mod Events
pub mod Membership
pub mod Routes
