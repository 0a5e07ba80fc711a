pub mod Premises
pub mod Changes
