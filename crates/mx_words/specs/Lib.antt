pub mod Matches
pub mod Program
pub mod Words
