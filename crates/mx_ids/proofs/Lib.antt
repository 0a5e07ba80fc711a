pub mod Form
pub mod Ids
pub mod Names
pub mod Numerals
pub mod Page
pub mod Read
pub mod Sync
pub mod Tokens
mod FirstChar
