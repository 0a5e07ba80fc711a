pub mod Noted
pub mod Lanes
pub mod Lines
pub mod Goes
pub mod Allowed
pub mod Hands
pub mod Openings
pub mod Unplaced
