pub mod Alone
pub mod Crosses
pub mod Done
pub mod Exchanges
pub mod Known
