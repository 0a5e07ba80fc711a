pub mod Asks
pub mod Forms
pub mod Laws
pub mod Pages
