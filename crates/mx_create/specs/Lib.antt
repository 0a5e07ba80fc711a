pub mod Presets
pub mod Bodies
pub mod Contents
pub mod Blocks
pub mod Strangers
pub mod Admitted
pub mod Storing
