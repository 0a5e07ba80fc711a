pub mod Firsts
pub mod Named
pub mod Same
pub mod Turned
pub mod Upper
pub mod Whole
