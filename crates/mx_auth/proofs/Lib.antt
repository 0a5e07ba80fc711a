mod Entries
mod Maps
mod Named
mod Next
mod Numbering
mod Sorted
pub mod Crosses
