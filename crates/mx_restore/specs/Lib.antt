pub mod Batches
pub mod Faults
pub mod Heads
pub mod Made
pub mod Restored
pub mod Said
pub mod Wrongs
