mod Apart
mod Depths
mod Readers
mod Spelled
