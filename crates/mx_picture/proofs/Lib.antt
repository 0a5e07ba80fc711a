mod Keyed
mod Rests
mod Forward
mod Values
