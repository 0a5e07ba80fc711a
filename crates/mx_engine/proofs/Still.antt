pub mod Emptying
