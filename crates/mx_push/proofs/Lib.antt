pub mod ClientForm
pub mod Firsts
pub mod Numbers
pub mod Paths
pub mod PlainKeys
