pub mod Finds
pub mod Indexed
pub mod UsersFile
