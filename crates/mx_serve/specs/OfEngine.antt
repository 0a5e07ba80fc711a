pub mod Answers
pub mod Engine
pub mod EnginePass
pub mod Mark
pub mod Outer
pub mod Places
pub mod Shown
pub mod Written
