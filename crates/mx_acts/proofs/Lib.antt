pub mod Arms
mod ByFilter
pub mod OfKind
