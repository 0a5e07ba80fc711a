pub mod Known
pub mod KnownInside
