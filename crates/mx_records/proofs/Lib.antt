pub mod Back
mod Items
mod Fronts
