pub mod Faces
pub mod Slots
pub mod Range
