pub mod Icosahedron
pub mod Slots
pub mod Frequency
pub mod Corners
