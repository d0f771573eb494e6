pub mod Written
pub mod Numerals
pub mod Spaces
pub mod Lines
pub mod Listing
pub mod Request
pub mod Geometry
