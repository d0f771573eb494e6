pub mod Value
pub mod Sticky
