pub mod Packing
pub mod Room
pub mod Laws
