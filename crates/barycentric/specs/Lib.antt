pub mod LeastWeight
pub mod Ericson
pub mod Laws
