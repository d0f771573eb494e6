pub mod Scalars
pub mod LeastWeight
