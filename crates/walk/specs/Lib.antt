pub mod Walk
pub mod Buffers
pub mod Paths
pub mod Laws
