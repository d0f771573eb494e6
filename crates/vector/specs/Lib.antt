pub mod Vector
pub mod Triangle
pub mod Direction
pub mod Accepted
pub mod Laws
