pub mod TotalOrder
pub mod Integral
pub mod Convert
pub mod Minimum
pub mod Absolute
pub mod Constants
pub mod Laws
