pub mod Rests
pub mod Digits
pub mod Tokens
pub mod Hashing
pub mod Readings
pub mod Cases
