pub mod Root
pub mod Middle
pub mod Digits
pub mod Places
pub mod Radicand
pub mod Laws
