pub mod IntegerRoot
pub mod Nearest
pub mod Digits
pub mod StickyRoot
pub mod RoundedRoot
pub mod HalfExponent
pub mod Operands
pub mod Monotone
