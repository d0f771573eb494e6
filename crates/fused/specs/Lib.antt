pub mod Fused
pub mod Operands
pub mod Tiny
pub mod FusedOrder
