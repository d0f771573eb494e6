pub mod Scale
pub mod TiesToEven
pub mod Order
