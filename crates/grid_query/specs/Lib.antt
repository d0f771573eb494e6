pub mod Cell
pub mod Nearest
pub mod Locate
pub mod KeptTriangle
pub mod CellOrder
pub mod Told
