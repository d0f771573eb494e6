pub mod AfterCalls
pub mod Grids
pub mod Invariance
pub mod Lattices
pub mod Mark
pub mod Repeats
