pub mod Mesh
pub mod Rows
pub mod Adjacency
pub mod Mark
pub mod Laws
