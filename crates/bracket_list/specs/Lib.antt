pub mod Text
pub mod LatticeList
pub mod Output
pub mod Program
