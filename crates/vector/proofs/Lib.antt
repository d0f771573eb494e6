pub mod Admissible
pub mod Extent
pub mod Normalized
pub mod NotNan
