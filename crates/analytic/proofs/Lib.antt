pub mod FaceMapping
pub mod ClampedFloor
pub mod Halves
pub mod TableIndex
pub mod Answers
