pub mod FaceChoice
pub mod SubTriangle
pub mod Location
pub mod Laws
