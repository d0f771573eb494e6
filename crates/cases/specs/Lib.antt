pub mod Cases
pub mod Table
