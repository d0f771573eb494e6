pub mod Islands
pub mod Outcomes
pub mod Laws
