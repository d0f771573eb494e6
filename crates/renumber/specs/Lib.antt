pub mod Lent
pub mod Renumber
pub mod Laws
