pub mod IdsBelow
pub mod Facts
pub mod Made
pub mod Neighbours
pub mod Renumbered
pub mod Falls
pub mod Refusals
pub mod Mark
