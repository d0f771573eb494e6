pub mod Order
pub mod StickyShift
pub mod Shift
pub mod LeadingZeros
