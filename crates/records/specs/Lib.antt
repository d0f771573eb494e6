pub mod At
pub mod Words
pub mod Lists
pub mod Hash
pub mod Worked
