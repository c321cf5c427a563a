pub mod Telling
pub mod Ordered
pub mod Sorting
