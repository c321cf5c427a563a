pub mod Ascents
pub mod Buffers
pub mod Faults
pub mod Listings
pub mod MarkLists
pub mod Orders
pub mod Arrivals
