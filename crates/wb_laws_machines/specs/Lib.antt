pub mod Machines
pub mod Honest
pub mod Agreement
pub mod Laws
pub mod Maps
pub mod Times
