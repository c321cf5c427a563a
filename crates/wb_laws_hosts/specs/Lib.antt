pub mod Texts
pub mod Telling
pub mod Laws
pub mod Drivers
pub mod Closings
pub mod RunLaws
