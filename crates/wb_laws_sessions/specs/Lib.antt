pub mod Members
pub mod Sessions
pub mod Drawn
pub mod Timers
pub mod Examples
