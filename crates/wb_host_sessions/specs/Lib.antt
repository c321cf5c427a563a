pub mod Hosts
pub mod Members
pub mod Sessions
pub mod Records
pub mod Timers
pub mod Clocks
pub mod Examples
pub mod Digests
