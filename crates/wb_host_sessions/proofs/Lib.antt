mod Hosts
mod Members
mod Sessions
mod Records
mod Timers
mod Clocks
mod Examples
pub mod Digests
