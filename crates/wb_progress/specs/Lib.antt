pub mod Bounds
pub mod Keepers
pub mod Repairs
pub mod Standing
pub mod Calls
pub mod Traces
pub mod Turns
pub mod InTime
