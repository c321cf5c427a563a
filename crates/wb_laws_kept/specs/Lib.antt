pub mod Openings
pub mod Calls
pub mod Kept
pub mod Sessions
pub mod Restarts
pub mod Listening
pub mod Examples
