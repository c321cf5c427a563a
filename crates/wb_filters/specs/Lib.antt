pub mod Turning
pub mod Comments
pub mod Filtering
pub mod Laws
