-- Words of the functions inside `run`. They stand here since contracts cite definitions of specs/ alone; no promise of the crate names them.
pub mod Parts
pub mod Steps
pub mod Reading
pub mod Arriving
pub mod Taking
pub mod Ending
