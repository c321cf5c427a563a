-- Words of the functions inside `run_batch`. They stand here since contracts cite definitions of specs/ alone; no promise of the crate names them.
pub mod Arriving
pub mod Channel
pub mod Sent
pub mod Feeding
pub mod Serving
pub mod Working
pub mod Filing
