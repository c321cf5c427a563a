-- What the functions below `Dialog` answer. It stands here since contracts cite definitions of specs/ alone; no promise of the crate names it.
pub mod Told
