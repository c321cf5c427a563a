-- How a pass is split, and how two passes are joined.
use Rattle.std.specs.Prelude.{◌≡◌, ℕ, ◌+◌, ◌<◌, ◌≤◌, [], ◌++◌, Contains}
use mathlib.Core.List.{IsPrefix}
use Rattle.wb_history.specs.Lists.{longer}
use Rattle.wb_history.specs.Passes.{PassValue, IsSamePass}
use Rattle.wb_history.specs.declared.parts.SplitFault.{SplitFault}
use Rattle.wb_history.specs.declared.parts.SplitFault.TheVariants.{TooMany, Memory}

-- the pass p gave n of its free rows to the new pass q, which has seen the same, and became r
pub record IsSplit (p : PassValue) (n : ℕ) (r q : PassValue) : Type 0 where
  pub rest : r ≡ record p { free = r.free }
  pub rows : r.free + n ≡ p.free
  pub pass : IsSamePass p q
  pub seen : q.seen ≡ p.seen
  pub mine : q.mine ≡ []
  pub free : q.free ≡ n
  pub steps : q.steps ≡ 0

-- why a split by n rows was refused: for want of rows exactly where the pass has fewer
abbrev pub IsSplitFault : PassValue → ℕ → SplitFault → Type 0
IsSplitFault p n (TooMany have) = (have ≡ p.free) × (p.free < n)
IsSplitFault p n Memory = n ≤ p.free

-- the pass p took in q and became r: it has seen the longer list, which begins with either, and has the places and rows of both
pub record IsJoined (p q r : PassValue) : Type 0 where
  pub seen : r.seen ≡ longer p.seen q.seen
  pub first : IsPrefix p.seen r.seen
  pub second : IsPrefix q.seen r.seen
  pub mine : r.mine ≡ p.mine ++ q.mine
  pub free : r.free ≡ p.free + q.free
  pub apart : (i : ℕ) → Contains p.mine i → Contains q.mine i → ⊥
