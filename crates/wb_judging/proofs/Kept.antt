-- A kept member that did not change, or that refused; and the first of some marks.
use Rattle.std.proofs.Common.{◌≡◌, ◌∙◌, ℕ, List, ap, length, min, take}
use Rattle.std.specs.Prelude.{Option, None, Some, Err}
use Rattle.std.proofs.Math.Nat.{min_comm}
use Rattle.std.proofs.lemmas.List.{take_min}
use Rattle.wb_member.specs.Board.{Held}
use Rattle.wb_keeping.specs.Performing.{IsKeptAt, Keeping, KeptValue}
use Rattle.wb_keeping.specs.Refusing.{IsRefusedBy}
use Rattle.wb_keeping.specs.declared.kept_fault.KeptFault.{KeptFault}

pub refused_so : (X Y : Type 0) (f : Option KeptFault) (e : KeptFault) → IsRefusedBy {X = X} f (Err e) → IsRefusedBy {X = Y} f (Err e)
refused_so X Y None e is = is
refused_so X Y (Some f) e is = let same : e ≡ f = cc in ap (λ (g : KeptFault). Err g) same

pub take_first : {X : Type 0} (n : ℕ) (xs : List X) → take (min (length xs) n) xs ≡ take n xs
take_first n xs = ap (λ (m : ℕ). take m xs) (min_comm (length xs) n) ∙ take_min n xs

-- how many drawops it holds
pub held_is : (n : ℕ) (v : KeptValue) (k : Keeping) → n ≡ length v.member.board.drawops → IsKeptAt v k → n ≡ length k.host.is.held
held_is n v k is at = is ∙ ap (λ (b : Held). length b.drawops) at.member.board
