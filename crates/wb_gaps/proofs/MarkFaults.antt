-- A mark with a number is refused for nothing.
use Rattle.std.proofs.Common.{◌≡◌, ℕ, ◌≤◌, Bool, true, ap, ◌∙◌, sym, arith, Ok}
use Rattle.std.specs.Prelude.{nat_le}
use Rattle.std.proofs.lemmas.Bool.Decides.{nat_tests}
use Rattle.wb_names.specs.Values.{MarkValue}
use Rattle.wb_names.specs.Drawing.{seq_fault}
use Rattle.wb_names.specs.Faults.{fault_unless, value_unless}
use Rattle.wb_names.specs.declared.fault.FieldFault.TheVariants.{SeqZero}

-- a number of at least 1 is right
pub no_seq_fault : (high : ℕ) (m : MarkValue) → 1 ≤ high → value_unless (seq_fault high) m ≡ Ok m
no_seq_fault high m pos = let t : nat_le 1 high ≡ true = grind (arith, nat_tests) in ap (λ (b : Bool). value_unless (fault_unless b SeqZero) m) t

-- and what is made of it is the mark
pub mark_made : (high : ℕ) (m made : MarkValue) → 1 ≤ high → value_unless (seq_fault high) m ≡ Ok made → made ≡ m
mark_made high m made pos is = let same = sym (no_seq_fault high m pos) ∙ is in cc
