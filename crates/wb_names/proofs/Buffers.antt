-- A new buffer, with a text at its front.
use Rattle.std.proofs.lemmas.Grind.{common_steps}
use Rattle.std.proofs.Common.{◌≡◌, ℕ, ◌≤◌, ◌-◌, List, ◌++◌, length, replicate, arith, length-append}
use Rattle.std.proofs.lemmas.List.{take_at}
use Rattle.wb_names.specs.TextFields.{IsTextFields}

pub text_in_front : (bytes zeros : List ℕ) → length bytes ≤ 64 → zeros ≡ replicate (64 - length bytes) 0 → IsTextFields (length bytes) (bytes ++ zeros)
text_in_front bytes zeros fits e = grind (arith, common_steps, length-append, take_at)
