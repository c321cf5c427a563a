-- A line that a host took, by what the dialog was handed for it.
use Rattle.std.proofs.Common.{◌≡◌, ◌<◌, ◌≤◌, List, [], ◌∷◌, ◌++◌, length, ℕ, true, false, Result, Ok, Err, OnOk, refl, sym, ap, subst, ◌∙◌, arith}
use Rattle.std.proofs.lemmas.Bool.Decides.{nat_tests}
use Rattle.std.specs.declared.convert.Infallible.{Infallible}
use Rattle.wb_lines.specs.declared.handler.Stop.{Stop}
use Rattle.wb_lines.specs.Handling.{Met, whole, too_long, Does}
use Rattle.wb_lines.specs.Taking.{met, is_short}
use Rattle.wb_dialog.specs.Kinds.{Standing}
use Rattle.wb_dialog.specs.Doing.{IsAt, DialogValue}
use Rattle.wb_dialog.specs.Kinds.{after as standing_after, block_of, response_of, step}
use Rattle.wb_c.specs.declared.room.Room.{Room}
use Rattle.wb_c.specs.Blocks.{Took, ended}
use Rattle.wb_c.specs.Calls.{LineAt, Taken}

short : (line : List ℕ) → length line ≤ 65536 → is_short (ended line) ≡ true
short line low = grind (arith, nat_tests)

long : (line : List ℕ) → 65536 < length line → is_short (ended line) ≡ false
long line high = grind (arith, nat_tests)

pub met_whole : (line : List ℕ) → length line ≤ 65536 → met (ended line) ≡ whole (ended line)
met_whole line low = rw (short line low) refl

pub met_long : (line : List ℕ) → 65536 < length line → met (ended line) ≡ too_long
met_long line high = rw (long line high) refl

-- what a dialog printed behind nothing is the block
pub took : {U : Type 0} (old new : DialogValue) (line before block printed : List ℕ) (m : Met) (u : U) → met (ended line) ≡ m → before ≡ [] → block ≡ before ++ printed
    → ((s : Standing) → IsAt old s → Does (IsAt new) printed (Ok u) (step s 0 m)) → Took old new line block
unfolding step
took old new line before block printed m u is none all did s at =
    let d = did s at in
    subst (λ (n : Met). IsAt new (standing_after s (response_of s n)) × (block ≡ block_of (response_of s n))) (sym is)
    (d.1, all ∙ ap (λ (x : List ℕ). x ++ printed) none ∙ d.0)

pub took_by : {U : Type 0} (r : Result U (Stop Infallible)) (old new : DialogValue) (line before block printed : List ℕ) (m : Met) → met (ended line) ≡ m → before ≡ [] → block ≡ before ++ printed
    → ((s : Standing) → IsAt old s → Does (IsAt new) printed r (step s 0 m)) → OnOk r (Took old new line block)
took_by (Ok u) old new line before block printed m is none all did = took old new line before block printed m u is none all did
took_by (Err e) old new line before block printed m is none all did = tt

-- ---- a line after a block that waits

pub line_taken : (waiting : List ℕ) (old new : Room) (line before after : List ℕ) (size status : ℕ) → length waiting ≤ 0
    → Taken old new line before after size status → LineAt waiting old new line before after size status
line_taken [] old new line before after size status low taken = taken
line_taken (b ∷ rest) old new line before after size status low taken = absurd (omega (arith, low))

pub line_waits : (waiting : List ℕ) (old : Room) (line before : List ℕ) (size : ℕ) → 0 < length waiting → size ≡ length waiting
    → LineAt waiting old old line before before size 2
line_waits [] old line before size high same = absurd (omega (arith, high))
line_waits (b ∷ rest) old line before size high same = (refl, refl, refl, same)
