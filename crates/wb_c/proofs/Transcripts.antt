-- The blocks of lines, one after another.
use Rattle.std.proofs.Common.{◌≡◌, ℕ, Bool, true, false, List, [], ◌∷◌, refl, sym, ap, ◌∙◌, map}
use Rattle.std.specs.Prelude.{◌||◌, not, if◌then◌else◌}
use Rattle.std.specs.List.{concat}
use Rattle.wb_lines.specs.Input.{InputLine}
use Rattle.wb_lines.specs.Taking.{is_short, is_taken}
use Rattle.wb_dialog.specs.Dialog.{answered_lines}
use Rattle.wb_dialog.specs.Kinds.{Standing}
use Rattle.wb_dialog.specs.Doing.{IsAt, DialogValue}
use Rattle.wb_dialog.specs.Kinds.{after, block_of, blocks_from, unopened}
use Rattle.wb_c.specs.Blocks.{ended, fresh, reply_to_line, usual}
use Rattle.wb_c.specs.Laws.{BlocksAreATranscript, TookEach}

-- a line that a line feed ends is answered, whatever becomes of the input after it
is_answered : (cut : Bool) (line : List ℕ) → is_taken cut (ended line) ≡ true
is_answered cut line = of (is_short (ended line)) where
  of : (b : Bool) → (not b || (true || not cut)) ≡ true
  of true = refl
  of false = refl

all_answered : (cut : Bool) (lines : List (List ℕ)) → answered_lines cut (map ended lines) ≡ map ended lines
all_answered cut [] = refl
all_answered cut (line ∷ lines) =
    ap (λ (b : Bool). if b then ended line ∷ answered_lines cut (map ended lines) else []) (is_answered cut line)
    ∙ ap (λ (rest : List InputLine). ended line ∷ rest) (all_answered cut lines)

at_first : IsAt fresh (unopened usual)
at_first = record { tuning = refl; kind = tt }

blocks_of_lines : (old : DialogValue) (lines blocks : List (List ℕ)) (new : DialogValue) (s : Standing) → IsAt old s → TookEach old lines blocks new → blocks ≡ blocks_from s (map ended lines)
blocks_of_lines old [] [] new s at took = refl
blocks_of_lines old [] (block ∷ blocks) new s at took = absurd took
blocks_of_lines old (line ∷ lines) [] new s at took = absurd took
blocks_of_lines old (line ∷ lines) (block ∷ blocks) new s at took =
    let did = took.1 s at in
    let r = reply_to_line s line in
    ap (λ (b : List ℕ). b ∷ blocks) did.1 ∙ ap (λ (rest : List (List ℕ)). block_of r ∷ rest) (blocks_of_lines took.0 lines blocks new (after s r) did.0 took.2)

pub are_a_transcript : BlocksAreATranscript
are_a_transcript cut input lines blocks new is took =
    ap concat (blocks_of_lines fresh lines blocks new (unopened usual) at_first took)
    ∙ sym (ap (λ (ls : List InputLine). concat (blocks_from (unopened usual) ls)) (ap (answered_lines cut) is ∙ all_answered cut lines))
