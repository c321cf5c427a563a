-- Laws of transcripts.
use Rattle.std.proofs.Common.{◌≡◌, ◌⊎◌, ℕ, suc, ◌+◌, Bool, true, false, List, [], ◌∷◌, ◌++◌, length, inl, inr, refl, sym, ap, subst, ◌∙◌, arith, length-append}
use Rattle.std.specs.Prelude.{nat_eq, not, ◌||◌, if◌then◌else◌}
use Rattle.std.specs.List.{concat}
use Rattle.std.proofs.lemmas.Bool.Decides.{nat_tests}
use Rattle.std.proofs.lemmas.List.Elements.{All-nil, All-cons}
use Rattle.wb_lines.specs.Input.{InputLine, onto_first, input_lines, BeginsWith}
use Rattle.wb_lines.specs.Handling.{Met, whole, too_long}
use Rattle.wb_lines.specs.Taking.{met, is_taken, is_short}
use Rattle.wb_dialog.specs.declared.fault.Refusal.{Refusal}
use Rattle.wb_dialog.specs.Dialog.{answered_lines, ok_line, refused_line}
use Rattle.wb_dialog.specs.Kinds.{Standing, Response, answers, rejects, response_of, block_of, blocks_from, after, standing_from, due_of, unopened}
use Rattle.wb_dialog.specs.Laws.{RefusedStays, IsBlock, EachIsAnswered, FrontsAreFronts, is_given, accepted_lines, accepted_blocks, AcceptedAlone}
use Rattle.wb_dialog.proofs.Fronts.{begins_empty, begins_behind}

-- ---- a refused line

after_refused : (s : Standing) (line : InputLine) (e : Refusal) → response_of s (met line) ≡ rejects e → after s (response_of s (met line)) ≡ s
after_refused s line e is = ap (after s) is

pub refused_stays : RefusedStays
refused_stays s [] rest line e is = (
  after_refused s line e is,
  ap (λ (a : Response). block_of a ∷ blocks_from (after s a) rest) is,
)
refused_stays s (first ∷ front) rest line e is =
    let at = refused_stays (after s (response_of s (met first))) front rest line e is in (
      at.0,
      ap (λ (blocks : List (List ℕ)). block_of (response_of s (met first)) ∷ blocks) at.1,
    )

-- ---- blocks

is_block : (a : Response) → IsBlock (block_of a)
is_block (answers s text) = record { text = text; line = ok_line (due_of s); closing = inl (due_of s, refl); is = refl }
is_block (rejects e) = record { text = []; line = refused_line e; closing = inr (e, refl); is = refl }

pub each_is_answered : EachIsAnswered
each_is_answered s [] = (refl, All-nil IsBlock)
each_is_answered s (line ∷ lines) =
    let rest = each_is_answered (after s (response_of s (met line))) lines in (
      ap (λ (n : ℕ). suc n) rest.0,
      All-cons IsBlock (block_of (response_of s (met line))) (blocks_from (after s (response_of s (met line))) lines) (is_block (response_of s (met line))) rest.1,
    )

-- ---- the accepted lines alone

stays : (s : Standing) (a : Response) → is_given a ≡ false → after s a ≡ s
stays s (answers t text) given = absurd cc
stays s (rejects e) given = refl

-- one line, accepted or not
abbrev Alone : Standing → List InputLine → List (List ℕ) → Standing → Type 0
Alone s lines blocks end = (blocks_from s lines ≡ blocks) × (standing_from s lines ≡ end)

alone : (given : Bool) (s : Standing) (line : InputLine) (lines : List InputLine) (blocks : List (List ℕ)) (end : Standing)
    → (given ≡ false → after s (response_of s (met line)) ≡ s) → Alone (after s (response_of s (met line))) lines blocks end
    → Alone s (if given then line ∷ lines else lines) (if given then block_of (response_of s (met line)) ∷ blocks else blocks) end
alone true s line lines blocks end same rest = (ap (λ (x : List (List ℕ)). block_of (response_of s (met line)) ∷ x) rest.0, rest.1)
alone false s line lines blocks end same rest = subst (λ (t : Standing). Alone t lines blocks end) (same refl) rest

pub accepted_alone : AcceptedAlone
accepted_alone s [] = (refl, refl)
accepted_alone s (line ∷ lines) =
    let a = response_of s (met line) in
    alone (is_given a) s line (accepted_lines (after s a) lines) (accepted_blocks (after s a) lines) (standing_from (after s a) lines) (stays s a) (accepted_alone (after s a) lines)

-- ---- fronts

-- The lines of an input go on those of its front: the last of these may be a front of its line.
abbrev GoesOn : List InputLine → List InputLine → Type 0
GoesOn [] more = Unit {0}
GoesOn (l ∷ ls) [] = ⊥
GoesOn (l ∷ ls) (m ∷ ms) = ((l.ended ≡ true) × (m ≡ l) × GoesOn ls ms) ⊎ ((l.ended ≡ false) × (ls ≡ []) × BeginsWith m.bytes l.bytes)

abbrev with_first : Bool → ℕ → List InputLine → List InputLine
with_first ends b lines = if ends then record { bytes = []; ended = true } ∷ lines else onto_first b lines

with_byte : ℕ → InputLine → InputLine
with_byte b l = record { bytes = b ∷ l.bytes; ended = l.ended }

goes_on : (ends : Bool) (b : ℕ) (ls ms : List InputLine) → GoesOn ls ms → GoesOn (with_first ends b ls) (with_first ends b ms)
unfolding with_byte
goes_on true b ls ms on = inl (refl, refl, on)
goes_on false b [] [] on = inr (refl, refl, ([], refl))
goes_on false b [] (m ∷ ms) on = inr (refl, refl, (m.bytes, refl))
goes_on false b (l ∷ ls) [] on = absurd on
goes_on false b (l ∷ ls) (m ∷ ms) (inl on) = inl (on.0, ap (with_byte b) on.1, on.2)
goes_on false b (l ∷ ls) (m ∷ ms) (inr on) = inr (on.0, on.1, (on.2.0, ap (λ (x : List ℕ). b ∷ x) on.2.1))

input_goes_on : (front rest : List ℕ) → GoesOn (input_lines front) (input_lines (front ++ rest))
input_goes_on [] rest = tt
input_goes_on (b ∷ front) rest = goes_on (nat_eq b 10) b (input_lines front) (input_lines (front ++ rest)) (input_goes_on front rest)

-- a line that is taken at the front is taken in the whole, and met as the same
abbrev IsTakenToo : Bool → InputLine → InputLine → Type 0
IsTakenToo cut l m = is_taken true l ≡ true → (is_taken cut m ≡ true) × (met m ≡ met l)

or_true : (a : Bool) → (a || true) ≡ true
or_true true = refl
or_true false = refl

ended_too : (cut : Bool) (l m : InputLine) → l.ended ≡ true → m ≡ l → IsTakenToo cut l m
ended_too cut l m ended same taken = (
  ap (is_taken cut) same ∙ ap (λ (x : Bool). not (is_short l) || (x || not cut)) ended ∙ or_true (not (is_short l)),
  ap met same,
)

is_long : (short ended : Bool) → ended ≡ false → (not short || (ended || false)) ≡ true → short ≡ false
is_long false ended none taken = refl
is_long true true none taken = absurd cc
is_long true false none taken = absurd cc

long_too : (cut : Bool) (l m : InputLine) → l.ended ≡ false → BeginsWith m.bytes l.bytes → IsTakenToo cut l m
long_too cut l m unended on taken =
    let long = is_long (is_short l) l.ended unended taken in
    let long' : is_short m ≡ false = longer l m on.0 on.1 long in (
      ap (λ (x : Bool). not x || (m.ended || not cut)) long',
      ap (λ (x : Bool). if x then whole m else too_long) long' ∙ sym (ap (λ (x : Bool). if x then whole l else too_long) long),
    )
  where
    longer : (l m : InputLine) (more : List ℕ) → m.bytes ≡ l.bytes ++ more → is_short l ≡ false → is_short m ≡ false
    longer l m more is long = let len : length m.bytes ≡ length l.bytes + length more = ap length is ∙ length-append l.bytes more in grind (arith, nat_tests)

abbrev Begins : Standing → List InputLine → List InputLine → Type 0
Begins s ls ms = BeginsWith (concat (blocks_from s ms)) (concat (blocks_from s ls))

begins_line : (t u : Bool) (s : Standing) (l m : InputLine) (ls ms : List InputLine) → (t ≡ true → (u ≡ true) × (met m ≡ met l)) → ((next : Standing) → Begins next ls ms)
    → Begins s (if t then l ∷ ls else []) (if u then m ∷ ms else [])
begins_line false u s l m ls ms same rest = begins_empty (concat (blocks_from s (if u then m ∷ ms else [])))
begins_line true false s l m ls ms same rest = absurd (let e = (same refl).0 in cc)
begins_line true true s l m ls ms same rest =
    let a = response_of s (met l) in
    subst (λ (x : Met). BeginsWith (block_of (response_of s x) ++ concat (blocks_from (after s (response_of s x)) ms)) (block_of a ++ concat (blocks_from (after s a) ls))) (sym (same refl).1)
    (begins_behind (block_of a) (concat (blocks_from (after s a) ms)) (concat (blocks_from (after s a) ls)) (rest (after s a)))

begins_from : (cut : Bool) (s : Standing) (ls ms : List InputLine) → GoesOn ls ms → Begins s (answered_lines true ls) (answered_lines cut ms)
begins_from cut s [] ms on = begins_empty (concat (blocks_from s (answered_lines cut ms)))
begins_from cut s (l ∷ ls) [] on = absurd on
begins_from cut s (l ∷ ls) (m ∷ ms) (inl on) =
    begins_line (is_taken true l) (is_taken cut m) s l m (answered_lines true ls) (answered_lines cut ms) (ended_too cut l m on.0 on.1) (λ next. begins_from cut next ls ms on.2)
begins_from cut s (l ∷ ls) (m ∷ ms) (inr on) =
    begins_line (is_taken true l) (is_taken cut m) s l m (answered_lines true ls) (answered_lines cut ms) (long_too cut l m on.0 on.2)
    (λ next. subst (λ (x : List InputLine). Begins next (answered_lines true x) (answered_lines cut ms)) (sym on.1) (begins_empty (concat (blocks_from next (answered_lines cut ms)))))

pub fronts_are_fronts : FrontsAreFronts
fronts_are_fronts tuning cut front rest = begins_from cut (unopened tuning) (input_lines front) (input_lines (front ++ rest)) (input_goes_on front rest)
