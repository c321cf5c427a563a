-- A whole script, and what a filter makes of it, line beside line.
use Rattle.std.proofs.Common.{◌≡◌, ◌≢◌, ℕ, ◌+◌, ◌<◌, ◌≤◌, Bool, true, false, List, [], ◌∷◌, ◌++◌, length, Result, Ok, inl, inr, ◌⊎◌, refl, sym, ap, subst, ◌∙◌, arith, All}
use Rattle.std.proofs.lemmas.List.Elements.{All-nil, All-cons, All-head, All-tail}
use Rattle.wb_lines.specs.Ahead.{NoLineFeed}
use Rattle.wb_lines.specs.Input.{InputLine, input_lines, standing, content, most_bytes}
use Rattle.wb_codec.specs.declared.datagram.Datagram.{Datagram}
use Rattle.wb_codec.specs.Ranges.{IsDatagram}
use Rattle.wb_filters.specs.declared.carrier.Carrier.{Carrier}
use Rattle.wb_filters.specs.declared.fault.LineFault.{LineFault}
use Rattle.wb_filters.specs.declared.filtering.Direction.{Direction}
use Rattle.wb_filters.specs.declared.filtering.Direction.TheVariants.{Hex, Words}
use Rattle.wb_filters.specs.declared.filtering.Filter.{Filter}
use Rattle.wb_filters.specs.Turning.{may_carry, digits_line, carried_words}
use Rattle.wb_lines.specs.Driving.{Outcome, writes, rules_of, outcome_from}
use Rattle.wb_lines.proofs.Outcomes.{short_line_taken}
use Rattle.wb_filters.specs.Filtering.{turned, told_on, ending, ended_by, said_of, filter_step, most_filter_lines}
use Rattle.wb_filters.specs.Laws.{IsOther, IsWithinFilterLimits, Turns, WordsComeBack, DigitsComeBack}
use Rattle.wb_filters.proofs.TurningLaws.{words_are_turned, digits_are_turned}
use Rattle.wb_words.proofs.Visible.{Visible}
use Rattle.wb_filters.proofs.Visible.{digits_visible, digits_some, words_visible, words_some}
use Rattle.wb_lines.proofs.StandingLines.{all_bytes, Stands, AreLines, reads, lines_again}
use Rattle.wb_filters.proofs.InputText.{content_ending, SameEnd, same_end}

-- ---- a line and what it becomes

-- One filter turns the line into its twin, and another the twin into the line. Both have one end.
record Twin (d d' : Direction) (line twin : InputLine) : Type 0 where
  there : turned d (content line) ≡ Ok (content twin)
  back : turned d' (content twin) ≡ Ok (content line)
  end : ending twin ≡ ending line
  ended : twin.ended ≡ line.ended
  free : NoLineFeed twin.bytes
  some : twin.ended ≡ false → twin.bytes ≢ []

abbrev Twins : Direction → Direction → List InputLine → List InputLine → Type 0
Twins d d' [] [] = Unit {0}
Twins d d' (line ∷ lines) (twin ∷ twins) = Twin d d' line twin × Twins d d' lines twins
Twins d d' lines twins = ⊥

-- what is written of a line is its twin as it stands
said_there : (d d' : Direction) (keeps : Bool) (number : ℕ) (line twin : InputLine) → Twin d d' line twin → said_of (record { direction = d; keeps_going = keeps }) number line ≡ Ok (standing twin)
said_there d d' keeps number line twin t =
    ap (λ (r : Result (List ℕ) LineFault). ended_by (ending line) (told_on keeps number r)) t.there
    ∙ ap (λ (x : List ℕ). Ok (content twin ++ x)) (sym t.end) ∙ ap (λ (x : List ℕ). Ok x) (content_ending twin)

said_back : (d d' : Direction) (keeps : Bool) (number : ℕ) (line twin : InputLine) → Twin d d' line twin → said_of (record { direction = d'; keeps_going = keeps }) number twin ≡ Ok (standing line)
said_back d d' keeps number line twin t =
    ap (λ (r : Result (List ℕ) LineFault). ended_by (ending twin) (told_on keeps number r)) t.back
    ∙ ap (λ (x : List ℕ). Ok (content line ++ x)) t.end ∙ ap (λ (x : List ℕ). Ok x) (content_ending line)

-- ---- all lines

-- the outcome after n lines, of an input that is not cut off
abbrev after : Filter → ℕ → List InputLine → Outcome LineFault
after filter n lines = outcome_from (rules_of filter_step most_filter_lines) false n filter lines

abbrev IsShort : InputLine → Type 0
IsShort line = length line.bytes ≤ most_bytes

-- after n lines: where the next one becomes a text, and the others another
next : (filter : Filter) (n : ℕ) (line : InputLine) (lines : List InputLine) (text rest : List ℕ) (m : ℕ) → n < most_filter_lines → IsShort line → said_of filter (n + 1) line ≡ Ok text → after filter (n + 1) lines ≡ writes rest (Ok m)
    → after filter n (line ∷ lines) ≡ writes (text ++ rest) (Ok m)
next filter n line lines text rest m few short said others = short_line_taken (rules_of filter_step most_filter_lines) n filter line lines few short ∙ rw (said, others) refl

there : (d d' : Direction) (keeps : Bool) (n m : ℕ) (lines twins : List InputLine) → Twins d d' lines twins → n + length lines ≡ m → m ≤ most_filter_lines → All IsShort lines
    → after (record { direction = d; keeps_going = keeps }) n lines ≡ writes (all_bytes twins) (Ok m)
there d d' keeps n m [] [] t count few short = let same : n ≡ m = omega (arith, count) in ap (λ (k : ℕ). writes [] (Ok k)) same
there d d' keeps n m (line ∷ lines) (twin ∷ twins) t count few short =
    let filter : Filter = record { direction = d; keeps_going = keeps } in
    next filter n line lines (standing twin) (all_bytes twins) m (omega (arith, count, few)) (All-head IsShort line lines short) (said_there d d' keeps (n + 1) line twin t.0)
    (there d d' keeps (n + 1) m lines twins t.1 (omega (arith, count)) few (All-tail IsShort line lines short))
there d d' keeps n m lines twins t count few short = absurd t

back : (d d' : Direction) (keeps : Bool) (n m : ℕ) (lines twins : List InputLine) → Twins d d' lines twins → n + length twins ≡ m → m ≤ most_filter_lines → All IsShort twins
    → after (record { direction = d'; keeps_going = keeps }) n twins ≡ writes (all_bytes lines) (Ok m)
back d d' keeps n m [] [] t count few short = let same : n ≡ m = omega (arith, count) in ap (λ (k : ℕ). writes [] (Ok k)) same
back d d' keeps n m (line ∷ lines) (twin ∷ twins) t count few short =
    let filter : Filter = record { direction = d'; keeps_going = keeps } in
    next filter n twin twins (standing line) (all_bytes lines) m (omega (arith, count, few)) (All-head IsShort twin twins short) (said_back d d' keeps (n + 1) line twin t.0)
    (back d d' keeps (n + 1) m lines twins t.1 (omega (arith, count)) few (All-tail IsShort twin twins short))
back d d' keeps n m lines twins t count few short = absurd t

-- twins stand as their lines do
no_twins : (d d' : Direction) (lines twins : List InputLine) → lines ≡ [] → Twins d d' lines twins → twins ≡ []
no_twins d d' [] [] e t = refl
no_twins d d' [] (twin ∷ twins) e t = absurd t
no_twins d d' (line ∷ lines) twins e t = absurd cc

twins_stand : (d d' : Direction) (lines twins : List InputLine) → AreLines lines → Twins d d' lines twins → AreLines twins
twins_stand d d' [] [] are t = tt
twins_stand d d' (line ∷ lines) (twin ∷ twins) are t =
    (record { free = t.0.free; last = λ h. (t.0.some h, no_twins d d' lines twins (are.0.last (sym t.0.ended ∙ h)).1 t.1) }, twins_stand d d' lines twins are.1 t.1)
twins_stand d d' lines twins are t = absurd t

-- ---- scripts

-- all lines of a script have twins, each of some form
record HasTwins (d d' : Direction) (Form : List ℕ → Type 0) (lines : List InputLine) : Type 0 where
  twins : List InputLine
  pairs : Twins d d' lines twins
  forms : All (λ (line : InputLine). Form (content line)) twins

record HasTwin (d d' : Direction) (Form : List ℕ → Type 0) (line : InputLine) : Type 0 where
  twin : InputLine
  pair : Twin d d' line twin
  form : Form (content twin)

module _ (d d' : Direction) (Form Form' : List ℕ → Type 0) (one : (line : InputLine) (others : List InputLine) → Stands line others → Form (content line) → HasTwin d d' Form' line) where
  has_twins : (lines : List InputLine) → AreLines lines → All (λ (line : InputLine). Form (content line)) lines → HasTwins d d' Form' lines
  has_twins [] are h = record { twins = []; pairs = tt; forms = All-nil (λ (line : InputLine). Form' (content line)) }
  has_twins (line ∷ lines) are h =
      let first = one line lines are.0 (All-head (λ (l : InputLine). Form (content l)) line lines h) in
      let rest = has_twins lines are.1 (All-tail (λ (l : InputLine). Form (content l)) line lines h) in
      record {
        twins = first.twin ∷ rest.twins;
        pairs = (first.pair, rest.pairs);
        forms = All-cons (λ (l : InputLine). Form' (content l)) first.twin rest.twins first.form rest.forms;
      }

  comes_back : (keeps keeps' : Bool) (script : List ℕ) → All (λ (line : InputLine). Form (content line)) (input_lines script) → IsWithinFilterLimits script
      → (text : List ℕ) × Turns d keeps script text × All (λ (line : InputLine). Form' (content line)) (input_lines text) × (IsWithinFilterLimits text → Turns d' keeps' text script)
  comes_back keeps keeps' script are limits =
      let lines = input_lines script in
      let r = reads script in
      let found = has_twins lines r.lines-are are in
      let text = all_bytes found.twins in
      let split : input_lines text ≡ found.twins = lines_again found.twins (twins_stand d d' lines found.twins r.lines-are found.pairs) in (
        text,
        there d d' keeps 0 (length lines) lines found.twins found.pairs (omega arith) limits.0 limits.1,
        subst (All (λ (line : InputLine). Form' (content line))) (sym split) found.forms,
        λ within.
            let few : length found.twins ≤ most_filter_lines = subst (λ (l : List InputLine). length l ≤ most_filter_lines) split within.0 in
            let short : All IsShort found.twins = subst (All IsShort) split within.1 in
            subst (λ (l : List InputLine). after (record { direction = d'; keeps_going = keeps' }) 0 l ≡ writes script (Ok (length l))) (sym split)
            (back d d' keeps' 0 (length found.twins) lines found.twins found.pairs (omega arith) few short ∙ ap (λ (t : List ℕ). writes t (Ok (length found.twins))) r.bytes-are),
      )

-- a line that neither filter turns is its own twin
stays : (d d' : Direction) (line : InputLine) (others : List InputLine) → Stands line others → turned d (content line) ≡ Ok (content line) → turned d' (content line) ≡ Ok (content line) → Twin d d' line line
stays d d' line others s p q = record { there = p; back = q; end = refl; ended = refl; free = s.free; some = λ h. (s.last h).0 }

turns_to : (d d' : Direction) (line : InputLine) (text : List ℕ) (same : SameEnd line text) → turned d (content line) ≡ Ok text → turned d' text ≡ Ok (content line) → Twin d d' line same.other
turns_to d d' line text same p q = record {
  there = p ∙ ap (λ (t : List ℕ). Ok t) (sym same.content-is);
  back = ap (turned d') same.content-is ∙ q;
  end = same.end;
  ended = same.ended;
  free = same.free;
  some = λ h. same.some;
}

-- a datagram in words or in digits, or no line of a datagram
abbrev IsIn : (Carrier → Datagram → List ℕ) → List ℕ → Type 0
IsIn form line = ((carrier : Carrier) × (v : Datagram) × IsDatagram v × (may_carry carrier v ≡ true) × (line ≡ form carrier v)) ⊎ IsOther line

-- From the one form each line turns to the other, and back.
turns_back : (d d' : Direction) (from to : Carrier → Datagram → List ℕ) → ((line : List ℕ) → IsOther line → (turned d line ≡ Ok line) × (turned d' line ≡ Ok line))
    → ((carrier : Carrier) (v : Datagram) → IsDatagram v → Visible (to carrier v)) → ((carrier : Carrier) (v : Datagram) → to carrier v ≢ [])
    → ((carrier : Carrier) (v : Datagram) → IsDatagram v → may_carry carrier v ≡ true → turned d (from carrier v) ≡ Ok (to carrier v))
    → ((carrier : Carrier) (v : Datagram) → IsDatagram v → may_carry carrier v ≡ true → turned d' (to carrier v) ≡ Ok (from carrier v))
    → (line : InputLine) (others : List InputLine) → Stands line others → IsIn from (content line) → HasTwin d d' (IsIn to) line
turns_back d d' from to keeps visible some turn back line others s (inr other) =
    let kept = keeps (content line) other in
    record { twin = line; pair = stays d d' line others s kept.0 kept.1; form = inr other }
turns_back d d' from to keeps visible some turn back line others s (inl (carrier, v, lawful, taken, is)) =
    let same = same_end line (to carrier v) (visible carrier v lawful) (some carrier v) in
    record {
      twin = same.other;
      pair = turns_to d d' line (to carrier v) same (ap (turned d) is ∙ turn carrier v lawful taken) (back carrier v lawful taken ∙ ap (λ (t : List ℕ). Ok t) (sym is));
      form = inl (carrier, v, lawful, taken, same.content-is);
    }

pub words_come_back : WordsComeBack
words_come_back = comes_back Hex Words (IsIn carried_words) (IsIn digits_line) (turns_back Hex Words carried_words digits_line (λ line other. other) digits_visible digits_some words_are_turned digits_are_turned)

pub digits_come_back : DigitsComeBack
digits_come_back = comes_back Words Hex (IsIn digits_line) (IsIn carried_words) (turns_back Words Hex digits_line carried_words (λ line other. (other.1, other.0)) words_visible words_some digits_are_turned words_are_turned)
