-- Lines that are reordered inside their batches, as a script: an arrival gets the end of the line whose place it takes.
use Rattle.std.proofs.Common.{◌≡◌, ℕ, ◌+◌, Bool, true, false, cond, List, [], ◌∷◌, ◌++◌, length, map, inl, inr, ◌⊎◌, refl, sym, ap, ap₂, subst, ◌∙◌, arith, length-append, Option, Some, None, nat_le, All}
use Rattle.std.specs.Str.Lines.{strip_carriage_return}
use Rattle.std.proofs.lemmas.Bool.Decides.{nat_tests}
use Rattle.std.proofs.lemmas.List.Elements.{All-nil, All-cons, All-head, All-tail}
use Rattle.std.proofs.lemmas.List.Sorted.{All-permutation, IsPermutation-map}
use Rattle.wb_names.specs.Values.{DrawopValue}
use Rattle.wb_lines.specs.Ahead.{NoLineFeed}
use Rattle.wb_lines.specs.Input.{InputLine, input_lines, content, most_bytes}
use Rattle.wb_lines.proofs.StandingLines.{all_bytes, AreLines, reads, lines_again, stripped}
use Rattle.wb_script.specs.declared.fault.RunFault.{RunFault}
use Rattle.wb_commands.specs.Parsing.{script_line_of}
use Rattle.wb_script.specs.Reordering.{part_at, other_than, others_of, batches_with, batches_of, AreRearranged, IsReorderedBy, WorkersAreOneThread}
use Rattle.wb_script.specs.Script.{RunState, run_start, RunOutcome, Arrival, Part, part_of, part_in, RunStep, moves_on, refused, step_of, printed_before, follow_step, continue, run_outcome_from, fault_at}
use Rattle.wb_script.specs.ScriptLaws.{EachEnds}
use Rattle.wb_script.proofs.ArriveWords.{unreturned, some_bytes}
use Rattle.wb_script.proofs.Reordered.{entire, reorders}
use Rattle.wb_script.proofs.ReorderedLines.{same_line, Arrives, arrived, first_same, others_same, no_fault, part_here}

-- a line in the place of another
abbrev placed : InputLine → InputLine → InputLine
placed place line = record { bytes = cond place.ended line.bytes (content line); ended = place.ended }

abbrev placed_all : List InputLine → List InputLine → List InputLine
placed_all (place ∷ places) (line ∷ lines) = placed place line ∷ placed_all places lines
placed_all places lines = []

-- ---- the same line, or two arrivals

abbrev Matches : Bool → ℕ → InputLine → InputLine → Type 0
Matches cut n place line = (line ≡ place) ⊎ (Arrives cut n place × Arrives cut n line)

matches : (cut : Bool) (n : ℕ) (place line : InputLine) → other_than (part_at cut n line) line ≡ other_than (part_at cut n place) place → Matches cut n place line
matches cut n place line e = at (other_than (part_at cut n place) place) refl where
  same_of : (part : Option Part) (l : InputLine) → other_than part place ≡ Some l → other_than part place ≡ Some place
  same_of (Some (Arrival d)) l h = absurd cc
  same_of part l h = refl

  at : (other : Option InputLine) → other_than (part_at cut n place) place ≡ other → Matches cut n place line
  at None h = inr (arrived cut n place h, arrived cut n line (e ∙ h))
  at (Some l) h = inl (same_line place line (part_at cut n line) (e ∙ same_of (part_at cut n place) l h))

-- ---- the content, and no fault

placed_same : (bytes : List ℕ) (ended : Bool) → placed (record { bytes = bytes; ended = ended }) (record { bytes = bytes; ended = ended }) ≡ record { bytes = bytes; ended = ended }
placed_same bytes true = refl
placed_same bytes false = refl

content_placed : (place line : InputLine) (d : DrawopValue) → part_in line ≡ Arrival d → content (placed place line) ≡ content line
content_placed place line d said = at place.ended line.bytes line.ended said where
  at : (here : Bool) (bytes : List ℕ) (ended : Bool) → part_in (record { bytes = bytes; ended = ended }) ≡ Arrival d
      → content (placed (record { bytes = []; ended = here }) (record { bytes = bytes; ended = ended })) ≡ content (record { bytes = bytes; ended = ended })
  at true bytes false p = unreturned bytes d p
  at here bytes ended p = refl

shorter : (bytes : List ℕ) → nat_le (length bytes) most_bytes ≡ true → nat_le (length (strip_carriage_return bytes)) most_bytes ≡ true
shorter bytes short = at (stripped bytes) where
  at : (strip_carriage_return bytes ≡ bytes) ⊎ (bytes ≡ strip_carriage_return bytes ++ 13 ∷ []) → nat_le (length (strip_carriage_return bytes)) most_bytes ≡ true
  at (inl e) = rw e short
  at (inr e) =
      let long : length bytes ≡ length (strip_carriage_return bytes) + 1 = ap (λ (l : List ℕ). length l) e ∙ length-append (strip_carriage_return bytes) (13 ∷ []) in
      grind (arith, nat_tests, short, long)

short_placed : (place line : InputLine) → nat_le (length line.bytes) most_bytes ≡ true → nat_le (length (placed place line).bytes) most_bytes ≡ true
short_placed place line short = at place.ended line.ended where
  at : (here ended : Bool) → nat_le (length (cond here line.bytes (content (record { bytes = line.bytes; ended = ended })))) most_bytes ≡ true
  at false true = shorter line.bytes short
  at here ended = short

free_placed : (cut : Bool) (n : ℕ) (place line : InputLine) → Arrives cut n place → Arrives cut n line → fault_at cut n (placed place line) ≡ None
free_placed cut n place line a b =
    let one = no_fault cut n place a.free in
    let other = no_fault cut n line b.free in
    rw (one.few, short_placed place line other.short, one.whole) refl

-- the placed line, and that which took the place
abbrev IsPlaced : Bool → ℕ → InputLine → InputLine → Type 0
IsPlaced cut n line new = (new ≡ line) ⊎ (Arrives cut n line × Arrives cut n new × (content new ≡ content line))

is_placed : (cut : Bool) (n : ℕ) (place line : InputLine) → Matches cut n place line → IsPlaced cut n line (placed place line)
is_placed cut n place line (inl e) = inl (subst (λ (l : InputLine). placed place l ≡ l) (sym e) (placed_same place.bytes place.ended))
is_placed cut n place line (inr m) =
    let same : content (placed place line) ≡ content line = content_placed place line m.1.drawop m.1.said in
    inr (m.1, record { free = free_placed cut n place line m.0 m.1; drawop = m.1.drawop; said = ap (λ (b : List ℕ). part_of (script_line_of b)) same ∙ m.1.said }, same)

abbrev ArePlaced : Bool → ℕ → List InputLine → List InputLine → Type 0
ArePlaced cut n [] [] = Unit {0}
ArePlaced cut n (line ∷ lines) (new ∷ news) = IsPlaced cut n line new × ArePlaced cut (n + 1) lines news
ArePlaced cut n lines news = ⊥

are_placed : (cut : Bool) (n : ℕ) (places lines : List InputLine) → others_of cut n lines ≡ others_of cut n places → ArePlaced cut n lines (placed_all places lines)
are_placed cut n [] [] e = tt
are_placed cut n (place ∷ places) (line ∷ lines) e = (is_placed cut n place line (matches cut n place line (first_same _ _ _ _ e)), are_placed cut (n + 1) places lines (others_same _ _ _ _ e))
are_placed cut n places lines e = absurd cc

-- ---- what stays

fault_stays : (cut : Bool) (n : ℕ) (line new : InputLine) → IsPlaced cut n line new → fault_at cut n new ≡ fault_at cut n line
fault_stays cut n line new (inl e) = ap (fault_at cut n) e
fault_stays cut n line new (inr p) = p.1.free ∙ sym p.0.free

content_stays : (cut : Bool) (n : ℕ) (line new : InputLine) → IsPlaced cut n line new → content new ≡ content line
content_stays cut n line new (inl e) = ap content e
content_stays cut n line new (inr p) = p.2

part_stays : (cut : Bool) (n : ℕ) (line new : InputLine) → IsPlaced cut n line new → part_at cut n new ≡ part_at cut n line
part_stays cut n line new (inl e) = ap (part_at cut n) e
part_stays cut n line new (inr p) =
    part_here cut n new (Arrival p.1.drawop) p.1.free p.1.said ∙ ap Some (sym p.1.said ∙ ap (λ (b : List ℕ). part_of (script_line_of b)) p.2 ∙ p.0.said) ∙ sym (part_here cut n line (Arrival p.0.drawop) p.0.free p.0.said)

proceeds_same : (number : ℕ) (step : RunStep) (one other : RunState → RunOutcome) → ((t : RunState) → one t ≡ other t) → follow_step number step one ≡ follow_step number step other
proceeds_same number (moves_on t text) one other same = ap (printed_before text) (same t)
proceeds_same number (refused t text e) one other same = refl

continue_same : (f : Option RunFault) (number : ℕ) (s : RunState) (bytes : List ℕ) (one other : RunState → RunOutcome) → ((t : RunState) → one t ≡ other t) → continue f number s bytes one ≡ continue f number s bytes other
continue_same (Some e) number s bytes one other same = refl
continue_same None number s bytes one other same = proceeds_same number (step_of s s.waiting bytes) one other same

outcome_stays : (cut : Bool) (n : ℕ) (s : RunState) (lines news : List InputLine) → ArePlaced cut n lines news → run_outcome_from cut n s lines ≡ run_outcome_from cut n s news
outcome_stays cut n s [] [] p = refl
outcome_stays cut n s (line ∷ lines) (new ∷ news) p =
    ap₂ (λ (f : Option RunFault) (b : List ℕ). continue f (n + 1) s b (λ t. run_outcome_from cut (n + 1) t lines)) (sym (fault_stays cut n line new p.0)) (sym (content_stays cut n line new p.0))
    ∙ continue_same (fault_at cut n new) (n + 1) s (content new) (λ t. run_outcome_from cut (n + 1) t lines) (λ t. run_outcome_from cut (n + 1) t news) (λ t. outcome_stays cut (n + 1) t lines news p.1)
outcome_stays cut n s lines news p = absurd p

other_stays : (cut : Bool) (n : ℕ) (line new : InputLine) → IsPlaced cut n line new → other_than (part_at cut n new) new ≡ other_than (part_at cut n line) line
other_stays cut n line new (inl e) = ap (λ (l : InputLine). other_than (part_at cut n l) l) e
other_stays cut n line new (inr p) =
    ap (λ (part : Option Part). other_than part new) (part_here cut n new (Arrival p.1.drawop) p.1.free p.1.said) ∙ sym (ap (λ (part : Option Part). other_than part line) (part_here cut n line (Arrival p.0.drawop) p.0.free p.0.said))

others_stay : (cut : Bool) (n : ℕ) (lines news : List InputLine) → ArePlaced cut n lines news → others_of cut n news ≡ others_of cut n lines
others_stay cut n [] [] p = refl
others_stay cut n (line ∷ lines) (new ∷ news) p = ap₂ (λ (x : Option InputLine) (xs : List (Option InputLine)). x ∷ xs) (other_stays cut n line new p.0) (others_stay cut (n + 1) lines news p.1)
others_stay cut n lines news p = absurd p

batches_stay : (cut : Bool) (n : ℕ) (lines news : List InputLine) → ArePlaced cut n lines news → batches_of content cut n news ≡ batches_of content cut n lines
batches_stay cut n [] [] p = refl
batches_stay cut n (line ∷ lines) (new ∷ news) p =
    ap₂ (λ (part : Option Part) (b : List ℕ). batches_with part b (batches_of content cut (n + 1) news)) (part_stays cut n line new p.0) (content_stays cut n line new p.0)
    ∙ ap (batches_with (part_at cut n line) (content line)) (batches_stay cut (n + 1) lines news p.1)
batches_stay cut n lines news p = absurd p

-- ---- the contents of the arrivals of each batch

with_contents : (part : Option Part) (line : InputLine) (batches : List (List InputLine)) → map (map content) (batches_with part line batches) ≡ batches_with part (content line) (map (map content) batches)
with_contents (Some (Arrival d)) line [] = refl
with_contents part line batches = refl

contents_of : (cut : Bool) (n : ℕ) (lines : List InputLine) → batches_of content cut n lines ≡ map (map content) (batches_of entire cut n lines)
contents_of cut n [] = refl
contents_of cut n (line ∷ lines) = ap (batches_with (part_at cut n line) (content line)) (contents_of cut (n + 1) lines) ∙ sym (with_contents (part_at cut n line) line (batches_of entire cut (n + 1) lines))

contents_move : (one other : List (List InputLine)) → AreRearranged one other → AreRearranged (map (map content) one) (map (map content) other)
contents_move [] [] p = tt
contents_move (b ∷ one) (c ∷ other) p = (IsPermutation-map content b c p.0, contents_move one other p.1)
contents_move one other p = absurd p

-- ---- the bytes

no_feed_front : (x y : List ℕ) → NoLineFeed (x ++ y) → NoLineFeed x
no_feed_front [] y none = tt
no_feed_front (b ∷ x) y none = (none.0, no_feed_front x y none.1)

no_feed_content : (bytes : List ℕ) → NoLineFeed bytes → NoLineFeed (strip_carriage_return bytes)
no_feed_content bytes none = at (stripped bytes) where
  at : (strip_carriage_return bytes ≡ bytes) ⊎ (bytes ≡ strip_carriage_return bytes ++ 13 ∷ []) → NoLineFeed (strip_carriage_return bytes)
  at (inl e) = subst NoLineFeed (sym e) none
  at (inr e) = no_feed_front (strip_carriage_return bytes) (13 ∷ []) (subst NoLineFeed e none)

no_feed_placed : (place line : InputLine) → NoLineFeed line.bytes → NoLineFeed (placed place line).bytes
no_feed_placed place line none = at place.ended line.ended where
  at : (here ended : Bool) → NoLineFeed (cond here line.bytes (content (record { bytes = line.bytes; ended = ended })))
  at false true = no_feed_content line.bytes none
  at here ended = none

-- where no line feed ends the place, some bytes stand there
some_placed : (cut : Bool) (n : ℕ) (place line : InputLine) → Matches cut n place line → place.ended ≡ false → (place.bytes ≡ [] → ⊥) → (placed place line).bytes ≡ [] → ⊥
some_placed cut n place line (inl e) last some none =
    some (sym (ap (λ (l : InputLine). l.bytes) (placed_same place.bytes place.ended)) ∙ subst (λ (l : InputLine). (placed place l).bytes ≡ []) e none)
some_placed cut n place line (inr m) last some none = some_bytes (content line) m.1.drawop m.1.said (sym (ap (λ (here : Bool). cond here line.bytes (content line)) last) ∙ none)

abbrev IsFree : InputLine → Type 0
IsFree line = NoLineFeed line.bytes

are_lines : (cut : Bool) (n : ℕ) (places lines : List InputLine) → others_of cut n lines ≡ others_of cut n places → AreLines places → All IsFree lines → AreLines (placed_all places lines)
are_lines cut n (place ∷ places) (line ∷ lines) e are free = (
  record {
    free = no_feed_placed place line (All-head IsFree line lines free);
    last = λ h. (some_placed cut n place line (matches cut n place line (first_same _ _ _ _ e)) h (are.0.last h).0, ap (λ (l : List InputLine). placed_all l lines) (are.0.last h).1);
  },
  are_lines cut (n + 1) places lines (others_same _ _ _ _ e) are.1 (All-tail IsFree line lines free),
)
are_lines cut n places lines e are free = tt

all_free : (lines : List InputLine) → AreLines lines → All IsFree lines
all_free [] are = All-nil IsFree
all_free (line ∷ lines) are = All-cons IsFree line lines are.0.free (all_free lines are.1)

ends_stay : (cut : Bool) (n : ℕ) (places lines : List InputLine) → others_of cut n lines ≡ others_of cut n places → map (λ line. line.ended) (placed_all places lines) ≡ map (λ line. line.ended) places
ends_stay cut n [] lines e = refl
ends_stay cut n (place ∷ places) [] e = absurd cc
ends_stay cut n (place ∷ places) (line ∷ lines) e = ap (λ (l : List Bool). place.ended ∷ l) (ends_stay cut (n + 1) places lines (others_same _ _ _ _ e))

-- where a line feed ends each line, whole lines change places
abbrev IsEnded : InputLine → Type 0
IsEnded line = line.ended ≡ true

all_ended : (lines : List InputLine) → EachEnds lines → All IsEnded lines
all_ended [] ends = All-nil IsEnded
all_ended (line ∷ lines) ends = All-cons IsEnded line lines ends.0 (all_ended lines ends.1)

whole_placed : (cut : Bool) (n : ℕ) (places lines : List InputLine) → others_of cut n lines ≡ others_of cut n places → EachEnds places → All IsEnded lines → placed_all places lines ≡ lines
whole_placed cut n [] [] e ends all = refl
whole_placed cut n (place ∷ places) (line ∷ lines) e ends all =
    let here : line.ended ≡ true = All-head IsEnded line lines all in
    let same : placed place line ≡ line =
    ap (λ (ended : Bool). let l : InputLine = record { bytes = cond ended line.bytes (content line); ended = ended } in l) ends.0
    ∙ ap (λ (ended : Bool). let l : InputLine = record { bytes = line.bytes; ended = ended } in l) (sym here) in
    ap₂ (λ (l : InputLine) (ls : List InputLine). l ∷ ls) same (whole_placed cut (n + 1) places lines (others_same _ _ _ _ e) ends.1 (All-tail IsEnded line lines all))
whole_placed cut n places lines e ends all = absurd cc

-- ---- the script

pub workers_are_one_thread : WorkersAreOneThread
workers_are_one_thread workers cut input o h =
    let lines : List InputLine = input_lines input in
    let are : AreLines lines = (reads input).lines-are in
    let r = reorders workers cut lines o h in
    let news : List InputLine = placed_all lines r.to in
    let p : ArePlaced cut 0 r.to news = are_placed cut 0 lines r.to r.inside.others in
    let same : input_lines (all_bytes news) ≡ news = lines_again news (are_lines cut 0 lines r.to r.inside.others are (All-permutation IsFree lines r.to r.moved (all_free lines are))) in (
      all_bytes news,
      record {
        contents = subst (IsReorderedBy content cut lines) (sym same) (record {
          others = others_stay cut 0 r.to news p ∙ r.inside.others;
          batches = subst (AreRearranged (batches_of content cut 0 lines)) (sym (batches_stay cut 0 r.to news p ∙ contents_of cut 0 r.to))
              (subst (λ (b : List (List (List ℕ))). AreRearranged b (map (map content) (batches_of entire cut 0 r.to))) (sym (contents_of cut 0 lines)) (contents_move (batches_of entire cut 0 lines) (batches_of entire cut 0 r.to) r.inside.batches));
        });
        ends = ap (λ (l : List InputLine). map (λ line. line.ended) l) same ∙ ends_stay cut 0 lines r.to r.inside.others;
        whole = λ ends. subst (IsReorderedBy entire cut lines) (sym (same ∙ whole_placed cut 0 lines r.to r.inside.others ends (All-permutation IsEnded lines r.to r.moved (all_ended lines ends)))) r.inside;
      },
      r.is ∙ outcome_stays cut 0 (run_start workers) r.to news p ∙ ap (run_outcome_from cut 0 (run_start workers)) (sym same),
    )
