-- What workers print is what one thread prints for the script with its arrivals reordered inside their batches.
use Rattle.std.proofs.Common.{◌≡◌, ℕ, zero, suc, ◌+◌, Bool, true, cond, List, [], ◌∷◌, ◌++◌, length, Result, Ok, Err, refl, sym, ap, ap₂, subst, ◌∙◌, append_assoc, length-append, arith, Option, Some, None, IsPermutation, nat_lt}
use Rattle.std.proofs.lemmas.List.{map-append, nil_from_length}
use Rattle.std.proofs.lemmas.List.Sorted.{IsPermutation-map, IsPermutation-append, IsPermutation-append_left, IsPermutation-cons, IsPermutation-middle, IsPermutation-sym, IsPermutation-trans, length_permutation}
use Rattle.wb_names.specs.Values.{DrawopValue}
use Rattle.wb_commands.specs.declared.fault.LineFault.{LineFault}
use Rattle.wb_commands.specs.declared.fault.LineFault.TheVariants as faults
use Rattle.wb_script.specs.declared.fault.RunFault.{RunFault}
use Rattle.wb_script.specs.declared.fault.RunFault.TheVariants as run_faults
use Rattle.wb_member.specs.Opened.{Opened}
use Rattle.wb_script.specs.Reordering.{part_at, other_than, others_of, onto_batch, batches_with, batches_of, AreRearranged, IsReorderedBy}
use Rattle.wb_lines.specs.Input.{InputLine, content}
use Rattle.wb_script.specs.Script.{RunState, run_start, closing_text, after_batch, Closing, Part, Arrival, Nothing, End, part_in, RunStep, moves_on, refused, part_step, RunOutcome, printed_before, finish, follow_step, continue, most_lines, run_outcome_from, Finishes, Proceeds, fault_at, Continues, IsOutcomeFrom}
use Rattle.wb_script.proofs.Lifted.{lifted}
use Rattle.wb_script.proofs.ReorderedLines.{onto_same, onto_none, onto_onto, Taken, lines_in, drawops_in, no_fault, arrives_at, part_here, line_course, alone, state, NoneWaits, none_waits, none_left}

abbrev pub entire : InputLine → InputLine
entire line = line

-- Lines that one thread takes with this outcome, behind other arrivals of the present batch: both as in the script, but for the places of the arrivals.
record Found (cut : Bool) (n : ℕ) (s : RunState) (ws : List (Taken cut)) (lines : List InputLine) (o : RunOutcome) : Type 0 where
  taken : List (Taken cut)
  reordered : List InputLine
  long : length taken ≡ length ws
  others : others_of cut n reordered ≡ others_of cut n lines
  batches : AreRearranged (onto_batch (lines_in ws) (batches_of entire cut n lines)) (onto_batch (lines_in taken) (batches_of entire cut n reordered))
  moved : IsPermutation (lines_in ws ++ lines) (lines_in taken ++ reordered)
  is : o ≡ run_outcome_from cut n (alone s (drawops_in taken)) reordered

abbrev Finds : Bool → ℕ → List InputLine → Type 0
Finds cut n lines = (s : RunState) (ws : List (Taken cut)) (o : RunOutcome) → s.waiting ≡ drawops_in ws → IsOutcomeFrom cut n s lines o → Found cut n s ws lines o

-- the last of a list
record Last {X : Type 0} (xs : List X) (count : ℕ) : Type 0 where
  front : List X
  last : X
  is : xs ≡ front ++ last ∷ []
  long : length front ≡ count

last_of : {X : Type 0} (xs : List X) (count : ℕ) → length xs ≡ count + 1 → Last xs count
last_of [] count e = absurd (omega arith)
last_of (x ∷ []) count e = record { front = []; last = x; is = refl; long = omega (arith, e) }
last_of (x ∷ y ∷ xs) zero e = absurd (omega arith)
last_of (x ∷ y ∷ xs) (suc count) e =
    let r = last_of (y ∷ xs) count (omega (arith, e)) in
    record { front = x ∷ r.front; last = r.last; is = ap (λ l. x ∷ l) r.is; long = omega (arith, r.long) }

line_between : (xs ys more others : List InputLine) (line : InputLine) → IsPermutation (xs ++ more) (ys ++ others) → IsPermutation (xs ++ line ∷ more) (ys ++ line ∷ others)
line_between xs ys more others line p =
    IsPermutation-trans (xs ++ line ∷ more) (line ∷ (xs ++ more)) (ys ++ line ∷ others) (IsPermutation-middle xs line more)
    (IsPermutation-trans (line ∷ (xs ++ more)) (line ∷ (ys ++ others)) (ys ++ line ∷ others) (IsPermutation-cons line (xs ++ more) (ys ++ others) p) (IsPermutation-sym (ys ++ line ∷ others) (line ∷ (ys ++ others)) (IsPermutation-middle ys line others)))

module _ (cut : Bool) (n : ℕ) where
  -- ---- the batch is taken in this order, and nothing behind it changes places
  stays : (s : RunState) (ws : List (Taken cut)) (lines : List InputLine) (o : RunOutcome) (order : List DrawopValue)
      → s.waiting ≡ drawops_in ws → IsPermutation s.waiting order → o ≡ run_outcome_from cut n (alone s order) lines → Found cut n s ws lines o
  stays s ws lines o order waits moved e =
      let l = lifted (λ (w : Taken cut). w.drawop) ws order (subst (λ (waiting : List DrawopValue). IsPermutation waiting order) waits moved) in
      record {
        taken = l.to;
        reordered = lines;
        long = length_permutation ws l.to l.moved;
        others = refl;
        batches = onto_same (lines_in ws) (lines_in l.to) (batches_of entire cut n lines) (IsPermutation-map (λ (w : Taken cut). w.line) ws l.to l.moved);
        moved = IsPermutation-append_left lines (lines_in ws) (lines_in l.to) (IsPermutation-map (λ (w : Taken cut). w.line) ws l.to l.moved);
        is = e ∙ ap (λ (order : List DrawopValue). run_outcome_from cut n (alone s order) lines) (sym l.is);
      }

  ends : (s : RunState) (ws : List (Taken cut)) (lines : List InputLine) (o : RunOutcome) (ending : Result ℕ RunFault)
      → s.waiting ≡ drawops_in ws → Finishes s ending o → ((t : RunState) → run_outcome_from cut n t lines ≡ finish t t.waiting ending) → Found cut n s ws lines o
  ends s ws lines o ending waits f h =
      stays s ws lines o f.0 waits f.1.moved (f.2 ∙ sym (h (alone s f.0)))

  module _ (line : InputLine) (lines : List InputLine) (rest : Finds cut (n + 1) lines) (taken_here : fault_at cut n line ≡ None) where
    abbrev Rest : RunState → RunOutcome → Type 0
    Rest t next = IsOutcomeFrom cut (n + 1) t lines next

    abbrev one : RunState → RunOutcome
    one t = run_outcome_from cut (n + 1) t lines

    -- ---- a line that is refused before its batch has ended
    refuses : (part : Part) (e : LineFault) (s : RunState) (ws : List (Taken cut)) (o : RunOutcome) → part_in line ≡ part → s.waiting ≡ drawops_in ws
        → ((order : List DrawopValue) → part_step (alone s order) order part ≡ refused (alone s order) [] e)
        → Proceeds (n + 1) Rest o (refused s [] e) → Found cut n s ws (line ∷ lines) o
    refuses part e s ws o is waits step p =
        let f = p.1 in
        stays s ws (line ∷ lines) o f.0 waits f.1.moved (
        p.2 ∙ ap (printed_before []) f.2
        ∙ ap (λ (step : RunStep). follow_step (n + 1) step one) (sym (step f.0))
        ∙ sym (line_course cut n (alone s f.0) line lines part taken_here is)
        )

    -- ---- a skipped line
    skips : (s : RunState) (ws : List (Taken cut)) (o : RunOutcome) → part_in line ≡ Nothing → s.waiting ≡ drawops_in ws
        → Proceeds (n + 1) Rest o (moves_on s []) → Found cut n s ws (line ∷ lines) o
    skips s ws o is waits p =
        let q = rest s ws p.0 waits p.1 in
        record {
          taken = q.taken;
          reordered = line ∷ q.reordered;
          long = q.long;
          others = ap (λ (l : List (Option InputLine)). other_than (part_at cut n line) line ∷ l) q.others;
          batches = subst (λ (part : Option Part). AreRearranged (onto_batch (lines_in ws) (batches_with part line (batches_of entire cut (n + 1) lines))) (onto_batch (lines_in q.taken) (batches_with part line (batches_of entire cut (n + 1) q.reordered))))
              (sym (part_here cut n line Nothing taken_here is)) q.batches;
          moved = line_between (lines_in ws) (lines_in q.taken) lines q.reordered line q.moved;
          is = p.2 ∙ ap (printed_before []) q.is ∙ sym (line_course cut n (alone s (drawops_in q.taken)) line q.reordered Nothing taken_here is);
        }

    -- ---- an arrival
    onto_taken : (ws : List (Taken cut)) (w : Taken cut) (batches : List (List InputLine)) → nat_lt n most_lines ≡ true
        → onto_batch (lines_in ws) (batches_with (part_at cut n w.line) w.line batches) ≡ onto_batch (lines_in (ws ++ w ∷ [])) batches
    onto_taken ws w batches few =
        ap (λ (part : Option Part). onto_batch (lines_in ws) (batches_with part w.line batches)) (part_here cut n w.line (Arrival w.drawop) (arrives_at cut n w few) w.said)
        ∙ onto_onto (lines_in ws) w.line batches ∙ ap (λ (l : List InputLine). onto_batch l batches) (sym (map-append (λ (w : Taken cut). w.line) ws (w ∷ [])))

    lines_behind : (ws : List (Taken cut)) (w : Taken cut) (more : List InputLine) → lines_in (ws ++ w ∷ []) ++ more ≡ lines_in ws ++ w.line ∷ more
    lines_behind ws w more = ap (λ (l : List InputLine). l ++ more) (map-append (λ (w : Taken cut). w.line) ws (w ∷ [])) ∙ append_assoc (lines_in ws) (w.line ∷ []) more

    arrives : (k : Option ℕ) (host : Opened) (waiting : List DrawopValue) (d : DrawopValue) (ws : List (Taken cut)) (o : RunOutcome) → part_in line ≡ Arrival d → waiting ≡ drawops_in ws
        → Proceeds (n + 1) Rest o (moves_on (state k (Some host) (waiting ++ d ∷ [])) []) → Found cut n (state k (Some host) waiting) ws (line ∷ lines) o
    arrives k host waiting d ws o is waits p =
        let free = no_fault cut n line taken_here in
        let w : Taken cut = record { line = line; drawop = d; short = free.short; whole = free.whole; said = is } in
        let here : RunState = state k (Some host) waiting in
        let next : RunState = state k (Some host) (waiting ++ d ∷ []) in
        let q = rest next (ws ++ w ∷ []) p.0 (ap (λ (l : List DrawopValue). l ++ d ∷ []) waits ∙ sym (map-append (λ (w : Taken cut). w.drawop) ws (w ∷ []))) p.1 in
        let l = last_of q.taken (length ws) (q.long ∙ length-append ws (w ∷ [])) in
        let v : Taken cut = l.last in
        let fault : fault_at cut n v.line ≡ None = arrives_at cut n v free.few in
        record {
          taken = l.front;
          reordered = v.line ∷ q.reordered;
          long = l.long;
          others = ap₂ (λ (x : Option InputLine) (xs : List (Option InputLine)). x ∷ xs)
              (ap (λ (part : Option Part). other_than part v.line) (part_here cut n v.line (Arrival v.drawop) fault v.said) ∙ sym (ap (λ (part : Option Part). other_than part line) (part_here cut n line (Arrival d) taken_here is))) q.others;
          batches = subst (λ (xs : List (List InputLine)). AreRearranged xs (onto_batch (lines_in l.front) (batches_with (part_at cut n v.line) v.line (batches_of entire cut (n + 1) q.reordered)))) (sym (onto_taken ws w (batches_of entire cut (n + 1) lines) free.few))
              (subst (AreRearranged (onto_batch (lines_in (ws ++ w ∷ [])) (batches_of entire cut (n + 1) lines))) (sym (onto_taken l.front v (batches_of entire cut (n + 1) q.reordered) free.few))
              (subst (λ (taken : List (Taken cut)). AreRearranged (onto_batch (lines_in (ws ++ w ∷ [])) (batches_of entire cut (n + 1) lines)) (onto_batch (lines_in taken) (batches_of entire cut (n + 1) q.reordered))) l.is q.batches));
          moved = subst (λ (xs : List InputLine). IsPermutation xs (lines_in l.front ++ v.line ∷ q.reordered)) (lines_behind ws w lines)
              (subst (IsPermutation (lines_in (ws ++ w ∷ []) ++ lines)) (lines_behind l.front v q.reordered)
              (subst (λ (taken : List (Taken cut)). IsPermutation (lines_in (ws ++ w ∷ []) ++ lines) (lines_in taken ++ q.reordered)) l.is q.moved));
          is = p.2 ∙ ap (printed_before []) (q.is ∙ ap (λ (taken : List DrawopValue). run_outcome_from cut (n + 1) (alone next taken) q.reordered) (ap drawops_in l.is ∙ map-append (λ (w : Taken cut). w.drawop) l.front (v ∷ [])))
              ∙ sym (line_course cut n (alone here (drawops_in l.front)) v.line q.reordered (Arrival v.drawop) fault v.said);
        }

    -- ---- a line that ends its batch, which is taken in this order
    goes_on : (c : Closing) (s t : RunState) (ws : List (Taken cut)) (order : List DrawopValue) (text : List ℕ) (o next : RunOutcome) → part_in line ≡ End c
        → s.waiting ≡ drawops_in ws → IsPermutation s.waiting order → t.waiting ≡ [] → part_step (alone s order) order (End c) ≡ moves_on (alone t []) text
        → Rest t next → o ≡ printed_before text next → Found cut n s ws (line ∷ lines) o
    goes_on c s t ws order text o next is waits moved empty step r e =
        let l = lifted (λ (w : Taken cut). w.drawop) ws order (subst (λ (waiting : List DrawopValue). IsPermutation waiting order) waits moved) in
        let q = rest t [] next empty r in
        let none : q.taken ≡ [] = nil_from_length q.taken q.long in
        let batches : AreRearranged (batches_of entire cut (n + 1) lines) (batches_of entire cut (n + 1) q.reordered) =
        onto_none (batches_of entire cut (n + 1) lines) (batches_of entire cut (n + 1) q.reordered) (subst (λ (taken : List (Taken cut)). AreRearranged (onto_batch [] (batches_of entire cut (n + 1) lines)) (onto_batch (lines_in taken) (batches_of entire cut (n + 1) q.reordered))) none q.batches) in
        record {
          taken = l.to;
          reordered = line ∷ q.reordered;
          long = length_permutation ws l.to l.moved;
          others = ap (λ (l : List (Option InputLine)). other_than (part_at cut n line) line ∷ l) q.others;
          batches = subst (λ (p : Option Part). AreRearranged (onto_batch (lines_in ws) (batches_with p line (batches_of entire cut (n + 1) lines))) (onto_batch (lines_in l.to) (batches_with p line (batches_of entire cut (n + 1) q.reordered))))
              (sym (part_here cut n line (End c) taken_here is)) (IsPermutation-append_left [] (lines_in ws) (lines_in l.to) (IsPermutation-map (λ (w : Taken cut). w.line) ws l.to l.moved), batches);
          moved = IsPermutation-append (lines_in ws) (lines_in l.to) (line ∷ lines) (line ∷ q.reordered) (IsPermutation-map (λ (w : Taken cut). w.line) ws l.to l.moved)
              (IsPermutation-cons line lines q.reordered (subst (λ (taken : List (Taken cut)). IsPermutation lines (lines_in taken ++ q.reordered)) none q.moved));
          is = e ∙ ap (printed_before text) (q.is ∙ ap (λ (taken : List (Taken cut)). run_outcome_from cut (n + 1) (alone t (drawops_in taken)) q.reordered) none)
              ∙ ap (λ (step : RunStep). follow_step (n + 1) step (λ t. run_outcome_from cut (n + 1) t q.reordered)) (sym step)
              ∙ sym (line_course cut n (alone s order) line q.reordered (End c) taken_here is)
              ∙ ap (λ (order : List DrawopValue). run_outcome_from cut n (alone s order) (line ∷ q.reordered)) (sym l.is);
        }

    comes_in : (k : Option ℕ) (host : Option Opened) (waiting : List DrawopValue) (d : DrawopValue) (ws : List (Taken cut)) (o : RunOutcome) → part_in line ≡ Arrival d → waiting ≡ drawops_in ws
        → Proceeds (n + 1) Rest o (part_step (state k host waiting) waiting (Arrival d)) → Found cut n (state k host waiting) ws (line ∷ lines) o
    comes_in k None waiting d ws o is waits p = refuses (Arrival d) faults.NoBoard (state k None waiting) ws o is waits (λ order. refl) p
    comes_in k (Some host) waiting d ws o is waits p = arrives k host waiting d ws o is waits p

    closes : (c : Closing) (s : RunState) (ws : List (Taken cut)) (order : List DrawopValue) (o : RunOutcome) (step : RunStep) → part_in line ≡ End c → s.waiting ≡ drawops_in ws → IsPermutation s.waiting order
        → part_step (alone s order) order (End c) ≡ step → NoneWaits (λ k. Unit {0}) step → Proceeds (n + 1) Rest o step → Found cut n s ws (line ∷ lines) o
    closes c s ws order o (moves_on t text) is waits moved step none p =
        goes_on c s t ws order text o p.0 is waits moved none.1 (step ∙ ap (λ (w : List DrawopValue). moves_on (state t.workers t.host w) text) none.1) p.1 p.2
    closes c s ws order o (refused t text e) is waits moved step none p =
        let last = p.1 in
        stays s ws (line ∷ lines) o order waits moved (
        p.2 ∙ ap (printed_before text) (last.2 ∙ ap (λ (l : List DrawopValue). finish t l (Err (run_faults.Line (n + 1) e))) (none_left t.waiting last.0 none last.1.moved))
        ∙ ap (λ (step : RunStep). follow_step (n + 1) step one) (sym step)
        ∙ sym (line_course cut n (alone s order) line lines (End c) taken_here is)
        )

    says : (part : Part) (s : RunState) (order : List DrawopValue) (ws : List (Taken cut)) (o : RunOutcome) → part_in line ≡ part → s.waiting ≡ drawops_in ws → IsPermutation s.waiting order
        → Proceeds (n + 1) Rest o (part_step s order part) → Found cut n s ws (line ∷ lines) o
    says Nothing s order ws o is waits moved p = skips s ws o is waits p
    says (Arrival d) s order ws o is waits moved p = comes_in s.workers s.host s.waiting d ws o is waits p
    says (End c) s order ws o is waits moved p =
        closes c s ws order o (part_step s order (End c)) is waits moved refl (none_waits (λ k. Unit {0}) s.workers (after_batch s order).host (closing_text s order) c tt (λ w. tt)) p

  faulty : (line : InputLine) (lines : List InputLine) (s : RunState) (ws : List (Taken cut)) (o : RunOutcome) (e : RunFault) → fault_at cut n line ≡ Some e → s.waiting ≡ drawops_in ws
      → Finishes s (Err e) o → Found cut n s ws (line ∷ lines) o
  faulty line lines s ws o e is waits f =
      ends s ws (line ∷ lines) o (Err e) waits f (λ t. ap (λ (f : Option RunFault). continue f (n + 1) t (content line) (λ u. run_outcome_from cut (n + 1) u lines)) is)

  continues : (line : InputLine) (lines : List InputLine) (rest : Finds cut (n + 1) lines) (fault : Option RunFault) (s : RunState) (ws : List (Taken cut)) (o : RunOutcome) → fault_at cut n line ≡ fault → s.waiting ≡ drawops_in ws
      → Continues fault (n + 1) s (content line) (λ t next. IsOutcomeFrom cut (n + 1) t lines next) o → Found cut n s ws (line ∷ lines) o
  continues line lines rest None s ws o is waits c = says line lines rest is (part_in line) s c.0 ws o refl waits c.1.moved c.2
  continues line lines rest (Some e) s ws o is waits c = faulty line lines s ws o e is waits c

found : (cut : Bool) (n : ℕ) (lines : List InputLine) → Finds cut n lines
found cut n [] s ws o waits h = ends cut n s ws [] o (cond cut (Err run_faults.Read) (Ok n)) waits h (λ t. refl)
found cut n (line ∷ lines) s ws o waits h = continues cut n line lines (found cut (n + 1) lines) (fault_at cut n line) s ws o refl waits h

-- the lines of a whole script
pub record Reorders (workers : Option ℕ) (cut : Bool) (lines : List InputLine) (o : RunOutcome) : Type 0 where
  pub to : List InputLine
  pub inside : IsReorderedBy entire cut lines to
  pub moved : IsPermutation lines to
  pub is : o ≡ run_outcome_from cut 0 (run_start workers) to

pub reorders : (workers : Option ℕ) (cut : Bool) (lines : List InputLine) (o : RunOutcome) → IsOutcomeFrom cut 0 (run_start workers) lines o → Reorders workers cut lines o
reorders workers cut lines o h =
    let f = found cut 0 lines (run_start workers) [] o refl h in
    let none : f.taken ≡ [] = nil_from_length f.taken f.long in
    record {
      to = f.reordered;
      inside = record {
        others = f.others;
        batches = onto_none (batches_of entire cut 0 lines) (batches_of entire cut 0 f.reordered) (subst (λ (taken : List (Taken cut)). AreRearranged (onto_batch [] (batches_of entire cut 0 lines)) (onto_batch (lines_in taken) (batches_of entire cut 0 f.reordered))) none f.batches);
      };
      moved = subst (λ (taken : List (Taken cut)). IsPermutation lines (lines_in taken ++ f.reordered)) none f.moved;
      is = f.is ∙ ap (λ (taken : List (Taken cut)). run_outcome_from cut 0 (alone (run_start workers) (drawops_in taken)) f.reordered) none;
    }
