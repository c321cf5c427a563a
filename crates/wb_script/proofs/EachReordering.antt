-- What one thread prints for a reordered script is an outcome by two workers or more.
use Rattle.std.proofs.Common.{◌≡◌, ℕ, ◌+◌, ◌≤◌, Bool, cond, List, [], ◌∷◌, ◌++◌, map, Result, Ok, Err, refl, sym, ap, ap₂, subst, ◌∙◌, append-nil, arith, Option, Some, None, IsPermutation}
use Rattle.std.proofs.lemmas.List.{map-append}
use Rattle.std.proofs.lemmas.List.Sorted.{IsPermutation-refl, IsPermutation-map}
use Rattle.wb_names.specs.Values.{DrawopValue}
use Rattle.wb_commands.specs.declared.fault.LineFault.{LineFault}
use Rattle.wb_commands.specs.declared.fault.LineFault.TheVariants as faults
use Rattle.wb_script.specs.declared.fault.RunFault.{RunFault}
use Rattle.wb_script.specs.declared.fault.RunFault.TheVariants as run_faults
use Rattle.wb_member.specs.Opened.{Opened}
use Rattle.wb_commands.specs.Parsing.{script_line_of}
use Rattle.wb_script.specs.Reordering.{part_unless, part_at, other_than, others_of, onto_batch, batches_with, batches_of, AreRearranged, EachReorderingIsOutcome}
use Rattle.wb_lines.specs.Input.{InputLine, input_lines, content}
use Rattle.wb_script.specs.Script.{RunState, MayBeTaken, closing_text, after_batch, Closing, Part, Arrival, Nothing, End, part_of, part_in, RunStep, moves_on, refused, part_step, RunOutcome, printed_before, finish, follow_step, continue, run_outcome_from, Finishes, Proceeds, fault_at, Continues, IsOutcomeFrom}
use Rattle.wb_script.proofs.Lifted.{lifted}
use Rattle.wb_script.proofs.Outcomes.{finishes as finishes_now}
use Rattle.wb_script.proofs.ReorderedLines.{onto_onto, Taken, drawops_in, no_fault, part_here, same_line, Arrives, arrived, first_same, others_same, line_course, alone, state, NoneWaits, none_waits}

-- ---- arrivals, by their contents

abbrev contents_in : {cut : Bool} → List (Taken cut) → List (List ℕ)
contents_in ws = map (λ w. content w.line) ws

arrival_same : (c d : DrawopValue) (part : Part) → part ≡ Arrival c → part ≡ Arrival d → c ≡ d
arrival_same c d part p q = cc

drawops_same : {cut : Bool} (xs ys : List (Taken cut)) → contents_in xs ≡ contents_in ys → drawops_in xs ≡ drawops_in ys
drawops_same [] [] e = refl
drawops_same [] (y ∷ ys) e = absurd cc
drawops_same (x ∷ xs) [] e = absurd cc
drawops_same (x ∷ xs) (y ∷ ys) e =
    let heads : content x.line ≡ content y.line = cc in
    let tails : contents_in xs ≡ contents_in ys = cc in
    ap₂ (λ (d : DrawopValue) (ds : List DrawopValue). d ∷ ds) (arrival_same x.drawop y.drawop (part_in x.line) x.said (ap (λ (bytes : List ℕ). part_of (script_line_of bytes)) heads ∙ y.said)) (drawops_same xs ys tails)

drawops_moved : {cut : Bool} (xs ys : List (Taken cut)) → IsPermutation (contents_in xs) (contents_in ys) → IsPermutation (drawops_in xs) (drawops_in ys)
drawops_moved xs ys p =
    let l = lifted (λ w. content w.line) xs (contents_in ys) p in
    subst (IsPermutation (drawops_in xs)) (drawops_same l.to ys l.is) (IsPermutation-map (λ w. w.drawop) xs l.to l.moved)

-- No arrival waits where no board is open.
abbrev Waits : {cut : Bool} → Option Opened → List (Taken cut) → List (Taken cut) → Type 0
Waits None ws vs = (ws ≡ []) × (vs ≡ [])
Waits (Some host) ws vs = Unit {0}

-- From one state on, the one has these arrivals behind it in the present batch, and the other those.
record Beside (cut : Bool) (n : ℕ) (host : Option Opened) (waiting : List DrawopValue) (ws vs : List (Taken cut)) (lines reordered : List InputLine) : Type 0 where
  waits : waiting ≡ drawops_in ws
  none : Waits host ws vs
  others : others_of cut n reordered ≡ others_of cut n lines
  batches : AreRearranged (onto_batch (contents_in ws) (batches_of content cut n lines)) (onto_batch (contents_in vs) (batches_of content cut n reordered))

module _ (k : ℕ) (many : 2 ≤ k) (cut : Bool) where
  may : (batch order : List DrawopValue) → IsPermutation batch order → MayBeTaken (Some k) batch order
  may batch order moved = record { moved = moved; alone = λ few. absurd (omega (arith, few, many)) }

  abbrev here : Option Opened → List DrawopValue → RunState
  here host waiting = state (Some k) host waiting

  abbrev ComesOut : ℕ → List InputLine → Type 0
  ComesOut n lines = (host : Option Opened) (waiting : List DrawopValue) (ws vs : List (Taken cut)) (reordered : List InputLine) → Beside cut n host waiting ws vs lines reordered
      → IsOutcomeFrom cut n (here host waiting) lines (run_outcome_from cut n (alone (here host waiting) (drawops_in vs)) reordered)

  finishes : (host : Option Opened) (waiting order : List DrawopValue) (ending : Result ℕ RunFault) (o : RunOutcome) → IsPermutation waiting order
      → o ≡ finish (alone (here host waiting) order) order ending → Finishes (here host waiting) ending o
  finishes host waiting order ending o moved e = (order, may waiting order moved, e)

  -- the arrivals of a batch that ends here
  ended : (waiting : List DrawopValue) (ws vs : List (Taken cut)) (one other : List (List (List ℕ))) → waiting ≡ drawops_in ws → AreRearranged (onto_batch (contents_in ws) ([] ∷ one)) (onto_batch (contents_in vs) ([] ∷ other)) → IsPermutation waiting (drawops_in vs)
  ended waiting ws vs one other waits b =
      subst (λ (l : List DrawopValue). IsPermutation l (drawops_in vs)) (sym waits)
      (drawops_moved ws vs (subst (λ (l : List (List ℕ)). IsPermutation l (contents_in vs)) (append-nil (contents_in ws)) (subst (IsPermutation (contents_in ws ++ [])) (append-nil (contents_in vs)) b.0)))

  nobody : (host : Option Opened) → Waits {cut = cut} host [] []
  nobody None = (refl, refl)
  nobody (Some host) = tt

  none_onto : (one other : List (List (List ℕ))) → AreRearranged one other → AreRearranged (onto_batch [] one) (onto_batch [] other)
  none_onto [] [] p = p
  none_onto [] (c ∷ other) p = p
  none_onto (b ∷ one) [] p = p
  none_onto (b ∷ one) (c ∷ other) p = p

  module _ (n : ℕ) (line : InputLine) (lines : List InputLine) (rest : ComesOut (n + 1) lines) where
    abbrev Rest : RunState → RunOutcome → Type 0
    Rest t next = IsOutcomeFrom cut (n + 1) t lines next

    -- ---- a line that is refused before its batch has ended
    refuses : (line' : InputLine) (part : Part) (e : LineFault) (host : Option Opened) (waiting order : List DrawopValue) (more : List InputLine) → fault_at cut n line' ≡ None → part_in line' ≡ part → IsPermutation waiting order
        → part_step (alone (here host waiting) order) order part ≡ refused (alone (here host waiting) order) [] e
        → Proceeds (n + 1) Rest (run_outcome_from cut n (alone (here host waiting) order) (line' ∷ more)) (refused (here host waiting) [] e)
    refuses line' part e host waiting order more free is moved step =
        let u : RunState = alone (here host waiting) order in
        let end : Result ℕ RunFault = Err (run_faults.Line (n + 1) e) in (
          finish u order end,
          finishes host waiting order end (finish u order end) moved refl,
          line_course cut n u line' more part free is ∙ ap (λ (step : RunStep). follow_step (n + 1) step (λ t. run_outcome_from cut (n + 1) t more)) step,
        )

    -- ---- a line that ends its batch, which is taken in this order
    closes : (c : Closing) (host : Option Opened) (waiting order : List DrawopValue) (more : List InputLine) → fault_at cut n line ≡ None → part_in line ≡ End c → IsPermutation waiting order
        → others_of cut (n + 1) more ≡ others_of cut (n + 1) lines → AreRearranged (batches_of content cut (n + 1) lines) (batches_of content cut (n + 1) more)
        → Proceeds (n + 1) Rest (run_outcome_from cut n (alone (here host waiting) order) (line ∷ more)) (part_step (here host waiting) order (End c))
    closes c host waiting order more free is moved others batches =
        let step : RunStep = part_step (here host waiting) order (End c) in
        subst (λ (o : RunOutcome). Proceeds (n + 1) Rest o step) (sym (line_course cut n (alone (here host waiting) order) line more (End c) free is))
        (goes_on step (none_waits (λ w. w ≡ Some k) (Some k) (after_batch (here host waiting) order).host (closing_text (here host waiting) order) c refl (λ w. refl))) where
          at_state : (t : RunState) → t.workers ≡ Some k → t.waiting ≡ [] → Rest (here t.host []) (run_outcome_from cut (n + 1) (here t.host []) more) → Rest t (run_outcome_from cut (n + 1) t more)
          at_state t has none r =
              subst (λ (w : Option ℕ). Rest (state w t.host t.waiting) (run_outcome_from cut (n + 1) (state w t.host t.waiting) more)) (sym has)
              (subst (λ (l : List DrawopValue). Rest (here t.host l) (run_outcome_from cut (n + 1) (here t.host l) more)) (sym none) r)

          goes_on : (step : RunStep) → NoneWaits (λ w. w ≡ Some k) step → Proceeds (n + 1) Rest (follow_step (n + 1) step (λ t. run_outcome_from cut (n + 1) t more)) step
          goes_on (moves_on t text) none = (
            run_outcome_from cut (n + 1) t more,
            at_state t none.0 none.1 (rest t.host [] [] [] more (record { waits = refl; none = nobody t.host; others = others; batches = none_onto (batches_of content cut (n + 1) lines) (batches_of content cut (n + 1) more) batches })),
            refl,
          )
          goes_on (refused t text e) none = let end : Result ℕ RunFault = Err (run_faults.Line (n + 1) e) in (finish t t.waiting end, finishes_now t end, refl)

    -- ---- the line that stands there in the other script
    abbrev Here : Option RunFault → Option Opened → List DrawopValue → RunOutcome → Type 0
    Here fault host waiting o = Continues fault (n + 1) (here host waiting) (content line) Rest o

    taken_in : (part : Part) (host : Option Opened) (waiting order : List DrawopValue) (o : RunOutcome) → part_in line ≡ part → IsPermutation waiting order → Proceeds (n + 1) Rest o (part_step (here host waiting) order part) → Here None host waiting o
    taken_in part host waiting order o is moved p = (order, may waiting order moved, subst (λ (part : Part). Proceeds (n + 1) Rest o (part_step (here host waiting) order part)) (sym is) p)

    onto_taken : (line : InputLine) (ws : List (Taken cut)) (w : Taken cut) (batches : List (List (List ℕ))) → w.line ≡ line → part_at cut n line ≡ Some (Arrival w.drawop)
        → onto_batch (contents_in ws) (batches_with (part_at cut n line) (content line) batches) ≡ onto_batch (contents_in (ws ++ w ∷ [])) batches
    onto_taken line ws w batches same part =
        ap₂ (λ (part : Option Part) (l : InputLine). onto_batch (contents_in ws) (batches_with part (content l) batches)) part (sym same)
        ∙ onto_onto (contents_in ws) (content w.line) batches ∙ ap (λ (l : List (List ℕ)). onto_batch l batches) (sym (map-append (λ (w : Taken cut). content w.line) ws (w ∷ [])))

    abbrev as_taken : (line : InputLine) → (a : Arrives cut n line) → Taken cut
    as_taken line a = let free = no_fault cut n line a.free in record { line = line; drawop = a.drawop; short = free.short; whole = free.whole; said = a.said }

    arrives_in : (host : Opened) (waiting : List DrawopValue) (ws vs : List (Taken cut)) (line' : InputLine) (more : List InputLine) → Beside cut n (Some host) waiting ws vs (line ∷ lines) (line' ∷ more)
        → others_of cut (n + 1) more ≡ others_of cut (n + 1) lines → Arrives cut n line → Arrives cut n line'
        → Here None (Some host) waiting (run_outcome_from cut n (alone (here (Some host) waiting) (drawops_in vs)) (line' ∷ more))
    arrives_in host waiting ws vs line' more b others a a' =
        let w : Taken cut = as_taken line a in
        let v : Taken cut = as_taken line' a' in
        let part : part_at cut n line ≡ Some (Arrival a.drawop) = part_here cut n line (Arrival a.drawop) a.free a.said in
        let part' : part_at cut n line' ≡ Some (Arrival a'.drawop) = part_here cut n line' (Arrival a'.drawop) a'.free a'.said in
        let u : RunState = alone (here (Some host) waiting) (drawops_in vs) in
        let one = batches_of content cut (n + 1) lines in
        let other = batches_of content cut (n + 1) more in
        let next : RunOutcome = run_outcome_from cut (n + 1) (alone (here (Some host) (waiting ++ a.drawop ∷ [])) (drawops_in (vs ++ v ∷ []))) more in
        taken_in (Arrival a.drawop) (Some host) waiting waiting (run_outcome_from cut n u (line' ∷ more)) a.said (IsPermutation-refl waiting) (
          next,
          rest (Some host) (waiting ++ a.drawop ∷ []) (ws ++ w ∷ []) (vs ++ v ∷ []) more (record {
            waits = ap (λ (l : List DrawopValue). l ++ a.drawop ∷ []) b.waits ∙ sym (map-append (λ (w : Taken cut). w.drawop) ws (w ∷ []));
            none = tt;
            others = others;
            batches = subst (λ (xs : List (List (List ℕ))). AreRearranged xs (onto_batch (contents_in (vs ++ v ∷ [])) other)) (onto_taken line ws w one refl part)
                (subst (AreRearranged (onto_batch (contents_in ws) (batches_with (part_at cut n line) (content line) one))) (onto_taken line' vs v other refl part') b.batches);
          }),
          line_course cut n u line' more (Arrival a'.drawop) a'.free a'.said
              ∙ ap (λ (taken : List DrawopValue). printed_before [] (run_outcome_from cut (n + 1) (alone (here (Some host) waiting) taken) more)) (sym (map-append (λ (w : Taken cut). w.drawop) vs (v ∷ []))),
        )

    -- where no board is open, none waits
    stays_out : (waiting : List DrawopValue) (ws vs : List (Taken cut)) (line' : InputLine) (more : List InputLine) → Beside cut n None waiting ws vs (line ∷ lines) (line' ∷ more) → Arrives cut n line → Arrives cut n line'
        → Here None None waiting (run_outcome_from cut n (alone (here None waiting) (drawops_in vs)) (line' ∷ more))
    stays_out waiting ws vs line' more b a a' =
        let moved : IsPermutation waiting (drawops_in vs) =
        subst (λ (l : List DrawopValue). IsPermutation l (drawops_in vs)) (sym b.waits) (subst (λ (l : List (Taken cut)). IsPermutation (drawops_in l) (drawops_in vs)) (sym b.none.0) (subst (λ (l : List (Taken cut)). IsPermutation [] (drawops_in l)) (sym b.none.1) (IsPermutation-refl []))) in
        taken_in (Arrival a.drawop) None waiting (drawops_in vs) (run_outcome_from cut n (alone (here None waiting) (drawops_in vs)) (line' ∷ more)) a.said moved
        (refuses line' (Arrival a'.drawop) faults.NoBoard None waiting (drawops_in vs) more a'.free a'.said moved refl)

    comes_in : (host : Option Opened) (waiting : List DrawopValue) (ws vs : List (Taken cut)) (line' : InputLine) (more : List InputLine) → Beside cut n host waiting ws vs (line ∷ lines) (line' ∷ more)
        → others_of cut (n + 1) more ≡ others_of cut (n + 1) lines → Arrives cut n line → Arrives cut n line' → Here None host waiting (run_outcome_from cut n (alone (here host waiting) (drawops_in vs)) (line' ∷ more))
    comes_in None waiting ws vs line' more b others a a' = stays_out waiting ws vs line' more b a a'
    comes_in (Some host) waiting ws vs line' more b others a a' = arrives_in host waiting ws vs line' more b others a a'

    skips : (host : Option Opened) (waiting : List DrawopValue) (ws vs : List (Taken cut)) (more : List InputLine) → fault_at cut n line ≡ None → part_in line ≡ Nothing
        → Beside cut (n + 1) host waiting ws vs lines more → Here None host waiting (run_outcome_from cut n (alone (here host waiting) (drawops_in vs)) (line ∷ more))
    skips host waiting ws vs more free is b =
        let u : RunState = alone (here host waiting) (drawops_in vs) in
        taken_in Nothing host waiting waiting (run_outcome_from cut n u (line ∷ more)) is (IsPermutation-refl waiting)
        (run_outcome_from cut (n + 1) u more, rest host waiting ws vs more b, line_course cut n u line more Nothing free is)

    -- the batches at a line that stands in both
    both : (part : Option Part) (line' : InputLine) (ws vs : List (Taken cut)) (more : List InputLine) → part_at cut n line ≡ part → line' ≡ line
        → AreRearranged (onto_batch (contents_in ws) (batches_of content cut n (line ∷ lines))) (onto_batch (contents_in vs) (batches_of content cut n (line' ∷ more)))
        → AreRearranged (onto_batch (contents_in ws) (batches_with part (content line) (batches_of content cut (n + 1) lines))) (onto_batch (contents_in vs) (batches_with part (content line) (batches_of content cut (n + 1) more)))
    both part line' ws vs more at same batches =
        subst (λ (p : Option Part). AreRearranged (onto_batch (contents_in ws) (batches_with p (content line) (batches_of content cut (n + 1) lines))) (onto_batch (contents_in vs) (batches_with p (content line) (batches_of content cut (n + 1) more)))) at
        (subst (λ (l : InputLine). AreRearranged (onto_batch (contents_in ws) (batches_with (part_at cut n line) (content line) (batches_of content cut (n + 1) lines))) (onto_batch (contents_in vs) (batches_with (part_at cut n l) (content l) (batches_of content cut (n + 1) more)))) same batches)

    -- a line that is no arrival stands there in both
    by_part : (part : Part) (host : Option Opened) (waiting : List DrawopValue) (ws vs : List (Taken cut)) (line' : InputLine) (more : List InputLine) → fault_at cut n line ≡ None → part_in line ≡ part
        → Beside cut n host waiting ws vs (line ∷ lines) (line' ∷ more) → other_than (part_at cut n line') line' ≡ other_than (part_at cut n line) line → others_of cut (n + 1) more ≡ others_of cut (n + 1) lines
        → Here None host waiting (run_outcome_from cut n (alone (here host waiting) (drawops_in vs)) (line' ∷ more))
    by_part (Arrival d) host waiting ws vs line' more free is b place others =
        let none : other_than (part_at cut n line) line ≡ None = ap (λ (p : Option Part). other_than p line) (part_here cut n line (Arrival d) free is) in
        comes_in host waiting ws vs line' more b others (arrived cut n line none) (arrived cut n line' (place ∙ none))
    by_part Nothing host waiting ws vs line' more free is b place others =
        let at : part_at cut n line ≡ Some Nothing = part_here cut n line Nothing free is in
        let same : line' ≡ line = same_line line line' (part_at cut n line') (place ∙ ap (λ (p : Option Part). other_than p line) at) in
        let u : RunState = alone (here host waiting) (drawops_in vs) in
        subst (λ (l : InputLine). Here None host waiting (run_outcome_from cut n u (l ∷ more))) (sym same)
        (skips host waiting ws vs more free is (record { waits = b.waits; none = b.none; others = others; batches = both (Some Nothing) line' ws vs more at same b.batches }))
    by_part (End c) host waiting ws vs line' more free is b place others =
        let at : part_at cut n line ≡ Some (End c) = part_here cut n line (End c) free is in
        let same : line' ≡ line = same_line line line' (part_at cut n line') (place ∙ ap (λ (p : Option Part). other_than p line) at) in
        let u : RunState = alone (here host waiting) (drawops_in vs) in
        let batches = both (Some (End c)) line' ws vs more at same b.batches in
        let moved = ended waiting ws vs (batches_of content cut (n + 1) lines) (batches_of content cut (n + 1) more) b.waits batches in
        subst (λ (l : InputLine). Here None host waiting (run_outcome_from cut n u (l ∷ more))) (sym same)
        (taken_in (End c) host waiting (drawops_in vs) (run_outcome_from cut n u (line ∷ more)) is moved
        (closes c host waiting (drawops_in vs) more free is moved others batches.1))

    continues : (fault : Option RunFault) (host : Option Opened) (waiting : List DrawopValue) (ws vs : List (Taken cut)) (line' : InputLine) (more : List InputLine) → fault_at cut n line ≡ fault
        → Beside cut n host waiting ws vs (line ∷ lines) (line' ∷ more) → other_than (part_at cut n line') line' ≡ other_than (part_at cut n line) line → others_of cut (n + 1) more ≡ others_of cut (n + 1) lines
        → Here fault host waiting (run_outcome_from cut n (alone (here host waiting) (drawops_in vs)) (line' ∷ more))
    continues None host waiting ws vs line' more free b place others = by_part (part_in line) host waiting ws vs line' more free refl b place others
    continues (Some e) host waiting ws vs line' more fault b place others =
        let at : part_at cut n line ≡ None = ap (λ (f : Option RunFault). part_unless f line) fault in
        let same : line' ≡ line = same_line line line' (part_at cut n line') (place ∙ ap (λ (p : Option Part). other_than p line) at) in
        let u : RunState = alone (here host waiting) (drawops_in vs) in
        let moved = ended waiting ws vs (batches_of content cut (n + 1) lines) (batches_of content cut (n + 1) more) b.waits (both None line' ws vs more at same b.batches) in
        subst (λ (l : InputLine). Here (Some e) host waiting (run_outcome_from cut n u (l ∷ more))) (sym same)
        (finishes host waiting (drawops_in vs) (Err e) (run_outcome_from cut n u (line ∷ more)) moved
        (ap (λ (f : Option RunFault). continue f (n + 1) u (content line) (λ t. run_outcome_from cut (n + 1) t more)) fault))

  comes_out : (n : ℕ) (lines : List InputLine) → ComesOut n lines
  comes_out n [] host waiting ws vs [] b =
      finishes host waiting (drawops_in vs) (cond cut (Err run_faults.Read) (Ok n)) (run_outcome_from cut n (alone (here host waiting) (drawops_in vs)) []) (ended waiting ws vs [] [] b.waits b.batches) refl
  comes_out n [] host waiting ws vs (line' ∷ more) b = let e = b.others in absurd cc
  comes_out n (line ∷ lines) host waiting ws vs [] b = let e = b.others in absurd cc
  comes_out n (line ∷ lines) host waiting ws vs (line' ∷ more) b =
      continues n line lines (comes_out (n + 1) lines) (fault_at cut n line) host waiting ws vs line' more refl b (first_same _ _ _ _ b.others) (others_same _ _ _ _ b.others)

pub each_reordering_is_outcome : EachReorderingIsOutcome
each_reordering_is_outcome workers cut input other many r =
    comes_out workers many cut 0 (input_lines input) None [] [] [] (input_lines other)
    (record { waits = refl; none = (refl, refl); others = r.others; batches = none_onto workers many cut (batches_of content cut 0 (input_lines input)) (batches_of content cut 0 (input_lines other)) r.batches })
