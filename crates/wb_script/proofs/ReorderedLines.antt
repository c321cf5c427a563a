-- Batches, arrivals that may change places, and one line by one thread.
use Rattle.std.proofs.Common.{◌≡◌, ℕ, ◌+◌, Bool, true, false, cond, List, [], ◌∷◌, ◌++◌, length, map, refl, sym, ap, subst, ◌∙◌, append_assoc, Option, Some, None, IsPermutation, nat_le, nat_lt, unwrap_or, ◌&&◌, ◌||◌, not}
use Rattle.std.proofs.lemmas.List.{nil_from_length}
use Rattle.std.proofs.lemmas.List.Sorted.{IsPermutation-refl, IsPermutation-append_left, length_permutation}
use Rattle.wb_names.specs.Values.{DrawopValue}
use Rattle.wb_script.specs.declared.fault.RunFault.{RunFault}
use Rattle.wb_script.specs.declared.fault.RunFault.TheVariants as run_faults
use Rattle.wb_member.specs.Opened.{Opened}
use Rattle.wb_commands.specs.Acts.{Act, does, fails, act}
use Rattle.wb_script.specs.Reordering.{part_unless, part_at, other_than, onto_batch, AreRearranged}
use Rattle.wb_lines.specs.Input.{InputLine, content, most_bytes}
use Rattle.wb_script.specs.Script.{RunState, Closing, Opens, Acts, Faulty, Part, Arrival, Nothing, End, part_in, RunStep, moves_on, refused, step_by, closing_step, part_step, follow_step, continue, most_lines, run_outcome_from, fault_at}

-- ---- batches

pub rearranged_same : {X : Type 0} → (batches : List (List X)) → AreRearranged batches batches
rearranged_same [] = tt
rearranged_same (batch ∷ batches) = (IsPermutation-refl batch, rearranged_same batches)

pub onto_same : {X : Type 0} → (xs ys : List X) (batches : List (List X)) → IsPermutation xs ys → AreRearranged (onto_batch xs batches) (onto_batch ys batches)
onto_same xs ys [] p = tt
onto_same xs ys (batch ∷ batches) p = (IsPermutation-append_left batch xs ys p, rearranged_same batches)

pub onto_none : {X : Type 0} → (one other : List (List X)) → AreRearranged (onto_batch [] one) (onto_batch [] other) → AreRearranged one other
onto_none [] [] p = p
onto_none [] (c ∷ other) p = p
onto_none (b ∷ one) [] p = p
onto_none (b ∷ one) (c ∷ other) p = p

pub onto_onto : {X : Type 0} → (xs : List X) (x : X) (batches : List (List X)) → onto_batch xs (onto_batch (x ∷ []) batches) ≡ onto_batch (xs ++ x ∷ []) batches
onto_onto xs x [] = refl
onto_onto xs x (batch ∷ batches) = ap (λ l. l ∷ batches) (sym (append_assoc xs (x ∷ []) batch))

-- ---- arrivals that are taken, wherever they stand below the limit of lines

pub record Taken (cut : Bool) : Type 0 where
  pub line : InputLine
  pub drawop : DrawopValue
  pub short : nat_le (length line.bytes) most_bytes ≡ true
  pub whole : line.ended || not cut ≡ true
  pub said : part_in line ≡ Arrival drawop

abbrev pub lines_in : {cut : Bool} → List (Taken cut) → List InputLine
lines_in ws = map (λ w. w.line) ws

abbrev pub drawops_in : {cut : Bool} → List (Taken cut) → List DrawopValue
drawops_in ws = map (λ w. w.drawop) ws

pub record NoFault (cut : Bool) (n : ℕ) (line : InputLine) : Type 0 where
  pub few : nat_lt n most_lines ≡ true
  pub short : nat_le (length line.bytes) most_bytes ≡ true
  pub whole : line.ended || not cut ≡ true

pub no_fault : (cut : Bool) (n : ℕ) (line : InputLine) → fault_at cut n line ≡ None → NoFault cut n line
no_fault cut n line e = from (nat_lt n most_lines) (nat_le (length line.bytes) most_bytes) (line.ended || not cut) refl refl refl e where
  from : (few short whole : Bool) → nat_lt n most_lines ≡ few → nat_le (length line.bytes) most_bytes ≡ short → line.ended || not cut ≡ whole
      → cond (few && short) (cond whole None (Some run_faults.Read)) (Some run_faults.Endless) ≡ None → NoFault cut n line
  from true true true f s w e = record { few = f; short = s; whole = w }
  from true true false f s w e = absurd cc
  from true false whole f s w e = absurd cc
  from false short whole f s w e = absurd cc

pub arrives_at : (cut : Bool) (n : ℕ) (w : Taken cut) → nat_lt n most_lines ≡ true → fault_at cut n w.line ≡ None
arrives_at cut n w few = rw (few, w.short, w.whole) refl

pub part_here : (cut : Bool) (n : ℕ) (line : InputLine) (part : Part) → fault_at cut n line ≡ None → part_in line ≡ part → part_at cut n line ≡ Some part
part_here cut n line part e g = ap (λ (f : Option RunFault). part_unless f line) e ∙ ap Some g

-- ---- the same place in both

pub same_line : (line line' : InputLine) (part : Option Part) → other_than part line' ≡ Some line → line' ≡ line
same_line line line' (Some (Arrival d)) e = absurd cc
same_line line line' (Some Nothing) e = cc
same_line line line' (Some (End c)) e = cc
same_line line line' None e = cc

pub record Arrives (cut : Bool) (n : ℕ) (line : InputLine) : Type 0 where
  pub free : fault_at cut n line ≡ None
  pub drawop : DrawopValue
  pub said : part_in line ≡ Arrival drawop

pub arrived : (cut : Bool) (n : ℕ) (line : InputLine) → other_than (part_at cut n line) line ≡ None → Arrives cut n line
arrived cut n line e = at (fault_at cut n line) (part_in line) refl refl e where
  at : (fault : Option RunFault) (part : Part) → fault_at cut n line ≡ fault → part_in line ≡ part → other_than (part_unless fault line) line ≡ None → Arrives cut n line
  at (Some f) part p q e = absurd cc
  at None part p q e = by part p q (subst (λ (r : Part). other_than (Some r) line ≡ None) q e) where
    by : (part : Part) → fault_at cut n line ≡ None → part_in line ≡ part → other_than (Some part) line ≡ None → Arrives cut n line
    by (Arrival d) p q e = record { free = p; drawop = d; said = q }
    by Nothing p q e = absurd cc
    by (End c) p q e = absurd cc

pub first_same : {X : Type 0} → (a b : X) (xs ys : List X) → a ∷ xs ≡ b ∷ ys → a ≡ b
first_same a b xs ys e = cc

pub others_same : {X : Type 0} → (a b : X) (xs ys : List X) → a ∷ xs ≡ b ∷ ys → xs ≡ ys
others_same a b xs ys e = cc

-- ---- one line, by one thread

pub line_course : (cut : Bool) (n : ℕ) (s : RunState) (line : InputLine) (lines : List InputLine) (part : Part) → fault_at cut n line ≡ None → part_in line ≡ part
    → run_outcome_from cut n s (line ∷ lines) ≡ follow_step (n + 1) (part_step s s.waiting part) (λ t. run_outcome_from cut (n + 1) t lines)
line_course cut n s line lines part e g =
    ap (λ (f : Option RunFault). continue f (n + 1) s (content line) (λ t. run_outcome_from cut (n + 1) t lines)) e
    ∙ ap (λ (r : Part). follow_step (n + 1) (part_step s s.waiting r) (λ t. run_outcome_from cut (n + 1) t lines)) g

-- ---- the state of one thread, to which the present batch came in this order

abbrev pub state : Option ℕ → Option Opened → List DrawopValue → RunState
state k host waiting = record { host = host; workers = k; waiting = waiting }

abbrev pub alone : RunState → List DrawopValue → RunState
alone s waiting = state s.workers s.host waiting

-- ---- a line that ends its batch: none waits then

abbrev pub NoneWaits : (Option ℕ → Type 0) → RunStep → Type 0
NoneWaits Has (moves_on t text) = Has t.workers × (t.waiting ≡ [])
NoneWaits Has (refused t text e) = t.waiting ≡ []

act_ends : (Has : Option ℕ → Type 0) (k : Option ℕ) (text : List ℕ) (a : Act) (host : Opened) → Has k → NoneWaits Has (step_by k text a host)
act_ends Has k text (does next printed) host has = (has, refl)
act_ends Has k text (fails e) host has = refl

pub none_waits : (Has : Option ℕ → Type 0) (k : Option ℕ) (host : Option Opened) (text : List ℕ) (c : Closing) → Has k → ((w : ℕ) → Has (Some (unwrap_or k w))) → NoneWaits Has (closing_step (state k host []) text c)
none_waits Has k None text (Opens member cells workers seed) has opens = (opens workers, refl)
none_waits Has k (Some host) text (Acts line) has opens = act_ends Has k text (act line host) host has
none_waits Has k None text (Acts line) has opens = refl
none_waits Has k None text (Faulty e) has opens = refl
none_waits Has k (Some host) text c has opens = refl

pub none_left : (waiting order : List DrawopValue) → waiting ≡ [] → IsPermutation waiting order → order ≡ waiting
none_left waiting order none p = nil_from_length order (length_permutation waiting order p ∙ ap (λ (l : List DrawopValue). length l) none) ∙ sym none
