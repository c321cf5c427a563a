-- That the counts of a batch add up, and that what is held stays.
use Rattle.std.proofs.Common.{◌≡◌, ◌+◌, List, [], ◌∷◌, ◌++◌, length, refl, sym, ap, ◌∙◌, append_assoc, arith, append-nil, length-append}
use Rattle.wb_names.specs.Values.{DrawopValue}
use Rattle.wb_names.specs.Arrivals.{Outcome, New, history_with, Counts, counted, counts_of, outcome_of, outcomes_of}
use Rattle.wb_script.specs.ScriptLaws.{total, CountsAddUp, HeldStays}

one_more : (a : Outcome) (n : Counts) → total (counted a n) ≡ total n + 1
one_more (New i) n = omega arith
one_more a n = omega arith

pub counts_add_up : CountsAddUp
counts_add_up cells held [] = refl
counts_add_up cells held (d ∷ ds) =
    let a : Outcome = outcome_of cells held d in
    let rest = counts_add_up cells (history_with held d a) ds in
    let one = one_more a (counts_of (outcomes_of cells (history_with held d a) ds)) in
    omega (arith, rest, one)

-- what one arrival adds
record Adds (held : List DrawopValue) (d : DrawopValue) (a : Outcome) (n : Counts) : Type 0 where
  new : List DrawopValue
  behind : history_with held d a ≡ held ++ new
  number : (counted a n).fresh ≡ n.fresh + length new

adds_one : (held : List DrawopValue) (d : DrawopValue) (a : Outcome) (n : Counts) → Adds held d a n
adds_one held d (New i) n = record { new = d ∷ []; behind = refl; number = omega arith }
adds_one held d a n = record { new = []; behind = sym (append-nil held); number = omega arith }

pub held_stays : HeldStays
held_stays cells held [] = ([], sym (append-nil held), refl)
held_stays cells held (d ∷ ds) =
    let a : Outcome = outcome_of cells held d in
    let rest = held_stays cells (history_with held d a) ds in
    let one : Adds held d a (counts_of (outcomes_of cells (history_with held d a) ds)) = adds_one held d a (counts_of (outcomes_of cells (history_with held d a) ds)) in
    let sum : length (one.new ++ rest.0) ≡ length one.new + length rest.0 = length-append one.new rest.0 in
    (one.new ++ rest.0, rest.1 ∙ ap (λ (l : List DrawopValue). l ++ rest.0) one.behind ∙ append_assoc held one.new rest.0, omega (arith, rest.2, one.number, sum))
