-- The next line is taken, or a driver ends by what was found.
use Rattle.std.proofs.Common.{◌≡◌, ℕ, Bool, List, [], ◌++◌, Option, Some, None, Result, Ok, refl, sym, ap, ◌∙◌, append_assoc, arith}
use Rattle.wb_lines.specs.declared.fault.DriveFault.{DriveFault}
use Rattle.wb_lines.specs.declared.lines.First.{First}
use Rattle.wb_lines.specs.declared.lines.First.TheVariants as firsts
use Rattle.wb_lines.specs.Input.{InputLine, input_lines}
use Rattle.wb_lines.specs.Handling.{Met, whole, too_long}
use Rattle.wb_lines.specs.Items.{Items, group, Grouping, begin, items_from}
use Rattle.wb_lines.specs.Moments.{LinesValue, MayCome, Moment, Moves, Reads, with_one_taken, TakesSeen, RestOf, TakesFirst, TakesNext}
use Rattle.wb_lines.proofs.GroupedLines.{first_taken, any_group, any_long}

abbrev pub at_lines : {S : Type 0} → Moment S → LinesValue S → Moment S
at_lines m v = record { lines = v; output = m.output; left = m.left; failed = m.failed; taken = m.taken; stuck = m.stuck }

unfoldable one_more : {S : Type 0} {a b d : Moment S} → Moves a b [] → d ≡ at_lines b (with_one_taken b.lines) → ((more : List ℕ) (cut : Bool) → MayCome (with_one_taken b.lines) more cut → MayCome b.lines more cut) → Moves a d []
one_more m same may = record {
  given = m.given;
  pulls = rw same m.pulls;
  sends = rw same m.sends;
  most = rw same m.most;
  done = rw same (omega (arith, m.done));
  true_still = λ t. rw same (record { failed = λ f. absurd cc; stuck = λ f. absurd cc });
  may = λ more cut h. m.may more cut (may more cut (rw same at h));
}

pub takes_next : {S F : Type 0} {a b d : Moment S} (says : InputLine → S → Type 0) (by : Grouping) (result : Result (Option (First S)) (DriveFault F)) → Reads by a b [] [] → b.lines.done ≡ a.lines.done → TakesSeen says b.lines d.lines result → d ≡ at_lines b d.lines
    → TakesNext says by a d result
unfolding one_more
takes_next {b = b} says by (Ok (Some (firsts.Line said))) r count t same = (
  one_more r.moves (same ∙ ap (at_lines b) t.1) (λ more cut may. rw t.0 may),
  record {
    taken = rw t.1 refl;
    count = rw t.1 (omega (arith, count));
    few = rw t.1 (omega (arith, count, t.2));
    is_first = rw t.1 t.4;
    rest = λ more cut is may rest.
        let before_it : MayCome b.lines more cut = rw t.0 (rw t.1 at may) in
        r.joins None more cut is tt before_it (first_taken by b.lines said more cut is t.0 t.2 t.3 before_it (rw t.1 at rest));
  },
)
takes_next {a = a} {b = b} says by (Ok (Some firsts.TooLong)) r count t same = (
  one_more r.moves (same ∙ ap (at_lines b) t.1) (λ more cut may. rw t.0 may),
  record {
    taken = rw t.1 refl;
    count = rw t.1 (omega (arith, count));
    few = rw t.1 (omega (arith, count, t.2));
    is_first = rw t.1 t.3;
    rest = λ more cut is may rest.
        let all = rw t.1 at rest in
        r.joins None more cut is tt (rw t.0 (rw t.1 at may))
        (rw t.0 (all ∙ ap (λ (n : ℕ). items_from by b.lines.most cut n None (input_lines (b.lines.line.bytes ++ (b.lines.reader.bytes ++ more)))) (sym count) ∙ ap (λ (t : List ℕ). items_from by b.lines.most cut b.lines.done None (input_lines t)) (sym (append_assoc b.lines.line.bytes b.lines.reader.bytes more))));
  },
)
takes_next {b = b} says by result r count t same = rw (same ∙ ap (at_lines b) t.0) (r, t.1)

-- ---- whatever follows

abbrev pub met_first : {S : Type 0} → First S → InputLine → Met
met_first (firsts.Line said) line = whole line
met_first firsts.TooLong line = too_long

-- what was taken comes before some items
unfoldable pub any_first : {S : Type 0} (says : InputLine → S → Type 0) (by : Grouping) (u v : LinesValue S) (given : List ℕ) (first : First S) → TakesFirst says by u v given first → (more : List ℕ) (cut : Bool)
    → (joined : List InputLine) × (rest : Items) × RestOf by first u.done v more cut (group v.done (met_first first v.line) joined rest)
any_first says by u v given (firsts.Line said) f more cut =
    let g = any_group by v.most v.done cut (begin v.done v.line) (input_lines (v.reader.bytes ++ more)) in
    (g.joined, g.rest, rw f.taken (sym g.same))
any_first says by u v given firsts.TooLong f more cut =
    let g = any_long by v.most u.done cut v.line.bytes (v.reader.bytes ++ more) f.few f.is_first in
    ([], g.rest, rw f.count (sym g.same))
