-- Lines that are taken one by one have one outcome.
use Rattle.std.proofs.Common.{◌≡◌, ℕ, ◌+◌, Bool, true, false, List, [], ◌∷◌, ◌++◌, Option, None, Result, Ok, Err, refl, ap, subst, ◌∙◌, append-nil, arith, nat_lt, ◌||◌, not}
use Rattle.std.specs.Io.KnownBytes.{Appends}
use Rattle.std.proofs.lemmas.Bool.{false≢true}
use Rattle.std.proofs.lemmas.Bool.Decides.{nat_tests}
use Rattle.wb_lines.specs.declared.fault.DriveFault.{DriveFault}
use Rattle.wb_lines.specs.declared.fault.DriveFault.TheVariants as faults
use Rattle.wb_lines.specs.declared.handler.Stop.{Stop}
use Rattle.wb_lines.specs.declared.handler.Stop.TheVariants as handler_stops
use Rattle.wb_lines.specs.declared.lines.First.TheVariants as firsts
use Rattle.wb_lines.specs.declared.lines.Seen.TheVariants as seens
use Rattle.wb_lines.specs.Input.{InputLine, input_lines}
use Rattle.wb_lines.specs.Handling.{Met, whole, too_long, Step, goes, stops, ends, Does}
use Rattle.wb_lines.specs.Taking.{is_short, is_passed}
use Rattle.wb_lines.specs.Driving.{Outcome, before, stop, proceed, rules_of, outcome_from, outcome, Gave, Meets}
use Rattle.wb_lines.specs.Items.{endless, Items, over, group, alone, begin, items_from}
use Rattle.wb_lines.specs.Groups.{Steps, Proceeds, IsOutcomeOf, only_step}
use Rattle.wb_lines.specs.Moments.{LinesValue, Moment, Moves, PassesLine}
use Rattle.wb_lines.specs.Steps.{DoesOne, DoesGroup, Handles}
use Rattle.wb_lines.proofs.Moments.{Moves-then, Moves-prints, Reads-prints}
use Rattle.wb_lines.proofs.GroupedLines.{parted, first_parts}
use Rattle.wb_lines.proofs.Outcomes.{Total}
use Rattle.wb_lines.proofs.Endings.{MeetsAll}

-- its handler reads a line itself
abbrev pub says_any : {T : Type 0} → InputLine → T → Type 0
says_any line said = Unit {0}

pub total : {S F : Type 0} (step : S → ℕ → Met → Step S F) → Total (only_step step)
total step s number met joined = (step s number met, refl)

proceeds_one : {S F : Type 0} (Does : Steps S F) (is : Items) (number : ℕ) (step : Step S F) (R : S → Outcome F) (o : Outcome F) (t : S) → ((next : S) (r : Outcome F) (u : S) → IsOutcomeOf Does is next r u → r ≡ R next)
    → Proceeds number step (λ next. IsOutcomeOf Does is next) o t → o ≡ proceed number step R
proceeds_one Does is number (goes text next) R o t h p = p.2 ∙ ap (before text) (h next p.0 t p.1)
proceeds_one Does is number (stops text e) R o t h p = p
proceeds_one Does is number (ends text) R o t h p = p

passed : (line : InputLine) → is_short line ≡ true → is_passed line ≡ true
passed line e = grind (arith, nat_tests)

pub one_outcome : {S F : Type 0} (step : S → ℕ → Met → Step S F) (most : ℕ) (cut : Bool) (lines : List InputLine) (n : ℕ) (s : S) (o : Outcome F) (t : S) → IsOutcomeOf (only_step step) (items_from alone most cut n None lines) s o t → o ≡ outcome_from (rules_of step most) cut n s lines
one_outcome step most true [] n s o t is = is.0
one_outcome step most false [] n s o t is = is.0
one_outcome {S = S} {F = F} step most cut (line ∷ lines) n s o t is = at (nat_lt n most) (is_short line) (line.ended || not cut) (is_passed line) refl refl refl refl (λ next r u h. one_outcome step most cut lines (n + 1) next r u h) where
  of_group : (m : Met) → ((next : S) (r : Outcome F) (u : S) → IsOutcomeOf (only_step step) (items_from alone most cut (n + 1) None lines) next r u → r ≡ outcome_from (rules_of step most) cut (n + 1) next lines) → IsOutcomeOf (only_step step) (group (n + 1) m [] (items_from alone most cut (n + 1) None lines)) s o t → o ≡ proceed (n + 1) (step s (n + 1) m) (λ next. outcome_from (rules_of step most) cut (n + 1) next lines)
  of_group m on g =
      let p : o ≡ proceed (n + 1) g.0 (λ next. outcome_from (rules_of step most) cut (n + 1) next lines) =
      proceeds_one (only_step step) (items_from alone most cut (n + 1) None lines) (n + 1) g.0 (λ next. outcome_from (rules_of step most) cut (n + 1) next lines) o t on g.2 in
      p ∙ ap (λ (x : Step S F). proceed (n + 1) x (λ next. outcome_from (rules_of step most) cut (n + 1) next lines)) g.1

  of_far : IsOutcomeOf (only_step step) (group (n + 1) too_long [] (over endless)) s o t → o ≡ proceed (n + 1) (step s (n + 1) too_long) (λ next. stop (Err faults.Endless))
  of_far g =
      let p : o ≡ proceed (n + 1) g.0 (λ next. stop (Err faults.Endless)) = proceeds_one (only_step step) (over endless) (n + 1) g.0 (λ next. stop (Err faults.Endless)) o t (λ next r u h. h.0) g.2 in
      p ∙ ap (λ (x : Step S F). proceed (n + 1) x (λ next. stop (Err faults.Endless))) g.1

  at : (a b c d : Bool) → nat_lt n most ≡ a → is_short line ≡ b → (line.ended || not cut) ≡ c → is_passed line ≡ d → ((next : S) (r : Outcome F) (u : S) → IsOutcomeOf (only_step step) (items_from alone most cut (n + 1) None lines) next r u → r ≡ outcome_from (rules_of step most) cut (n + 1) next lines) → o ≡ outcome_from (rules_of step most) cut n s (line ∷ lines)
  at false b c d ea eb ec ed on = let h = rw ea at is in rw ea (h.0)
  at true true true d ea eb ec ed on =
      let fits = passed line eb in
      let h = rw (ea, eb, ec) at is in
      let g = subst (λ (x : Items). IsOutcomeOf (only_step step) x s o t) (parted alone most (n + 1) cut (begin (n + 1) line) lines (first_parts alone (begin (n + 1) line) lines refl)) h in
      rw (ea, eb, ec, fits) (of_group (whole line) on g)
  at true true false d ea eb ec ed on = let h = rw (ea, eb, ec) at is in rw (ea, eb, ec) (h.0)
  at true false c true ea eb ec ed on = let h = rw (ea, eb, ed) at is in rw (ea, eb, ed) (of_group too_long on h)
  at true false c false ea eb ec ed on = let h = rw (ea, eb, ed) at is in rw (ea, eb, ed) (of_far h)

-- so what is met is that
pub one_met : {S F : Type 0} (step : S → ℕ → Met → Step S F) (most : ℕ) (was_at is_at : S → Type 0) (left left' : Option (List ℕ)) (failed : Bool) (taken taken' : Option (List ℕ)) (result : Result ℕ (DriveFault F)) → MeetsAll alone (only_step step) most was_at is_at left left' failed taken taken' result
    → (input : List ℕ) × (written : List ℕ) × Gave left left' failed input × Appends taken taken' written × ((s : S) → was_at s → Meets (outcome (rules_of step most) failed s input) written result)
one_met {F = F} step most was_at is_at left left' failed taken taken' result m =
    (m.0, m.1, m.2, m.3, λ s at. let one = m.4 s at in subst (λ (o : Outcome F). Meets o m.1 result) (one_outcome step most failed (input_lines m.0) 0 s one.0 one.1 one.2) one.4)

-- ---- a handler that takes them

lone_one : {S F : Type 0} (is_at : S → Type 0) (printed : List ℕ) (step : Step S F) (result : Result (Unit {0}) (Stop F)) → Does is_at printed result step → DoesOne is_at printed (λ one. one ≡ step) result
lone_one is_at printed (goes text next) (Ok u) d = (next, d.1, rw d.0 refl)
lone_one is_at printed (stops text e) (Err (handler_stops.Fault f)) d = rw (d.0, d.1) refl
lone_one is_at printed (ends text) (Err handler_stops.Endless) d = rw d refl
lone_one is_at printed step (Err handler_stops.Memory) d = (step, refl, d)
lone_one is_at printed step result d = absurd d

lone_group : {S F T : Type 0} (is_at : S → Type 0) (printed : List ℕ) (step : Step S F) (first : InputLine) (v : LinesValue T) (result : Result (Unit {0}) (Stop F)) → v.seen ≡ seens.Nothing → Does is_at printed result step
    → DoesGroup alone is_at printed (λ joined one. one ≡ step) first [] v result
lone_group is_at printed step first v (Ok u) seen d = rw seen (tt, λ h. absurd (false≢true h), lone_one is_at printed step (Ok u) d)
lone_group is_at printed step first v (Err e) seen d = λ all. lone_one is_at printed step (Err e) d

-- a line
pub lone : {S F T : Type 0} {a b : Moment T} (step : S → ℕ → Met → Step S F) (was_at is_at : S → Type 0) (said : T) (printed : List ℕ) (result : Result (Unit {0}) (Stop F)) → a.lines.seen ≡ seens.Nothing
    → b.lines ≡ a.lines → b.left ≡ a.left → b.failed ≡ a.failed → b.taken ≡ a.taken → b.stuck ≡ a.stuck → b.output ≡ a.output ++ printed
    → ((s : S) → was_at s → Does is_at printed result (step s a.lines.done (whole a.lines.line))) → Handles alone (only_step step) was_at is_at (firsts.Line said) a b result
lone {T = T} {a = a} {b = b} step was_at is_at said printed result seen lines left failed taken stuck prints d =
    let r = Reads-prints alone a b printed lines left failed taken stuck prints in
    (printed, r.moves, ([], r.joins, λ s at. lone_group is_at printed (step s a.lines.done (whole a.lines.line)) a.lines.line b.lines result (ap (λ (v : LinesValue T). v.seen) lines ∙ seen) (d s at)))

-- one that is too long, at which the handler stops
pub lone_stopped : {S F T : Type 0} {a b : Moment T} (step : S → ℕ → Met → Step S F) (was_at is_at : S → Type 0) (printed : List ℕ) (e : Stop F)
    → b.lines ≡ a.lines → b.left ≡ a.left → b.failed ≡ a.failed → b.taken ≡ a.taken → b.stuck ≡ a.stuck → b.output ≡ a.output ++ printed
    → ((s : S) → was_at s → Does {U = Unit {0}} is_at printed (Err e) (step s a.lines.done too_long)) → Handles {U = Unit {0}} alone (only_step step) was_at is_at firsts.TooLong a b (Err e)
lone_stopped {a = a} {b = b} step was_at is_at printed e lines left failed taken stuck prints d =
    (printed, Moves-prints a b printed lines left failed taken stuck prints, (tt, λ s at. lone_one is_at printed (step s a.lines.done too_long) (Err e) (d s at)))

-- or of which the rest is passed over
pub lone_passed : {S F T : Type 0} {a b c : Moment T} (step : S → ℕ → Met → Step S F) (was_at is_at : S → Type 0) (printed : List ℕ)
    → b.lines ≡ a.lines → b.left ≡ a.left → b.failed ≡ a.failed → b.taken ≡ a.taken → b.stuck ≡ a.stuck → b.output ≡ a.output ++ printed → (moves : Moves b c []) × PassesLine alone b.lines c.lines moves.given
    → ((s : S) → was_at s → Does {U = Unit {0}} is_at printed (Ok tt) (step s a.lines.done too_long)) → Handles {U = Unit {0}} alone (only_step step) was_at is_at firsts.TooLong a c (Ok tt)
unfolding Moves-then Moves-prints
lone_passed {a = a} {b = b} {c = c} step was_at is_at printed lines left failed taken stuck prints p d = (
  printed ++ [],
  Moves-then a b c printed [] (Moves-prints a b printed lines left failed taken stuck prints) p.0,
  (rw lines at p.1, λ s at. rw (append-nil printed) (lone_one is_at printed (step s a.lines.done too_long) (Ok tt) (d s at))),
)
