-- The turns of a driver: it takes a line, and its handler does something with that and the lines that join it.
use Rattle.std.proofs.Common.{◌≡◌, ℕ, Bool, true, false, List, [], ◌++◌, Option, Some, None, Result, Ok, Err, refl, sym, append_assoc, append-nil}
use Rattle.std.proofs.lemmas.Bool.{false≢true}
use Rattle.wb_lines.specs.declared.fault.DriveFault.{DriveFault}
use Rattle.wb_lines.specs.declared.fault.DriveFault.TheVariants as faults
use Rattle.wb_lines.specs.declared.handler.Stop.{Stop}
use Rattle.wb_lines.specs.declared.lines.First.{First}
use Rattle.wb_lines.specs.declared.lines.First.TheVariants as firsts
use Rattle.wb_lines.specs.declared.lines.Seen.{Seen}
use Rattle.wb_lines.specs.declared.lines.Seen.TheVariants as seens
use Rattle.wb_lines.specs.Input.{InputLine, input_lines, standing}
use Rattle.wb_lines.specs.Handling.{whole, too_long, goes}
use Rattle.wb_lines.specs.Items.{finished, unreadable, endless, Items, over, group, Grouping, Begun, begin, items_from}
use Rattle.wb_lines.specs.Driving.{Outcome, before, stop}
use Rattle.wb_lines.specs.Groups.{Steps, IsOutcomeOf}
use Rattle.wb_lines.specs.Moments.{LinesValue, KnowsLines, MayCome, RestBy, Rest, is_broken, Moment, Moves, Reads, EndsBy, TakesFirst, TakesNext}
use Rattle.wb_lines.specs.Steps.{driver_fault, HandlesBy, Handles, Begins, OutcomeAt, EndsSo, DrivesAll}
use Rattle.wb_lines.proofs.Moments.{Moves-none, Moves-then}
use Rattle.wb_lines.proofs.GroupedLines.{group_end}
use Rattle.wb_lines.proofs.FirstLines.{any_first}
use Rattle.wb_lines.proofs.Outcomes.{before-nil, Begins-before, Begins-more, Total, some_outcome, begun_outcome, halts, answers_behind, steps_behind}

-- ---- what is left of a whole, behind a text that was written

-- Whatever items follow, the handler is at a state from which each outcome of them is one of the whole. Some outcome of the whole begins with the text, also where no more lines can be read.
pub record Goes {S F : Type 0} (Does : Steps S F) (is_at : S → Type 0) (Whole : Outcome F → S → Type 0) (Follows : Items → Type 0) (written : List ℕ) : Type 0 where
  pub going : (is : Items) → Follows is → (t : S) × is_at t × ((o : Outcome F) (u : S) → IsOutcomeOf Does is t o u → Whole (before written o) u)
  pub begun : (o : Outcome F) × (u : S) × Whole o u × Begins o written

broken_rest : {T : Type 0} (by : Grouping) (v : LinesValue T) (g : Option Begun) (more : List ℕ) (cut : Bool) (is : Items) (seen : Seen T) → is_broken seen ≡ true → RestBy by v g more cut is seen → ⊥
broken_rest by v g more cut is seens.Unwritten e rest = rest
broken_rest by v g more cut is seens.Memory e rest = rest
broken_rest by v g more cut is seen e rest = absurd (false≢true e)

some_rest : {T : Type 0} (by : Grouping) (v : LinesValue T) (more : List ℕ) (cut : Bool) → is_broken v.seen ≡ false → (is : Items) × Rest by v None more cut is
some_rest {T = T} by v more cut going = at v.seen refl where
  at : (seen : Seen T) → v.seen ≡ seen → (is : Items) × Rest by v None more cut is
  at (seens.Line said) e = (items_from by v.most cut v.done None (input_lines ((standing v.line ++ v.reader.bytes) ++ more)), rw e refl)
  at seens.Nothing e = (items_from by v.most cut v.done None (input_lines (v.reader.bytes ++ more)), rw e refl)
  at seens.TooLong e = (items_from by v.most cut v.done None (input_lines ((v.line.bytes ++ v.reader.bytes) ++ more)), rw e refl)
  at seens.End e = (over (finished v.done), rw e refl)
  at seens.Failed e = (over unreadable, rw e refl)
  at seens.TooMany e = (over endless, rw e refl)
  at seens.Unwritten e = absurd (false≢true (sym (rw e at going)))
  at seens.Memory e = absurd (false≢true (sym (rw e at going)))

-- while more lines can be read
goes_on : {S F T : Type 0} (by : Grouping) (Does : Steps S F) (is_at : S → Type 0) (Whole : Outcome F → S → Type 0) (v : LinesValue T) (more : List ℕ) (cut : Bool) (written : List ℕ) → Total Does → is_broken v.seen ≡ false
    → ((is : Items) → Rest by v None more cut is → (t : S) × is_at t × ((o : Outcome F) (u : S) → IsOutcomeOf Does is t o u → Whole (before written o) u)) → Goes Does is_at Whole (Rest by v None more cut) written
goes_on by Does is_at Whole v more cut written total whole_still going =
    let rest = some_rest by v more cut whole_still in
    let at = going rest.0 rest.1 in
    let one = some_outcome Does total rest.0 at.0 in
    record { going = going; begun = (before written one.o, one.u, at.2 one.o one.u one.is_one, Begins-before one.o written written ([], sym (append-nil written))) }

-- ---- one turn, in which a line was taken

-- the handler went on
went : {S F T : Type 0} (by : Grouping) (says : InputLine → T → Type 0) (Does : Steps S F) (was_at is_at : S → Type 0) (Whole : Outcome F → S → Type 0) (first : First T) (u v w : LinesValue T) (taken given more x y : List ℕ) (cut : Bool) → Total Does → TakesFirst says by u v taken first
    → HandlesBy {U = Unit {0}} by Does was_at is_at first v w given y (Ok tt) → KnowsLines says w → MayCome w more cut → MayCome v (given ++ more) cut → Goes Does was_at Whole (Rest by u None (taken ++ (given ++ more)) cut) x → Goes Does is_at Whole (Rest by w None more cut) (x ++ y)
unfolding any_first
went {S = S} {F = F} by says Does was_at is_at Whole (firsts.Line said) u v w taken given more x y cut total f h sound may before_it p = at (is_broken w.seen) refl where
  follow : (is : Items) → Rest by v (Some (begin v.done v.line)) (given ++ more) cut is → (t : S) × was_at t × ((o : Outcome F) (u : S) → IsOutcomeOf Does is t o u → Whole (before x o) u)
  follow is rest = p.going is (f.rest (given ++ more) cut is before_it rest)

  any : (t : S) × was_at t
  any = let g = any_first says by u v taken (firsts.Line said) f (given ++ more) cut in let t = follow (group v.done (whole v.line) g.0 g.1) g.2 in (t.0, t.1)

  at : (broken : Bool) → is_broken w.seen ≡ broken → Goes Does is_at Whole (Rest by w None more cut) (x ++ y)
  at true e =
      let none : y ≡ [] = rw e at h.2 any.0 any.1 in
      record { going = λ is rest. absurd (broken_rest by w None more cut is w.seen e rest); begun = (p.begun.0, p.begun.1, p.begun.2, rw (none, append-nil x) p.begun.3) }
  at false e = goes_on by Does is_at Whole w more cut (x ++ y) total e (λ is rest.
      let joins = rw e at h.2 any.0 any.1 in
      let this : Items = group v.done (whole v.line) h.0 is in
      let end = group_end by says w (record { number = v.done; first = v.line; joined = h.0 }) more cut is sound joins.1 may rest in
      let t = follow this (h.1 (Some (begin v.done v.line)) more cut this joins.0 may end) in
      let does = rw e at h.2 t.0 t.1 in
      steps_behind Does is_at Whole v.done (whole v.line) h.0 is x y t.0 t.2 does.2)
went by says Does was_at is_at Whole firsts.TooLong u v w taken given more x y cut total f h sound may before_it p = record {
  going = λ is rest.
      let same = h.0 u.done f.count f.is_first more cut is may rest in
      let this : Items = group v.done too_long [] is in
      let t = p.going this (f.rest (given ++ more) cut this before_it (rw f.count (sym same))) in
      steps_behind Does is_at Whole v.done too_long [] is x y t.0 t.2 (h.1 t.0 t.1);
  begun =
      let g = any_first says by u v taken firsts.TooLong f (given ++ more) cut in
      let this : Items = group v.done too_long [] g.1 in
      let t = p.going this (f.rest (given ++ more) cut this before_it g.2) in
      let does = h.1 t.0 t.1 in
      let one = begun_outcome Does total v.done too_long [] g.1 t.0 (goes y does.0) y does.2 ([], sym (append-nil y)) in
      (before x one.0, one.1, t.2 one.0 one.1 one.2, Begins-more one.0 x y one.3);
}

-- it stopped
stopped : {S F T : Type 0} (by : Grouping) (says : InputLine → T → Type 0) (Does : Steps S F) (was_at is_at : S → Type 0) (Whole : Outcome F → S → Type 0) (first : First T) (u v w : LinesValue T) (taken given more x y : List ℕ) (cut : Bool) (e : Stop F) → Total Does → TakesFirst says by u v taken first
    → HandlesBy {U = Unit {0}} by Does was_at is_at first v w given y (Err e) → MayCome v (given ++ more) cut → Goes Does was_at Whole (Rest by u None (taken ++ (given ++ more)) cut) x → EndsSo is_at Whole (x ++ y) (Err (driver_fault v.done e))
unfolding any_first
stopped by says Does was_at is_at Whole (firsts.Line said) u v w taken given more x y cut e total f h before_it p =
    let g = any_first says by u v taken (firsts.Line said) f (given ++ more) cut in
    let this : Items = group v.done (whole v.line) g.0 g.1 in
    let t = p.going this (f.rest (given ++ more) cut this before_it g.2) in
    (t.0, tt, answers_behind (IsOutcomeOf Does this t.0) Whole x y t.0 (Err (driver_fault v.done e)) t.2 (halts Does is_at total v.done (whole v.line) g.0 g.1 t.0 y e (h.2 t.0 t.1 g.0)))
stopped by says Does was_at is_at Whole firsts.TooLong u v w taken given more x y cut e total f h before_it p =
    let g = any_first says by u v taken firsts.TooLong f (given ++ more) cut in
    let this : Items = group v.done too_long [] g.1 in
    let t = p.going this (f.rest (given ++ more) cut this before_it g.2) in
    (t.0, tt, answers_behind (IsOutcomeOf Does this t.0) Whole x y t.0 (Err (driver_fault v.done e)) t.2 (halts Does is_at total v.done too_long [] g.1 t.0 y e (h.1 t.0 t.1)))

-- ---- one in which there was none

-- how many lines there were, or a fault
abbrev pub told : {F T : Type 0} → ℕ → Result (Option (First T)) (DriveFault F) → Result ℕ (DriveFault F)
told n (Ok first) = Ok n
told n (Err e) = Err e

ended : {S F T : Type 0} (by : Grouping) (Does : Steps S F) (is_at : S → Type 0) (Whole : Outcome F → S → Type 0) (v w : LinesValue T) (given more x : List ℕ) (cut : Bool) (result : Result (Option (First T)) (DriveFault F)) → EndsBy w.seen result
    → ((is : Items) → Rest by w None more cut is → Rest by v None (given ++ more) cut is) → Goes Does is_at Whole (Rest by v None (given ++ more) cut) x → EndsSo is_at Whole x (told w.done result)
ended {S = S} {F = F} {T = T} by Does is_at Whole v w given more x cut result is_end on p = at w.seen refl is_end where
  at : (seen : Seen T) → w.seen ≡ seen → EndsBy seen result → EndsSo is_at Whole x (told w.done result)
  at seens.End e is = let t = p.going (over (finished w.done)) (on (over (finished w.done)) (rw e refl)) in rw is (t.0, t.1, t.2 (stop (Ok w.done)) t.0 (refl, refl))
  at seens.Failed e is = let t = p.going (over unreadable) (on (over unreadable) (rw e refl)) in rw is (t.0, tt, t.2 (stop (Err faults.Read)) t.0 (refl, refl))
  at seens.TooMany e is = let t = p.going (over endless) (on (over endless) (rw e refl)) in rw is (t.0, tt, t.2 (stop (Err faults.Endless)) t.0 (refl, refl))
  at seens.Unwritten e is = rw is (p.begun.1, tt, p.begun)
  at seens.Memory e is = rw is (p.begun.1, tt, p.begun)
  at seen e is = absurd is

-- ---- all turns

-- From a moment to another a driver took lines, and its handler was at some states before and is at some now.
abbrev pub Drove : {S F T : Type 0} → Grouping → (InputLine → T → Type 0) → Steps S F → (S → Type 0) → (S → Type 0) → Moment T → Moment T → Type 0
Drove by says Does was_at is_at a b = (printed : List ℕ) × (moves : Moves a b printed)
    × ((s : _) → was_at s → (more : List ℕ) (cut : Bool) → MayCome b.lines more cut → KnowsLines says b.lines → Goes Does is_at (OutcomeAt by Does a.lines s (moves.given ++ more) cut) (Rest by b.lines None more cut) printed)

pub drive_starts : {S F T : Type 0} (by : Grouping) (says : InputLine → T → Type 0) (Does : Steps S F) (is_at : S → Type 0) (m : Moment T) → Total Does → m.lines.seen ≡ seens.Nothing → Drove by says Does is_at is_at m m
unfolding Moves-none
drive_starts by says Does is_at m total seen =
    ([], Moves-none m, λ s at more cut may sound. goes_on by Does is_at (OutcomeAt by Does m.lines s more cut) m.lines more cut [] total (rw seen refl) (λ is rest. (s, at, λ o u one. rw before-nil (is, rest, one))))

pub drive_goes : {S F T : Type 0} {a b c d : Moment T} (by : Grouping) (says : InputLine → T → Type 0) (Does : Steps S F) (was_at is_at is_then : S → Type 0) (first : First T) → Total Does → KnowsLines says b.lines → TakesNext {F = F} says by b c (Ok (Some first))
    → Handles {U = Unit {0}} by Does is_at is_then first c d (Ok tt) → Drove by says Does was_at is_at a b → Drove by says Does was_at is_then a d
unfolding Moves-then
drive_goes {a = a} {b = b} {c = c} {d = d} by says Does was_at is_at is_then first total sound n h p = (
  p.0 ++ h.0,
  Moves-then a b d p.0 h.0 p.1 (Moves-then b c d [] h.0 n.0 h.1),
  λ s at more cut may sound_then.
      let before_it = h.1.may more cut may in
      let so_far = p.2 s at (n.0.given ++ (h.1.given ++ more)) cut (n.0.may (h.1.given ++ more) cut before_it) sound in
      rw (append_assoc p.1.given (n.0.given ++ h.1.given) more, append_assoc n.0.given h.1.given more)
      (went by says Does is_at is_then (OutcomeAt by Does a.lines s (p.1.given ++ (n.0.given ++ (h.1.given ++ more))) cut) first b.lines c.lines d.lines n.0.given h.1.given more p.0 h.0 cut total n.1 h.2 sound_then may before_it so_far),
)

pub drive_stops : {S F T : Type 0} {a b c d : Moment T} (by : Grouping) (says : InputLine → T → Type 0) (Does : Steps S F) (was_at is_at is_then : S → Type 0) (first : First T) (e : Stop F) → Total Does → KnowsLines says b.lines → TakesNext {F = F} says by b c (Ok (Some first))
    → Handles {U = Unit {0}} by Does is_at is_then first c d (Err e) → Drove by says Does was_at is_at a b → DrivesAll by Does was_at is_then a d (Err (driver_fault c.lines.done e))
unfolding Moves-then
drive_stops {a = a} {b = b} {c = c} {d = d} by says Does was_at is_at is_then first e total sound n h p = (
  p.0 ++ h.0,
  Moves-then a b d p.0 h.0 p.1 (Moves-then b c d [] h.0 n.0 h.1),
  λ s at more cut may.
      let before_it = h.1.may more cut may in
      let so_far = p.2 s at (n.0.given ++ (h.1.given ++ more)) cut (n.0.may (h.1.given ++ more) cut before_it) sound in
      rw (append_assoc p.1.given (n.0.given ++ h.1.given) more, append_assoc n.0.given h.1.given more)
      (stopped by says Does is_at is_then (OutcomeAt by Does a.lines s (p.1.given ++ (n.0.given ++ (h.1.given ++ more))) cut) first b.lines c.lines d.lines n.0.given h.1.given more p.0 h.0 cut e total n.1 h.2 before_it so_far),
)

pub drive_ends : {S F T : Type 0} {a b c : Moment T} (by : Grouping) (says : InputLine → T → Type 0) (Does : Steps S F) (was_at is_at : S → Type 0) (result : Result (Option (First T)) (DriveFault F)) → KnowsLines says b.lines → Reads by b c [] [] → EndsBy c.lines.seen result
    → Drove by says Does was_at is_at a b → DrivesAll by Does was_at is_at a c (told c.lines.done result)
unfolding Moves-then
drive_ends {a = a} {b = b} {c = c} by says Does was_at is_at result sound r is_end p = (
  p.0 ++ [],
  Moves-then a b c p.0 [] p.1 r.moves,
  λ s at more cut may.
      let so_far = p.2 s at (r.moves.given ++ more) cut (r.moves.may more cut may) sound in
      rw (append_assoc p.1.given r.moves.given more, append-nil p.0)
      (ended by Does is_at (OutcomeAt by Does a.lines s (p.1.given ++ (r.moves.given ++ more)) cut) b.lines c.lines r.moves.given more p.0 cut result is_end (λ is rest. r.joins None more cut is tt may rest) so_far),
)
