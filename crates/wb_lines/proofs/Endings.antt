-- From all lines of a driver to its outcome.
use Rattle.std.proofs.Common.{subst, ◌≡◌, ℕ, Bool, true, false, List, [], ◌++◌, Result, Ok, Err, inl, inr, refl, sym, ap, ◌∙◌, append_assoc, Option, Some, None, append-nil}
use Rattle.std.specs.Io.KnownBytes.{Appends, Consumes, IsAtEnd}
use Rattle.std.proofs.lemmas.Bool.{false≢true}
use Rattle.wb_lines.specs.declared.fault.DriveFault.{DriveFault}
use Rattle.wb_lines.specs.declared.fault.DriveFault.TheVariants as faults
use Rattle.wb_lines.specs.declared.lines.Seen.{Seen}
use Rattle.wb_lines.specs.declared.lines.Seen.TheVariants as seens
use Rattle.wb_lines.specs.Ahead.{Ahead, ReadsAhead}
use Rattle.wb_lines.specs.Input.{input_lines, MayRemain}
use Rattle.wb_lines.specs.Items.{Items, Grouping, items_from}
use Rattle.wb_lines.specs.Groups.{Steps, IsOutcomeOf, IsOutcome, group_rules}
use Rattle.wb_lines.specs.Driving.{Outcome, writes, before, stop, Gave, IsStop, Meets}
use Rattle.wb_lines.specs.Moments.{LinesValue, MayCome, Moment, moment, Moves, FailuresHappened, at_start}
use Rattle.wb_lines.specs.Output.{SendsOut}
use Rattle.wb_lines.specs.Steps.{Begins, OutcomeAt, Answers, IsLeftAt, EndsSo, DrivesAll, Settles, Closes, MeetsOne}
use Rattle.wb_lines.proofs.KnownBytes.{Appends-none, Consumes-none, SendsOut-then}
use Rattle.wb_lines.proofs.Outcomes.{Total, some_outcome}

-- nothing was read yet
abbrev pub fresh : Ahead
fresh = record { bytes = []; ended = false }

-- ---- the text

settled : {F : Type 0} (x y left : List ℕ) (end result : Result ℕ (DriveFault F)) → Settles (stop end) y left result → Settles (before x (stop end)) (x ++ y) left result
settled x y left end result (inl m) = inl (ap (λ (s : List ℕ). x ++ s) m.0, m.1, m.2)
settled x y left end result (inr m) = inr (m.0, (m.1.0, ap (λ (s : List ℕ). x ++ s) m.1.1 ∙ sym (append_assoc x y m.1.0)))

settles_stop : {F : Type 0} (o : Outcome F) (x y left : List ℕ) (e : DriveFault F) (result : Result ℕ (DriveFault F)) → Begins o x → IsStop e → y ≡ [] → result ≡ Err e → Settles o (x ++ y) left result
settles_stop (writes t f) x y left e result b halts none is =
    let all : x ++ y ≡ x = ap (λ (s : List ℕ). x ++ s) none ∙ append-nil x in
    inr (rw is halts, rw all b)

-- what was sent of a text is all of it, or a front where the driver stopped
sent_of : {F : Type 0} (o : Outcome F) (text sent left : List ℕ) (result : Result ℕ (DriveFault F)) → text ≡ sent ++ left → Settles o text left result → Meets o sent result
sent_of (writes t end) text sent left result e (inl m) = inl (sym (append-nil sent) ∙ ap (λ (x : List ℕ). sent ++ x) (sym m.1) ∙ sym e ∙ m.0, m.2)
sent_of (writes t end) text sent left result e (inr m) = inr (m.0, (left ++ m.1.0, m.1.1 ∙ ap (λ (x : List ℕ). x ++ m.1.0) e ∙ append_assoc sent left m.1.0))

-- ---- the input

-- The bytes that were given are an input, with those that may still come where the source has not failed.
record Input (ended failed : Bool) (left left' : Option (List ℕ)) (given : List ℕ) : Type 0 where
  pub more : List ℕ
  pub gave : Gave left left' failed (given ++ more)
  pub remains : MayRemain ended failed more

given_alone : (ended failed : Bool) → (given : List ℕ) → (left left' : Option (List ℕ)) → Gave left left' failed given → Input ended failed left left' given
given_alone ended failed given left left' gave = record {
  more = [];
  gave = subst (Gave left left' failed) (sym (append-nil given)) gave;
  remains = record { none_after_end = λ e. refl; none_after_failure = λ e. refl };
}

input_of : (ended failed : Bool) (left left' : Option (List ℕ)) (given : List ℕ) → Consumes left left' given → (ended ≡ true → IsAtEnd left') → Input ended failed left left' given
input_of ended failed None left' given c at_end = given_alone ended failed given None left' tt
input_of ended failed (Some all) None given c at_end = absurd c
input_of ended true (Some all) (Some rest) given c at_end = given_alone ended true given (Some all) (Some rest) c
input_of ended false (Some all) (Some rest) given c at_end = record { more = rest; gave = c; remains = record { none_after_end = at_end; none_after_failure = λ h. absurd (false≢true h) } }

input_from : (r : Ahead) (left left' : Option (List ℕ)) (failed failed' : Bool) (given : List ℕ) → ReadsAhead fresh r left left' failed failed' given → Input r.ended failed' left left' given
input_from r left left' failed failed' given pulls = input_of r.ended failed' left left' given pulls.consumes (pulls.at_end (λ e. absurd (false≢true e)))

-- if nothing was read or written
input_none : (left : Option (List ℕ)) (failed : Bool) → Input false failed left left []
input_none left failed = input_of false failed left left [] (Consumes-none left) (λ e. absurd (false≢true e))

-- ---- what may still come

pub may_come : {T : Type 0} (m : Moment T) (more : List ℕ) → FailuresHappened m → (m.lines.reader.ended ≡ true → m.failed ≡ false) → MayRemain m.lines.reader.ended m.failed more → MayCome m.lines more m.failed
may_come {T = T} m more is_true working may = at m.lines.seen refl where
  plain : m.lines.reader.ended ≡ true → (more ≡ []) × (m.failed ≡ false)
  plain e = (may.none_after_end e, working e)

  at : (seen : Seen T) → m.lines.seen ≡ seen → MayCome m.lines more m.failed
  at seens.Failed e = let failed = is_true.failed e in rw e (may.none_after_failure failed, failed)
  at (seens.Line said) e = rw e plain
  at seens.Nothing e = rw e plain
  at seens.TooLong e = rw e plain
  at seens.End e = rw e plain
  at seens.TooMany e = rw e plain
  at seens.Unwritten e = rw e plain
  at seens.Memory e = rw e plain

-- ---- the outcome

left_where : {S F : Type 0} (is_at : S → Type 0) (t : S) (result : Result ℕ (DriveFault F)) → is_at t → IsLeftAt is_at t result
left_where is_at t (Ok n) at_t = at_t
left_where is_at t (Err e) at_t = tt

left_after : {S F : Type 0} (is_at : S → Type 0) (t : S) (result : Result ℕ (DriveFault F)) (e : DriveFault F) (y left : List ℕ) → Settles (stop (Err e)) y left result → IsLeftAt is_at t result
left_after is_at t (Ok n) e y left (inl m) = absurd cc
left_after is_at t (Ok n) e y left (inr m) = absurd m.0
left_after is_at t (Err f) e y left s = tt

-- an outcome that was met
met : {S F : Type 0} (A : Outcome F → S → Type 0) (is_at : S → Type 0) (x y sent left : List ℕ) (ending result : Result ℕ (DriveFault F)) → (x ++ y ≡ sent ++ left) → EndsSo is_at A x ending → Closes ending y left result → MeetsOne A is_at sent result
met {S = S} {F = F} A is_at x y sent left ending result split a c = at ending a.1 a.2 c where
  plain : (end : Result ℕ (DriveFault F)) → A (before x (stop end)) a.0 → Settles (stop end) y left result → IsLeftAt is_at a.0 result → MeetsOne A is_at sent result
  plain end one c left_at = (before x (stop end), a.0, one, left_at, sent_of (before x (stop end)) (x ++ y) sent left result split (settled x y left end result c))

  at : (ending : Result ℕ (DriveFault F)) → IsLeftAt is_at a.0 ending → Answers A x a.0 ending → Closes ending y left result → MeetsOne A is_at sent result
  at (Ok n) t one c = plain (Ok n) one c (left_where is_at a.0 result t)
  at (Err (faults.Line k e)) t one c = plain (Err (faults.Line k e)) one c (left_after is_at a.0 result (faults.Line k e) y left c)
  at (Err faults.Read) t one c = plain (Err faults.Read) one c (left_after is_at a.0 result faults.Read y left c)
  at (Err faults.Endless) t one c = plain (Err faults.Endless) one c (left_after is_at a.0 result faults.Endless y left c)
  at (Err faults.Memory) t one c = (one.0, one.1, one.2, rw c.1 tt, sent_of one.0 (x ++ y) sent left result split (settles_stop one.0 x y left faults.Memory result one.3 tt c.0 c.1))
  at (Err faults.Write) t one c = (one.0, one.1, one.2, rw c.1 tt, sent_of one.0 (x ++ y) sent left result split (settles_stop one.0 x y left faults.Write result one.3 tt c.0 c.1))

-- of some outcomes that are outcomes of an input
meets_of : {S F : Type 0} (A B : Outcome F → S → Type 0) (is_at : S → Type 0) (sent : List ℕ) (result : Result ℕ (DriveFault F)) → ((o : Outcome F) (u : S) → A o u → B o u) → MeetsOne A is_at sent result → MeetsOne B is_at sent result
meets_of A B is_at sent result h m = (m.0, m.1, h m.0 m.1 m.2, m.3, m.4)

-- From the first moment, at which nothing was read, to the last.
all_met : {S F T : Type 0} {a b : Moment T} (by : Grouping) (Does : Steps S F) (most : ℕ) (is_at : S → Type 0) (s : S) (x y sent left : List ℕ) (ending result : Result ℕ (DriveFault F)) (m : Moves a b x)
    → a.lines ≡ at_start most → FailuresHappened b → x ++ y ≡ sent ++ left → ((more : List ℕ) (cut : Bool) → MayCome b.lines more cut → EndsSo is_at (OutcomeAt by Does a.lines s (m.given ++ more) cut) x ending) → Closes ending y left result
    → (input : Input b.lines.reader.ended b.failed a.left b.left m.given) → MeetsOne (IsOutcome (group_rules by Does most) b.failed s (m.given ++ input.more)) is_at sent result
all_met {S = S} {F = F} {a = a} {b = b} by Does most is_at s x y sent left ending result m start is_true split d c input =
    meets_of (OutcomeAt by Does a.lines s (m.given ++ input.more) b.failed) (IsOutcome (group_rules by Does most) b.failed s (m.given ++ input.more)) is_at sent result
    (λ o u h. subst (λ (is : Items). IsOutcomeOf Does is s o u) (rw start at h.1) h.2) (met (OutcomeAt by Does a.lines s (m.given ++ input.more) b.failed) is_at x y sent left ending result split (d input.more b.failed may) c) where
      fresh_still : a.lines.reader.ended ≡ true → a.failed ≡ false
      fresh_still h = absurd (false≢true (sym (ap (λ (v : LinesValue _). v.reader.ended) start) ∙ h))

      may : MayCome b.lines input.more b.failed
      may = may_come b input.more is_true (m.pulls.working_at_end fresh_still) input.remains

-- at the start nothing was found of a source or a sink, so what is found later is true
pub true_later : {T : Type 0} {b : Moment T} (most : ℕ) (left taken : Option (List ℕ)) (failed stuck : Bool) (x : List ℕ) → Moves (moment (at_start most) [] left failed taken stuck) b x → FailuresHappened b
true_later most left taken failed stuck x m = m.true_still (record { failed = λ e. absurd cc; stuck = λ e. absurd cc })

-- What a driver read and wrote in all, from its start to where it closed.
abbrev pub MeetsAll : {S F : Type 0} → Grouping → Steps S F → ℕ → (S → Type 0) → (S → Type 0) → Option (List ℕ) → Option (List ℕ) → Bool → Option (List ℕ) → Option (List ℕ) → Result ℕ (DriveFault F) → Type 0
MeetsAll by Does most was_at is_at left left' failed taken taken' result = (input : List ℕ) × (written : List ℕ) × Gave left left' failed input × Appends taken taken' written
    × ((s : _) → was_at s → MeetsOne (IsOutcome (group_rules by Does most) failed s input) is_at written result)

pub meets_all : {S F T : Type 0} {b : Moment T} (by : Grouping) (Does : Steps S F) (most : ℕ) (was_at is_at : S → Type 0) (left taken taken' : Option (List ℕ)) (failed stuck : Bool) (waiting : List ℕ) (ending result : Result ℕ (DriveFault F))
    → DrivesAll by Does was_at is_at (moment (at_start most) [] left failed taken stuck) b ending
    → ((y : List ℕ) × SendsOut b.taken b.output taken' waiting y × Closes ending y waiting result) → MeetsAll by Does most was_at is_at left b.left b.failed taken taken' result
meets_all {b = b} by Does most was_at is_at left taken taken' failed stuck waiting ending result all end =
    let sends = SendsOut-then taken b.taken taken' [] b.output waiting all.0 end.0 all.1.sends end.1 in
    let input = input_from b.lines.reader left b.left failed b.failed all.1.given all.1.pulls in (
      all.1.given ++ input.more,
      sends.0,
      input.gave,
      sends.1,
      λ s at. all_met by Does most is_at s all.0 end.0 sends.0 waiting ending result all.1 refl (true_later most left taken failed stuck all.0 all.1) sends.2 (all.2 s at) end.2 input,
    )

-- memory ran out before anything was read
memory_met : {S F : Type 0} (by : Grouping) (Does : Steps S F) (most : ℕ) (is_at : S → Type 0) (cut : Bool) (s : S) (input : List ℕ) (result : Result ℕ (DriveFault F)) → Total Does → result ≡ Err faults.Memory → MeetsOne (IsOutcome (group_rules by Does most) cut s input) is_at [] result
memory_met {F = F} by Does most is_at cut s input result total e =
    let one = some_outcome Does total (items_from by most cut 0 None (input_lines input)) s in
    (one.o, one.u, one.is_one, rw e tt, rw e (empty_met one.o)) where
      empty_met : (o : Outcome F) → Meets o [] (Err faults.Memory)
      empty_met (writes text end) = inr (tt, (text, refl))

pub none_met : {S F : Type 0} (by : Grouping) (Does : Steps S F) (most : ℕ) (was_at : S → Type 0) (left taken : Option (List ℕ)) (failed : Bool) (result : Result ℕ (DriveFault F)) → Total Does → result ≡ Err faults.Memory → MeetsAll by Does most was_at was_at left left failed taken taken result
none_met by Does most was_at left taken failed result total e =
    let none = input_none left failed in (none.more, [], none.gave, Appends-none taken, λ s at. memory_met by Does most was_at failed s none.more result total e)
