-- A session of judged members that keeps to times is one of self-managing members that does.
use Rattle.std.proofs.Common.{◌≡◌, ◌<◌, ◌≤◌, ℕ, Bool, true, false, List, [], ◌∷◌, ◌++◌, ◌∙◌, None, ap, arith, eqb-true, map, refl, subst, sym, ⊎_elim}
use Rattle.std.specs.Prelude.{Contains, Option, Some, nat_eq, nat_lt}
use Rattle.std.proofs.lemmas.Bool.{ltb-false, ltb-true}
use Rattle.std.proofs.lemmas.List.Elements.{Contains-append_right}
use Rattle.wb_names.proofs.Listings.{Contains-cases, Contains-here, Contains-none}
use Rattle.wb_codec.specs.declared.datagram.Datagram.{Datagram}
use Rattle.wb_judge.specs.declared.verdict.Why.{Why}
use Rattle.wb_recovery.specs.declared.tuning.Tuning.{Tuning}
use Rattle.wb_progress.specs.Bounds.{IsUnder}
use Rattle.wb_progress.specs.Turns.{IsNowAt, Terms, longest}
use Rattle.wb_member.specs.Opened.{present}
use Rattle.wb_keeping.specs.Laws.{Added, Came, KeptLine, Ticked, Tuned, doing_of}
use Rattle.wb_keeping.specs.Performing.{after_doing}
use Rattle.wb_judging.specs.Handing.{handed, handed_for, recalled, verdict_on}
use Rattle.wb_judging.specs.Judged.{Judged, moment_of}
use Rattle.wb_judging.specs.declared.call.Call.{Call}
use Rattle.wb_judging.specs.declared.call.Call.TheVariants.{CameFrom, Held, Passed, UserDrew}
use Rattle.wb_judging.specs.Laws.{expanded}
use Rattle.wb_judging.specs.Performing.{after_judged, after_kept_line}
use Rattle.wb_judging.specs.declared.record.RecordLine.{RecordLine}
use Rattle.wb_judging.specs.declared.record.RecordLine.TheVariants.{Known, Mark, Owner, Said, Strange, Tick}
use Rattle.wb_laws_kept.specs.Openings.{opened_host}
use Rattle.wb_laws_kept.specs.Sessions.{At}
use Rattle.wb_kept_progress.specs.Since.{AreFittingSince as AreKeptFitting, IsFitting, IsFittingSince as IsKeptFitting}
use Rattle.wb_kept_progress.proofs.Moments.{moment_of as kept_moment, told_itself}
use Rattle.wb_kept_progress.proofs.StillCalls.{IsTuning, call_now}
use Rattle.wb_judged_sessions.specs.Calls.{IsLineTaken, IsTaken, JudgedCall, plain_line, Start, started, Starts, Takes, Tunes}
use Rattle.wb_judged_sessions.specs.Sessions.{judged_at, kept_calls, kept_then, lines_then}
use Rattle.wb_judged_sessions.specs.Terms.{AreTaken}
use Rattle.wb_judged_sessions.specs.Timely.{AreFittingSince, IsFittingSince, IsNoStart}
use Rattle.wb_judged_sessions.proofs.Kept.{at}
use Rattle.wb_judged_sessions.proofs.Records.{number_at}
use Rattle.wb_judged_sessions.proofs.Terms.{begins}
use Rattle.wb_laws_kept.specs.Calls.{Begins, Call as KeptCall, Handed}
use Rattle.wb_kept_progress.specs.Timed.{AreInOrder, time_of}
use Rattle.wb_progress.proofs.Parts.{no_later}

-- ---- times

module _ (time place : ℕ) where
  called_lines : (lines : List KeptLine) (older : List (At KeptCall)) → time_of older ≡ time → time_of (lines_then time place lines older) ≡ time
  called_lines [] older is = is
  called_lines (line ∷ lines) older is = called_lines lines (at time place line ∷ older) refl

  called_call : (numbers : ℕ → ℕ) (call : JudgedCall) (h : Judged) (older : List (At KeptCall)) → time_of (kept_then time place call h older) ≡ time
  called_call numbers (Starts start given) h older = called_lines (expanded (map Held given) (started h.kept.host.is.number start)) (begins numbers time place start ∷ older) refl
  called_call numbers (Takes line) h older = refl
  called_call numbers (Tunes constants) h older = refl

  order_lines : (lines : List KeptLine) (older : List (At KeptCall)) → time_of older ≤ time → AreInOrder older → AreInOrder (lines_then time place lines older)
  order_lines [] older le order = order
  order_lines (line ∷ lines) older le order = order_lines lines (at time place line ∷ older) (omega arith) (le, order)

  order_call : (numbers : ℕ → ℕ) (call : JudgedCall) (h : Judged) (older : List (At KeptCall)) → time_of older ≤ time → AreInOrder older → AreInOrder (kept_then time place call h older)
  order_call numbers (Starts start given) h older le order =
      order_lines (expanded (map Held given) (started h.kept.host.is.number start)) (begins numbers time place start ∷ older) (omega arith) (le, order)
  order_call numbers (Takes line) h older le order = (le, order)
  order_call numbers (Tunes constants) h older le order = (le, order)

module _ (numbers : ℕ → ℕ) where
  pub called_kept : (calls : List (At JudgedCall)) → time_of (kept_calls numbers calls) ≡ time_of calls
  called_kept [] = refl
  called_kept (e ∷ older) = called_call e.time e.place numbers e.event (judged_at numbers older e.place) (kept_calls numbers older)

  pub order_kept : (calls : List (At JudgedCall)) → AreInOrder calls → AreInOrder (kept_calls numbers calls)
  order_kept [] order = tt
  order_kept (e ∷ older) order =
      order_call e.time e.place numbers e.event (judged_at numbers older e.place) (kept_calls numbers older) (subst (λ (t : ℕ). t ≤ e.time) (sym (called_kept older)) order.0) (order_kept older order.1)

-- times of the newer calls are no earlier
pub later_calls : (newer older : List (At JudgedCall)) → AreInOrder (newer ++ older) → (c : At JudgedCall) → Contains newer c → time_of older ≤ c.time
later_calls [] older order c among = absurd (Contains-none c among)
later_calls (e ∷ newer) older order c among = ⊎_elim
    (λ (now : e ≡ c). subst (λ (x : At JudgedCall). time_of older ≤ x.time) now (by newer order.0 order.1 (later_calls newer older order.1)))
    (λ (before : Contains newer c). later_calls newer older order.1 c before)
    (Contains-cases e c newer among) where
      by : (newer : List (At JudgedCall)) → time_of (newer ++ older) ≤ e.time → AreInOrder (newer ++ older) → ((c : At JudgedCall) → Contains newer c → time_of older ≤ c.time)
          → time_of older ≤ e.time
      by [] le order rest = le
      by (x ∷ newer) le order rest = let first = rest x (Contains-here x newer) in omega (arith, le, first)

-- ---- moments

pub recalled_now : (line : RecordLine) (now : ℕ) → kept_moment (recalled now line) ≡ now
recalled_now (Tick past) now = refl
recalled_now (Said d) now = refl
recalled_now (Known d) now = refl
recalled_now (Strange d) now = refl
recalled_now (Mark speaker page mark) now = refl
recalled_now (Owner number place owner) now = refl

pub present_recalled : (line : RecordLine) (h : Judged) → present (after_judged (Held line) h).kept.host ≡ present h.kept.host
unfolding after_kept_line
present_recalled line h =
    let call = recalled (present h.kept.host) line in
    ⊎_elim
    (λ (t : IsTuning (doing_of call) h.kept). t.now_is)
    (λ (now : present (after_doing (doing_of call) h.kept).host ≡ kept_moment call). now ∙ recalled_now line (present h.kept.host))
    (call_now call h.kept (kept_moment call) (told_itself call))

-- a line that says a moment of its time, and sets no constants
module _ (terms : Terms) (time place : ℕ) where
  fits_recalled : (now : ℕ) (line : RecordLine) → IsNowAt terms time place now → IsFitting terms time place (recalled now line)
  fits_recalled now (Tick past) is = record { says = is; tuned = λ constants e. absurd cc }
  fits_recalled now (Said d) is = record { says = is; tuned = λ constants e. absurd cc }
  fits_recalled now (Known d) is = record { says = is; tuned = λ constants e. absurd cc }
  fits_recalled now (Strange d) is = record { says = is; tuned = λ constants e. absurd cc }
  fits_recalled now (Mark speaker page mark) is = record { says = is; tuned = λ constants e. absurd cc }
  fits_recalled now (Owner number spot owner) is = record { says = is; tuned = λ constants e. absurd cc }

  fits_came : (now : ℕ) (v : Datagram) (why : Option Why) → IsNowAt terms time place now → IsFitting terms time place (plain_line (handed_for now v why))
  fits_came now v None is = record { says = is; tuned = λ constants e. absurd cc }
  fits_came now v (Some why) is = record { says = is; tuned = λ constants e. absurd cc }

  fits_plain : (line : KeptLine) → IsFitting terms time place line → IsFitting terms time place (plain_line line)
  fits_plain (Came now v) fits = record { says = fits.says; tuned = λ constants e. absurd cc }
  fits_plain (Ticked now) fits = fits
  fits_plain (Added now page t op) fits = fits
  fits_plain (Tuned constants) fits = fits

  fits_line : (line : Call) (h : Judged) → IsNowAt terms time place (moment_of line h) → IsFitting terms time place (plain_line (handed line h))
  fits_line (CameFrom now o v) h is = fits_came now v (verdict_on now o v h).why is
  fits_line (Passed now news) h is = record { says = is; tuned = λ constants e. absurd cc }
  fits_line (UserDrew now page op) h is = record { says = is; tuned = λ constants e. absurd cc }
  fits_line (Held line) h is = fits_plain (recalled (present h.kept.host) line) (fits_recalled (present h.kept.host) line is)

  fits_tuned : (constants : Tuning) → IsUnder (longest terms) constants → IsFitting terms time place (Tuned constants)
  fits_tuned constants is = record { says = tt; tuned = λ others e. let same : constants ≡ others = cc in subst (λ (t : Tuning). IsUnder (longest terms) t) same is }

  abbrev Fit : List KeptLine → Type 0
  Fit [] = Unit {0}
  Fit (line ∷ lines) = IsFitting terms time place line × Fit lines

  fits_record : (given : List RecordLine) (h : Judged) (now : ℕ) → present h.kept.host ≡ now → IsNowAt terms time place now → Fit (expanded (map Held given) h)
  fits_record [] h now same is = tt
  fits_record (line ∷ given) h now same is =
      let here = subst (λ (t : ℕ). IsNowAt terms time place t) (sym same) is in
      (fits_recalled (present h.kept.host) line here, fits_record given (after_judged (Held line) h) now (present_recalled line h ∙ same) is)

-- ---- what is fitting since the last start

module _ (terms : Terms) (number i time place : ℕ) where
  -- lines at the place, and elsewhere
  fit_there : nat_eq place i ≡ true → (lines : List KeptLine) (older : List (At KeptCall)) → Fit terms time i lines → AreKeptFitting terms number i older
      → AreKeptFitting terms number i (lines_then time place lines older)
  fit_there here [] older fit rest = rest
  fit_there here (line ∷ lines) older fit rest =
      fit_there here lines (at time place line ∷ older) fit.1
      (subst (λ (b : Bool). IsKeptFitting terms number i b time (Handed line) (AreKeptFitting terms number i older)) (sym here) (fit.0, rest))

  fit_elsewhere : nat_eq place i ≡ false → (lines : List KeptLine) (older : List (At KeptCall)) → AreKeptFitting terms number i older → AreKeptFitting terms number i (lines_then time place lines older)
  fit_elsewhere other [] older rest = rest
  fit_elsewhere other (line ∷ lines) older rest =
      fit_elsewhere other lines (at time place line ∷ older) (subst (λ (b : Bool). IsKeptFitting terms number i b time (Handed line) (AreKeptFitting terms number i older)) (sym other) rest)

  fit_takes : (b : Bool) → nat_eq place i ≡ b → (line : Call) (h : Judged) (older : List (At KeptCall)) (before : Type 0) → IsFittingSince terms number i b time (Takes line) h before
      → (before → AreKeptFitting terms number i older)
      → AreKeptFitting terms number i (lines_then time place (plain_line (handed line h) ∷ []) older)
  fit_takes true here line h older before is rest = fit_there here (plain_line (handed line h) ∷ []) older (fits_line terms time i line h is.0, tt) (rest is.1)
  fit_takes false other line h older before is rest = fit_elsewhere other (plain_line (handed line h) ∷ []) older (rest is)

  fit_starts : (numbers : ℕ → ℕ) (b : Bool) → nat_eq place i ≡ b → (start : Start) (given : List RecordLine) (h : Judged) → h.kept.host.is.number ≡ number → (older : List (At KeptCall)) (before : Type 0)
      → IsFittingSince terms number i b time (Starts start given) h before → (before → AreKeptFitting terms number i older)
      → AreKeptFitting terms number i (kept_then time place (Starts start given) h older)
  fit_starts numbers true here start given h own older before is rest =
      let first = started h.kept.host.is.number start in
      let now = subst (λ (n : ℕ). IsNowAt terms time i (present (opened_host n start.opening))) (sym own) is.1 in
      fit_there here (expanded (map Held given) first) (begins numbers time place start ∷ older) (fits_record terms time i given first (present first.kept.host) refl now)
      (subst (λ (b : Bool). IsKeptFitting terms number i b time (Begins start.opening []) (AreKeptFitting terms number i older)) (sym here) is)
  fit_starts numbers false other start given h own older before is rest =
      fit_elsewhere other (expanded (map Held given) (started h.kept.host.is.number start)) (begins numbers time place start ∷ older)
      (subst (λ (b : Bool). IsKeptFitting terms number i b time (Begins start.opening []) (AreKeptFitting terms number i older)) (sym other) (rest is))

  fit_call : (numbers : ℕ → ℕ) (call : JudgedCall) (h : Judged) → (nat_eq place i ≡ true → h.kept.host.is.number ≡ number) → (older : List (At KeptCall)) (before : Type 0)
      → IsFittingSince terms number i (nat_eq place i) time call h before → (before → AreKeptFitting terms number i older) → AreKeptFitting terms number i (kept_then time place call h older)
  fit_call numbers (Takes line) h own older before is rest = fit_takes (nat_eq place i) refl line h older before is rest
  fit_call numbers (Tunes constants) h own older before is rest = by (nat_eq place i) refl is where
    by : (b : Bool) → nat_eq place i ≡ b → IsFittingSince terms number i b time (Tunes constants) h before → AreKeptFitting terms number i (lines_then time place (Tuned constants ∷ []) older)
    by true here is = fit_there here (Tuned constants ∷ []) older (fits_tuned terms time i constants is.0, tt) (rest is.1)
    by false other is = fit_elsewhere other (Tuned constants ∷ []) older (rest is)
  fit_call numbers (Starts start given) h own older before is rest = by (nat_eq place i) refl is where
    by : (b : Bool) → nat_eq place i ≡ b → IsFittingSince terms number i b time (Starts start given) h before → AreKeptFitting terms number i (kept_then time place (Starts start given) h older)
    by true here is = fit_starts numbers true here start given h (own here) older before is rest
    by false other is =
        fit_elsewhere other (expanded (map Held given) (started h.kept.host.is.number start)) (begins numbers time place start ∷ older)
        (subst (λ (b : Bool). IsKeptFitting terms number i b time (Begins start.opening []) (AreKeptFitting terms number i older)) (sym other) (rest is))

pub fit_kept : (numbers : ℕ → ℕ) (terms : Terms) (i : ℕ) (calls : List (At JudgedCall)) → AreFittingSince terms numbers i calls → AreKeptFitting terms (numbers i) i (kept_calls numbers calls)
fit_kept numbers terms i [] is = absurd is
fit_kept numbers terms i (e ∷ older) is =
    fit_call terms (numbers i) i e.time e.place numbers e.event (judged_at numbers older e.place) (λ here. number_at numbers older e.place ∙ ap numbers (eqb-true e.place i here))
    (kept_calls numbers older) (AreFittingSince terms numbers i older) is (fit_kept numbers terms i older)

-- ---- a call after `quiet` is one line

pub taken_call : (numbers : ℕ → ℕ) (newer older : List (At JudgedCall)) (e : At JudgedCall) → AreTaken numbers (newer ++ e ∷ older) → IsTaken e.event (judged_at numbers older e.place)
taken_call numbers [] older e taken = taken.0
taken_call numbers (x ∷ newer) older e taken = taken_call numbers newer older e taken.1

pub taken_at : (numbers : ℕ → ℕ) (newer older : List (At JudgedCall)) (e : At JudgedCall) (line : Call) → AreTaken numbers (newer ++ e ∷ older) → e.event ≡ Takes line
    → IsLineTaken line (judged_at numbers older e.place)
taken_at numbers newer older e line taken takes = subst (λ (call : JudgedCall). IsTaken call (judged_at numbers older e.place)) takes (taken_call numbers newer older e taken)

pub takes_is : (numbers : ℕ → ℕ) (e : At JudgedCall) (older : List (At JudgedCall)) (line : Call) → e.event ≡ Takes line
    → kept_calls numbers (e ∷ older) ≡ at e.time e.place (plain_line (handed line (judged_at numbers older e.place))) ∷ kept_calls numbers older
takes_is numbers e older line takes = ap (λ (call : JudgedCall). kept_then e.time e.place call (judged_at numbers older e.place) (kept_calls numbers older)) takes

-- what a self-managing member is handed by a call that is no start
abbrev pub line_for : (call : JudgedCall) → IsNoStart call → Judged → KeptLine
line_for (Starts start given) steady h = absurd steady
line_for (Takes line) steady h = plain_line (handed line h)
line_for (Tunes constants) steady h = Tuned constants

pub line_is : (numbers : ℕ → ℕ) (e : At JudgedCall) (older : List (At JudgedCall)) (steady : IsNoStart e.event)
    → kept_calls numbers (e ∷ older) ≡ at e.time e.place (line_for e.event steady (judged_at numbers older e.place)) ∷ kept_calls numbers older
line_is numbers e older steady = by e.event steady where
  h : Judged
  h = judged_at numbers older e.place

  by : (call : JudgedCall) (steady : IsNoStart call) → kept_then e.time e.place call h (kept_calls numbers older) ≡ at e.time e.place (line_for call steady h) ∷ kept_calls numbers older
  by (Starts start given) steady = absurd steady
  by (Takes line) steady = refl
  by (Tunes constants) steady = refl

-- a call of a self-managing member is that of a judged one
pub record FromCall (numbers : ℕ → ℕ) (calls : List (At JudgedCall)) (e : At KeptCall) (older : List (At KeptCall)) : Type 0 where
  pub later : List (At JudgedCall)
  pub call : At JudgedCall
  pub before : List (At JudgedCall)
  pub split : calls ≡ later ++ call ∷ before
  pub steady : IsNoStart call.event
  pub is : e ≡ at call.time call.place (line_for call.event steady (judged_at numbers before call.place))
  pub older_is : older ≡ kept_calls numbers before

one_more : (numbers : ℕ → ℕ) (calls : List (At JudgedCall)) (c : At JudgedCall) (e : At KeptCall) (older : List (At KeptCall)) → FromCall numbers calls e older → FromCall numbers (c ∷ calls) e older
one_more numbers calls c e older f =
    record { later = c ∷ f.later; call = f.call; before = f.before; split = ap (λ (cs : List (At JudgedCall)). c ∷ cs) f.split; steady = f.steady; is = f.is; older_is = f.older_is }

abbrev NoneStarts : ℕ → List (At JudgedCall) → Type 0
NoneStarts quiet calls = (newer older : List (At JudgedCall)) (e : At JudgedCall) → calls ≡ newer ++ e ∷ older → quiet < e.time → IsNoStart e.event

pub from_call : (numbers : ℕ → ℕ) (quiet : ℕ) (calls : List (At JudgedCall)) → AreInOrder calls → NoneStarts quiet calls → (newer older : List (At KeptCall)) (e : At KeptCall)
    → kept_calls numbers calls ≡ newer ++ e ∷ older → quiet < e.time → FromCall numbers calls e older
from_call numbers quiet [] order alone newer older e split late =
    absurd (Contains-none e (subst (λ (cs : List (At KeptCall)). Contains cs e) (sym split) (Contains-append_right newer (e ∷ older) e (Contains-here e older))))
from_call numbers quiet (c ∷ rest) order alone newer older e split late =
    by (nat_lt quiet c.time) refl
    (λ newer split. from_call numbers quiet rest order.1 (λ newer older e split late. alone (c ∷ newer) older e (ap (λ (cs : List (At JudgedCall)). c ∷ cs) split) late) newer older e split late) where
      kept : List (At KeptCall)
      kept = kept_calls numbers (c ∷ rest)

      among : Contains kept e
      among = subst (λ (cs : List (At KeptCall)). Contains cs e) (sym split) (Contains-append_right newer (e ∷ older) e (Contains-here e older))

      early : nat_lt quiet c.time ≡ false → ⊥
      early above =
          let le = no_later kept e (order_kept numbers (c ∷ rest) order) among in
          let at_c = called_kept numbers (c ∷ rest) in
          let not = ltb-false quiet c.time above in
          omega (arith, le, at_c, late, not)

      with_line : (t : IsNoStart c.event) → ((newer : List (At KeptCall)) → kept_calls numbers rest ≡ newer ++ e ∷ older → FromCall numbers rest e older)
          → (newer : List (At KeptCall)) → at c.time c.place (line_for c.event t (judged_at numbers rest c.place)) ∷ kept_calls numbers rest ≡ newer ++ e ∷ older → FromCall numbers (c ∷ rest) e older
      with_line t again [] split = record { later = []; call = c; before = rest; split = refl; steady = t; is = sym cc; older_is = sym cc }
      with_line t again (x ∷ newer) split =
          let same : kept_calls numbers rest ≡ newer ++ e ∷ older = cc in
          one_more numbers rest c e older (again newer same)

      by : (b : Bool) → nat_lt quiet c.time ≡ b → ((newer : List (At KeptCall)) → kept_calls numbers rest ≡ newer ++ e ∷ older → FromCall numbers rest e older) → FromCall numbers (c ∷ rest) e older
      by true is again = let t = alone [] rest c refl (ltb-true _ _ is) in with_line t again newer (sym (line_is numbers c rest t) ∙ split)
      by false is again = absurd (early is)
