-- A judged member draws what the self-managing one at its place draws.
use Rattle.std.proofs.Common.{◌≡◌, ℕ, Bool, true, false, cond, List, [], ◌∷◌, ◌++◌, ◌∙◌, None, ap, drop, eqb-true, length, map, refl, sym}
use Rattle.std.specs.Prelude.{Option, Some, nat_eq}
use Rattle.std.proofs.lemmas.List.{drop_at}
use Rattle.wb_names.specs.Arrivals.{Clash, New, Again, Left, Outcome, history_with}
use Rattle.wb_names.specs.Values.{DrawopValue}
use Rattle.wb_names.specs.declared.name.PageId.{PageId}
use Rattle.wb_names.specs.declared.parts.Op.{Op}
use Rattle.wb_codec.specs.declared.datagram.Datagram.{Datagram}
use Rattle.wb_codec.specs.declared.datagram.Datagram.TheVariants.{Draw}
use Rattle.wb_member.specs.Opened.{Opened, becomes, present, ticked}
use Rattle.wb_member.specs.declared.calls.Call.TheVariants as calls
use Rattle.wb_keeping.specs.Kept.{Line, Says, adds, and_then, drawing, ends_full, timed, Calls, ticks_at, drew}
use Rattle.wb_keeping.specs.Laws.{KeptLine, Added, Came, Ticked, Tuned, doing_of}
use Rattle.wb_keeping.specs.Performing.{Keeping, after_line, sees, view_of}
use Rattle.wb_keeping.proofs.EachLine.{Each, each_both, ends_each, then_each}
use Rattle.wb_judge.specs.declared.verdict.Why.{Why}
use Rattle.wb_judge.specs.Days.{time_of_day}
use Rattle.wb_judging.specs.Handing.{handed, handed_for, recalled, verdict_on}
use Rattle.wb_judging.specs.Judged.{Judged}
use Rattle.wb_judging.specs.declared.call.Call.{Call}
use Rattle.wb_judging.specs.declared.call.Call.TheVariants.{CameFrom, Held, Passed, UserDrew}
use Rattle.wb_judging.specs.Laws.{expanded}
use Rattle.wb_judging.specs.Performing.{after_judged, after_kept_line, gained}
use Rattle.wb_judging.specs.declared.record.RecordLine.{RecordLine}
use Rattle.wb_judging.specs.declared.record.RecordLine.TheVariants.{Known, Mark, Owner, Said, Strange, Tick}
use Rattle.wb_judging.proofs.Again.{all_dropped}
use Rattle.wb_laws_kept.specs.Sessions.{At, kept_at, steps_of}
use Rattle.wb_laws_kept.proofs.Honest.{came_given, moments_given, of_policy, ticks_given, timed_given}
use Rattle.wb_laws_kept.proofs.Replaying.{lines_stay, none}
use Rattle.wb_laws_kept.proofs.Steps.{kept_is_session}
use Rattle.wb_laws_sessions.specs.Drawn.{drawn_at as drawn_by_steps}
use Rattle.wb_laws_sessions.specs.Members.{drawn_by as drawn_in_deed, new_where, Does, Opens}
use Rattle.wb_laws_sessions.specs.Sessions.{Step, host_at, steps_then}
use Rattle.wb_laws_sessions.proofs.Honest.{IsGiven, given_draws_none}
use Rattle.wb_judged_sessions.specs.Calls.{drawn_by, JudgedCall, plain_line, Start, started, Starts, Takes, Tunes}
use Rattle.wb_judged_sessions.specs.Sessions.{drawn_at, DrawsAsKept, judged_at, kept_calls, kept_then, lines_then}
use Rattle.wb_judged_sessions.proofs.Kept.{at, judged_is_kept}
use Rattle.wb_laws_kept.specs.Calls.{Begins, Call as KeptCall}

-- ---- lines that draw nothing

abbrev pub any : DrawopValue → Type 0
any d = Unit {0}

if_none : {X : Type 0} (b : Bool) (xs ys : List X) → xs ≡ [] → cond b (xs ++ ys) ys ≡ ys
if_none {X} true xs ys e = ap (λ (zs : List X). zs ++ ys) e
if_none false xs ys e = refl

module _ (numbers : ℕ → ℕ) (time place : ℕ) (comes : DrawopValue → Type 0) where
  given_draws : (lines : List Line) (older : List Step) (i : ℕ) → Each (IsGiven comes) lines
      → drawn_by_steps numbers (steps_then time place (map Does lines) older) i ≡ drawn_by_steps numbers older i
  given_draws [] older i each = refl
  given_draws (line ∷ lines) older i each =
      given_draws lines (record { time = time; place = place; event = Does line } ∷ older) i each.1
      ∙ if_none (nat_eq place i) (drawn_in_deed (Does line) (host_at numbers older i)) (drawn_by_steps numbers older i) (given_draws_none comes line (host_at numbers older i) each.0)

-- ---- lines of self-managing members that draw nothing

abbrev pub DrawsNone : KeptLine → Type 0
DrawsNone (Came now v) = Unit {0}
DrawsNone (Ticked now) = Unit {0}
DrawsNone (Added now page time op) = ⊥
DrawsNone (Tuned constants) = Unit {0}

abbrev pub DrawNone : List KeptLine → Type 0
DrawNone [] = Unit {0}
DrawNone (line ∷ lines) = DrawsNone line × DrawNone lines

recalled_draws : (now : ℕ) (line : RecordLine) → DrawsNone (recalled now line)
recalled_draws now (Tick past) = tt
recalled_draws now (Said d) = tt
recalled_draws now (Known d) = tt
recalled_draws now (Strange d) = tt
recalled_draws now (Mark speaker page mark) = tt
recalled_draws now (Owner number place owner) = tt

pub plain_draws : (line : KeptLine) → DrawsNone line → DrawsNone (plain_line line)
plain_draws (Came now v) is = tt
plain_draws (Ticked now) is = tt
plain_draws (Added now page time op) is = is
plain_draws (Tuned constants) is = tt

pub record_draws : (given : List RecordLine) (h : Judged) → DrawNone (expanded (map Held given) h)
record_draws [] h = tt
record_draws (line ∷ given) h = (recalled_draws (present h.kept.host) line, record_draws given (after_judged (Held line) h))

pub came_draws : (now : ℕ) (v : Datagram) (why : Option Why) → DrawsNone (plain_line (handed_for now v why))
came_draws now v None = tt
came_draws now v (Some why) = tt

line_given : (line : KeptLine) (k : Keeping) → DrawsNone line → Each (IsGiven any) (doing_of line (sees k.host) k.policy).lines
line_given (Came now v) k is = came_given any now v (λ d e. tt) (sees k.host) k.policy
line_given (Ticked now) k is = ticks_given any now (sees k.host) k.policy
line_given (Added now page time op) k is = absurd is
line_given (Tuned constants) k is = (tt, tt)

module _ (numbers : ℕ → ℕ) (time place : ℕ) where
  lines_draw : (lines : List KeptLine) (older : List (At KeptCall)) (i : ℕ) → DrawNone lines
      → drawn_by_steps numbers (steps_of numbers (lines_then time place lines older)) i ≡ drawn_by_steps numbers (steps_of numbers older) i
  lines_draw [] older i each = refl
  lines_draw (line ∷ lines) older i each =
      let k = kept_at numbers older place in
      lines_draw lines (at time place line ∷ older) i each.1
      ∙ given_draws numbers time place any (doing_of line (sees k.host) k.policy).lines (steps_of numbers older) i (line_given line k each.0)

  start_draws : (start : Start) (older : List (At KeptCall)) (i : ℕ)
      → drawn_by_steps numbers (steps_of numbers (record { time = time; place = place; event = Begins start.opening [] } ∷ older)) i ≡ drawn_by_steps numbers (steps_of numbers older) i
  start_draws start older i =
      let o = start.opening in
      let opening : Step = record { time = time; place = place; event = Opens o.constants o.cells o.seed } in
      given_draws numbers time place any (ticks_at o.moments ++ []) (opening ∷ steps_of numbers older) i (each_both (IsGiven any) (ticks_at o.moments) [] (moments_given any o.moments) tt)
      ∙ if_none (nat_eq place i) [] (drawn_by_steps numbers (steps_of numbers older) i) refl

-- ---- a drawing

drop_new : (h : List DrawopValue) (d : DrawopValue) (o : Outcome) → drop (length h) (history_with h d o) ≡ new_where d o
drop_new h d (New place) = drop_at h (d ∷ []) (length h) refl
drop_new h d (Again place) = all_dropped h
drop_new h d (Clash place) = all_dropped h
drop_new h d Left = all_dropped h

module _ (now : ℕ) (page : PageId) (told : ℕ) (op : Op) (k : Keeping) where
  abbrev pub its : DrawopValue
  its = drawing (view_of (ticked now k.host)) page told op

  abbrev more : List Line
  more = (and_then ends_full timed (λ (lines : List Line). sees k.host (Calls (calls.Tick now) ∷ (Says (Draw its) ∷ lines))) (drew its (view_of (ticked now k.host)) k.policy)).lines

  more_given : (comes : DrawopValue → Type 0) → Each (IsGiven comes) more
  more_given comes =
      then_each (IsGiven comes) ends_full timed (ends_each (IsGiven comes) (of_policy comes)) (timed_given comes) (λ (lines : List Line). sees k.host (Calls (calls.Tick now) ∷ (Says (Draw its) ∷ lines))) (drew its (view_of (ticked now k.host)) k.policy)

  pub held_added : (after_kept_line (Added now page told op) k).host.is.held ≡ history_with k.host.is.held its (becomes its (ticked now k.host))
  unfolding after_kept_line
  held_added = (lines_stay more (after_line (Says (Draw its)) (ticked now k.host)) (more_given none)).held

  pub gained_added : gained (Added now page told op) k ≡ new_where its (becomes its (ticked now k.host))
  gained_added =
      ap (λ (held : List DrawopValue). drop (length k.host.is.held) held) held_added
      ∙ drop_new k.host.is.held its (becomes its (ticked now k.host))

  module _ (numbers : ℕ → ℕ) (time place : ℕ) (older : List Step) (i : ℕ) (there : host_at numbers older place ≡ k.host) where
    abbrev before : List DrawopValue
    before = drawn_by_steps numbers older i

    added_draws : drawn_by_steps numbers (steps_then time place (map Does (adds now page told op (sees k.host) k.policy).lines) older) i
        ≡ cond (nat_eq place i) (gained (Added now page told op) k ++ before) before
    added_draws =
        let tick : Step = record { time = time; place = place; event = Does (Calls (calls.Tick now)) } in
        let says : Step = record { time = time; place = place; event = Does (Says (Draw its)) } in
        given_draws numbers time place any more (says ∷ (tick ∷ older)) i (more_given any) ∙ by (nat_eq place i) refl where
          by : (b : Bool) → nat_eq place i ≡ b
              → cond b (new_where its (becomes its (cond b (ticked now (host_at numbers older i)) (host_at numbers older i))) ++ cond b before before) (cond b before before)
              ≡ cond b (gained (Added now page told op) k ++ before) before
          by true e =
              ap (λ (p : ℕ). new_where its (becomes its (ticked now (host_at numbers older p))) ++ before) (sym (eqb-true place i e))
              ∙ ap (λ (host : Opened). new_where its (becomes its (ticked now host)) ++ before) there
              ∙ ap (λ (ds : List DrawopValue). ds ++ before) (sym gained_added)
          by false e = refl

-- ---- calls

module _ (numbers : ℕ → ℕ) (time place : ℕ) (h : Judged) (older : List (At KeptCall)) (i : ℕ) (same : h.kept ≡ kept_at numbers older place) where
  abbrev drawn : List DrawopValue
  drawn = drawn_by_steps numbers (steps_of numbers older) i

  abbrev Draws : JudgedCall → Type 0
  Draws call = drawn_by_steps numbers (steps_of numbers (kept_then time place call h older)) i ≡ cond (nat_eq place i) (drawn_by call h ++ drawn) drawn

  nothing : (line : KeptLine) → DrawsNone line → drawn_by_steps numbers (steps_of numbers (lines_then time place (line ∷ []) older)) i ≡ cond (nat_eq place i) ([] ++ drawn) drawn
  nothing line is = lines_draw numbers time place (line ∷ []) older i (is, tt) ∙ sym (if_none (nat_eq place i) [] drawn refl)

  line_draws : (line : Call) → Draws (Takes line)
  line_draws (CameFrom now o v) = nothing (plain_line (handed (CameFrom now o v) h)) (came_draws now v (verdict_on now o v h).why)
  line_draws (Passed now news) = nothing (Ticked now) tt
  line_draws (Held line) = nothing (plain_line (recalled (present h.kept.host) line)) (plain_draws (recalled (present h.kept.host) line) (recalled_draws (present h.kept.host) line))
  line_draws (UserDrew now page op) =
      let told = time_of_day h.judge.clock now in
      ap (λ (k : Keeping). drawn_by_steps numbers (steps_then time place (map Does (adds now page told op (sees k.host) k.policy).lines) (steps_of numbers older)) i) (sym same)
      ∙ added_draws now page told op h.kept numbers time place (steps_of numbers older) i (kept_is_session numbers older place ∙ ap (λ (k : Keeping). k.host) (sym same))

  pub call_draws : (call : JudgedCall) → Draws call
  call_draws (Starts start given) =
      let lines = expanded (map Held given) (started h.kept.host.is.number start) in
      lines_draw numbers time place lines (record { time = time; place = place; event = Begins start.opening [] } ∷ older) i (record_draws given (started h.kept.host.is.number start))
      ∙ start_draws numbers time place start older i
      ∙ sym (if_none (nat_eq place i) [] drawn refl)
  call_draws (Takes line) = line_draws line
  call_draws (Tunes constants) = nothing (Tuned constants) tt

module _ (numbers : ℕ → ℕ) where
  one_call : (e : At JudgedCall) (older : List (At JudgedCall)) (i : ℕ) → drawn_at numbers older i ≡ drawn_by_steps numbers (steps_of numbers (kept_calls numbers older)) i
      → drawn_at numbers (e ∷ older) i ≡ drawn_by_steps numbers (steps_of numbers (kept_calls numbers (e ∷ older))) i
  one_call e older i rest = from (nat_eq e.place i) refl where
    before : List DrawopValue
    before = drawn_by_steps numbers (steps_of numbers (kept_calls numbers older)) i

    by_call : ℕ → List DrawopValue
    by_call p = drawn_by e.event (judged_at numbers older p)

    then : drawn_by_steps numbers (steps_of numbers (kept_calls numbers (e ∷ older))) i ≡ cond (nat_eq e.place i) (by_call e.place ++ before) before
    then = call_draws numbers e.time e.place (judged_at numbers older e.place) (kept_calls numbers older) i (judged_is_kept numbers older e.place) e.event

    from : (b : Bool) → nat_eq e.place i ≡ b → cond b (by_call i ++ drawn_at numbers older i) (drawn_at numbers older i) ≡ drawn_by_steps numbers (steps_of numbers (kept_calls numbers (e ∷ older))) i
    from true is =
        ap (λ (ds : List DrawopValue). by_call i ++ ds) rest
        ∙ ap (λ (p : ℕ). by_call p ++ before) (sym (eqb-true e.place i is))
        ∙ ap (λ (b : Bool). cond b (by_call e.place ++ before) before) (sym is)
        ∙ sym then
    from false is = rest ∙ ap (λ (b : Bool). cond b (by_call e.place ++ before) before) (sym is) ∙ sym then

pub draws_as_kept : DrawsAsKept
draws_as_kept numbers [] i = refl
draws_as_kept numbers (e ∷ older) i = one_call numbers e older i (draws_as_kept numbers older i)
