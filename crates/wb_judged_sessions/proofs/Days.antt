-- What a member holds is at most a day ahead of the latest time of day that it had. So if that goes back by less than a day, what its user draws comes after all of it.
use Rattle.std.proofs.Common.{◌≡◌, ◌≤◌, ◌<◌, ◌+◌, ◌^◌, ◌∙◌, ℕ, Bool, true, false, cond, List, [], ◌∷◌, None, ap, arith, eqb-true, length, refl, subst, sym, ⊎_elim}
use Rattle.std.specs.Prelude.{Contains, Option, Some, max, nat_eq}
use Rattle.wb_names.specs.Arrivals.{Clash, New, Again, Left, Outcome, history_after, history_with, outcome_of}
use Rattle.wb_names.specs.Values.{DrawopValue}
use Rattle.wb_names.specs.declared.name.PageId.{PageId}
use Rattle.wb_names.specs.declared.parts.Op.{Op}
use Rattle.wb_names.proofs.Listings.{Contains-cases, Contains-none}
use Rattle.wb_codec.specs.declared.datagram.Datagram.{Datagram}
use Rattle.wb_codec.specs.declared.datagram.Datagram.TheVariants.{AskPages, Draw, PageState, Request, Session}
use Rattle.wb_board.specs.Counts.{MAX_CELLS}
use Rattle.wb_judge.specs.Days.{DayClock, time_of_day}
use Rattle.wb_judge.specs.Judging.{after_coming}
use Rattle.wb_judge.specs.declared.limits.TheConstants.{AHEAD_KNOWN}
use Rattle.wb_judge.specs.declared.origin.Origin.{Origin}
use Rattle.wb_judge.specs.declared.verdict.Why.{Why}
use Rattle.wb_member.specs.Members.{Takes as TakesBatch}
use Rattle.wb_member.specs.Opened.{becomes, opened_with, present, ticked}
use Rattle.wb_member.specs.declared.calls.Call.TheVariants as calls
use Rattle.wb_keeping.specs.Kept.{Calls, adds}
use Rattle.wb_keeping.specs.Laws.{Ticked}
use Rattle.wb_keeping.specs.Performing.{Keeping, after_doing, after_line, after_lines, sees}
use Rattle.wb_judging.specs.Handing.{facts_of, handed, handed_for, verdict_on}
use Rattle.wb_judging.specs.Judged.{Judged}
use Rattle.wb_judging.specs.declared.call.Call.{Call}
use Rattle.wb_judging.specs.declared.call.Call.TheVariants.{CameFrom, Held, Passed, UserDrew}
use Rattle.wb_judging.specs.Laws.{drawops_in, drawops_of, is_told}
use Rattle.wb_judging.specs.News.{is_day}
use Rattle.wb_judging.specs.Performing.{after_judged, after_kept_line}
use Rattle.wb_judging.specs.declared.record.RecordLine.{RecordLine}
use Rattle.wb_judging.specs.declared.record.RecordLine.TheVariants.{Known, Mark, Owner, Said, Strange, Tick}
use Rattle.wb_judging.proofs.Again.{cells_line, cells_of, held_by}
use Rattle.wb_judging.proofs.Boards.{IsOther, held_drawn, held_heard, held_recalled, held_ticked}
use Rattle.wb_judging.proofs.Followed.{nobody_moves_our_time}
use Rattle.wb_judging.proofs.Histories.{fresh_is_new}
use Rattle.wb_laws_sessions.proofs.Acts.{held_after}
use Rattle.wb_laws_sessions.proofs.Room.{with_room}
use Rattle.wb_laws_sessions.proofs.Sending.{one_of}
use Rattle.wb_laws_sessions.specs.Members.{new_where}
use Rattle.wb_kept_progress.proofs.Onward.{call_later}
use Rattle.wb_kept_progress.proofs.Performed.{adds_begin}
use Rattle.wb_kept_progress.proofs.StillCalls.{came_now, no_ticks_stand}
use Rattle.wb_judged_sessions.specs.Days.{HeldIsNear, NeverADayBack, OursAreInOrder, OursLieAbove, latest_after, latest_before, day_of, day_of_record, latest_at, recalled_by, tells_day}
use Rattle.wb_judged_sessions.specs.Calls.{after_call, drawn_by, drawn_by_line, IsLineTaken, IsTaken, JudgedCall, Start, Starts, Takes, Tunes}
use Rattle.wb_judged_sessions.specs.Sessions.{At, judged_at}
use Rattle.wb_judged_sessions.specs.Terms.{AreTaken, file_at, IsItsFile, KeepFiles}
use Rattle.wb_judged_sessions.proofs.Above.{IsWithin, drawn_after, drawn_at_most, later_within, let_in, within_more}
use Rattle.wb_judged_sessions.proofs.Drawn.{gained_added, held_added, its}
use Rattle.wb_judged_sessions.proofs.Records.{boards_are_files, files_are_whole, own_held, start_cells, start_held}
use Rattle.wb_judged_sessions.proofs.Terms.{IsOwn, fault_none, own_at}

-- ---- the time of day goes on

time_later : (clock : DayClock) (one other : ℕ) → one ≤ other → time_of_day clock one ≤ time_of_day clock other
time_later clock one other le = omega (arith, le)

-- a line that tells none
day_onward : (line : Call) (h : Judged) → IsOwn h → IsLineTaken line h → is_told line ≡ false → day_of h ≤ day_of (after_judged line h)
unfolding after_kept_line
day_onward line h own taken other =
    let after = present (after_judged line h).kept.host in
    subst (λ (day : ℕ). day_of h ≤ day) (sym (nobody_moves_our_time line h after other))
    (time_later h.judge.clock (present h.kept.host) after (call_later (handed line h) h.kept (fault_none line h own taken)))

adds_now : (now : ℕ) (page : PageId) (time : ℕ) (op : Op) (k : Keeping) → present (after_doing (adds now page time op) k).host ≡ now
adds_now now page time op k =
    let b = adds_begin now page time op (sees k.host) k.policy in
    ap (λ lines. present (after_lines lines k.host)) b.is ∙ no_ticks_stand b.rest (after_line (Calls (calls.Tick now)) k.host) b.none

-- what a line takes in or draws has the time of day of its moment
module _ (line : Call) (h : Judged) (now : ℕ) (other : is_told line ≡ false) where
  day_at : present (after_judged line h).kept.host ≡ now → day_of (after_judged line h) ≡ time_of_day h.judge.clock now
  day_at is = nobody_moves_our_time line h (present (after_judged line h).kept.host) other ∙ ap (time_of_day h.judge.clock) is

drawn_day : (now : ℕ) (page : PageId) (op : Op) (h : Judged) → day_of (after_judged (UserDrew now page op) h) ≡ time_of_day h.judge.clock now
unfolding after_kept_line
drawn_day now page op h = day_at (UserDrew now page op) h now refl (adds_now now page (time_of_day h.judge.clock now) op h.kept)

-- ---- what comes in

abbrev keeps : ℕ → Call → Judged → Type 0
keeps latest line h = IsWithin latest (held_by h) → day_of (after_judged line h) ≤ latest → IsWithin latest (held_by (after_judged line h))

ticked_within : (latest now : ℕ) (k : Keeping) → IsWithin latest k.host.is.held → IsWithin latest (after_kept_line (Ticked now) k).host.is.held
ticked_within latest now k each = subst (IsWithin latest) (sym (held_ticked now k)) each

-- a drawop
module _ (latest now : ℕ) (o : Origin) (d : DrawopValue) (h : Judged) (each : IsWithin latest (held_by h)) where
  drawop_within : (why : Option Why) → (verdict_on now o (Draw d) h).why ≡ why → day_of (after_judged (CameFrom now o (Draw d)) h) ≤ latest
      → IsWithin latest (after_kept_line (handed_for now (Draw d) why) h.kept).host.is.held
  unfolding verdict_on after_kept_line
  drawop_within None e day =
      let line = CameFrom now o (Draw d) in
      let host = h.kept.host in
      let there : present (after_judged line h).kept.host ≡ now =
      ap (λ (why : Option Why). present (after_kept_line (handed_for now (Draw d) why) h.kept).host) e ∙ came_now now (Draw d) h.kept in
      let is : day_of (after_judged line h) ≡ time_of_day h.judge.clock now = day_at line h now refl there in
      subst (IsWithin latest) (sym (held_drawn now d h.kept))
      (within_more latest (held_by h) d (outcome_of host.is.cells host.is.held d) each (λ place fresh.
      let le : d.time ≤ time_of_day h.judge.clock now + AHEAD_KNOWN = let_in o d (facts_of now (Draw d) h.kept) (after_coming o now h.judge) (fresh_is_new host.is.cells host.is.held d place fresh) e in
      omega (arith, le, day, is)))
  drawop_within (Some why) e day = ticked_within latest now h.kept each

other_within : (latest now : ℕ) (v : Datagram) (k : Keeping) (why : Option Why) → IsOther v → IsWithin latest k.host.is.held → IsWithin latest (after_kept_line (handed_for now v why) k).host.is.held
other_within latest now v k None other each = subst (IsWithin latest) (sym (held_heard now v k other)) each
other_within latest now v k (Some why) other each = ticked_within latest now k each

came_within : (latest now : ℕ) (o : Origin) (v : Datagram) (h : Judged) → keeps latest (CameFrom now o v) h
came_within latest now o (Draw d) h each day = drawop_within latest now o d h each (verdict_on now o (Draw d) h).why refl day
came_within latest now o (Session sender sent page marks echoes) h each day =
    let v = Session sender sent page marks echoes in other_within latest now v h.kept (verdict_on now o v h).why (λ d is. absurd cc) each
came_within latest now o (Request asker name) h each day = let v = Request asker name in other_within latest now v h.kept (verdict_on now o v h).why (λ d is. absurd cc) each
came_within latest now o (AskPages asker) h each day = let v = AskPages asker in other_within latest now v h.kept (verdict_on now o v h).why (λ d is. absurd cc) each
came_within latest now o (PageState sender page marks) h each day =
    let v = PageState sender page marks in other_within latest now v h.kept (verdict_on now o v h).why (λ d is. absurd cc) each

-- what its user draws
drew_within : (latest now : ℕ) (page : PageId) (op : Op) (h : Judged) → keeps latest (UserDrew now page op) h
drew_within latest now page op h each day =
    let told = time_of_day h.judge.clock now in
    let ours : DrawopValue = its now page told op h.kept in
    let le : ours.time ≤ max told (latest + AHEAD_KNOWN + length (held_by h) + 1) = drawn_at_most page told (held_by h) (latest + AHEAD_KNOWN + length (held_by h)) each in
    let is = drawn_day now page op h in
    subst (IsWithin latest) (sym (held_added now page told op h.kept))
    (within_more latest (held_by h) ours (becomes ours (ticked now h.kept.host)) each (λ place fresh. omega (arith, le, is, day)))

-- a line of the record
module _ (latest cells : ℕ) (held : List DrawopValue) (each : IsWithin latest held) where
  one_within : (d : DrawopValue) → day_of_record (d ∷ []) ≤ latest → IsWithin latest (history_after cells held (d ∷ []))
  one_within d le = within_more latest held d (outcome_of cells held d) each (λ place fresh. omega (arith, le))

  recalled_within : (line : RecordLine) → day_of_record (drawops_in line) ≤ latest → IsWithin latest (history_after cells held (drawops_in line))
  recalled_within (Tick past) le = each
  recalled_within (Said d) le = one_within d le
  recalled_within (Known d) le = one_within d le
  recalled_within (Strange d) le = one_within d le
  recalled_within (Mark speaker page mark) le = each
  recalled_within (Owner number place owner) le = each

line_within : (latest : ℕ) (line : Call) (h : Judged) → day_of_record (recalled_by line) ≤ latest → keeps latest line h
line_within latest (CameFrom now o v) h le each day = came_within latest now o v h each day
line_within latest (Passed now news) h le each day = ticked_within latest now h.kept each
line_within latest (UserDrew now page op) h le each day = drew_within latest now page op h each day
line_within latest (Held line) h le each day =
    subst (IsWithin latest) (sym (held_recalled (present h.kept.host) line h.kept)) (recalled_within latest (cells_of h) (held_by h) each line le)

-- ---- a start

in_record : (ds : List DrawopValue) (d : DrawopValue) → Contains ds d → d.time ≤ day_of_record ds + AHEAD_KNOWN
in_record [] d c = absurd (Contains-none d c)
in_record (x ∷ ds) d c = ⊎_elim
    (λ (same : x ≡ d). let t : x.time ≡ d.time = ap (λ (y : DrawopValue). y.time) same in omega (arith, t))
    (λ (more : Contains ds d). let le = in_record ds d more in omega (arith, le))
    (Contains-cases x d ds c)

filled : (line : RecordLine) (file : List RecordLine) → line ∷ file ≡ [] → ⊥
filled line file is = cc

module _ (numbers : ℕ → ℕ) (older : List (At JudgedCall)) (i : ℕ) where
  abbrev h : Judged
  h = judged_at numbers older i

  abbrev latest : ℕ
  latest = latest_at numbers older i

  module _ (start : Start) (given : List RecordLine) (its_file : IsItsFile numbers older i start given) (each : IsWithin latest (held_by h)) where
    abbrev after : Judged
    after = after_call (Starts start given) h

    has : held_by after ≡ history_after start.opening.cells [] (drawops_of given)
    has = start_held h.kept.host.is.number start given

    start_within : (file : List RecordLine) → file_at numbers older i ≡ file → IsWithin (latest_after (Starts start given) file h latest) (held_by after)
    start_within [] e = λ d c.
        let o = start.opening in
        let there : Contains (history_after o.cells [] (drawops_of given)) d = subst (λ (held : List DrawopValue). Contains held d) has c in
        let among : Contains (drawops_of given) d = ⊎_elim
        (λ (none : Contains [] d). absurd (Contains-none d none))
        (λ (g : Contains (drawops_of given) d). g)
        (held_after (TakesBatch 0 (drawops_of given) (drawops_of given)) (opened_with o.constants 0 o.cells o.seed).is d there) in
        let le = in_record (drawops_of given) d among in
        omega (arith, le)
    start_within (line ∷ file) e =
        later_within latest (max latest (day_of after)) (held_by after) (omega arith)
        (subst (IsWithin latest) (sym same) each) where
          same : held_by after ≡ held_by h
          same = ⊎_elim
              (λ (none : file_at numbers older i ≡ []). absurd (filled line file (sym e ∙ none)))
              (λ (is : (drawops_of given ≡ drawops_of (file_at numbers older i)) × (start.opening.cells ≡ cells_of h)).
              has
              ∙ ap (λ (cells : ℕ). history_after cells [] (drawops_of given)) is.1
              ∙ ap (λ (ds : List DrawopValue). history_after (cells_of h) [] ds) is.0
              ∙ sym (boards_are_files numbers older i))
              its_file

  abbrev next : Call → ℕ
  next line = max (max latest (day_of_record (recalled_by line))) (day_of (after_judged line h))

  call_within : (call : JudgedCall) → ((start : Start) (given : List RecordLine) → call ≡ Starts start given → IsItsFile numbers older i start given) → IsWithin latest (held_by h)
      → IsWithin (latest_after call (file_at numbers older i) h latest) (held_by (after_call call h))
  call_within (Starts start given) keeps each = start_within start given (keeps start given refl) each (file_at numbers older i) refl
  call_within (Takes line) keeps each =
      line_within (next line) line h (omega arith) (later_within latest (next line) (held_by h) (omega arith) each) (omega arith)
  call_within (Tunes constants) keeps each = later_within latest (max latest (day_of h)) (held_by h) (omega arith) each

module _ (numbers : ℕ → ℕ) where
  all_within : (calls : List (At JudgedCall)) (i : ℕ) → KeepFiles numbers calls → IsWithin (latest_at numbers calls i) (held_by (judged_at numbers calls i))
  all_within [] i keep = λ d c. absurd (Contains-none d c)
  all_within (e ∷ older) i keep = by (nat_eq e.place i) refl (all_within older i keep.1) where
    by : (b : Bool) → nat_eq e.place i ≡ b → IsWithin (latest_at numbers older i) (held_by (judged_at numbers older i))
        → IsWithin (cond b (latest_after e.event (file_at numbers older i) (judged_at numbers older i) (latest_at numbers older i)) (latest_at numbers older i))
        (held_by (cond b (after_call e.event (judged_at numbers older i)) (judged_at numbers older i)))
    by true is each =
        call_within numbers older i e.event (λ start given called. subst (λ (p : ℕ). IsItsFile numbers older p start given) (eqb-true e.place i is) (keep.0 start given called)) each
    by false is each = each

pub held_is_near : HeldIsNear
held_is_near numbers calls i d keep held = all_within numbers calls i keep d held

-- ---- the time of day is not a day before the latest

abbrev IsSoon : ℕ → Judged → Type 0
IsSoon latest h = latest + MAX_CELLS < day_of h + AHEAD_KNOWN

-- a line that tells none
still_soon : (latest : ℕ) (line : Call) (h : Judged) → IsOwn h → IsLineTaken line h → is_told line ≡ false → IsSoon latest h → IsSoon (max (max latest 0) (day_of (after_judged line h))) (after_judged line h)
still_soon latest line h own taken other soon = let le = day_onward line h own taken other in omega (arith, le, soon)

-- and one that does
told_soon : (before : ℕ) (h : Judged) → IsSoon before h → IsSoon (max before (day_of h)) h
told_soon before h soon = omega (arith, soon)

call_soon : (call : JudgedCall) (file : List RecordLine) (h : Judged) (latest : ℕ) → IsOwn h → IsTaken call h
    → (tells_day call ≡ true → IsSoon (latest_before call file latest) (after_call call h)) → IsSoon latest h → IsSoon (latest_after call file h latest) (after_call call h)
call_soon (Starts start given) file h latest own taken told soon = told_soon (latest_before (Starts start given) file latest) (after_call (Starts start given) h) (told refl)
call_soon (Takes (Held line)) file h latest own taken told soon =
    told_soon (max latest (day_of_record (drawops_in line))) (after_judged (Held line) h) (told refl)
call_soon (Takes (CameFrom now o v)) file h latest own taken told soon = still_soon latest (CameFrom now o v) h own taken refl soon
call_soon (Takes (Passed now news)) file h latest own taken told soon = by (is_day news) refl where
  line : Call
  line = Passed now news

  by : (b : Bool) → is_day news ≡ b → IsSoon (max (max latest 0) (day_of (after_judged line h))) (after_judged line h)
  by true is = told_soon (max latest 0) (after_judged line h) (told is)
  by false is = still_soon latest line h own taken is soon
call_soon (Takes (UserDrew now page op)) file h latest own taken told soon = still_soon latest (UserDrew now page op) h own taken refl soon
call_soon (Tunes constants) file h latest own taken told soon = told_soon latest h soon

-- ---- how many drawops a board holds

few_after : (cells : ℕ) (held ds : List DrawopValue) → length held ≤ cells → length (history_after cells held ds) ≤ cells
few_after cells held [] few = few
few_after cells held (d ∷ ds) few = few_after cells (history_with held d (outcome_of cells held d)) ds (with_room cells held d (outcome_of cells held d) refl few)

module _ (numbers : ℕ → ℕ) where
  call_small : (call : JudgedCall) (h other : Judged) → IsTaken call other → cells_of h ≤ MAX_CELLS → cells_of (after_call call h) ≤ MAX_CELLS
  call_small (Starts start given) h other taken small = let few = taken.0.small in let is = start_cells h.kept.host.is.number start given in omega (arith, few, is)
  call_small (Takes line) h other taken small = let is = cells_line line h in omega (arith, small, is)
  call_small (Tunes constants) h other taken small = small

  small_at : (calls : List (At JudgedCall)) (i : ℕ) → AreTaken numbers calls → cells_of (judged_at numbers calls i) ≤ MAX_CELLS
  small_at [] i taken = omega arith
  small_at (e ∷ older) i taken = by (nat_eq e.place i) (small_at older i taken.1) where
    by : (b : Bool) → cells_of (judged_at numbers older i) ≤ MAX_CELLS → cells_of (cond b (after_call e.event (judged_at numbers older i)) (judged_at numbers older i)) ≤ MAX_CELLS
    by true small = call_small e.event (judged_at numbers older i) (judged_at numbers older e.place) taken.0 small
    by false small = small

  few_at : (calls : List (At JudgedCall)) (i : ℕ) → AreTaken numbers calls → length (held_by (judged_at numbers calls i)) ≤ MAX_CELLS
  few_at calls i taken =
      let h = judged_at numbers calls i in
      let small = small_at calls i taken in
      let is : length (held_by h) ≡ length (history_after (cells_of h) [] (drawops_of (file_at numbers calls i))) = ap length (boards_are_files numbers calls i) in
      let few = few_after (cells_of h) [] (drawops_of (file_at numbers calls i)) (omega arith) in
      omega (arith, small, is, few)

  soon_at : (calls : List (At JudgedCall)) (i : ℕ) → AreTaken numbers calls → NeverADayBack numbers calls → IsSoon (latest_at numbers calls i) (judged_at numbers calls i)
  soon_at [] i taken back = omega arith
  soon_at (e ∷ older) i taken back = by (nat_eq e.place i) refl (soon_at older i taken.1 back.1) where
    by : (b : Bool) → nat_eq e.place i ≡ b → IsSoon (latest_at numbers older i) (judged_at numbers older i)
        → IsSoon (cond b (latest_after e.event (file_at numbers older i) (judged_at numbers older i) (latest_at numbers older i)) (latest_at numbers older i))
        (cond b (after_call e.event (judged_at numbers older i)) (judged_at numbers older i))
    by true is soon =
        let here = eqb-true e.place i is in
        call_soon e.event (file_at numbers older i) (judged_at numbers older i) (latest_at numbers older i) (own_at numbers older i)
        (subst (λ (p : ℕ). IsTaken e.event (judged_at numbers older p)) here taken.0)
        (λ tells. subst (λ (p : ℕ). IsSoon (latest_before e.event (file_at numbers older p) (latest_at numbers older p)) (after_call e.event (judged_at numbers older p))) here (back.0 tells))
        soon
    by false is soon = soon

-- ---- a drawing

drawn_one : (ours drawn : DrawopValue) (o : Outcome) → Contains (new_where drawn o) ours → drawn ≡ ours
drawn_one ours drawn (New place) c = one_of drawn ours c
drawn_one ours drawn (Again place) c = absurd (Contains-none ours c)
drawn_one ours drawn (Clash place) c = absurd (Contains-none ours c)
drawn_one ours drawn Left c = absurd (Contains-none ours c)

module _ (latest : ℕ) (h : Judged) (own : IsOwn h) (ours d : DrawopValue) (each : IsWithin latest (held_by h)) (few : length (held_by h) ≤ MAX_CELLS) (soon : IsSoon latest h)
    (held : Contains (held_by h) d) (on : d.name.page ≡ ours.name.page) where
  line_above : (now : ℕ) (page : PageId) (op : Op) → IsLineTaken (UserDrew now page op) h → day_of (after_judged (UserDrew now page op) h) < 2 ^ 63
      → Contains (drawn_by_line (UserDrew now page op) h) ours → d.time < ours.time
  line_above now page op taken day c =
      let told = time_of_day h.judge.clock now in
      let drawn : DrawopValue = its now page told op h.kept in
      let is : drawn ≡ ours = drawn_one ours drawn (becomes drawn (ticked now h.kept.host)) (subst (λ (ds : List DrawopValue). Contains ds ours) (gained_added now page told op h.kept) c) in
      let here : d.name.page ≡ page = on ∙ sym (ap (λ (x : DrawopValue). x.name.page) is) in
      let later = day_onward (UserDrew now page op) h own taken refl in
      let then = drawn_day now page op h in
      let le = each d held in
      let above : d.time < drawn.time = drawn_after page told (held_by h) d held here (omega (arith, le, few, soon, later, then)) (omega (arith, le, few, soon, later, then, day)) in
      subst (λ (x : DrawopValue). d.time < x.time) is above

  call_above : (call : JudgedCall) → IsTaken call h → day_of (after_call call h) < 2 ^ 63 → Contains (drawn_by call h) ours → d.time < ours.time
  call_above (Starts start given) taken day c = absurd (Contains-none ours c)
  call_above (Takes (UserDrew now page op)) taken day c = line_above now page op taken day c
  call_above (Takes (CameFrom now o v)) taken day c = absurd (Contains-none ours c)
  call_above (Takes (Passed now news)) taken day c = absurd (Contains-none ours c)
  call_above (Takes (Held line)) taken day c = absurd (Contains-none ours c)
  call_above (Tunes constants) taken day c = absurd (Contains-none ours c)

pub ours_lie_above : OursLieAbove
ours_lie_above numbers older e ours d keeps day c held on =
    call_above (latest_at numbers older e.place) (judged_at numbers older e.place) (own_at numbers older e.place) ours d
    (all_within numbers older e.place keeps.files.1) (few_at numbers older e.place keeps.taken.1) (soon_at numbers older e.place keeps.taken.1 keeps.back.1)
    held on e.event keeps.taken.0 day c

-- it holds what it drew
pub ours_are_in_order : OursAreInOrder
ours_are_in_order numbers older e ours d keeps day c drawn on =
    ours_lie_above numbers older e ours d keeps day c (own_held numbers older (files_are_whole numbers older keeps.files.1) e.place d drawn) on
