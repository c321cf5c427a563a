-- Each mark that a self-managing member sends is of a drawop that it holds.
use Rattle.std.proofs.Common.{◌≡◌, ◌⊎◌, ℕ, ◌<◌, ◌≤◌, Bool, true, false, cond, List, [], ◌∷◌, ◌++◌, ◌∙◌, Option, Some, None, ap, arith, eq-eqb, inl, inr, length, map, refl, subst, sym, ⊎_elim}
use Rattle.std.specs.Prelude.{Contains, filter, nat_eq, take}
use Rattle.std.specs.Option.{option_map}
use Rattle.std.proofs.lemmas.List.Elements.{All-contains, Contains-append_cases, Contains-append_left, Contains-append_right}
use Rattle.wb_names.specs.History.{HoldsName, IsHeld, highest, name_of}
use Rattle.wb_names.specs.Marks.{mark_of}
use Rattle.wb_names.specs.Orders.{same_page}
use Rattle.wb_names.specs.Arrivals.{Outcome, New, Again, Clash, Left}
use Rattle.wb_names.specs.Values.{DrawopValue, MarkValue, NameValue}
use Rattle.wb_names.specs.declared.echo.Echo.{Echo}
use Rattle.wb_names.specs.declared.name.PageId.{PageId}
use Rattle.wb_names.proofs.Listings.{Any-from_map, Contains-cases, Contains-from_filter, Contains-from_take, Contains-none}
use Rattle.wb_names.proofs.MarkLists.{Rises, here, rest_above, rest_rises, there}
use Rattle.wb_names.proofs.Orders.{same_page-is}
use Rattle.wb_codec.specs.declared.datagram.Datagram.{Datagram}
use Rattle.wb_codec.specs.declared.datagram.Datagram.TheVariants.{Draw, Session, Request, AskPages, PageState}
use Rattle.wb_gaps.specs.Answers.{pages_of, report_of, reports_of}
use Rattle.wb_gaps.specs.declared.page_reports.PageReport.{PageReport}
use Rattle.wb_gaps.proofs.PageAnswers.{report_of_page}
use Rattle.wb_gaps.proofs.Reports.{greatest_held}
use Rattle.wb_recovery.specs.declared.plan.Action.{Action}
use Rattle.wb_recovery.specs.declared.plan.Action.TheVariants.{Ask, Answer}
use Rattle.wb_keeper.specs.Hearing.{answers_to, asks_for_pages, marks_in, page_states}
use Rattle.wb_keeper.specs.Ticks.{drawop_of, sent_for, sends_for}
use Rattle.wb_keeper.proofs.TickSends.{sent_from}
use Rattle.wb_member.specs.Lines.{Line, Arrives, Says, after_line, after_lines, said_where, sent_by_line, sent_by_lines, Calls, ticks_at}
use Rattle.wb_member.specs.Judged.{echoes}
use Rattle.wb_member.specs.Opened.{Opened, becomes, has_room_for, opened_with, present}
use Rattle.wb_member.specs.declared.calls.Call.TheVariants as calls
use Rattle.wb_policy.specs.Delays.{bounded}
use Rattle.wb_recovery.specs.declared.limits.TheConstants.{UNKNOWN_DELAY}
use Rattle.wb_keeping.specs.Kept.{state_of, still, want, report_echoes}
use Rattle.wb_keeping.specs.Laws.{doing_of, expand}
use Rattle.wb_keeping.specs.Performing.{Keeping, sees, view_of}
use Rattle.wb_policy.specs.Policy.{after_beat, after_came, after_state, after_taking_up, after_wanting, after_echo}
use Rattle.wb_policy.specs.Reports.{is_untold, slice_after}
use Rattle.wb_keeping.proofs.EachLine.{Each, wanted_each}
use Rattle.wb_keeping.proofs.EachStep.{HoldsOfDue, HoldsOfSteps, all_hold, having, having_done, line_holds, with_policy}
use Rattle.wb_keeping.proofs.KeptHosts.{kept_hosts_are_hosts}
use Rattle.wb_keeping.proofs.Performed.{after_both, sent_by_both}
use Rattle.wb_keeping.proofs.Wanted.{is_wanted_here, lines_wanted}
use Rattle.wb_board.specs.Counts.{MAX_CELLS}
use Rattle.wb_laws_sessions.specs.Drawn.{WasHeld}
use Rattle.wb_laws_sessions.specs.Sessions.{Step, host_at, sent, sent_by_deeds, steps_then}
use Rattle.wb_laws_sessions.specs.Members.{after_deed, Deed, Does, member, sent_by_deed}
use Rattle.wb_laws_sessions.proofs.Deeds.{Fits, fits_after}
use Rattle.wb_laws_sessions.proofs.Drawn.{once_held_was_drawn}
use Rattle.wb_laws_machines.proofs.Names.{holds_name, of_name}
use Rattle.wb_laws_kept.specs.Openings.{Opening, opened}
use Rattle.wb_laws_kept.specs.Restarts.{MarksWereDrawn}
use Rattle.wb_laws_kept.specs.Sessions.{AreTaken, At, kept_at, steps_of}
use Rattle.wb_laws_kept.proofs.Agreeing.{steps_behind}
use Rattle.wb_laws_kept.proofs.Honest.{kept_are_honest}
use Rattle.wb_laws_kept.proofs.Restarting.{line_grows}
use Rattle.wb_laws_kept.specs.Kept.{deeds_of}
use Rattle.wb_laws_kept.proofs.Steps.{kept_is_session}
use Rattle.wb_laws_sessions.proofs.Sending.{one_of}
use Rattle.wb_laws_sessions.proofs.Several.{sent_performed}
use Rattle.std.proofs.lemmas.Option.{same_Some}
use Rattle.wb_laws_kept.specs.Calls.{Begins, Call, Handed, IsTaken, after_call, given_lines}
use Rattle.wb_laws_machines.proofs.Traces.{held_later}
use Rattle.wb_laws_machines.specs.Machines.{part, whole}

-- ---- a report is of what is held

its_high : (marks : List MarkValue) (m : MarkValue) → Rises marks → Contains marks m → mark_of marks m.source ≡ m.high
its_high [] m rises c = absurd (Contains-none m c)
its_high (x ∷ marks) m rises c = ⊎_elim
    (λ (e : x ≡ m). subst (λ (y : MarkValue). mark_of (y ∷ marks) m.source ≡ m.high) (sym e) (here m marks m.source refl))
    (λ (later : Contains marks m).
    let lt = All-contains (λ (y : MarkValue). x.source < y.source) marks m (rest_above x marks rises) later in
    there x marks m.source (λ (e : x.source ≡ m.source). omega (arith, lt, e)) ∙ its_high marks m (rest_rises x marks rises) later)
    (Contains-cases x m marks c)

report_holds : (held : List DrawopValue) (page : PageId) (m : MarkValue) → length held ≤ MAX_CELLS → Contains (report_of held page) m → HoldsName held (name_of page m.source m.high)
report_holds held page m few c =
    let r = report_of_page held page few in
    let high : m.high ≡ highest page m.source held = sym (its_high (report_of held page) m r.0.ascending c) ∙ r.1 m.source in
    let positive : 1 ≤ m.high = All-contains (λ (x : MarkValue). 1 ≤ x.high) (report_of held page) m r.0.positive c in
    ⊎_elim
    (λ (none : highest page m.source held ≡ 0). absurd (omega (arith, none, high, positive)))
    (λ (is : IsHeld held page m.source (highest page m.source held)). subst (λ (n : ℕ). HoldsName held (name_of page m.source n)) (sym high) is)
    (greatest_held held page m.source).reached

slice_holds : (held : List DrawopValue) (page : PageId) (told : Option ℕ) (m : MarkValue) → length held ≤ MAX_CELLS → Contains (slice_after told (report_of held page)) m → HoldsName held (name_of page m.source m.high)
slice_holds held page told m few c =
    report_holds held page m few (Contains-from_filter (λ m. is_untold told m.source) (report_of held page) m (Contains-from_take 64 (filter (λ m. is_untold told m.source) (report_of held page)) m c)).0

-- ---- a datagram tells marks of what is held alone

abbrev pub TellsHeld : List DrawopValue → Datagram → Type 0
TellsHeld held v = (page : PageId) (m : MarkValue) → Contains (marks_in page v) m → HoldsName held (name_of page m.source m.high)

-- marks of one page
of_page : (held : List DrawopValue) (on page : PageId) (marks : List MarkValue) (m : MarkValue) → ((m : MarkValue) → Contains marks m → HoldsName held (name_of on m.source m.high)) → Contains (cond (same_page on page) marks []) m → HoldsName held (name_of page m.source m.high)
of_page held on page marks m all c = by (same_page on page) refl c where
  by : (b : Bool) → same_page on page ≡ b → Contains (cond b marks []) m → HoldsName held (name_of page m.source m.high)
  by true is c = subst (λ (p : PageId). HoldsName held (name_of p m.source m.high)) (same_page-is on page is) (all m c)
  by false is c = absurd (Contains-none m c)

session_tells : (held : List DrawopValue) (sender sent : ℕ) (on : PageId) (marks : List MarkValue) (echoes : List Echo) → ((m : MarkValue) → Contains marks m → HoldsName held (name_of on m.source m.high)) → TellsHeld held (Session sender sent on marks echoes)
session_tells held sender sent on marks echoes all page m c = of_page held on page marks m all c

state_tells : (held : List DrawopValue) (sender : ℕ) (on : PageId) (marks : List MarkValue) → ((m : MarkValue) → Contains marks m → HoldsName held (name_of on m.source m.high)) → TellsHeld held (PageState sender on marks)
state_tells held sender on marks all page m c = of_page held on page marks m all c

draw_tells : (held : List DrawopValue) (d : DrawopValue) → TellsHeld held (Draw d)
draw_tells held d page m c = absurd (Contains-none m c)

request_tells : (held : List DrawopValue) (v : Datagram) (asker : ℕ) (name : NameValue) → Request asker name ≡ v → TellsHeld held v
request_tells held v asker name e = subst (TellsHeld held) e (λ page m c. absurd (Contains-none m c))

drawing_tells : (held : List DrawopValue) (v : Datagram) (d : DrawopValue) → Draw d ≡ v → TellsHeld held v
drawing_tells held v d e = subst (TellsHeld held) e (draw_tells held d)

question_tells : (held : List DrawopValue) (v : Datagram) (asker : ℕ) → AskPages asker ≡ v → TellsHeld held v
question_tells held v asker e = subst (TellsHeld held) e (λ page m c. absurd (Contains-none m c))

-- ---- what a tick sends, and what is answered at once

tick_tells : (me : ℕ) (held : List DrawopValue) (actions : List Action) (v : Datagram) → Contains (sends_for me held actions) v → TellsHeld held v
tick_tells me held actions v c =
    let r = sent_from (sent_for me held) actions v c in from r.0 r.2 where
      from : (action : Action) → sent_for me held action ≡ Some v → TellsHeld held v
      from (Ask n) e = request_tells held v me n (same_Some (Request me n) v e)
      from (Answer n) e = by (drawop_of held n) e where
        by : (o : Option DrawopValue) → option_map {T = DrawopValue} {U = Datagram} Draw o ≡ Some v → TellsHeld held v
        by None e = cc
        by (Some x) e = drawing_tells held v x (same_Some (Draw x) v e)

answer_tells : (me : ℕ) (held : List DrawopValue) (heard v : Datagram) → length held ≤ MAX_CELLS → Contains (answers_to me held heard) v → TellsHeld held v
answer_tells me held heard v few c = by (asks_for_pages me heard) c where
  state : PageReport → Datagram
  state r = PageState me r.page r.marks

  one : (page : PageId) → TellsHeld held (PageState me page (report_of held page))
  one page = state_tells held me page (report_of held page) (λ m c. report_holds held page m few c)

  by : (b : Bool) → Contains (cond b (page_states me held) []) v → TellsHeld held v
  by true c =
      let r = Any-from_map state (reports_of held) v c in
      let p = Any-from_map (λ (page : PageId). record { page = page; marks = report_of held page }) (pages_of held) r.1 (r.0, r.2, r.3) in
      subst (TellsHeld held) r.4 (subst (λ (r : PageReport). TellsHeld held (state r)) p.4 (one p.1))
  by false c = absurd (Contains-none v c)

-- ---- one line

-- what is held is held after lines
lines_grow : (lines : List Line) (host : Opened) (x : DrawopValue) → Contains host.is.held x → Contains (after_lines lines host).is.held x
lines_grow [] host x c = c
lines_grow (line ∷ lines) host x c = lines_grow lines (after_line line host) x (line_grows line host x c)

lines_fit : (lines : List Line) (host : Opened) → Fits host → Fits (after_lines lines host)
lines_fit [] host f = f
lines_fit (line ∷ lines) host f = lines_fit lines (after_line line host) (fits_after (Does line) host (λ constants cells seed e. absurd cc) f)

names_grow : (lines : List Line) (host : Opened) (n : NameValue) → HoldsName host.is.held n → HoldsName (after_lines lines host).is.held n
names_grow lines host n h =
    let x = of_name host.is.held n h in
    holds_name (after_lines lines host).is.held x.0 n (lines_grow lines host x.0 x.1) x.2

tells_later : (lines : List Line) (host : Opened) (v : Datagram) → TellsHeld host.is.held v → TellsHeld (after_lines lines host).is.held v
tells_later lines host v tells page m c = names_grow lines host (name_of page m.source m.high) (tells page m c)

few_held : (host : Opened) → Fits host → length host.is.held ≤ MAX_CELLS
few_held host f = let a = f.few in let b = f.small in omega (arith, a, b)

-- ---- what a policy has its host send

-- The host performs these lines, and what it sends by them tells marks of what it holds.
record Tells (k : Keeping) (lines : List Line) (next : Keeping) : Type 0 where
  same : next.host ≡ after_lines lines k.host
  tells : Fits k.host → (v : Datagram) → Contains (sent_by_lines lines k.host) v → TellsHeld (after_lines lines k.host).is.held v

both_tell : (k m n : Keeping) (one other : List Line) → Tells k one m → Tells m other n → Tells k (one ++ other) n
both_tell k m n one other a b = record {
  same = b.same ∙ ap (after_lines other) a.same ∙ sym (after_both one other k.host);
  tells = λ fits v c.
      let there : Opened = after_lines one k.host in
      let all : TellsHeld (after_lines other there).is.held v = ⊎_elim
      (λ (first : Contains (sent_by_lines one k.host) v). tells_later other there v (a.tells fits v first))
      (λ (second : Contains (sent_by_lines other there) v).
      subst (λ (h : Opened). Fits h → Contains (sent_by_lines other h) v → TellsHeld (after_lines other h).is.held v) a.same (λ fits c. b.tells fits v c) (lines_fit one k.host fits) second)
      (Contains-append_cases (sent_by_lines one k.host) (sent_by_lines other there) v (subst (λ (sent : List Datagram). Contains sent v) (sent_by_both one other k.host) c)) in
      subst (λ (h : Opened). TellsHeld h.is.held v) (sym (after_both one other k.host)) all;
}

-- lines that send nothing
abbrev IsSilent : Line → Type 0
IsSilent line = (host : Opened) → sent_by_line line host ≡ []

silent_lines : (lines : List Line) (host : Opened) → Each IsSilent lines → sent_by_lines lines host ≡ []
silent_lines [] host each = refl
silent_lines (line ∷ lines) host each =
    ap (λ (sent : List Datagram). sent ++ sent_by_lines lines (after_line line host)) (each.0 host) ∙ silent_lines lines (after_line line host) each.1

silent : (k : Keeping) (lines : List Line) (next : Keeping) → next.host ≡ after_lines lines k.host → Each IsSilent lines → Tells k lines next
silent k lines next same each = record { same = same; tells = λ fits v c. absurd (Contains-none v (subst (λ (sent : List Datagram). Contains sent v) (silent_lines lines k.host each) c)) }

-- one line that sends
one_tells : (k : Keeping) (line : Line) → (Fits k.host → (v : Datagram) → Contains (sent_by_line line k.host) v → TellsHeld k.host.is.held v) → Tells k (line ∷ []) (having line k)
one_tells k line tells = record {
  same = refl;
  tells = λ fits v c. ⊎_elim
      (λ (now : Contains (sent_by_line line k.host) v). tells_later (line ∷ []) k.host v (tells fits v now))
      (λ (none : Contains [] v). absurd (Contains-none v none))
      (Contains-append_cases (sent_by_line line k.host) [] v c);
}

-- the host says page states, one after the other
states_tell : (told : Opened) (pages : List PageId) (host : Opened) → length host.is.held ≤ MAX_CELLS → told ≡ host → (v : Datagram) → Contains (sent_by_lines (map (λ page. Says (state_of (view_of told) page)) pages) host) v → TellsHeld host.is.held v
states_tell told [] host few is v c = absurd (Contains-none v c)
states_tell told (page ∷ pages) host few is v c = ⊎_elim
    (λ (e : state_of (view_of told) page ≡ v). subst (TellsHeld host.is.held) e
    (state_tells host.is.held told.is.number page (slice_after None (report_of told.is.held page)) (λ m d. slice_holds host.is.held page None m few
    (subst (λ (h : Opened). Contains (slice_after None (report_of h.is.held page)) m) is d))))
    (λ (later : Contains (sent_by_lines (map (λ page. Says (state_of (view_of told) page)) pages) host) v). states_tell told pages host few is v later)
    (Contains-cases (state_of (view_of told) page) v (sent_by_lines (map (λ page. Says (state_of (view_of told) page)) pages) host) c)

said_tells : (d : DrawopValue) (host : Opened) (v : Datagram) (o : Outcome) → Contains (said_where d o) v → TellsHeld host.is.held v
said_tells d host v (New place) c = drawing_tells host.is.held v d (one_of (Draw d) v c)
said_tells d host v (Again place) c = drawing_tells host.is.held v d (one_of (Draw d) v c)
said_tells d host v (Clash place) c = absurd (Contains-none v c)
said_tells d host v Left c = absurd (Contains-none v c)

hears_tells : (h : Datagram) (host : Opened) → length host.is.held ≤ MAX_CELLS → (v : Datagram) → Contains (sent_by_line (Calls (calls.Hear h)) host) v → TellsHeld host.is.held v
hears_tells h host few v c = by (has_room_for h host) c where
  by : (b : Bool) → Contains (cond b (answers_to host.is.number host.is.held h) []) v → TellsHeld host.is.held v
  by true c = answer_tells host.is.number host.is.held h v few c
  by false c = absurd (Contains-none v c)

wants_tells : (name : NameValue) (anew : Bool) (k : Keeping) → Tells k (want name anew (sees k.host) k.policy).lines (having_done (want name anew (sees k.host) k.policy) k)
wants_tells name anew k = by (is_wanted_here name anew (sees k.host) k.policy) where
  lines : List Line
  lines = lines_wanted name anew (sees k.host) k.policy

  by : (b : Bool) → let d = cond b (record { policy = after_wanting (present k.host) k.policy; lines = lines }) (still (sees k.host) k.policy) in Tells k d.lines (having_done d k)
  by true = silent k lines (having_done (record { policy = after_wanting (present k.host) k.policy; lines = lines }) k) refl (wanted_each IsSilent (λ name host. refl) name (λ host. refl) anew (sees k.host) k.policy (λ host. refl) (λ host. refl))
  by false = silent k [] k refl tt

due_tell : HoldsOfDue Tells
due_tell = record {
  nothing = λ k. silent k [] k refl tt;
  both = both_tell;
  wants = wants_tells;
  turned = λ t l k. silent k [] (with_policy (record k.policy { turns = t; leaps = l }) k) refl tt;
  beats = λ k due. silent k [] (with_policy (after_beat (present k.host) k.policy) k) refl tt;
  answers = λ k due. record {
    same = refl;
    tells = λ fits v c. tells_later (map (λ page. Says (state_of (view_of k.host) page)) (take 64 (pages_of k.host.is.held))) k.host v (states_tell k.host (take 64 (pages_of k.host.is.held)) k.host (few_held k.host fits) refl v c);
  };
  asks_pages = λ k due.
      let one = one_tells k (Says (AskPages k.host.is.number)) (λ fits v c. question_tells k.host.is.held v k.host.is.number (one_of (AskPages k.host.is.number) v c)) in
      record { same = refl; tells = one.tells };
  reports = λ page until told k due.
      let marks = slice_after told (report_of k.host.is.held page) in
      let one = one_tells k (Says (Session k.host.is.number (present k.host) page marks (report_echoes (view_of k.host) k.policy))) (λ fits v c. subst (TellsHeld k.host.is.held) (one_of (Session k.host.is.number (present k.host) page marks (report_echoes (view_of k.host) k.policy)) v c)
      (session_tells k.host.is.held k.host.is.number (present k.host) page marks (report_echoes (view_of k.host) k.policy) (λ m d. slice_holds k.host.is.held page told m (few_held k.host fits) d))) in
      record { same = refl; tells = one.tells };
}

steps_tell : HoldsOfSteps Tells
steps_tell = record {
  due = due_tell;
  ticks = λ now k later. one_tells k (Calls (calls.Tick now)) (λ fits v c. tick_tells k.host.is.number k.host.is.held _ v c);
  arrives = λ d k free. silent k (Arrives d ∷ []) (having (Arrives d) k) refl (λ host. refl, tt);
  answered = λ d k lacks asked. silent k (Arrives d ∷ []) (with_policy (after_came k.policy) (having (Arrives d) k)) refl (λ host. refl, tt);
  hears = λ h k. one_tells k (Calls (calls.Hear h)) (λ fits v c. hears_tells h k.host (few_held k.host fits) v c);
  stops = λ name k full. silent k (Calls (calls.Stop name) ∷ []) (having (Calls (calls.Stop name)) k) refl (λ host. refl, tt);
  sets = λ source micros k. silent k (Calls (calls.SetDelay source (bounded micros)) ∷ []) (having (Calls (calls.SetDelay source (bounded micros))) k) refl (λ host. refl, tt);
  lends = λ source k. silent k (Calls (calls.SetDelay source k.policy.usual) ∷ []) (having (Calls (calls.SetDelay source k.policy.usual)) k) refl (λ host. refl, tt);
  takes_back = λ source k. silent k (Calls (calls.SetDelay source UNKNOWN_DELAY) ∷ []) (having (Calls (calls.SetDelay source UNKNOWN_DELAY)) k) refl (λ host. refl, tt);
  tunes = λ constants k in_range. silent k (Calls (calls.Tune constants) ∷ []) (having (Calls (calls.Tune constants)) k) refl (λ host. refl, tt);
  draws = λ d k unasked. one_tells k (Says (Draw d)) (λ fits v c. said_tells d k.host v (becomes d k.host) c);
  drawn = λ d k asked. let one = one_tells k (Says (Draw d)) (λ fits v c. said_tells d k.host v (becomes d k.host) c) in record { same = one.same; tells = one.tells };
  measured = λ micros k. silent k [] (with_policy (after_echo micros k.policy) k) refl tt;
  told = λ k. silent k [] (with_policy (after_state (present k.host) k.policy) k) refl tt;
  takes_up = λ k is. silent k [] (with_policy (after_taking_up (present k.host) k.policy) k) refl tt;
}

-- ---- calls

ticks_tell : (moments : List ℕ) (host : Opened) (v : Datagram) → Contains (sent_by_lines (ticks_at moments) host) v → TellsHeld host.is.held v
ticks_tell [] host v c = absurd (Contains-none v c)
ticks_tell (now ∷ moments) host v c = ⊎_elim
    (λ (at : Contains (sent_by_line (Calls (calls.Tick now)) host) v). tick_tells host.is.number host.is.held _ v at)
    (λ (later : Contains (sent_by_lines (ticks_at moments) (after_line (Calls (calls.Tick now)) host)) v). ticks_tell moments (after_line (Calls (calls.Tick now)) host) v later)
    (Contains-append_cases (sent_by_line (Calls (calls.Tick now)) host) (sent_by_lines (ticks_at moments) (after_line (Calls (calls.Tick now)) host)) v c)

call_fits : (call : Call) (k j : Keeping) → IsTaken call j → Fits k.host → Fits (after_call call k).host
call_fits (Handed line) k j taken fits = lines_fit (doing_of line (sees k.host) k.policy).lines k.host fits
call_fits (Begins o given) k j taken fits =
    let first = opened k.host.is.number o in
    let lines = given_lines first given in
    subst Fits (sym (kept_hosts_are_hosts lines first).0) (lines_fit (expand lines first) first.host (first_fits k.host.is.number o taken.0.small)) where
      first_fits : (number : ℕ) (o : Opening) → o.cells ≤ MAX_CELLS → Fits (opened number o).host
      first_fits number o small = lines_fit (ticks_at o.moments) (opened_with o.constants number o.cells o.seed) (record { few = omega arith; small = small })

module _ (numbers : ℕ → ℕ) where
  kept_fits : (calls : List (At Call)) → AreTaken numbers calls → (i : ℕ) → Fits (kept_at numbers calls i).host
  kept_fits [] taken i = record { few = omega arith; small = omega arith }
  kept_fits (e ∷ older) taken i = by (nat_eq e.place i) (kept_fits older taken.1 i) where
    by : (b : Bool) → Fits (kept_at numbers older i).host → Fits (cond b (after_call e.event (kept_at numbers older i)) (kept_at numbers older i)).host
    by true fits = call_fits e.event (kept_at numbers older i) (kept_at numbers older e.place) taken.0 fits
    by false fits = fits

  -- ---- what deeds send

  sent_then : (time place : ℕ) (deeds : List Deed) (older : List Step) (v : Datagram) → Contains (sent numbers (steps_then time place deeds older)) v
      → Contains (sent numbers older) v ⊎ Contains (sent_by_deeds deeds (host_at numbers older place)) v
  sent_then time place [] older v c = inl c
  sent_then time place (deed ∷ deeds) older v c = ⊎_elim
      (λ (before : Contains (sent numbers (s ∷ older)) v). ⊎_elim
      (λ (now : Contains (sent_by_deed deed host) v). inr (Contains-append_left (sent_by_deed deed host) (sent_by_deeds deeds (after_deed deed host)) v now))
      (λ (long_ago : Contains (sent numbers older) v). inl long_ago)
      (Contains-append_cases (sent_by_deed deed host) (sent numbers older) v before))
      (λ (later : Contains (sent_by_deeds deeds (host_at numbers (s ∷ older) place)) v).
      inr (Contains-append_right (sent_by_deed deed host) (sent_by_deeds deeds (after_deed deed host)) v (subst (λ (h : Opened). Contains (sent_by_deeds deeds h) v) there later)))
      (sent_then time place deeds (s ∷ older) v c) where
        s : Step
        s = record { time = time; place = place; event = deed }

        host : Opened
        host = host_at numbers older place

        there : host_at numbers (s ∷ older) place ≡ after_deed deed host
        there = ap (λ (b : Bool). cond b (after_deed deed host) host) (eq-eqb place place refl)

  -- what a call sends tells marks of what its member holds then
  call_tells : (call : Call) (k : Keeping) → IsTaken call k → Fits k.host → (v : Datagram) → Contains (sent_by_deeds (deeds_of call k) k.host) v → TellsHeld (after_call call k).host.is.held v
  call_tells (Handed line) k taken fits v c =
      let lines = (doing_of line (sees k.host) k.policy).lines in
      (line_holds Tells steps_tell line k taken).tells fits v (subst (λ (sent : List Datagram). Contains sent v) (sent_performed lines k.host) c)
  call_tells (Begins o given) k taken fits v c =
      let first = opened k.host.is.number o in
      let start = opened_with o.constants k.host.is.number o.cells o.seed in
      let lines = given_lines first given in
      let ticks = ticks_at o.moments in
      let opened_fits : Fits first.host = lines_fit ticks start (record { few = omega arith; small = taken.0.small }) in
      let all = subst (λ (sent : List Datagram). Contains sent v) (sent_performed (ticks ++ expand lines first) start ∙ sent_by_both ticks (expand lines first) start) c in
      let told : TellsHeld (after_lines (expand lines first) first.host).is.held v = ⊎_elim
      (λ (early : Contains (sent_by_lines ticks start) v). tells_later (expand lines first) first.host v (tells_later ticks start v (ticks_tell o.moments start v early)))
      (λ (later : Contains (sent_by_lines (expand lines first) first.host) v). (all_hold Tells steps_tell lines first taken.1).tells opened_fits v later)
      (Contains-append_cases (sent_by_lines ticks start) (sent_by_lines (expand lines first) first.host) v all) in
      subst (λ (h : Opened). TellsHeld h.is.held v) (sym (kept_hosts_are_hosts lines first).0) told

  -- ---- sessions

  abbrev WasHeldAs : List (At Call) → NameValue → Type 0
  WasHeldAs calls n = (d : DrawopValue) × WasHeld numbers (steps_of numbers calls) d × (d.name ≡ n)

  marks_were_held : (calls : List (At Call)) → AreTaken numbers calls → (v : Datagram) (page : PageId) (m : MarkValue) → Contains (sent numbers (steps_of numbers calls)) v → Contains (marks_in page v) m → WasHeldAs calls (name_of page m.source m.high)
  marks_were_held [] taken v page m c told = absurd (Contains-none v c)
  marks_were_held (e ∷ older) taken v page m c told = ⊎_elim
      (λ (before : Contains (sent numbers (steps_of numbers older)) v). earlier (marks_were_held older taken.1 v page m before told))
      (λ (now : Contains (sent_by_deeds (deeds_of e.event k) (host_at numbers (steps_of numbers older) e.place)) v). at_once now)
      (sent_then e.time e.place (deeds_of e.event k) (steps_of numbers older) v c) where
        k : Keeping
        k = kept_at numbers older e.place

        earlier : WasHeldAs older (name_of page m.source m.high) → WasHeldAs (e ∷ older) (name_of page m.source m.high)
        earlier (d, w, is) = (d, held_later member numbers d (steps_behind numbers (part {newer = older} {e = e} whole)) w, is)

        same : (after_call e.event k).host ≡ host_at numbers (steps_of numbers (e ∷ older)) e.place
        same = ap (λ (b : Bool). (cond b (after_call e.event k) k).host) (sym (eq-eqb e.place e.place refl)) ∙ sym (kept_is_session numbers (e ∷ older) e.place)

        at_once : Contains (sent_by_deeds (deeds_of e.event k) (host_at numbers (steps_of numbers older) e.place)) v → WasHeldAs (e ∷ older) (name_of page m.source m.high)
        at_once now =
            let tells = call_tells e.event k taken.0 (kept_fits older taken.1 e.place) v (subst (λ (h : Opened). Contains (sent_by_deeds (deeds_of e.event k) h) v) (kept_is_session numbers older e.place) now) in
            let x = of_name (after_call e.event k).host.is.held (name_of page m.source m.high) (tells page m told) in
            (x.0, record { older = steps_of numbers (e ∷ older); behind = whole; place = e.place; held = subst (λ (h : Opened). Contains h.is.held x.0) same x.1 }, x.2)

pub marks_were_drawn : MarksWereDrawn
marks_were_drawn numbers calls taken were know v page m c told =
    let h = marks_were_held numbers calls taken v page m c told in
    (h.0, once_held_was_drawn numbers (steps_of numbers calls) (kept_are_honest numbers calls taken were know) h.0 h.1, h.2)
