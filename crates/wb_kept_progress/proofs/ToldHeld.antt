-- What a self-managing host tells of names, it holds; and it reports under its own number.
use Rattle.std.proofs.Common.{◌≡◌, ℕ, Bool, true, false, cond, List, [], ◌∷◌, ◌++◌, ◌∙◌, Option, Some, None, ap, arith, inl, inr, map, refl, subst, sym, ⊎_elim, length}
use Rattle.std.specs.Prelude.{◌⊎◌, Contains, filter, nat_lt, take}
use Rattle.std.specs.Option.{option_map}
use Rattle.std.proofs.lemmas.Bool.{ltb-true}
use Rattle.std.proofs.lemmas.List.Elements.{Contains-append_cases}
use Rattle.wb_names.specs.Arrivals.{Outcome, New, Again, Clash, Left}
use Rattle.wb_names.specs.History.{IsHeld, highest}
use Rattle.wb_names.specs.Values.{DrawopValue, MarkValue, NameValue}
use Rattle.wb_names.specs.declared.name.PageId.{PageId}
use Rattle.wb_names.proofs.Listings.{Any-from_map, Contains-cases, Contains-from_filter, Contains-from_take, Contains-none}
use Rattle.wb_codec.specs.declared.datagram.Datagram.{Datagram}
use Rattle.wb_codec.specs.declared.datagram.Datagram.TheVariants.{Draw, Session, Request, AskPages, PageState}
use Rattle.wb_gaps.specs.Answers.{pages_of, report_of, reports_of, sources_of, top_mark}
use Rattle.wb_gaps.specs.declared.page_reports.PageReport.{PageReport}
use Rattle.wb_gaps.proofs.Reports.{greatest_held}
use Rattle.wb_recovery.specs.declared.plan.Action.{Action}
use Rattle.wb_recovery.specs.declared.plan.Action.TheVariants.{Ask, Answer}
use Rattle.wb_keeper.specs.Hearing.{answers_to, asks_for_pages, page_states}
use Rattle.wb_keeper.specs.Ticks.{drawop_of, sent_for}
use Rattle.wb_keeper.proofs.TickSends.{sent_from}
use Rattle.wb_member.specs.Opened.{Opened, becomes, has_room_for, present, sent_by}
use Rattle.wb_member.specs.declared.calls.Call.TheVariants as calls
use Rattle.wb_member.proofs.PolicyCalls.{SendsNothing, none_sent}
use Rattle.wb_keeping.specs.Kept.{Arrives, Line, Says, state_of, still, want, Calls, report_echoes}
use Rattle.wb_keeping.specs.Laws.{KeptLine, doing_of, fault_of}
use Rattle.wb_keeping.specs.Performing.{Keeping, after_doing, after_line, after_lines, said_where, sees, sent_by_doing, sent_by_line, sent_by_lines, view_of}
use Rattle.wb_policy.specs.Policy.{Policy, after_wanting}
use Rattle.wb_keeping.specs.Views.{View, holds, is_full, level, is_known}
use Rattle.wb_policy.specs.Reports.{is_untold, slice_after}
use Rattle.wb_policy.specs.Wanting.{is_wanted}
use Rattle.wb_keeping.proofs.EachStep.{HoldsOfSteps, doing, line_holds}
use Rattle.wb_keeping.proofs.Performed.{after_both, sent_by_both}
use Rattle.wb_keeping.proofs.Wanted.{lines_wanted}
use Rattle.wb_kept_progress.proofs.Lines.{lines_grow, lines_of}
use Rattle.wb_keeping.proofs.EachLine.{Each, wanted_each}
use Rattle.wb_laws_sessions.proofs.Sending.{one_of}
use Rattle.std.proofs.lemmas.Option.{same_Some, none-some}

-- each mark of a page is of a number that is held
abbrev pub AreHeld : List DrawopValue → PageId → List MarkValue → Type 0
AreHeld held page marks = (m : MarkValue) → Contains marks m → IsHeld held page m.source m.high

-- of a report or a page state, its marks are, and a report is of this member
abbrev pub TellsHeld : ℕ → List DrawopValue → Datagram → Type 0
TellsHeld me held (Draw d) = Unit {0}
TellsHeld me held (Session sender sent page marks echoes) = (sender ≡ me) × AreHeld held page marks
TellsHeld me held (Request asker name) = Unit {0}
TellsHeld me held (AskPages asker) = Unit {0}
TellsHeld me held (PageState sender page marks) = AreHeld held page marks

-- what is held stays
abbrev Grow : List DrawopValue → List DrawopValue → Type 0
Grow one next = (d : DrawopValue) → Contains one d → Contains next d

still_held : (one next : List DrawopValue) → Grow one next → (page : PageId) (source n : ℕ) → IsHeld one page source n → IsHeld next page source n
still_held one next kept page source n h = let c = kept h.1 (h.0, h.2, h.3) in (c.0, h.1, c.1, c.2, h.4)

still_tells : (me : ℕ) (one next : List DrawopValue) → Grow one next → (v : Datagram) → TellsHeld me one v → TellsHeld me next v
still_tells me one next kept (Draw d) tells = tt
still_tells me one next kept (Session sender sent page marks echoes) tells = (tells.0, λ m c. still_held one next kept page m.source m.high (tells.1 m c))
still_tells me one next kept (Request asker name) tells = tt
still_tells me one next kept (AskPages asker) tells = tt
still_tells me one next kept (PageState sender page marks) tells = λ m c. still_held one next kept page m.source m.high (tells m c)

-- ---- the report of a page

pub report_held : (held : List DrawopValue) (page : PageId) → AreHeld held page (report_of held page)
unfolding report_of
report_held held page m c =
    let f = Contains-from_filter (λ (m : MarkValue). nat_lt 0 m.high) (map (top_mark held page) (sources_of held page)) m c in
    let r = Any-from_map (top_mark held page) (sources_of held page) m f.0 in
    subst (λ (m : MarkValue). IsHeld held page m.source m.high) r.4 (top r.1 (subst (λ (m : MarkValue). nat_lt 0 m.high ≡ true) (sym r.4) f.1)) where
      top : (source : ℕ) → nat_lt 0 (highest page source held) ≡ true → IsHeld held page source (highest page source held)
      top source some = by (greatest_held held page source).reached where
        by : (highest page source held ≡ 0) ⊎ IsHeld held page source (highest page source held) → IsHeld held page source (highest page source held)
        by (inl none) = let lt = ltb-true _ _ some in absurd (omega (arith, none, lt))
        by (inr h) = h

pub slice_held : (held : List DrawopValue) (page : PageId) (told : Option ℕ) → AreHeld held page (slice_after told (report_of held page))
slice_held held page told m c =
    let p : MarkValue → Bool = λ m. is_untold told m.source in
    report_held held page m (Contains-from_filter p (report_of held page) m (Contains-from_take 64 (filter p (report_of held page)) m c)).0

-- ---- what a line sends

-- as time goes on, requests and drawops alone
action_tells : (me : ℕ) (history held : List DrawopValue) (action : Action) (v : Datagram) → sent_for me history action ≡ Some v → TellsHeld me held v
action_tells me history held (Ask name) v e = subst (TellsHeld me held) (same_Some (Request me name) v e) tt
action_tells me history held (Answer name) v e = by (drawop_of history name) e where
  by : (o : Option DrawopValue) → option_map {T = DrawopValue} {U = Datagram} Draw o ≡ Some v → TellsHeld me held v
  by None e = absurd (none-some v e)
  by (Some d) e = subst (TellsHeld me held) (same_Some (Draw d) v e) tt

tick_tells : (now : ℕ) (host : Opened) (v : Datagram) → Contains (sent_by now host) v → TellsHeld host.is.number host.is.held v
tick_tells now host v c = let r = sent_from (sent_for host.is.number host.is.held) _ v c in action_tells host.is.number host.is.held host.is.held r.0 v r.2

-- a member answers a question by the reports of its pages
abbrev reported : List DrawopValue → PageId → PageReport
reported held page = record { page = page; marks = report_of held page }

answer_tells : (me : ℕ) (held : List DrawopValue) (heard v : Datagram) → Contains (answers_to me held heard) v → TellsHeld me held v
answer_tells me held heard v c = by (asks_for_pages me heard) c where
  by : (b : Bool) → Contains (cond b (page_states me held) []) v → TellsHeld me held v
  by false c = absurd (Contains-none v c)
  by true c =
      let r = Any-from_map (λ (r : PageReport). PageState me r.page r.marks) (reports_of held) v c in
      let p = Any-from_map (reported held) (pages_of held) r.1 (r.0, r.2, r.3) in
      subst (TellsHeld me held) r.4 (subst (λ (s : PageReport). AreHeld held s.page s.marks) p.4 (report_held held p.1))

hear_tells : (heard : Datagram) (host : Opened) (v : Datagram) → Contains (sent_by_line (Calls (calls.Hear heard)) host) v → TellsHeld host.is.number host.is.held v
hear_tells heard host v c = by (has_room_for heard host) c where
  by : (b : Bool) → Contains (cond b (answers_to host.is.number host.is.held heard) []) v → TellsHeld host.is.number host.is.held v
  by true c = answer_tells host.is.number host.is.held heard v c
  by false c = absurd (Contains-none v c)

draw_tells : (me : ℕ) (held : List DrawopValue) (d : DrawopValue) (o : Outcome) (v : Datagram) → Contains (said_where d o) v → TellsHeld me held v
draw_tells me held d (New i) v c = subst (TellsHeld me held) (one_of (Draw d) v c) tt
draw_tells me held d (Again i) v c = subst (TellsHeld me held) (one_of (Draw d) v c) tt
draw_tells me held d (Clash i) v c = absurd (Contains-none v c)
draw_tells me held d Left v c = absurd (Contains-none v c)

-- ---- lines that send nothing

abbrev IsSilent : Line → Type 0
IsSilent (Arrives d) = Unit {0}
IsSilent (Says v) = ⊥
IsSilent (Calls call) = SendsNothing call

silent : (line : Line) (host : Opened) (v : Datagram) → IsSilent line → Contains (sent_by_line line host) v → ⊥
silent (Arrives d) host v none c = Contains-none v c
silent (Says w) host v none c = none
silent (Calls call) host v none c = none_sent call host v none c

abbrev AreSilent : List Line → Type 0
AreSilent lines = Each IsSilent lines

all_silent : (lines : List Line) (host : Opened) (v : Datagram) → AreSilent lines → Contains (sent_by_lines lines host) v → ⊥
all_silent [] host v none c = Contains-none v c
all_silent (line ∷ lines) host v none c = ⊎_elim (silent line host v none.0) (all_silent lines (after_line line host) v none.1) (Contains-append_cases (sent_by_line line host) (sent_by_lines lines (after_line line host)) v c)

want_none : (name : NameValue) (anew : Bool) (see : List Line → View) (p : Policy) → AreSilent (want name anew see p).lines
want_none name anew see p = by (is_wanted (holds v name) (is_full v) anew (is_known v name.source) (level v name) (length v.asked) p.owed v.now) where
  v : View
  v = see []

  by : (b : Bool) → AreSilent (cond b (doing (after_wanting v.now p) (lines_wanted name anew see p)) (still see p)).lines
  by true = wanted_each IsSilent (λ name. tt) name tt anew see p tt tt
  by false = tt

-- ---- all that a kept host does

record TellsWhatIsHeld (k : Keeping) (lines : List Line) (m : Keeping) : Type 0 where
  at : m.host ≡ after_lines lines k.host
  tells : (v : Datagram) → Contains (sent_by_lines lines k.host) v → TellsHeld k.host.is.number m.host.is.held v

-- by what was held before
by_held : (k : Keeping) (lines : List Line) (p : Policy) → ((v : Datagram) → Contains (sent_by_lines lines k.host) v → TellsHeld k.host.is.number k.host.is.held v)
    → TellsWhatIsHeld k lines (record { host = after_lines lines k.host; policy = p })
by_held k lines p tells = record { at = refl; tells = λ v c. still_tells k.host.is.number k.host.is.held (after_lines lines k.host).is.held (lines_grow lines k.host).kept v (tells v c) }

by_one : (k : Keeping) (line : Line) (p : Policy) → ((v : Datagram) → Contains (sent_by_line line k.host) v → TellsHeld k.host.is.number k.host.is.held v)
    → TellsWhatIsHeld k (line ∷ []) (record { host = after_line line k.host; policy = p })
by_one k line p tells = by_held k (line ∷ []) p
    (λ v c. ⊎_elim (λ (h : Contains (sent_by_line line k.host) v). tells v h) (λ (h : Contains [] v). absurd (Contains-none v h)) (Contains-append_cases (sent_by_line line k.host) [] v c))

quietly : (k : Keeping) (lines : List Line) (p : Policy) → AreSilent lines → TellsWhatIsHeld k lines (record { host = after_lines lines k.host; policy = p })
quietly k lines p none = by_held k lines p (λ v c. absurd (all_silent lines k.host v none c))

both_tell : (k m n : Keeping) (one other : List Line) → TellsWhatIsHeld k one m → TellsWhatIsHeld m other n → TellsWhatIsHeld k (one ++ other) n
both_tell k m n one other a b = record {
  at = b.at ∙ ap (after_lines other) a.at ∙ sym (after_both one other k.host);
  tells = λ v c. ⊎_elim
      (λ (h : Contains (sent_by_lines one k.host) v).
      let kept : Grow m.host.is.held n.host.is.held = subst (λ (o : Opened). Grow m.host.is.held o.is.held) (sym b.at) (lines_grow other m.host).kept in
      still_tells k.host.is.number m.host.is.held n.host.is.held kept v (a.tells v h))
      (λ (h : Contains (sent_by_lines other (after_lines one k.host)) v).
      subst (λ (me : ℕ). TellsHeld me n.host.is.held v) (ap (λ (o : Opened). o.is.number) a.at ∙ (lines_of one k.host).number)
      (b.tells v (subst (λ (o : Opened). Contains (sent_by_lines other o) v) (sym a.at) h)))
      (Contains-append_cases (sent_by_lines one k.host) (sent_by_lines other (after_lines one k.host)) v
      (subst (λ (s : List Datagram). Contains s v) (sent_by_both one other k.host) c));
}

states_tell : (seen : View) (pages : List PageId) (host : Opened) (v : Datagram)
    → Contains (sent_by_lines (map (λ (page : PageId). Says (state_of seen page)) pages) host) v → TellsHeld seen.me seen.held v
states_tell seen [] host v c = absurd (Contains-none v c)
states_tell seen (page ∷ pages) host v c = ⊎_elim
    (λ (e : state_of seen page ≡ v). subst (TellsHeld seen.me seen.held) e (slice_held seen.held page None))
    (λ (d : Contains (sent_by_lines (map (λ (page : PageId). Says (state_of seen page)) pages) host) v). states_tell seen pages host v d)
    (Contains-cases (state_of seen page) v (sent_by_lines (map (λ (page : PageId). Says (state_of seen page)) pages) host) c)

steps_tell : HoldsOfSteps TellsWhatIsHeld
steps_tell = record {
  due = record {
    nothing = λ k. quietly k [] k.policy tt;
    both = both_tell;
    wants = λ name anew k. quietly k _ _ (want_none name anew (sees k.host) k.policy);
    turned = λ t l k. quietly k [] _ tt;
    beats = λ k due. quietly k [] _ tt;
    answers = λ k is. by_held k _ _ (states_tell (view_of k.host) (take 64 (pages_of k.host.is.held)) k.host);
    asks_pages = λ k is. by_one k (Says (AskPages k.host.is.number)) _ (λ v c. subst (TellsHeld k.host.is.number k.host.is.held) (one_of (AskPages k.host.is.number) v c) tt);
    reports = λ page until told k is.
        let report = Session k.host.is.number (present k.host) page (slice_after told (report_of k.host.is.held page)) (report_echoes (view_of k.host) k.policy) in
        by_one k (Says report) _ (λ v c. subst (TellsHeld k.host.is.number k.host.is.held) (one_of report v c) (refl, slice_held k.host.is.held page told));
  };
  ticks = λ now k later. by_one k (Calls (calls.Tick now)) k.policy (tick_tells now k.host);
  arrives = λ d k free. quietly k _ k.policy (tt, tt);
  answered = λ d k lacks asked. quietly k _ _ (tt, tt);
  hears = λ v k. by_one k (Calls (calls.Hear v)) k.policy (hear_tells v k.host);
  stops = λ name k full. quietly k _ k.policy (tt, tt);
  sets = λ source micros k. quietly k _ k.policy (tt, tt);
  lends = λ source k. quietly k _ k.policy (tt, tt);
  takes_back = λ source k. quietly k _ k.policy (tt, tt);
  tunes = λ constants k within. quietly k _ k.policy (tt, tt);
  draws = λ d k unasked. by_one k (Says (Draw d)) k.policy (draw_tells k.host.is.number k.host.is.held d (becomes d k.host));
  drawn = λ d k asked. by_one k (Says (Draw d)) _ (draw_tells k.host.is.number k.host.is.held d (becomes d k.host));
  measured = λ micros k. quietly k [] _ tt;
  told = λ k. quietly k [] _ tt;
  takes_up = λ k is. quietly k [] _ tt;
}

-- What a call tells is held behind it, and it reports under the number of its host.
pub call_tells : (line : KeptLine) (k : Keeping) → fault_of line k ≡ None → (v : Datagram) → Contains (sent_by_doing (doing_of line) k) v
    → TellsHeld k.host.is.number (after_doing (doing_of line) k).host.is.held v
call_tells line k none = (line_holds TellsWhatIsHeld steps_tell line k none).tells
