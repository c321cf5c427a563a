-- What is firm is not hushed: call by call, and over any calls.
use Rattle.std.proofs.Common.{◌≡◌, ◌<◌, ℕ, Bool, true, false, cond, List, [], ◌∷◌, ◌++◌, ◌∙◌, Option, Some, None, ap, arith, eqb-true, inl, inr, refl, subst, sym, true≢false, ⊎_elim}
use Rattle.std.specs.Prelude.{◌⊎◌, All, Contains, is_some, nat_eq}
use Rattle.std.proofs.lemmas.Bool.{false_from_ne_true}
use Rattle.std.proofs.lemmas.List.Elements.{All-head}
use Rattle.wb_names.specs.History.{IsHistory}
use Rattle.wb_names.specs.Orders.{same_name}
use Rattle.wb_names.specs.Values.{DrawopValue, NameValue}
use Rattle.wb_names.specs.declared.echo.Echo.{Echo}
use Rattle.wb_names.proofs.Listings.{Contains-map}
use Rattle.wb_names.proofs.Orders.{same_name-is}
use Rattle.wb_codec.specs.declared.datagram.Datagram.{Datagram}
use Rattle.wb_codec.specs.declared.datagram.Datagram.TheVariants.{Draw, PageState, Request}
use Rattle.wb_recovery.specs.Events.{timers_of}
use Rattle.wb_recovery.specs.declared.timers.AnswerTimer.{AnswerTimer}
use Rattle.wb_recovery.specs.declared.timers.AskTimer.{AskTimer}
use Rattle.wb_recovery.specs.declared.tuning.Tuning.{Tuning}
use Rattle.wb_judge.specs.Adding.{own_echo}
use Rattle.wb_judge.specs.Judge.{is_firm}
use Rattle.wb_judge.specs.declared.origin.Origin.{Origin}
use Rattle.wb_judge.specs.declared.verdict.Why.{Why}
use Rattle.wb_judge.specs.declared.verdict.Why.TheVariants.{Again}
use Rattle.wb_judge.proofs.Firmness.{nobody_hushes_firm_names}
use Rattle.wb_keeper.specs.Keeper.{holds as history_holds}
use Rattle.wb_keeper.proofs.KeptCalls.{holds_from}
use Rattle.wb_member.specs.Judged.{holds}
use Rattle.wb_member.specs.Opened.{Opened, events, present}
use Rattle.wb_keeping.specs.Laws.{Came, KeptLine, doing_of, fault_of}
use Rattle.wb_keeping.specs.Performing.{Keeping, after_doing, after_lines, sent_by_doing}
use Rattle.wb_judging.specs.Echoing.{echoing}
use Rattle.wb_judging.specs.Handing.{facts_of, handed, handed_for, recalled, verdict_on}
use Rattle.wb_judging.specs.Judged.{Judged, moment_of}
use Rattle.wb_judging.specs.declared.call.Call.{Call}
use Rattle.wb_judging.specs.declared.call.Call.TheVariants.{CameFrom, Held, Passed, UserDrew}
use Rattle.wb_judging.specs.Laws.{drawops_in}
use Rattle.wb_judging.specs.Performing.{after_judged, after_kept_line, judging, sent_by_kept_line}
use Rattle.wb_judging.specs.declared.record.RecordLine.{RecordLine}
use Rattle.wb_judging.specs.declared.record.RecordLine.TheVariants.{Known, Mark, Owner, Said, Strange, Tick}
use Rattle.wb_judging.proofs.AsKept.{sends_as_kept}
use Rattle.wb_laws_kept.specs.Sessions.{steps_of}
use Rattle.wb_laws_sessions.proofs.Holding.{none_held_is_asked_for}
use Rattle.wb_laws_sessions.proofs.Sending.{one_draw}
use Rattle.wb_judged_sessions.specs.Calls.{after_call, IsTaken, JudgedCall, Start, Starts, Takes, Tunes}
use Rattle.wb_judged_sessions.specs.Sessions.{At, judged_at, kept_calls}
use Rattle.wb_judged_sessions.specs.Terms.{AreTaken}
use Rattle.wb_judged_sessions.specs.Unhushed.{AllAre, RepairsAreSent, ComesWhen, EndsRequest, IsFirmAt, IsToRepair, IsToRequest, OneIs, RequestsAreSent, Sends}
use Rattle.wb_judged_sessions.proofs.FirmAnswers as answering
use Rattle.wb_judged_sessions.proofs.FirmAnswers.{Answers, added_goes as added_answers, came_goes as came_answers, ticked_goes as ticked_answers}
use Rattle.wb_judged_sessions.proofs.FirmCauses.{IsCause, why_given_up}
use Rattle.wb_judged_sessions.proofs.FirmRequests.{CallGoes, Waits, added_goes as added_asks, came_goes as came_asks, ticked_goes as ticked_asks}
use Rattle.wb_judged_sessions.proofs.Terms.{fault_none, own_at}
use Rattle.wb_judged_sessions.proofs.True.{held_once, host_is}

-- ---- what is sent

sent_too : (v : Datagram) (line : Call) (h : Judged) → ((echo : Option Echo) → echoing echo v ≡ v) → Contains (sent_by_doing (doing_of (handed line h)) h.kept) v → Sends v line h
unfolding sent_by_kept_line
sent_too v line h same c =
    let echo = own_echo (moment_of line h) (judging line h) in
    subst (λ (vs : List Datagram). Contains vs v) (sym (sends_as_kept line h)) (Contains-map (echoing echo) (sent_by_doing (doing_of (handed line h)) h.kept) v (c.0, v, c.1, c.2, same echo))

next_kept : (line : Call) (h : Judged) → (after_judged line h).kept ≡ after_doing (doing_of (handed line h)) h.kept
unfolding after_kept_line
next_kept line h = refl

-- ---- what the judge drops while a name is firm

copy_dropped : (now : ℕ) (o : Origin) (y : DrawopValue) (h : Judged) → holds h.kept.host y.name ≡ true → is_firm y.name now h.judge ≡ true → (verdict_on now o (Draw y) h).why ≡ Some Again
unfolding verdict_on
copy_dropped now o y h held firm = (nobody_hushes_firm_names o (facts_of now (Draw y) h.kept) h.judge).0 y held firm

request_dropped : (now : ℕ) (o : Origin) (asker : ℕ) (name : NameValue) (h : Judged) → holds h.kept.host name ≡ false → is_firm name now h.judge ≡ true → is_some (verdict_on now o (Request asker name) h).why ≡ true
unfolding verdict_on
request_dropped now o asker name h lacks firm = (nobody_hushes_firm_names o (facts_of now (Request asker name) h.kept) h.judge).1 asker name lacks firm

-- ---- a call, and an answer

module _ (d : DrawopValue) (a : AnswerTimer) where
  abbrev IsFirm : JudgedCall → Judged → Type 0
  IsFirm = ComesWhen (IsFirmAt d.name) a.due d.name

  abbrev Goes : ℕ → KeptLine → Judged → Type 0
  Goes now call h = answering.Goes d a now call h.kept

  -- a drawop that is handed in is no copy
  came_other : (now : ℕ) (o : Origin) (v : Datagram) (h : Judged) → is_firm d.name now h.judge ≡ true → Contains h.kept.host.is.held d → (verdict_on now o v h).why ≡ None
      → (y : DrawopValue) → v ≡ Draw y → same_name y.name d.name ≡ false
  came_other now o v h firm held none y is = false_from_ne_true (same_name y.name d.name) (λ same.
      let named : d.name ≡ y.name = sym (same_name-is y.name d.name same) in
      let there = holds_from h.kept.host.is.held y.name d held named in
      dropped (subst (λ (m : NameValue). is_firm m now h.judge ≡ true) named firm) there) where
        dropped : is_firm y.name now h.judge ≡ true → holds h.kept.host y.name ≡ true → ⊥
        dropped firm there =
            let again = copy_dropped now o y h there firm in
            let let_in = subst (λ (w : Datagram). (verdict_on now o w h).why ≡ None) is none in
            true≢false (sym (ap is_some again) ∙ ap is_some let_in)

  line_answers : (line : Call) (h : Judged) → IsFirm (Takes line) h → IsHistory h.kept.host.is.held → Answers d a h.kept.host → Goes (moment_of line h) (handed line h) h
  line_answers (CameFrom now o v) h firm once is = by (verdict_on now o v h).why refl where
    by : (why : Option Why) → (verdict_on now o v h).why ≡ why → Goes now (handed_for now v why) h
    by None none = came_answers d a now v h.kept (λ lt. came_other now o v h (firm lt) is.held none) once is
    by (Some why) e = ticked_answers d a now h.kept once is
  line_answers (Passed now news) h firm once is = ticked_answers d a now h.kept once is
  line_answers (UserDrew now page op) h firm once is = added_answers d a now page _ op h.kept once is
  line_answers (Held line) h firm once is = by line firm where
    now : ℕ
    now = present h.kept.host

    copied : (e : DrawopValue) → All (λ (y : DrawopValue). same_name y.name d.name ≡ false) (e ∷ []) → Goes now (Came now (Draw e)) h
    copied e other = came_answers d a now (Draw e) h.kept (λ lt y is. subst (λ (z : DrawopValue). same_name z.name d.name ≡ false) (one_draw e y is) (All-head (λ (x : DrawopValue). same_name x.name d.name ≡ false) e [] other)) once is

    by : (line : RecordLine) → All (λ (y : DrawopValue). same_name y.name d.name ≡ false) (drawops_in line) → Goes now (recalled now line) h
    by (Tick past) other = ticked_answers d a now h.kept once is
    by (Said e) other = copied e other
    by (Known e) other = copied e other
    by (Strange e) other = copied e other
    by (Owner number place owner) other = ticked_answers d a now h.kept once is
    by (Mark speaker page mark) other = came_answers d a now (PageState speaker page (mark ∷ [])) h.kept (λ lt y same. absurd (no_drawop y same)) once is where
      no_drawop : (y : DrawopValue) → PageState speaker page (mark ∷ []) ≡ Draw y → ⊥
      no_drawop y e = cc

  abbrev IsIt : Keeping → Type 0
  IsIt k = Contains k.host.is.held d × ((timers_of k.host.is.constants (events k.host) d.name).answer ≡ Some a) × (present k.host < a.due)

  it_is : (h : Judged) → IsIt h.kept → IsToRepair d a h
  it_is h is = record { held = is.0; timer = is.1; ahead = is.2 }

  call_answers : (line : Call) (h : Judged) → IsFirm (Takes line) h → IsHistory h.kept.host.is.held → (timers_of h.kept.host.is.constants (events h.kept.host) d.name).ask ≡ None → IsToRepair d a h
      → Sends (Draw d) line h ⊎ IsToRepair d a (after_judged line h)
  call_answers line h firm once none is = by (line_answers line h firm once (record { held = is.held; set = (none, is.timer) })) where
    by : Goes (moment_of line h) (handed line h) h → Sends (Draw d) line h ⊎ IsToRepair d a (after_judged line h)
    by (inl sent) = inl (sent_too (Draw d) line h (λ echo. refl) sent)
    by (inr stands) =
        let moment = stands.0.moment in
        let lt = stands.1 in
        inr (it_is (after_judged line h) (subst IsIt (sym (next_kept line h)) (stands.0.answers.held, stands.0.answers.set.1, omega (arith, moment, lt))))

-- ---- a call, and a request

module _ (n : NameValue) (x : AskTimer) where
  abbrev IsFirmly : JudgedCall → Judged → Type 0
  IsFirmly = ComesWhen (IsFirmAt n) x.due n

  -- a request for the name is not handed in
  not_handed : (now : ℕ) (o : Origin) (v : Datagram) (h : Judged) → is_firm n now h.judge ≡ true → holds h.kept.host n ≡ false → (verdict_on now o v h).why ≡ None
      → (asker : ℕ) → v ≡ Request asker n → ⊥
  not_handed now o v h firm lacks none asker is =
      let dropped = request_dropped now o asker n h lacks firm in
      let let_in = subst (λ (w : Datagram). (verdict_on now o w h).why ≡ None) is none in
      true≢false (sym dropped ∙ ap is_some let_in)

  line_asks : (line : Call) (h : Judged) → IsFirmly (Takes line) h → Waits n x h.kept.host → CallGoes n x (moment_of line h) (handed line h) h.kept
  line_asks (CameFrom now o v) h firm is = by (verdict_on now o v h).why refl where
    by : (why : Option Why) → (verdict_on now o v h).why ≡ why → CallGoes n x now (handed_for now v why) h.kept
    by None none = came_asks n x now v h.kept (λ lt m asker e. not_handed now o v h (firm lt) is.lacks none asker (same_datagram m asker e)) is where
      same_datagram : (m asker : ℕ) → Came now v ≡ Came m (Request asker n) → v ≡ Request asker n
      same_datagram m asker e = cc
    by (Some why) e = ticked_asks n x now h.kept is
  line_asks (Passed now news) h firm is = ticked_asks n x now h.kept is
  line_asks (UserDrew now page op) h firm is = added_asks n x now page _ op h.kept is
  line_asks (Held line) h firm is = by line where
    now : ℕ
    now = present h.kept.host

    by : (line : RecordLine) → CallGoes n x now (recalled now line) h.kept
    by (Tick past) = ticked_asks n x now h.kept is
    by (Said e) = came_asks n x now (Draw e) h.kept (λ lt m asker e. absurd cc) is
    by (Known e) = came_asks n x now (Draw e) h.kept (λ lt m asker e. absurd cc) is
    by (Strange e) = came_asks n x now (Draw e) h.kept (λ lt m asker e. absurd cc) is
    by (Owner number place owner) = ticked_asks n x now h.kept is
    by (Mark speaker page mark) = came_asks n x now (PageState speaker page (mark ∷ [])) h.kept (λ lt m asker e. absurd cc) is

  abbrev IsWaiting : Keeping → Type 0
  IsWaiting k = (history_holds k.host.is.held n ≡ false) × ((timers_of k.host.is.constants (events k.host) n).ask ≡ Some x) × (present k.host < x.due)

  it_waits : (h : Judged) → IsWaiting h.kept → IsToRequest n x h
  it_waits h is = record { lacks = is.0; timer = is.1; ahead = is.2 }

  call_asks : (line : Call) (h : Judged) → fault_of (handed line h) h.kept ≡ None → IsFirmly (Takes line) h → IsToRequest n x h → EndsRequest n x line h ⊎ IsToRequest n x (after_judged line h)
  call_asks line h taken firm is = by (line_asks line h firm (record { lacks = is.lacks; stands = is.timer })) where
    same : (after_judged line h).kept ≡ after_doing (doing_of (handed line h)) h.kept
    same = next_kept line h

    by : CallGoes n x (moment_of line h) (handed line h) h.kept → EndsRequest n x line h ⊎ IsToRequest n x (after_judged line h)
    by (inl sent) = inl (inl (sent_too (Request h.kept.host.is.number n) line h (λ echo. refl) sent))
    by (inr (inl at, lt)) =
        let moment = at.moment in
        inr (it_waits (after_judged line h) (subst IsWaiting (sym same) (at.waits.lacks, at.waits.stands, omega (arith, moment, lt))))
    by (inr (inr (inl held), lt)) = inl (inr (inl (subst (λ (k : Keeping). history_holds k.host.is.held n ≡ true) (sym same) held)))
    by (inr (inr (inr s), lt)) = inl (inr (inr (record {
      before = s.before;
      later = s.later;
      split = s.split;
      why = subst (λ (k : Keeping). IsCause n x (after_lines s.before h.kept.host) k.host) (sym same) (why_given_up n x (handed line h) h.kept s.before s.later taken s.split s.waits.stands);
    })))

-- ---- many calls

module _ (numbers : ℕ → ℕ) (place : ℕ) (older : List (At JudgedCall)) (Is : JudgedCall → Judged → Type 0) (Ends : Call → Judged → Type 0) (Stays : Judged → Type 0) where
  one_later : (e : At JudgedCall) (newer : List (At JudgedCall)) → OneIs Ends numbers place newer older → OneIs Ends numbers place (e ∷ newer) older
  one_later e newer one = record {
    later = e ∷ one.later;
    call = one.call;
    earlier = one.earlier;
    split = ap (λ (calls : List (At JudgedCall)). e ∷ calls) one.split;
    here = one.here;
    line = one.line;
    takes = one.takes;
    is = one.is;
  }

  module _ (never : (start : Start) (given : List RecordLine) (h : Judged) → Is (Starts start given) h → ⊥)
      (tunes : (constants : Tuning) (h : Judged) → Stays h → Stays (after_call (Tunes constants) h))
      (step : (newer : List (At JudgedCall)) (line : Call) → let h = judged_at numbers (newer ++ older) place in Is (Takes line) h → Stays h → Ends line h ⊎ Stays (after_judged line h)) where
    called : (e : At JudgedCall) (newer : List (At JudgedCall)) (call : JudgedCall) → e.event ≡ call → e.place ≡ place
        → let h = judged_at numbers (newer ++ older) place in Is call h → Stays h → OneIs Ends numbers place (e ∷ newer) older ⊎ Stays (after_call call h)
    called e newer (Starts start given) takes here is stays = absurd (never start given (judged_at numbers (newer ++ older) place) is)
    called e newer (Takes line) takes here is stays = ⊎_elim
        (λ (ends : Ends line (judged_at numbers (newer ++ older) place)). inl (record { later = []; call = e; earlier = newer; split = refl; here = here; line = line; takes = takes; is = ends }))
        (λ (on : Stays (after_judged line (judged_at numbers (newer ++ older) place))). inr on)
        (step newer line is stays)
    called e newer (Tunes constants) takes here is stays = inr (tunes constants (judged_at numbers (newer ++ older) place) stays)

    pub goes_on : (newer : List (At JudgedCall)) → AllAre Is numbers place newer older → Stays (judged_at numbers older place) → OneIs Ends numbers place newer older ⊎ Stays (judged_at numbers (newer ++ older) place)
    goes_on [] all is = inr is
    goes_on (e ∷ newer) all is = ⊎_elim (λ (one : OneIs Ends numbers place newer older). inl (one_later e newer one)) (λ (stays : Stays h). by (nat_eq e.place place) refl stays) (goes_on newer all.1 is) where
      h : Judged
      h = judged_at numbers (newer ++ older) place

      by : (b : Bool) → nat_eq e.place place ≡ b → Stays h → OneIs Ends numbers place (e ∷ newer) older ⊎ Stays (cond b (after_call e.event h) h)
      by false other stays = inr stays
      by true same stays = let here = eqb-true e.place place same in called e newer e.event refl here (all.0 here) stays

-- no request timer stands for what is held
none_at : (numbers : ℕ → ℕ) (calls : List (At JudgedCall)) (place : ℕ) (n : NameValue)
    → let host = (judged_at numbers calls place).kept.host in history_holds host.is.held n ≡ true → (timers_of host.is.constants (events host) n).ask ≡ None
none_at numbers calls place n =
    subst (λ (host : Opened). history_holds host.is.held n ≡ true → (timers_of host.is.constants (events host) n).ask ≡ None) (host_is numbers calls place)
    (none_held_is_asked_for numbers (steps_of numbers (kept_calls numbers calls)) place n)

pub repairs_are_sent : RepairsAreSent
repairs_are_sent numbers newer older place d a is firm =
    goes_on numbers place older (ComesWhen (IsFirmAt d.name) a.due d.name) (Sends (Draw d)) (IsToRepair d a) (λ start given h never. never)
    (λ constants h stays. record { held = stays.held; timer = stays.timer; ahead = stays.ahead })
    (λ newer line comes stays.
    let h = judged_at numbers (newer ++ older) place in
    call_answers d a line h comes (held_once numbers (newer ++ older) place) (none_at numbers (newer ++ older) place d.name (holds_from h.kept.host.is.held d.name d stays.held refl)) stays)
    newer firm is

-- each of the calls is taken
and_taken : (Is : JudgedCall → Judged → Type 0) (numbers : ℕ → ℕ) (place : ℕ) (newer older : List (At JudgedCall)) → AreTaken numbers (newer ++ older) → AllAre Is numbers place newer older
    → AllAre (λ call h. IsTaken call h × Is call h) numbers place newer older
and_taken Is numbers place [] older taken all = tt
and_taken Is numbers place (e ∷ newer) older taken all =
    (λ here. (subst (λ (p : ℕ). IsTaken e.event (judged_at numbers (newer ++ older) p)) here taken.0, all.0 here), and_taken Is numbers place newer older taken.1 all.1)

pub requests_are_sent : RequestsAreSent
requests_are_sent numbers newer older place n x taken is firm =
    goes_on numbers place older (λ call h. IsTaken call h × ComesWhen (IsFirmAt n) x.due n call h) (EndsRequest n x) (IsToRequest n x) (λ start given h both. both.1)
    (λ constants h stays. record { lacks = stays.lacks; timer = stays.timer; ahead = stays.ahead })
    (λ newer line both stays.
    let h = judged_at numbers (newer ++ older) place in
    call_asks n x line h (fault_none line h (own_at numbers (newer ++ older) place) both.0) both.1 stays)
    newer (and_taken (ComesWhen (IsFirmAt n) x.due n) numbers place newer older taken firm) is
