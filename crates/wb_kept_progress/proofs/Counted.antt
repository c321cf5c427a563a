-- Which members a live host counts: once its clock is 192 seconds after what was on its way has arrived, live hosts alone.
use Rattle.std.proofs.Common.{◌≡◌, ℕ, ◌+◌, ◌-◌, ◌<◌, ◌≤◌, Bool, true, false, cond, List, [], ◌∷◌, ◌++◌, ◌∙◌, Some, None, ap, append_assoc, arith, eq-eqb, eqb-true, length, map, refl, subst, sym, true≢false, ⊎_elim}
use Rattle.std.specs.Prelude.{Contains, filter, nat_eq, nat_lt}
use Rattle.std.specs.List.Sorted.{IsStrictlySortedBy}
use Rattle.std.specs.Ordering.{nat_cmp}
use Rattle.std.specs.declared.cmp.Ordering.TheVariants.{Less}
use Rattle.std.proofs.lemmas.Bool.{ltb-true}
use Rattle.std.proofs.lemmas.List.{length-map}
use Rattle.std.proofs.lemmas.Map.Keys.{sorted_tail}
use Rattle.std.proofs.lemmas.Option.{none-some}
use Rattle.wb_names.specs.Listing.{Lists}
use Rattle.wb_names.specs.Values.{MarkValue}
use Rattle.wb_names.specs.declared.echo.Echo.{Echo}
use Rattle.wb_names.specs.declared.name.PageId.{PageId}
use Rattle.wb_names.proofs.Listings.{Any-from_map, Contains-cases, Contains-from_filter, Contains-here, Contains-map, Contains-none, Contains-there, below_all}
use Rattle.wb_codec.specs.declared.datagram.Datagram.{Datagram}
use Rattle.wb_codec.specs.declared.datagram.Datagram.TheVariants.{Draw, Session, Request, AskPages, PageState}
use Rattle.wb_gaps.specs.Answers.{report_of}
use Rattle.wb_keeper.specs.Keeper.{Arrive, GiveUp, GoOn, Hear, KeeperCall, Miss, Report, SetConstants, SetDelay, is_own, session_heard, session_in}
use Rattle.wb_keeper.specs.Sessions.{IsEchoTo, IsSession, echo_cmp, echoes_of}
use Rattle.wb_keeper.specs.declared.keeper.Heard.{Heard}
use Rattle.wb_keeper.proofs.FirstSenders.{first_senders_are_echoed}
use Rattle.wb_keeper.proofs.MessageValue.{message_is_session}
use Rattle.wb_keeper.proofs.OneMessage.{echo_total}
use Rattle.wb_progress.specs.InTime.{AreApart}
use Rattle.wb_progress.specs.Turns.{Terms, settled_by}
use Rattle.wb_progress.proofs.NamesApart.{no_longer}
use Rattle.wb_member.specs.Judged.{echoes}
use Rattle.wb_member.specs.Opened.{Opened, opened_with, present}
use Rattle.wb_member.specs.declared.calls.Call.TheVariants as calls
use Rattle.wb_policy.specs.Reports.{members_in}
use Rattle.wb_policy.specs.Turns.{nowhere}
use Rattle.wb_policy.specs.declared.limits.TheConstants.{HEARD}
use Rattle.wb_keeping.specs.Kept.{Calls}
use Rattle.wb_keeping.specs.Performing.{after_line, after_lines}
use Rattle.wb_kept_progress.specs.Sessions.{AreTaken, Opening}
use Rattle.wb_kept_progress.specs.Timed.{At, Start, TellTimes, host_after, performed, start_of}
use Rattle.wb_kept_progress.specs.Whole.{IsTimelySession, LiveHostsAreCounted, WasSentBy, there}
use Rattle.wb_kept_progress.proofs.Begun.{ticks_keep}
use Rattle.wb_kept_progress.proofs.CallLines.{lines_have_calls}
use Rattle.wb_kept_progress.proofs.CallParts.{host_is, number_is}
use Rattle.wb_kept_progress.proofs.FirstLines.{AreLinesOf, IsLineOf, lines_of_call, one_of_lines}
use Rattle.wb_kept_progress.proofs.OwedAndDue.{taken_of, tells_of}
use Rattle.wb_kept_progress.proofs.Performed.{kept_keeps_moments}
use Rattle.wb_kept_progress.proofs.PerLine.{IsMade, line_did}
use Rattle.wb_kept_progress.proofs.ToldHeld.{call_tells}
use Rattle.wb_kept_progress.proofs.WholeParts.{IsOfCall}
use Rattle.wb_keeping.specs.Laws.{KeptLine}
use Rattle.wb_member.specs.Lines.{Line}

-- ---- echoes are of distinct senders

pub echoes_listed : (me : ℕ) (calls : List KeeperCall) (now : ℕ) → Lists echo_cmp (IsEchoTo me calls now) (echoes_of me calls now)
echoes_listed me calls now = by (message_is_session me calls now [] nowhere (omega arith)) where
  by : IsSession me calls now [] nowhere (Session me now nowhere (report_of [] nowhere) (echoes_of me calls now)) → Lists echo_cmp (IsEchoTo me calls now) (echoes_of me calls now)
  by s = subst (Lists echo_cmp (IsEchoTo me calls now)) (sym (inside s.marks s.echoes s.is)) s.echoed where
    inside : (marks : List MarkValue) (es : List Echo) → Session me now nowhere (report_of [] nowhere) (echoes_of me calls now) ≡ Session me now nowhere marks es → echoes_of me calls now ≡ es
    inside marks es e = cc

less_apart : (a b : Echo) → echo_cmp a b ≡ Less → a.source ≡ b.source → ⊥
less_apart a b less same = itself b.source (subst (λ (n : ℕ). nat_cmp n b.source ≡ Less) same less) where
  itself : (n : ℕ) → nat_cmp n n ≡ Less → ⊥
  itself n e = grind (arith)

sources_apart : (p : Echo → Bool) (es : List Echo) → IsStrictlySortedBy echo_cmp es → AreApart (map (λ (e : Echo). e.source) (filter p es))
sources_apart p [] rising = tt
sources_apart p (e ∷ es) rising = by (p e) (sources_apart p es (sorted_tail echo_cmp e es rising)) where
  source : Echo → ℕ
  source e = e.source

  by : (b : Bool) → AreApart (map source (filter p es)) → AreApart (map source (cond b (e ∷ filter p es) (filter p es)))
  by false rest = rest
  by true rest = (
    (λ c.
        let r = Any-from_map source (filter p es) e.source c in
        let among = Contains-from_filter p es r.1 (r.0, r.2, r.3) in
        less_apart e r.1 (below_all echo_total e r.1 es rising among.0) (sym r.4)),
    rest,
  )

-- ---- who is heard

-- a line at a place with which a report was heard
record WasHeardIn (hosts : ℕ → Start) (back : List (At Line)) (i source : ℕ) (h : Heard) : Type 0 where
  front : List (At Line)
  x : At Line
  older : List (At Line)
  split : back ≡ front ++ x ∷ older
  place : x.place ≡ i
  page : PageId
  marks : List MarkValue
  told : List Echo
  line : x.event ≡ Calls (calls.Hear (Session source h.sent page marks told))
  moment : h.at ≡ present (host_after hosts older i)
  other : nat_eq source (hosts i).number ≡ false

module _ (hosts : ℕ → Start) (i source : ℕ) (h : Heard) where
  abbrev me : ℕ
  me = (hosts i).number

  -- a call with which its report was heard
  abbrev IsIts : KeeperCall → Type 0
  IsIts call = session_heard me call ≡ Some (source, h)

  heard_now : (back : List (At Line)) (e : At Line) (call : KeeperCall) → e.place ≡ i → IsMade (host_after hosts back i) e.event call → IsIts call → WasHeardIn hosts (e ∷ back) i source h
  heard_now back e (Hear now v word held) here made is = by v made.0 (is_own me v) refl is where
    by : (v : Datagram) → e.event ≡ Calls (calls.Hear v) → (own : Bool) → is_own me v ≡ own → cond own None (session_in now v) ≡ Some (source, h) → WasHeardIn hosts (e ∷ back) i source h
    by v line true own is = absurd (none-some (source, h) is)
    by (Draw d) line false apart is = absurd (none-some (source, h) is)
    by (Session sender sent page marks told) line false apart is = record {
      front = [];
      x = e;
      older = back;
      split = refl;
      place = here;
      page = page;
      marks = marks;
      told = told;
      line = line ∙ same (sender, record { sent = sent; at = now }) is;
      moment = at (sender, record { sent = sent; at = now }) is ∙ made.1;
      other = ap (λ (n : ℕ). nat_eq n me) (who (sender, record { sent = sent; at = now }) is) ∙ apart;
    } where
      same : (s : ℕ × Heard) → Some s ≡ Some (source, h) → Calls (calls.Hear (Session s.0 s.1.sent page marks told)) ≡ Calls (calls.Hear (Session source h.sent page marks told))
      same s e = cc

      who : (s : ℕ × Heard) → Some s ≡ Some (source, h) → source ≡ s.0
      who s e = cc

      at : (s : ℕ × Heard) → Some s ≡ Some (source, h) → h.at ≡ s.1.at
      at s e = cc
    by (Request asker name) line false apart is = absurd (none-some (source, h) is)
    by (AskPages asker) line false apart is = absurd (none-some (source, h) is)
    by (PageState sender page marks) line false apart is = absurd (none-some (source, h) is)
  heard_now back e (SetDelay source micros) here made is = absurd (none-some _ is)
  heard_now back e (SetConstants constants) here made is = absurd (none-some _ is)
  heard_now back e (Arrive now held) here made is = absurd (none-some _ is)
  heard_now back e (Miss now names words) here made is = absurd (none-some _ is)
  heard_now back e (GoOn now words stopped) here made is = absurd (none-some _ is)
  heard_now back e (Report now) here made is = absurd (none-some _ is)
  heard_now back e (GiveUp now name asked) here made is = absurd (none-some _ is)

  heard_before : (e : At Line) (back : List (At Line)) → WasHeardIn hosts back i source h → WasHeardIn hosts (e ∷ back) i source h
  heard_before e back w = record {
    front = e ∷ w.front;
    x = w.x;
    older = w.older;
    split = ap (λ (t : List (At Line)). e ∷ t) w.split;
    place = w.place;
    page = w.page;
    marks = w.marks;
    told = w.told;
    line = w.line;
    moment = w.moment;
    other = w.other;
  }

  -- before its first line it heard nobody
  abbrev HeardNobody : Opened → Type 0
  HeardNobody host = (call : KeeperCall) → Contains host.is.calls call → IsIts call → ⊥

  heard_in : (back : List (At Line)) (call : KeeperCall) → Contains (host_after hosts back i).is.calls call → IsIts call → WasHeardIn hosts back i source h
  heard_in [] call c is = absurd (ticks_keep (HeardNobody) silent (hosts i).moments (opened_with (hosts i).constants (hosts i).number (hosts i).cells (hosts i).seed) (λ call c is. Contains-none call c) call c is) where
    silent : (now : ℕ) (host : Opened) → HeardNobody host → HeardNobody (after_line (Calls (calls.Tick now)) host)
    silent now host none call c is = ⊎_elim
        (λ (t : GoOn now _ _ ≡ call). none-some (source, h) (ap (session_heard me) t ∙ is))
        (λ (d : Contains host.is.calls call). none call d is)
        (Contains-cases _ call host.is.calls c)
  heard_in (e ∷ back) call c is = by (heard_in back call) (nat_eq e.place i) refl c where
    host : Opened
    host = host_after hosts back i

    by : (Contains host.is.calls call → IsIts call → WasHeardIn hosts back i source h) → (b : Bool) → nat_eq e.place i ≡ b → Contains (cond b (after_line e.event host) host).is.calls call → WasHeardIn hosts (e ∷ back) i source h
    by before false other c = heard_before e back (before c is)
    by before true same c = ⊎_elim
        (λ (as_before : (after_line e.event host).is.calls ≡ host.is.calls). heard_before e back (before (subst (λ (calls : List KeeperCall). Contains calls call) as_before c) is))
        (λ (new : (one : KeeperCall) × ((after_line e.event host).is.calls ≡ one ∷ host.is.calls) × IsMade host e.event one). ⊎_elim
        (λ (it : new.0 ≡ call). heard_now back e call (eqb-true e.place i same) (subst (IsMade host e.event) it new.2) is)
        (λ (d : Contains host.is.calls call). heard_before e back (before d is))
        (Contains-cases new.0 call host.is.calls (subst (λ (calls : List KeeperCall). Contains calls call) new.1 c)))
        (line_did e.event host)

-- ---- in a session

module _ (hosts : ℕ → Opening) (terms : Terms) (trace newer older : List (At KeptLine)) (i : ℕ) (s : IsTimelySession hosts terms trace)
    (split : trace ≡ newer ++ older) (live : Contains terms.live i) where
  abbrev starts : ℕ → Start
  starts j = start_of (hosts j)

  abbrev host : Opened
  host = (there hosts older i).host

  -- the number of a live host
  abbrev IsOfLive : ℕ → Type 0
  IsOfLive number = Contains (map (λ (j : ℕ). (hosts j).number) terms.live) number

  of_live : (j : ℕ) → Contains terms.live j → IsOfLive (hosts j).number
  of_live j c = Contains-map (λ (j : ℕ). (hosts j).number) terms.live (hosts j).number (c.0, j, c.1, c.2, refl)

  -- whoever sent a report that was handed in late is live
  sender_lives : (front calls : List (At KeptLine)) (time sender sent : ℕ) (page : PageId) (marks : List MarkValue) (told : List Echo) → trace ≡ front ++ calls → settled_by terms < time
      → WasSentBy hosts calls time terms.delivery (Session sender sent page marks told) → IsOfLive sender
  sender_lives front calls time sender sent page marks told is late w =
      let whole : trace ≡ (front ++ w.newer) ++ w.e ∷ w.before = is ∙ ap (λ (t : List (At KeptLine)). front ++ t) w.split ∙ sym (append_assoc front w.newer (w.e ∷ w.before)) in
      let soon = w.soon in
      let j = w.e.place in
      let taken = taken_of hosts (front ++ w.newer) (w.e ∷ w.before) (subst (λ (t : List (At KeptLine)). AreTaken hosts t) whole s.taken) in
      subst IsOfLive (sym ((call_tells w.e.event (there hosts w.before j) taken.0 (Session sender sent page marks told) w.sent).0 ∙ number_is hosts w.before j))
      (of_live j (s.alone (front ++ w.newer) w.before w.e whole (omega (arith, late, soon))))

  -- a report that was heard late is one of a live host
  heard_late : (source : ℕ) (h : Heard) → WasHeardIn starts (performed hosts older) i source h → settled_by terms < h.at + terms.lag i → IsOfLive source
  heard_late source h w late =
      let c : IsOfCall hosts older w.x w.older = lines_have_calls hosts older w.front w.x w.older w.split in
      let k = there hosts c.older c.e.place in
      let host_before = after_lines c.before k.host in
      let line : IsLineOf c.e.event k.host host_before (Calls (calls.Hear (Session source h.sent w.page w.marks w.told))) =
      subst (IsLineOf c.e.event k.host host_before) w.line (one_of_lines c.e.event k.host k.host c.before c.later w.x.event (subst (AreLinesOf c.e.event k.host k.host) c.lines (lines_of_call c.e.event k))) in
      let whole : trace ≡ (newer ++ c.newer) ++ c.e ∷ c.older = split ∙ ap (λ (t : List (At KeptLine)). newer ++ t) c.split ∙ sym (append_assoc newer c.newer (c.e ∷ c.older)) in
      let at = (kept_keeps_moments hosts terms older (tells_of terms newer older (subst (TellTimes terms) split s.times))).behind w.front w.older w.x _ w.split (subst (Contains terms.live) (sym w.place) live) w.line in
      let ahead = at.not_ahead in
      let then : settled_by terms < c.e.time = later _ _ _ _ _ _ ahead (w.moment ∙ ap (λ (j : ℕ). present (host_after starts w.older j)) (sym w.place)) (ap terms.lag w.place) c.time late in
      sender_lives ((newer ++ c.newer) ++ c.e ∷ []) c.older c.e.time source h.sent w.page line.1 line.2 (whole ∙ sym (append_assoc (newer ++ c.newer) (c.e ∷ []) c.older)) then
      (s.fresh (newer ++ c.newer) c.older c.e line.0 (Session source h.sent w.page line.1 line.2) whole then line.3) where
        later : (now lag time at lag_i call_time : ℕ) → now + lag ≤ time → at ≡ now → lag ≡ lag_i → time ≡ call_time → settled_by terms < at + lag_i → settled_by terms < call_time
        later now lag time at lag_i call_time ahead same lags times late = omega (arith, ahead, same, lags, times, late)

  -- the report of whoever is remembered was heard in some line
  remembered : (e : Echo) → Contains (echoes host) e → (h : Heard) × WasHeardIn starts (performed hosts older) i e.source h × (e.held ≡ present host - h.at)
  remembered e c =
      let listed = echoes_listed host.is.number host.is.calls (present host) in
      let is = (listed.members e).0 c in
      let latest = ((first_senders_are_echoed host.is.number host.is.calls e.source is.0).0 is.1).1 in
      let among : Contains (host_after starts (performed hosts older) i).is.calls latest.call = subst (λ (o : Opened). Contains o.is.calls latest.call) (sym (host_is hosts older i))
      (subst (λ (calls : List KeeperCall). Contains calls latest.call) (sym latest.split) (amid latest.newer latest.call latest.older)) in
      let me_is = number_is hosts older i in
      (is.0, heard_in starts i e.source is.0 (performed hosts older) latest.call among (subst (λ (me : ℕ). session_heard me latest.call ≡ Some (e.source, is.0)) me_is latest.heard), is.3) where
        amid : (front : List KeeperCall) (call : KeeperCall) (rest : List KeeperCall) → Contains (front ++ call ∷ rest) call
        amid [] call rest = Contains-here call rest
        amid (c ∷ front) call rest = Contains-there c call (front ++ call ∷ rest) (amid front call rest)

  -- whoever is counted is another live host
  counted : (e : Echo) → settled_by terms + HEARD ≤ present host + terms.lag i → Contains (echoes host) e → e.held < HEARD → IsOfLive e.source × (nat_eq e.source (hosts i).number ≡ false)
  counted e late c recent =
      let r = remembered e c in
      let age = r.2 in
      (heard_late e.source r.0 r.1 (omega (arith, late, recent, age)), r.1.other)

  abbrev recent : Echo → Bool
  recent e = nat_lt e.held HEARD

  abbrev source : Echo → ℕ
  source e = e.source

  pub members_are_live : settled_by terms + HEARD ≤ present host + terms.lag i → members_in (echoes host) ≤ length terms.live
  members_are_live late =
      let some = filter recent (echoes host) in
      let others = map source some in
      let listed = echoes_listed host.is.number host.is.calls (present host) in
      let one = no_longer ((hosts i).number ∷ others) (map (λ (j : ℕ). (hosts j).number) terms.live)
      ((λ c. let r = Any-from_map source some (hosts i).number c in true≢false (sym (eq-eqb r.1.source (hosts i).number r.4) ∙ (which r.1 (r.0, r.2, r.3)).1)), sources_apart recent (echoes host) listed.rising)
      (λ n c. ⊎_elim
      (λ (me : (hosts i).number ≡ n). subst IsOfLive me (of_live i live))
      (λ (d : Contains others n). let r = Any-from_map source some n d in subst IsOfLive r.4 (which r.1 (r.0, r.2, r.3)).0)
      (Contains-cases (hosts i).number n others c)) in
      let two = length-map some source in
      let three = length-map terms.live (λ (j : ℕ). (hosts j).number) in
      omega (arith, one, two, three) where
        which : (e : Echo) → Contains (filter recent (echoes host)) e → IsOfLive e.source × (nat_eq e.source (hosts i).number ≡ false)
        which e c = let r = Contains-from_filter recent (echoes host) e c in counted e late r.0 (ltb-true e.held HEARD r.1)

pub live_hosts_are_counted : LiveHostsAreCounted
live_hosts_are_counted hosts terms trace newer older i s split live late = members_are_live hosts terms trace newer older i s split live late
