-- What a member hears of its own number while it listens, it knows until its program starts anew.
use Rattle.std.proofs.Common.{◌≡◌, ◌≢◌, ℕ, ◌<◌, ◌≤◌, Bool, true, false, cond, List, [], ◌∷◌, ◌++◌, ◌∙◌, ap, arith, eqb-true, length, refl, subst, sym, ⊎_elim}
use Rattle.std.specs.Prelude.{Contains, nat_eq, nat_lt, ◌&&◌, ◌||◌}
use Rattle.std.proofs.lemmas.Bool.{and_parts, eq-eqb, lt-ltb}
use Rattle.std.proofs.lemmas.Bool.Decides.{nat_tests}
use Rattle.std.proofs.lemmas.Grind.{common_steps}
use Rattle.std.proofs.lemmas.List.Elements.{All-contains}
use Rattle.wb_names.specs.Arrivals.{Outcome, New, Again, Clash, Left, history_with, outcome_of}
use Rattle.wb_names.specs.Ascending.{AreMarks}
use Rattle.wb_names.specs.History.{highest}
use Rattle.wb_names.specs.Marks.{mark_of}
use Rattle.wb_names.specs.Orders.{same_page}
use Rattle.wb_names.specs.Values.{DrawopValue, MarkValue}
use Rattle.wb_names.specs.declared.echo.Echo.{Echo}
use Rattle.wb_names.specs.declared.name.PageId.{PageId}
use Rattle.wb_names.proofs.Listings.{Contains-cases, Contains-here, Contains-none, Contains-there}
use Rattle.wb_names.proofs.MarkLists.{Rises, here, rest_above, rest_rises}
use Rattle.wb_names.proofs.Orders.{same_page-itself}
use Rattle.wb_codec.specs.declared.datagram.Datagram.{Datagram}
use Rattle.wb_codec.specs.declared.datagram.Datagram.TheVariants.{Draw, Session, Request, AskPages, PageState}
use Rattle.wb_gaps.specs.Joining.{greater, joined, joined_at}
use Rattle.wb_keeper.specs.Hearing.{asks_for_held, marks_heard, marks_in, marks_reported}
use Rattle.wb_keeper.specs.Keeper.{Hear, is_own}
use Rattle.wb_member.specs.Lines.{Line, Arrives, Says, after_line, after_lines, Calls, ticks_at}
use Rattle.wb_member.specs.Members.{Misses}
use Rattle.wb_member.specs.Opened.{Opened, doing, has_room_for, heard, last_number, may_ask, opened_with, present, word_at}
use Rattle.wb_member.specs.Random.{word_of}
use Rattle.wb_member.specs.declared.calls.Call.TheVariants as calls
use Rattle.wb_policy.specs.Choices.{echoed_delay, own_echo, own_marks, told_names}
use Rattle.wb_keeping.specs.Kept.{Doing, Transition, and_then, came, drawing, ends_full, hears, hears_session, hears_some, hears_state, learned, measures, performs, still, timed, want_told, hears_request, drew}
use Rattle.wb_keeping.specs.Laws.{Added, Came, KeptLine, Ticked, Tuned, after_kept, doing_of}
use Rattle.wb_keeping.specs.Performing.{Keeping, after_doing, sees, view_of}
use Rattle.wb_policy.specs.Policy.{Policy, after_state, after_taking_up}
use Rattle.wb_keeping.specs.Views.{View, holds, is_asked, is_full}
use Rattle.wb_policy.specs.Questions.{is_to_answer}
use Rattle.wb_keeping.proofs.EachLine.{Each, OfPolicy, each_both, ends_each, learned_each, measures_each, then_each, timed_each, told_each, lent_each}
use Rattle.wb_keeping.proofs.EachStep.{either}
use Rattle.wb_laws_kept.specs.Listening.{HasNotBegun, IsHeardWhole, ListeningTells, TellsMark}
use Rattle.wb_laws_kept.specs.Openings.{opened}
use Rattle.wb_laws_kept.specs.Sessions.{At, kept_at}
use Rattle.wb_laws_kept.proofs.Honest.{number_of_kept}
use Rattle.wb_laws_kept.specs.Calls.{Begins, Call, Handed, after_call, given_lines}

-- ---- marks of one source

abbrev pub AreOf : ℕ → List MarkValue → Type 0
AreOf me [] = Unit {0}
AreOf me (m ∷ marks) = (m.source ≡ me) × AreOf me marks

record Joins (me : ℕ) (ms ns marks : List MarkValue) : Type 0 where
  of : AreOf me marks
  first : mark_of ms me ≤ mark_of marks me
  second : mark_of ns me ≤ mark_of marks me

at_both : (m n : MarkValue) (ms ns : List MarkValue) (rest : List MarkValue → List MarkValue) → m.source ≡ n.source → joined_at m ms rest (n ∷ ns) ≡ greater m n ∷ rest ns
at_both m n ms ns rest e = grind (arith, common_steps, nat_tests)

joins : (me : ℕ) (ms ns : List MarkValue) → AreOf me ms → AreOf me ns → Joins me ms ns (joined ms ns)
joins me [] ns a b = record { of = b; first = omega arith; second = omega arith }
joins me (m ∷ ms) [] a b = record { of = a; first = omega arith; second = omega arith }
joins me (m ∷ ms) (n ∷ ns) a b =
    let x = here m ms me a.0 in
    let y = here n ns me b.0 in
    let z = here (greater m n) (joined ms ns) me a.0 in
    subst (Joins me (m ∷ ms) (n ∷ ns)) (sym (at_both m n ms ns (joined ms) (a.0 ∙ sym b.0)))
    (record { of = (a.0, (joins me ms ns a.1 b.1).of); first = omega (arith, x, z); second = omega (arith, y, z) })

-- ---- what a member heard of its own number alone

abbrev pub HearsOwn : ℕ → Datagram → Type 0
HearsOwn me v = (page : PageId) → AreOf me (marks_in page v)

abbrev pub HeardItsOwn : Opened → Type 0
HeardItsOwn host = (page : PageId) → AreOf host.is.number (marks_heard host.is.number host.is.calls page)

abbrev pub IsOwn : ℕ → Line → Type 0
IsOwn me (Calls (calls.Hear v)) = HearsOwn me v
IsOwn me line = Unit {0}

-- its number is the same, and it knows no lesser number of its own
record Knows (page : PageId) (host next : Opened) : Type 0 where
  number : next.is.number ≡ host.is.number
  own : HeardItsOwn next
  most : last_number page host ≤ last_number page next

highest_more : (page : PageId) (source : ℕ) (held : List DrawopValue) (d : DrawopValue) → highest page source held ≤ highest page source (held ++ d ∷ [])
highest_more page source [] d = omega arith
highest_more page source (e ∷ held) d = let rest = highest_more page source held d in omega (arith, rest)

highest_with : (page : PageId) (source : ℕ) (held : List DrawopValue) (d : DrawopValue) (o : Outcome) → highest page source held ≤ highest page source (history_with held d o)
highest_with page source held d (New place) = highest_more page source held d
highest_with page source held d (Again place) = omega arith
highest_with page source held d (Clash place) = omega arith
highest_with page source held d Left = omega arith

module _ (page : PageId) where
  same : (host : Opened) → HeardItsOwn host → Knows page host host
  same host own = record { number = refl; own = own; most = omega arith }

  takes_one : (d : DrawopValue) (host : Opened) → HeardItsOwn host → Knows page host (after_line (Arrives d) host)
  takes_one d host own =
      let h = highest_with page host.is.number host.is.held d (outcome_of host.is.cells host.is.held d) in
      record { number = refl; own = own; most = omega (arith, h) }

  module _ (v : Datagram) (host : Opened) (own : HeardItsOwn host) (is : HearsOwn host.is.number v) where
    abbrev reported : PageId → List MarkValue
    reported p = marks_reported host.is.number p (Hear (present host) v (word_at v host.random) (asks_for_held host.is.held v))

    of_reported : (p : PageId) (b : Bool) → AreOf host.is.number (cond b [] (marks_in p v))
    of_reported p true = tt
    of_reported p false = is p

    with_reported : (p : PageId) → Joins host.is.number (reported p) (marks_heard host.is.number host.is.calls p) (joined (reported p) (marks_heard host.is.number host.is.calls p))
    with_reported p = joins host.is.number (reported p) (marks_heard host.is.number host.is.calls p) (of_reported p (is_own host.is.number v)) (own p)

    hears_one : Knows page host (heard v host)
    hears_one = let j = (with_reported page).second in record { number = refl; own = λ p. (with_reported p).of; most = omega (arith, j) }

    -- it then knows what it heard from another
    hears_mark : is_own host.is.number v ≡ false → mark_of (marks_in page v) host.is.number ≤ last_number page (heard v host)
    hears_mark other =
        let j = (with_reported page).first in
        let e : mark_of (reported page) host.is.number ≡ mark_of (marks_in page v) host.is.number = ap (λ (b : Bool). mark_of (cond b [] (marks_in page v)) host.is.number) other in
        omega (arith, j, e)

  line_knows : (line : Line) (host : Opened) → HeardItsOwn host → IsOwn host.is.number line → Knows page host (after_line line host)
  line_knows (Arrives d) host own is = takes_one d host own
  line_knows (Calls (calls.Hear v)) host own is = by (has_room_for v host) where
    by : (b : Bool) → Knows page host (cond b (heard v host) host)
    by true = hears_one v host own is
    by false = same host own
  line_knows (Calls (calls.Ask name)) host own is = by (may_ask name host) where
    by : (b : Bool) → Knows page host (cond b (doing (Misses (present host) (name ∷ []) (word_of host.random ∷ [])) 1 host) host)
    by true = record { number = refl; own = own; most = omega arith }
    by false = same host own
  line_knows (Calls call) host own is = record { number = refl; own = own; most = omega arith }
  line_knows (Says (Draw d)) host own is = takes_one d host own
  line_knows (Says v) host own is = same host own

  both_know : (host m next : Opened) → Knows page host m → Knows page m next → Knows page host next
  both_know host m next a b = let x = a.most in let y = b.most in record { number = b.number ∙ a.number; own = b.own; most = omega (arith, x, y) }

  lines_know : (lines : List Line) (host : Opened) → HeardItsOwn host → Each (IsOwn host.is.number) lines → Knows page host (after_lines lines host)
  lines_know [] host own each = same host own
  lines_know (line ∷ lines) host own each =
      let one = line_knows line host own each.0 in
      both_know host (after_line line host) (after_lines lines (after_line line host)) one
      (lines_know lines (after_line line host) one.own (subst (λ (n : ℕ). Each (IsOwn n) lines) (sym one.number) each.1))

-- ---- what a policy has its host hear

own_are_of : (me : ℕ) (listens : Bool) (marks : List MarkValue) → AreOf me (own_marks me listens marks)
own_are_of me listens [] = tt
own_are_of me listens (m ∷ marks) = by (nat_eq m.source me && (listens && nat_lt m.high 2147483648)) refl (own_are_of me listens marks) where
  by : (b : Bool) → (nat_eq m.source me && (listens && nat_lt m.high 2147483648)) ≡ b → AreOf me (own_marks me listens marks) → AreOf me (cond b (m ∷ own_marks me listens marks) (own_marks me listens marks))
  by true e rest = (eqb-true _ _ (and_parts _ _ e).0, rest)
  by false e rest = rest

on_page : (me : ℕ) (b : Bool) (marks : List MarkValue) → AreOf me marks → AreOf me (cond b marks [])
on_page me true marks of = of
on_page me false marks of = tt

module _ (me : ℕ) where
  of_policy : OfPolicy (IsOwn me)
  of_policy = record {
    asks = λ name. tt;
    stops = λ name. tt;
    sets = λ source micros. tt;
    states = λ v page. tt;
    asks_pages = λ asker. tt;
    reports = λ sender sent page marks echoes. tt;
  }

  own_of : (v : View) (listens : Bool) (marks : List MarkValue) → v.me ≡ me → AreOf me (own_marks v.me listens marks)
  own_of v listens marks is = subst (λ (n : ℕ). AreOf n (own_marks v.me listens marks)) is (own_are_of v.me listens marks)

  takes_own : (d : DrawopValue) (see : List Line → View) (p : Policy) → Each (IsOwn me) (hears (Draw d) see p).lines
  takes_own d see p = by (holds (see []) d.name || is_full (see [])) where
    by : (b : Bool) → Each (IsOwn me) (cond b (performs (Arrives d) see p) (and_then (performs (Arrives d)) (learned d.name (is_asked (see []) d.name)) see p)).lines
    by true = (tt, tt)
    by false = (tt, learned_each (IsOwn me) of_policy d.name (is_asked (see []) d.name) (λ (lines : List Line). see (Arrives d ∷ lines)) p)

  session_own : (sender sent : ℕ) (page : PageId) (marks : List MarkValue) (echoes : List Echo) (see : List Line → View) (p : Policy) → (see []).me ≡ me → Each (IsOwn me) (hears_session sender sent page marks echoes see p).lines
  session_own sender sent page marks echoes see p is =
      let v = see [] in
      let own = own_marks v.me (nat_lt v.now p.ready) marks in
      let echo = own_echo v.me echoes in
      let second = measures sender (echoed_delay v.now echo) in
      let third = want_told (told_names v.me page marks) in (
        λ on. on_page me (same_page page on) own (own_of v (nat_lt v.now p.ready) marks is),
        then_each (IsOwn me) second third (measures_each (IsOwn me) of_policy sender (echoed_delay v.now echo)) (told_each (IsOwn me) of_policy (told_names v.me page marks))
            (λ (lines : List Line). see (Calls (calls.Hear (Session sender sent page own echo)) ∷ lines)) p,
      )

  some_own : (sender : ℕ) (page : PageId) (marks : List MarkValue) (see : List Line → View) (p : Policy) → AreOf me marks → Each (IsOwn me) (hears_some sender page marks see p).lines
  some_own sender page [] see p of = tt
  some_own sender page (m ∷ marks) see p of = ((λ on. on_page me (same_page page on) (m ∷ marks) of), tt)

  state_own : (sender : ℕ) (page : PageId) (marks : List MarkValue) (see : List Line → View) (p : Policy) → (see []).me ≡ me → Each (IsOwn me) (hears_state sender page marks see p).lines
  state_own sender page marks see p is =
      let v = see [] in
      let own = own_marks v.me (nat_lt v.now p.ready) marks in
      let q = after_state v.now p in
      let one = hears_some sender page own see q in
      each_both (IsOwn me) one.lines _ (some_own sender page own see q (own_of v (nat_lt v.now p.ready) marks is))
      (told_each (IsOwn me) of_policy (told_names v.me page marks) (λ (lines : List Line). see (one.lines ++ lines)) one.policy)

  hears_its_own : (v : Datagram) (see : List Line → View) (p : Policy) → (see []).me ≡ me → Each (IsOwn me) (hears v see p).lines
  hears_its_own (Draw d) see p is = takes_own d see p
  hears_its_own (Session sender sent page marks echoes) see p is = by (nat_eq sender (see []).me) where
    by : (b : Bool) → Each (IsOwn me) (cond b (still see p) (hears_session sender sent page marks echoes see p)).lines
    by true = tt
    by false = session_own sender sent page marks echoes see p is
  hears_its_own (PageState sender page marks) see p is = by (nat_eq sender (see []).me) where
    by : (b : Bool) → Each (IsOwn me) (cond b (still see p) (hears_state sender page marks see p)).lines
    by true = tt
    by false = state_own sender page marks see p is
  hears_its_own (Request asker name) see p is = by (nat_eq asker (see []).me) where
    source : ℕ
    source = cond (holds (see []) name) asker name.source

    by : (b : Bool) → Each (IsOwn me) (cond b (still see p) (hears_request asker name see p)).lines
    by true = tt
    by false = lent_each (IsOwn me) source ((see []).delay source) p.usual (Calls (calls.Hear (Request asker name))) tt (λ on. tt) tt
  hears_its_own (AskPages asker) see p is = by (nat_eq asker (see []).me) (is_to_answer (see []).now (nat_lt 0 (length (see []).held)) p.questions) where
    by : (b c : Bool) → Each (IsOwn me) (cond b (still see p) (cond c (still see (after_taking_up (see []).now p)) (still see p))).lines
    by true c = tt
    by false true = tt
    by false false = tt

-- ---- its lines and calls

kept_own : (line : KeptLine) (k : Keeping) → Each (IsOwn k.host.is.number) (doing_of line (sees k.host) k.policy).lines
kept_own (Came now v) k =
    let me = k.host.is.number in
    let there : List Line → View = λ lines. sees k.host (Calls (calls.Tick now) ∷ lines) in
    let one = hears v there k.policy in
    (tt, each_both (IsOwn me) one.lines _ (hears_its_own me v there k.policy refl) (timed_each (IsOwn me) (of_policy me) (λ (lines : List Line). there (one.lines ++ lines)) one.policy))
kept_own (Ticked now) k =
    let me = k.host.is.number in
    (tt, timed_each (IsOwn me) (of_policy me) (λ (lines : List Line). sees k.host (Calls (calls.Tick now) ∷ lines)) k.policy)
kept_own (Added now page time op) k =
    let me = k.host.is.number in
    let its = drawing (view_of (after_line (Calls (calls.Tick now)) k.host)) page time op in
    (tt, (tt, then_each (IsOwn me) ends_full timed (ends_each (IsOwn me) (of_policy me)) (timed_each (IsOwn me) (of_policy me)) (λ (lines : List Line). sees k.host (Calls (calls.Tick now) ∷ (Says (Draw its) ∷ lines))) (drew its (view_of (after_line (Calls (calls.Tick now)) k.host)) k.policy)))
kept_own (Tuned constants) k = (tt, tt)

one_knows : (page : PageId) (line : KeptLine) (k : Keeping) → HeardItsOwn k.host → Knows page k.host (after_doing (doing_of line) k).host
one_knows page line k own = lines_know page (doing_of line (sees k.host) k.policy).lines k.host own (kept_own line k)

all_know : (page : PageId) (lines : List KeptLine) (k : Keeping) → HeardItsOwn k.host → Knows page k.host (after_kept lines k).host
all_know page [] k own = same page k.host own
all_know page (line ∷ lines) k own =
    let next = after_doing (doing_of line) k in
    let one = one_knows page line k own in
    both_know page k.host next.host (after_kept lines next).host one (all_know page lines next one.own)

ticks_own : (me : ℕ) (moments : List ℕ) → Each (IsOwn me) (ticks_at moments)
ticks_own me [] = tt
ticks_own me (now ∷ moments) = (tt, ticks_own me moments)

call_own : (page : PageId) (call : Call) (k : Keeping) → HeardItsOwn k.host → HeardItsOwn (after_call call k).host
call_own page (Handed line) k own = (one_knows page line k own).own
call_own page (Begins o given) k own =
    let first = opened k.host.is.number o in
    let start : HeardItsOwn first.host = (lines_know page (ticks_at o.moments) (opened_with o.constants k.host.is.number o.cells o.seed) (λ on. tt) (ticks_own k.host.is.number o.moments)).own in
    (all_know page (given_lines first given) first start).own

module _ (numbers : ℕ → ℕ) (page : PageId) where
  own_at : (calls : List (At Call)) (i : ℕ) → HeardItsOwn (kept_at numbers calls i).host
  own_at [] i = λ on. tt
  own_at (e ∷ older) i = by (nat_eq e.place i) (own_at older i) where
    by : (b : Bool) → HeardItsOwn (kept_at numbers older i).host → HeardItsOwn (cond b (after_call e.event (kept_at numbers older i)) (kept_at numbers older i)).host
    by true own = call_own page e.event (kept_at numbers older i) own
    by false own = own

  -- a member knows no lesser number of its own while its program goes on
  goes_on : (newer older : List (At Call)) (i : ℕ) → HasNotBegun newer i → last_number page (kept_at numbers older i).host ≤ last_number page (kept_at numbers (newer ++ older) i).host
  goes_on [] older i none = omega arith
  goes_on (e ∷ newer) older i none = by (nat_eq e.place i) refl (goes_on newer older i (λ x o given c. none x o given (Contains-there e x newer c))) where
    k : Keeping
    k = kept_at numbers (newer ++ older) i

    after : (call : Call) → e.place ≡ i → e.event ≡ call → last_number page k.host ≤ last_number page (after_call call k).host
    after (Begins o given) here is = absurd (none e o given (Contains-here e newer) here is)
    after (Handed line) here is = (one_knows page line k (own_at (newer ++ older) i)).most

    by : (b : Bool) → nat_eq e.place i ≡ b → last_number page (kept_at numbers older i).host ≤ last_number page k.host → last_number page (kept_at numbers older i).host ≤ last_number page (cond b (after_call e.event k) k).host
    by true is rest = let one = after e.event (eqb-true e.place i is) refl in omega (arith, rest, one)
    by false is rest = rest

-- ---- a mark of a report

-- of ascending marks the one of a source that is believed is the only one of it
its_mark : (me : ℕ) (marks : List MarkValue) (m : MarkValue) → Rises marks → Contains marks m → m.source ≡ me → m.high < 2147483648 → mark_of (own_marks me true marks) me ≡ m.high
its_mark me [] m rises c own low = absurd (Contains-none m c)
its_mark me (x ∷ marks) m rises c own low = ⊎_elim
    (λ (is : x ≡ m). subst (λ (y : MarkValue). mark_of (own_marks me true (y ∷ marks)) me ≡ m.high) (sym is) first)
    (λ (later : Contains marks m). by (its_mark me marks m (rest_rises x marks rises) later own low) (other later))
    (Contains-cases x m marks c) where
      first : mark_of (own_marks me true (m ∷ marks)) me ≡ m.high
      first = let e : (nat_eq m.source me && (true && nat_lt m.high 2147483648)) ≡ true = grind (arith, nat_tests) in
          ap (λ (b : Bool). mark_of (cond b (m ∷ own_marks me true marks) (own_marks me true marks)) me) e ∙ here m (own_marks me true marks) me own

      other : Contains marks m → nat_eq x.source me ≡ false
      other later = let lt = All-contains (λ (y : MarkValue). x.source < y.source) marks m (rest_above x marks rises) later in grind (arith, nat_tests)

      by : mark_of (own_marks me true marks) me ≡ m.high → nat_eq x.source me ≡ false → mark_of (own_marks me true (x ∷ marks)) me ≡ m.high
      by rest e = ap (λ (b : Bool). mark_of (cond (b && (true && nat_lt x.high 2147483648)) (x ∷ own_marks me true marks) (own_marks me true marks)) me) e ∙ rest

module _ (page : PageId) (now : ℕ) (k : Keeping) (own : HeardItsOwn k.host) (listens : nat_lt now k.policy.ready ≡ true) (m : MarkValue) (mine : m.source ≡ k.host.is.number) (low : m.high < 2147483648) where
  abbrev me : ℕ
  me = k.host.is.number

  abbrev there : List Line → View
  there lines = sees k.host (Calls (calls.Tick now) ∷ lines)

  abbrev host : Opened
  host = after_line (Calls (calls.Tick now)) k.host

  -- what it does of itself after that
  abbrev more : Doing → List Line
  more one = (timed (λ lines. there (one.lines ++ lines)) one.policy).lines

  abbrev Told : Doing → Type 0
  Told one = m.high ≤ last_number page (after_lines (Calls (calls.Tick now) ∷ (one.lines ++ more one)) k.host)

  more_own : (one : Doing) → Each (IsOwn me) (more one)
  more_own one = timed_each (IsOwn me) (of_policy me) (λ (lines : List Line). there (one.lines ++ lines)) one.policy

  hears_then : (v : Datagram) → is_own me v ≡ false → HearsOwn me v → has_room_for v host ≡ true → m.high ≤ mark_of (marks_in page v) me → (rest : List Line) → Each (IsOwn me) rest → m.high ≤ last_number page (after_lines (Calls (calls.Hear v) ∷ rest) host)
  hears_then v other is room tells rest each =
      let one = hears_one page v host own is in
      let mark : mark_of (marks_in page v) me ≤ last_number page (heard v host) = hears_mark page v host own is other in
      let later = (lines_know page rest (heard v host) one.own each).most in
      subst (λ (b : Bool). m.high ≤ last_number page (after_lines rest (cond b (heard v host) host))) (sym room) (omega (arith, tells, mark, later))

  -- the marks that it hears have this one
  tells_it : (marks : List MarkValue) → AreMarks marks → Contains marks m → m.high ≤ mark_of (own_marks me (nat_lt now k.policy.ready) marks) me
  tells_it marks are c =
      let e : mark_of (own_marks me (nat_lt now k.policy.ready) marks) me ≡ m.high = ap (λ (b : Bool). mark_of (own_marks me b marks) me) listens ∙ its_mark me marks m are.ascending c mine low in
      omega (arith, e)

  on_its_page : (on : PageId) (own : List MarkValue) → on ≡ page → m.high ≤ mark_of own me → m.high ≤ mark_of (cond (same_page on page) own []) me
  on_its_page on own is le = subst (λ (b : Bool). m.high ≤ mark_of (cond b own []) me) (sym (ap (λ (p : PageId). same_page p page) is ∙ same_page-itself page)) le

  session_tells : (sender sent : ℕ) (on : PageId) (marks : List MarkValue) (echoes : List Echo) → sender ≢ me → on ≡ page → AreMarks marks → Contains marks m → IsHeardWhole now (Session sender sent on marks echoes) k
      → Told (hears (Session sender sent on marks echoes) there k.policy)
  session_tells sender sent on marks echoes other is are c room =
      let its = own_marks me (nat_lt now k.policy.ready) marks in
      let v = Session sender sent on its (own_echo me echoes) in
      let one = hears_session sender sent on marks echoes there k.policy in
      let each = session_own me sender sent on marks echoes there k.policy refl in
      let rest = (and_then (measures sender (echoed_delay now (own_echo me echoes))) (want_told (told_names me on marks)) (λ lines. there (Calls (calls.Hear v) ∷ lines)) k.policy).lines in
      either Told (nat_eq sender me) (still there k.policy) one (λ e. absurd (other (eqb-true _ _ e)))
      (λ e. hears_then v e each.0 room (on_its_page on its is (tells_it marks are c)) (rest ++ more one) (each_both (IsOwn me) rest (more one) each.1 (more_own one)))

  state_tells : (sender : ℕ) (on : PageId) (marks : List MarkValue) → sender ≢ me → on ≡ page → AreMarks marks → Contains marks m → IsHeardWhole now (PageState sender on marks) k
      → Told (hears (PageState sender on marks) there k.policy)
  state_tells sender on marks other is are c room =
      either Told (nat_eq sender me) (still there k.policy) (hears_state sender on marks there k.policy) (λ e. absurd (other (eqb-true _ _ e)))
      (λ e. by (own_marks me (nat_lt now k.policy.ready) marks) (own_are_of me (nat_lt now k.policy.ready) marks) (tells_it marks are c) room e) where
        then : Transition
        then = want_told (told_names me on marks)

        q : Policy
        q = after_state now k.policy

        by : (its : List MarkValue) → AreOf me its → m.high ≤ mark_of its me → has_room_for (PageState sender on its) host ≡ true → nat_eq sender me ≡ false → Told (and_then (hears_some sender on its) then there q)
        by [] of le room e = omega (arith, le)
        by (x ∷ its) of le room e =
            let v = PageState sender on (x ∷ its) in
            let one = and_then (hears_some sender on (x ∷ its)) then there q in
            let rest = (then (λ lines. there (Calls (calls.Hear v) ∷ lines)) q).lines in
            hears_then v e (λ p. on_page me (same_page on p) (x ∷ its) of) room (on_its_page on (x ∷ its) is le) (rest ++ more one)
            (each_both (IsOwn me) rest (more one) (told_each (IsOwn me) (of_policy me) (told_names me on marks) (λ lines. there (Calls (calls.Hear v) ∷ lines)) q) (more_own one))

  read : (on : PageId) (marks : List MarkValue) → on ≡ page → AreMarks (cond (same_page on page) marks []) → AreMarks marks
  read on marks is are = subst (λ (b : Bool). AreMarks (cond b marks [])) (ap (λ (p : PageId). same_page p page) is ∙ same_page-itself page) are

  it_tells : (v : Datagram) → AreMarks (marks_in page v) → TellsMark v me page m → IsHeardWhole now v k → m.high ≤ last_number page (after_doing (came now v) k).host
  it_tells (Draw d) are tells room = absurd tells
  it_tells (Session sender sent on marks echoes) are (other, is, c) room = session_tells sender sent on marks echoes other is (read on marks is are) c room
  it_tells (Request asker name) are tells room = absurd tells
  it_tells (AskPages asker) are tells room = absurd tells
  it_tells (PageState sender on marks) are (other, is, c) room = state_tells sender on marks other is (read on marks is are) c room

pub listening_tells : ListeningTells
listening_tells numbers newer older e now v page m called listens are tells mine low whole none =
    let k = kept_at numbers older e.place in
    let number : numbers e.place ≡ k.host.is.number = sym (number_of_kept numbers older e.place) in
    let told : m.high ≤ last_number page (after_doing (came now v) k).host = it_tells page now k (own_at numbers page older e.place) (lt-ltb now k.policy.ready listens) m (mine ∙ number) low v are (subst (λ (me : ℕ). TellsMark v me page m) number tells) whole in
    let here : m.high ≤ last_number page (after_call e.event k).host = subst (λ (c : Call). m.high ≤ last_number page (after_call c k).host) (sym called) told in
    let then : m.high ≤ last_number page (kept_at numbers (e ∷ older) e.place).host = subst (λ (b : Bool). m.high ≤ last_number page (cond b (after_call e.event k) k).host) (sym (eq-eqb e.place e.place refl)) here in
    let later = goes_on numbers page newer (e ∷ older) e.place none in
    omega (arith, then, later)
