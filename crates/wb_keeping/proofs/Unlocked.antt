-- No number of its own that a kept host knows of is greater than 2^31 - 1 and what its board holds, so that a number is always left.
use Rattle.std.proofs.Common.{◌≡◌, ℕ, ◌+◌, ◌≤◌, ◌<◌, Bool, true, false, cond, List, [], ◌∷◌, ◌++◌, ◌∙◌, ap, arith, length, length-append, map, max, refl, subst, sym, true≢false, inl, inr, ⊎_elim}
use Rattle.std.specs.Prelude.{None, ◌⊎◌, not, ◌&&◌, ◌||◌, nat_eq, nat_le, nat_lt}
use Rattle.std.proofs.lemmas.Bool.{and_parts, eqb-true, ltb-true}
use Rattle.std.proofs.lemmas.Bool.Decides.{nat_tests}
use Rattle.wb_names.specs.Arrivals.{Outcome, New, Again, Clash, Left, history_with, outcome_from, outcome_of}
use Rattle.wb_names.specs.Faults.{fault_unless, first_of}
use Rattle.wb_names.specs.History.{highest, is_of}
use Rattle.wb_names.specs.Marks.{mark_of}
use Rattle.wb_names.specs.Orders.{same_name, same_page}
use Rattle.wb_names.specs.Same.{same_drawop}
use Rattle.wb_names.specs.Values.{DrawopValue, MarkValue, NameValue}
use Rattle.wb_names.specs.declared.echo.Echo.{Echo}
use Rattle.wb_names.specs.declared.name.PageId.{PageId}
use Rattle.wb_names.proofs.Arrivals.{new_has_room}
use Rattle.wb_codec.specs.declared.datagram.Datagram.{Datagram}
use Rattle.wb_codec.specs.declared.datagram.Datagram.TheVariants.{Draw, Session, Request, AskPages, PageState}
use Rattle.wb_gaps.specs.Joining.{greater, joined, joined_at}
use Rattle.wb_recovery.specs.declared.tuning.Tuning.{Tuning}
use Rattle.wb_keeper.specs.Hearing.{asks_for_held, marks_heard, marks_in, marks_reported}
use Rattle.wb_keeper.specs.Keeper.{KeeperCall, Hear, holds, is_own}
use Rattle.wb_keeper.specs.declared.keep_fault.KeepFault.TheVariants.{BackInTime}
use Rattle.wb_member.specs.Members.{Misses}
use Rattle.wb_member.specs.Opened.{Opened, accepted, doing, has_room_for, heard, last_number, may_ask, opened_with, present, ticked, word_at}
use Rattle.wb_member.specs.Random.{word_of}
use Rattle.wb_member.specs.declared.calls.Call.TheVariants as calls
use Rattle.wb_recovery.specs.declared.limits.TheConstants.{UNKNOWN_DELAY}
use Rattle.wb_policy.specs.Choices.{echoed_delay, own_echo, own_marks, told_names}
use Rattle.wb_keeping.specs.Kept.{Arrives, Doing, Line, Says, Transition, and_then, draws_it, drawing, ends_full, hears, hears_session, hears_some, hears_state, learned, measures, performs, still, takes, takes_question, timed, want_told, hears_request, Calls, ticks_at}
use Rattle.wb_keeping.specs.Laws.{ANumberIsLeft, Added, AreTaken, Came, KeptLine, Ticked, Tuned, after_kept, doing_of, fault_of}
use Rattle.wb_keeping.specs.Performing.{Keeping, after_doing, after_line, after_lines, sees, view_of}
use Rattle.wb_policy.specs.Policy.{after_state, after_taking_up}
use Rattle.wb_keeping.specs.Views.{holds as holds_in, is_asked, is_full}
use Rattle.wb_policy.specs.Questions.{is_to_answer}
use Rattle.wb_keeping.specs.Refusing.{is_unknown, is_unknown_of_ours}
use Rattle.wb_keeping.specs.declared.kept_fault.KeptFault.TheVariants.{Host, Ours}
use Rattle.wb_keeping.proofs.Performed.{then_after}
use Rattle.wb_keeping.proofs.EachLine.{DoesEach, Each, OfPolicy, ends_each, learned_each, measures_each, then_each, timed_each, told_each}
use Rattle.wb_board.specs.Counts.{MAX_CELLS}

-- ---- marks of one source

abbrev pub OwnBelow : ℕ → ℕ → List MarkValue → Type 0
OwnBelow me most [] = Unit {0}
OwnBelow me most (m ∷ marks) = (m.source ≡ me → m.high ≤ most) × OwnBelow me most marks

module _ (me most : ℕ) where
  mark_below : (marks : List MarkValue) → OwnBelow me most marks → mark_of marks me ≤ most
  mark_below [] below = omega arith
  mark_below (m ∷ marks) below = by (nat_eq m.source me) refl (mark_below marks below.1) where
    by : (b : Bool) → nat_eq m.source me ≡ b → mark_of marks me ≤ most → cond b m.high (mark_of marks me) ≤ most
    by true e rest = below.0 (eqb-true _ _ e)
    by false e rest = rest

  both_below : (m n : MarkValue) → nat_lt m.source n.source ≡ false → nat_lt n.source m.source ≡ false → (m.source ≡ me → m.high ≤ most) → (n.source ≡ me → n.high ≤ most) → (greater m n).source ≡ me → (greater m n).high ≤ most
  both_below m n a b f g e = let s : n.source ≡ m.source = grind (arith, nat_tests) in let h = f e in let i = g (s ∙ e) in omega (arith, h, i)

  at_below : (m : MarkValue) (ms : List MarkValue) (rest : List MarkValue → List MarkValue) → (m.source ≡ me → m.high ≤ most) → OwnBelow me most ms → ((ns : List MarkValue) → OwnBelow me most ns → OwnBelow me most (rest ns)) → (ns : List MarkValue) → OwnBelow me most ns → OwnBelow me most (joined_at m ms rest ns)
  at_below m ms rest here all keeps [] below = (here, all)
  at_below m ms rest here all keeps (n ∷ ns) below = by (nat_lt m.source n.source) (nat_lt n.source m.source) refl refl (at_below m ms rest here all keeps ns below.1) where
    by : (a b : Bool) → nat_lt m.source n.source ≡ a → nat_lt n.source m.source ≡ b → OwnBelow me most (joined_at m ms rest ns) → OwnBelow me most (cond a (m ∷ rest (n ∷ ns)) (cond b (n ∷ joined_at m ms rest ns) (greater m n ∷ rest ns)))
    by true b e f later = (here, keeps (n ∷ ns) below)
    by false true e f later = (below.0, later)
    by false false e f later = (both_below m n e f here below.0, keeps ns below.1)

  joined_below : (ms ns : List MarkValue) → OwnBelow me most ms → OwnBelow me most ns → OwnBelow me most (joined ms ns)
  joined_below [] ns a b = b
  joined_below (m ∷ ms) ns a b = at_below m ms (joined ms) a.0 a.1 (λ ns b. joined_below ms ns a.1 b) ns b

  -- those that are heard
  marks_below : (page : PageId) (v : Datagram) → ((page : PageId) → OwnBelow me most (marks_in page v)) → (b : Bool) → OwnBelow me most (cond b [] (marks_in page v))
  marks_below page v small true = tt
  marks_below page v small false = small page

  pub heard_below : (now : ℕ) (v : Datagram) (word : ℕ) (held : Bool) (calls : List KeeperCall) → ((page : PageId) → OwnBelow me most (marks_in page v)) → ((page : PageId) → OwnBelow me most (marks_heard me calls page)) → (page : PageId) → OwnBelow me most (marks_heard me (Hear now v word held ∷ calls) page)
  heard_below now v word held calls small all page = joined_below (marks_reported me page (Hear now v word held)) (marks_heard me calls page) (marks_below page v small (is_own me v)) (all page)

-- ---- numbers that are held

highest_more : (page : PageId) (source : ℕ) (history : List DrawopValue) (d : DrawopValue) → highest page source (history ++ d ∷ []) ≡ max (highest page source history) (cond (is_of page source d) d.name.seq 0)
highest_more page source [] d = omega arith
highest_more page source (e ∷ history) d = let rest = highest_more page source history d in omega (arith, rest)

-- one drawop more
module _ (page : PageId) (me most : ℕ) (history : List DrawopValue) (d : DrawopValue) where
  abbrev Kept : List DrawopValue → Type 0
  Kept history = highest page me history ≤ most + length history

  more : Kept history → (is_of page me d ≡ true → d.name.seq ≤ most + length history + 1) → Kept (history ++ d ∷ [])
  more kept small = by (is_of page me d) refl where
    long : length (history ++ d ∷ []) ≡ length history + 1
    long = let a = length-append history (d ∷ []) in omega (arith, a)

    by : (b : Bool) → is_of page me d ≡ b → Kept (history ++ d ∷ [])
    by true e = let a = highest_more page me history d ∙ ap (λ (b : Bool). max (highest page me history) (cond b d.name.seq 0)) e in let s = small e in omega (arith, a, s, long, kept)
    by false e = let a = highest_more page me history d ∙ ap (λ (b : Bool). max (highest page me history) (cond b d.name.seq 0)) e in omega (arith, a, long, kept)

  with_outcome : (o : Outcome) → Kept history → (((i : ℕ) → o ≡ New i → is_of page me d ≡ true → d.name.seq ≤ most + length history + 1)) → Kept (history_with history d o)
  with_outcome (New i) kept small = more kept (small i refl)
  with_outcome (Again i) kept small = kept
  with_outcome (Clash i) kept small = kept
  with_outcome Left kept small = kept

-- a name that is held is not fresh
pub not_fresh : (cells i : ℕ) (history : List DrawopValue) (d : DrawopValue) (place : ℕ) → holds history d.name ≡ true → outcome_from cells i history d ≡ New place → ⊥
not_fresh cells i [] d place there fresh = true≢false (sym there)
not_fresh cells i (e ∷ es) d place there fresh = by (same_name e.name d.name) refl (λ a b. not_fresh cells (i + 1) es d place a b) where
  known : (same : Bool) → cond same (Again i) (Clash i) ≡ New place → ⊥
  known true e = cc
  known false e = cc

  by : (b : Bool) → same_name e.name d.name ≡ b → (holds es d.name ≡ true → outcome_from cells (i + 1) es d ≡ New place → ⊥) → ⊥
  by true t later = known (same_drawop e d) (sym (ap (λ (b : Bool). cond b (cond (same_drawop e d) (Again i) (Clash i)) (outcome_from cells (i + 1) es d)) t) ∙ fresh)
  by false f later = later (sym (ap (λ (b : Bool). b || holds es d.name) f) ∙ there) (sym (ap (λ (b : Bool). cond b (cond (same_drawop e d) (Again i) (Clash i)) (outcome_from cells (i + 1) es d)) f) ∙ fresh)

with_room : (cells : ℕ) (history : List DrawopValue) (d : DrawopValue) (o : Outcome) → length history ≤ cells → ((i : ℕ) → o ≡ New i → 0 + length history < cells) → length (history_with history d o) ≤ cells
with_room cells history d (New i) le fresh = let lt = fresh i refl in let long = length-append history (d ∷ []) in omega (arith, lt, long)
with_room cells history d (Again i) le fresh = le
with_room cells history d (Clash i) le fresh = le
with_room cells history d Left le fresh = le

-- ---- lines

-- Own numbers grow by one with each drawing, and else not beyond 2^31 - 1.
pub record IsBounded (host : Opened) : Type 0 where
  pub marks : (page : PageId) → OwnBelow host.is.number 2147483647 (marks_heard host.is.number host.is.calls page)
  pub held : (page : PageId) → highest page host.is.number host.is.held ≤ 2147483647 + length host.is.held
  pub room : length host.is.held ≤ host.is.cells
  pub cells : host.is.cells ≤ MAX_CELLS

abbrev pub IsTame : Opened → Line → Type 0
IsTame host (Arrives d) = d.name.source ≡ host.is.number → (d.name.seq ≤ 2147483647) ⊎ (holds host.is.held d.name ≡ true)
IsTame host (Calls (calls.Hear v)) = (page : PageId) → OwnBelow host.is.number 2147483647 (marks_in page v)
IsTame host (Calls call) = Unit {0}
IsTame host (Says (Draw d)) = d.name.seq ≤ last_number d.name.page host + 1
IsTame host (Says (Session sender sent page marks echoes)) = Unit {0}
IsTame host (Says (Request asker name)) = Unit {0}
IsTame host (Says (AskPages asker)) = Unit {0}
IsTame host (Says (PageState sender page marks)) = Unit {0}

pub number_left : (page : PageId) (host : Opened) → IsBounded host → last_number page host ≤ 2147483647 + length host.is.held
number_left page host b = let m = mark_below host.is.number 2147483647 (marks_heard host.is.number host.is.calls page) (b.marks page) in let h = b.held page in omega (arith, m, h)

taken : (d : DrawopValue) (host : Opened) → IsBounded host → ((page : PageId) (i : ℕ) → outcome_of host.is.cells host.is.held d ≡ New i → is_of page host.is.number d ≡ true → d.name.seq ≤ 2147483647 + length host.is.held + 1) → IsBounded (accepted d host)
taken d host b small = record {
  marks = b.marks;
  held = λ page. with_outcome page host.is.number 2147483647 host.is.held d (outcome_of host.is.cells host.is.held d) (b.held page) (small page);
  room = with_room host.is.cells host.is.held d (outcome_of host.is.cells host.is.held d) b.room (λ i fresh. new_has_room host.is.cells 0 host.is.held d i fresh);
  cells = b.cells;
}

arrival : (d : DrawopValue) (host : Opened) (page : PageId) (i : ℕ) → IsTame host (Arrives d) → outcome_of host.is.cells host.is.held d ≡ New i → is_of page host.is.number d ≡ true → d.name.seq ≤ 2147483647 + length host.is.held + 1
arrival d host page i tame fresh of = ⊎_elim (λ (small : d.name.seq ≤ 2147483647). omega (arith, small)) (λ (there : holds host.is.held d.name ≡ true). absurd (not_fresh host.is.cells 0 host.is.held d i there fresh)) (tame (eqb-true _ _ (and_parts _ _ of).1))

drawn : (d : DrawopValue) (host : Opened) (page : PageId) → IsBounded host → d.name.seq ≤ last_number d.name.page host + 1 → d.name.seq ≤ 2147483647 + length host.is.held + 1
drawn d host page b next = let left = number_left d.name.page host b in omega (arith, left, next)

pub bounded_line : (line : Line) (host : Opened) → IsBounded host → IsTame host line → IsBounded (after_line line host)
bounded_line (Arrives d) host b tame = taken d host b (λ page i fresh of. arrival d host page i tame fresh of)
bounded_line (Calls (calls.Hear v)) host b tame = by (has_room_for v host) where
  by : (room : Bool) → IsBounded (cond room (heard v host) host)
  by true = record { marks = heard_below host.is.number 2147483647 (present host) v (word_at v host.random) (asks_for_held host.is.held v) host.is.calls tame b.marks; held = b.held; room = b.room; cells = b.cells }
  by false = b
bounded_line (Calls (calls.Ask name)) host b tame = by (may_ask name host) where
  by : (may : Bool) → IsBounded (cond may (doing (Misses (present host) (name ∷ []) (word_of host.random ∷ [])) 1 host) host)
  by true = record { marks = b.marks; held = b.held; room = b.room; cells = b.cells }
  by false = b
bounded_line (Calls call) host b tame = record { marks = b.marks; held = b.held; room = b.room; cells = b.cells }
bounded_line (Says (Draw d)) host b tame = taken d host b (λ page i fresh of. drawn d host page b tame)
bounded_line (Says (Session sender sent page marks echoes)) host b tame = b
bounded_line (Says (Request asker name)) host b tame = b
bounded_line (Says (AskPages asker)) host b tame = b
bounded_line (Says (PageState sender page marks)) host b tame = b

-- ---- lines that touch no number of its own

abbrev pub IsQuiet : Line → Type 0
IsQuiet (Arrives d) = ⊥
IsQuiet (Calls (calls.Hear v)) = ⊥
IsQuiet (Calls call) = Unit {0}
IsQuiet (Says (Draw d)) = ⊥
IsQuiet (Says (Session sender sent page marks echoes)) = Unit {0}
IsQuiet (Says (Request asker name)) = Unit {0}
IsQuiet (Says (AskPages asker)) = Unit {0}
IsQuiet (Says (PageState sender page marks)) = Unit {0}

tame_quiet : (line : Line) (host : Opened) → IsQuiet line → IsTame host line
tame_quiet (Arrives d) host q = absurd q
tame_quiet (Calls (calls.Hear v)) host q = absurd q
tame_quiet (Calls call) host q = tt
tame_quiet (Says (Draw d)) host q = absurd q
tame_quiet (Says (Session sender sent page marks echoes)) host q = tt
tame_quiet (Says (Request asker name)) host q = tt
tame_quiet (Says (AskPages asker)) host q = tt
tame_quiet (Says (PageState sender page marks)) host q = tt

abbrev pub AreQuiet : List Line → Type 0
AreQuiet lines = Each IsQuiet lines

pub bounded_lines : (lines : List Line) (host : Opened) → AreQuiet lines → IsBounded host → IsBounded (after_lines lines host)
bounded_lines [] host q b = b
bounded_lines (line ∷ lines) host q b = bounded_lines lines (after_line line host) q.1 (bounded_line line host b (tame_quiet line host q.0))

-- what it does of itself touches no number of its own
are_quiet : OfPolicy IsQuiet
are_quiet = record {
  asks = λ name. tt;
  stops = λ name. tt;
  sets = λ source micros. tt;
  states = λ v page. tt;
  asks_pages = λ asker. tt;
  reports = λ sender sent page marks echoes. tt;
}

-- ---- what a kept host does

bounded_doing : (does : Transition) → DoesEach IsQuiet does → (k : Keeping) → IsBounded k.host → IsBounded (after_doing does k).host
bounded_doing does q k b = bounded_lines (does (sees k.host) k.policy).lines k.host (q (sees k.host) k.policy) b

bounded_then : (first second : Transition) (k : Keeping) → IsBounded (after_doing second (after_doing first k)).host → IsBounded (after_doing (and_then first second) k).host
bounded_then first second k b = subst (λ (k : Keeping). IsBounded k.host) (sym (then_after first second k)) b

bounded_either : (b : Bool) (one other : Doing) (host : Opened) → IsBounded (after_lines one.lines host) → IsBounded (after_lines other.lines host) → IsBounded (after_lines (cond b one other).lines host)
bounded_either true one other host f g = f
bounded_either false one other host f g = g

own_below : (me : ℕ) (listens : Bool) (marks : List MarkValue) → OwnBelow me 2147483647 (own_marks me listens marks)
own_below me listens [] = tt
own_below me listens (m ∷ marks) = by (nat_eq m.source me && (listens && nat_lt m.high 2147483648)) refl (own_below me listens marks) where
  by : (b : Bool) → (nat_eq m.source me && (listens && nat_lt m.high 2147483648)) ≡ b → OwnBelow me 2147483647 (own_marks me listens marks) → OwnBelow me 2147483647 (cond b (m ∷ own_marks me listens marks) (own_marks me listens marks))
  by true e rest = let lt = ltb-true m.high 2147483648 (and_parts listens (nat_lt m.high 2147483648) (and_parts (nat_eq m.source me) (listens && nat_lt m.high 2147483648) e).1).1 in ((λ same. omega (arith, lt)), rest)
  by false e rest = rest

on_page : (me : ℕ) (b : Bool) (marks : List MarkValue) → OwnBelow me 2147483647 marks → OwnBelow me 2147483647 (cond b marks [])
on_page me true marks below = below
on_page me false marks below = tt

-- a drawop of its own that comes is held, or its number is small
one_of : (source me seq : ℕ) (held : Bool) → (nat_eq source me && (nat_le 2147483648 seq && not held)) ≡ false → source ≡ me → (seq ≤ 2147483647) ⊎ (held ≡ true)
one_of source me seq true e same = inr refl
one_of source me seq false e same = inl (grind (arith, nat_tests))

bounded_takes : (d : DrawopValue) (k : Keeping) → is_unknown d.name k.host ≡ false → IsBounded k.host → IsBounded (after_doing (takes d) k).host
bounded_takes d k known b =
    let tame : IsTame k.host (Arrives d) = one_of d.name.source k.host.is.number d.name.seq (holds k.host.is.held d.name) known in
    let arrived : IsBounded (after_line (Arrives d) k.host) = bounded_line (Arrives d) k.host b tame in
    bounded_either (holds_in (view_of k.host) d.name || is_full (view_of k.host)) (performs (Arrives d) (sees k.host) k.policy) (and_then (performs (Arrives d)) (learned d.name (is_asked (view_of k.host) d.name)) (sees k.host) k.policy) k.host arrived
    (bounded_then (performs (Arrives d)) (learned d.name (is_asked (view_of k.host) d.name)) k (bounded_doing (learned d.name (is_asked (view_of k.host) d.name)) (learned_each IsQuiet are_quiet d.name (is_asked (view_of k.host) d.name)) (after_doing (performs (Arrives d)) k) arrived))

bounded_session : (sender sent : ℕ) (page : PageId) (marks : List MarkValue) (echoes : List Echo) (k : Keeping) → IsBounded k.host → IsBounded (after_doing (hears_session sender sent page marks echoes) k).host
bounded_session sender sent page marks echoes k b =
    let v = view_of k.host in
    let own = own_marks v.me (nat_lt v.now k.policy.ready) marks in
    let echo = own_echo v.me echoes in
    let first = performs (Calls (calls.Hear (Session sender sent page own echo))) in
    let second = measures sender (echoed_delay v.now echo) in
    let third = want_told (told_names v.me page marks) in
    let heard : IsBounded (after_line (Calls (calls.Hear (Session sender sent page own echo))) k.host) = bounded_line (Calls (calls.Hear (Session sender sent page own echo))) k.host b (λ p. on_page v.me (same_page page p) own (own_below v.me (nat_lt v.now k.policy.ready) marks)) in
    bounded_then first (and_then second third) k (bounded_doing (and_then second third) (then_each IsQuiet second third (measures_each IsQuiet are_quiet sender (echoed_delay v.now echo)) (told_each IsQuiet are_quiet (told_names v.me page marks))) (after_doing first k) heard)

bounded_some : (sender : ℕ) (page : PageId) (own : List MarkValue) (k : Keeping) → OwnBelow k.host.is.number 2147483647 own → IsBounded k.host → IsBounded (after_doing (hears_some sender page own) k).host
bounded_some sender page [] k below b = b
bounded_some sender page (m ∷ marks) k below b = bounded_line (Calls (calls.Hear (PageState sender page (m ∷ marks)))) k.host b (λ p. on_page k.host.is.number (same_page page p) (m ∷ marks) below)

bounded_state : (sender : ℕ) (page : PageId) (marks : List MarkValue) (k : Keeping) → IsBounded k.host → IsBounded (after_doing (hears_state sender page marks) k).host
bounded_state sender page marks k b =
    let v = view_of k.host in
    let own = own_marks v.me (nat_lt v.now k.policy.ready) marks in
    let third = want_told (told_names v.me page marks) in
    let there : Keeping = record { host = k.host; policy = after_state v.now k.policy } in
    bounded_then (hears_some sender page own) third there (bounded_doing third (told_each IsQuiet are_quiet (told_names v.me page marks)) (after_doing (hears_some sender page own) there) (bounded_some sender page own there (own_below v.me (nat_lt v.now k.policy.ready) marks) b))

bounded_request : (asker : ℕ) (name : NameValue) (k : Keeping) → IsBounded k.host → IsBounded (after_doing (hears_request asker name) k).host
bounded_request asker name k b = by (nat_eq ((view_of k.host).delay source) UNKNOWN_DELAY) where
  source : ℕ
  source = cond (holds_in (view_of k.host) name) asker name.source

  line : Line
  line = Calls (calls.Hear (Request asker name))

  by : (lends : Bool) → IsBounded (after_lines (cond lends (Calls (calls.SetDelay source k.policy.usual) ∷ line ∷ Calls (calls.SetDelay source UNKNOWN_DELAY) ∷ []) (line ∷ [])) k.host)
  by true =
      let one = after_line (Calls (calls.SetDelay source k.policy.usual)) k.host in
      let two = after_line line one in
      bounded_line (Calls (calls.SetDelay source UNKNOWN_DELAY)) two (bounded_line line one (bounded_line (Calls (calls.SetDelay source k.policy.usual)) k.host b (tame_quiet (Calls (calls.SetDelay source k.policy.usual)) k.host tt)) (λ p. tt)) (tame_quiet (Calls (calls.SetDelay source UNKNOWN_DELAY)) two tt)
  by false = bounded_line line k.host b (λ p. tt)

bounded_hears : (v : Datagram) (k : Keeping) → is_unknown_of_ours v k.host ≡ false → IsBounded k.host → IsBounded (after_doing (hears v) k).host
bounded_hears (Draw d) k known b = bounded_takes d k known b
bounded_hears (Session sender sent page marks echoes) k known b = bounded_either (nat_eq sender k.host.is.number) (still (sees k.host) k.policy) (hears_session sender sent page marks echoes (sees k.host) k.policy) k.host b (bounded_session sender sent page marks echoes k b)
bounded_hears (PageState sender page marks) k known b = bounded_either (nat_eq sender k.host.is.number) (still (sees k.host) k.policy) (hears_state sender page marks (sees k.host) k.policy) k.host b (bounded_state sender page marks k b)
bounded_hears (Request asker name) k known b = bounded_either (nat_eq asker k.host.is.number) (still (sees k.host) k.policy) (hears_request asker name (sees k.host) k.policy) k.host b (bounded_request asker name k b)
bounded_hears (AskPages asker) k known b = bounded_either (nat_eq asker k.host.is.number) (still (sees k.host) k.policy) (takes_question (sees k.host) k.policy) k.host b
    (bounded_either (is_to_answer (present k.host) (nat_lt 0 (length k.host.is.held)) k.policy.questions) (still (sees k.host) (after_taking_up (present k.host) k.policy)) (still (sees k.host) k.policy) k.host b b)

-- ---- its lines

none_of : (past unknown : Bool) → first_of (fault_unless past (Host BackInTime) ∷ fault_unless (not unknown) Ours ∷ []) ≡ None → unknown ≡ false
none_of true false e = refl
none_of true true e = absurd cc
none_of false unknown e = absurd cc

later_known : (v : Datagram) (now : ℕ) (host : Opened) → is_unknown_of_ours v (ticked now host) ≡ is_unknown_of_ours v host
later_known (Draw d) now host = refl
later_known (Session sender sent page marks echoes) now host = refl
later_known (Request asker name) now host = refl
later_known (AskPages asker) now host = refl
later_known (PageState sender page marks) now host = refl

pub bounded_kept : (line : KeptLine) (k : Keeping) → fault_of line k ≡ None → IsBounded k.host → IsBounded (after_doing (doing_of line) k).host
bounded_kept (Came now v) k none b =
    let first = performs (Calls (calls.Tick now)) in
    let one = after_doing first k in
    let there : IsBounded one.host = bounded_line (Calls (calls.Tick now)) k.host b tt in
    bounded_then first (and_then (hears v) timed) k (bounded_then (hears v) timed one (bounded_doing timed (timed_each IsQuiet are_quiet) (after_doing (hears v) one) (bounded_hears v one (later_known v now k.host ∙ none_of _ _ none) there)))
bounded_kept (Ticked now) k none b = bounded_then (performs (Calls (calls.Tick now))) timed k (bounded_doing timed (timed_each IsQuiet are_quiet) (after_doing (performs (Calls (calls.Tick now))) k) (bounded_line (Calls (calls.Tick now)) k.host b tt))
bounded_kept (Added now page time op) k none b =
    let first = performs (Calls (calls.Tick now)) in
    let one = after_doing first k in
    let second = draws_it page time op in
    let there : IsBounded one.host = bounded_line (Calls (calls.Tick now)) k.host b tt in
    let drew : IsBounded (after_doing second one).host = bounded_line (Says (Draw (drawing (view_of one.host) page time op))) one.host there (omega arith) in
    bounded_then first (and_then second (and_then ends_full timed)) k (bounded_then second (and_then ends_full timed) one (bounded_doing (and_then ends_full timed) (then_each IsQuiet ends_full timed (ends_each IsQuiet are_quiet) (timed_each IsQuiet are_quiet)) (after_doing second one) drew))
bounded_kept (Tuned constants) k none b = bounded_line (Calls (calls.Tune constants)) k.host b tt

bounded_all : (lines : List KeptLine) (k : Keeping) → AreTaken lines k → IsBounded k.host → IsBounded (after_kept lines k).host
bounded_all [] k taken b = b
bounded_all (line ∷ lines) k taken b = bounded_all lines (after_doing (doing_of line) k) taken.1 (bounded_kept line k taken.0 b)

ticks_quiet : (moments : List ℕ) → AreQuiet (ticks_at moments)
ticks_quiet [] = tt
ticks_quiet (moment ∷ moments) = (tt, ticks_quiet moments)

pub bounded_open : (constants : Tuning) (number cells seed : ℕ) → cells ≤ MAX_CELLS → IsBounded (opened_with constants number cells seed)
bounded_open constants number cells seed few = record { marks = λ page. tt; held = λ page. omega arith; room = omega arith; cells = few }

pub a_number_is_left : ANumberIsLeft
a_number_is_left constants number cells seed moments policy lines few taken page =
    let start : Keeping = record { host = after_lines (ticks_at moments) (opened_with constants number cells seed); policy = policy } in
    let b = bounded_all lines start taken (bounded_lines (ticks_at moments) (opened_with constants number cells seed) (ticks_quiet moments) (bounded_open constants number cells seed few)) in
    let most = number_left page (after_kept lines start).host b in
    let room = b.room in
    let cells = b.cells in
    omega (arith, most, room, cells)
