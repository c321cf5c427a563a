-- What a kept member took in last under a number, and what its reports echo.
use Rattle.std.proofs.Common.{◌≡◌, ℕ, Bool, true, false, cond, List, [], ◌∷◌, ◌++◌, ◌∙◌, Option, Some, None, ap, arith, eqb-true, length, refl, subst, sym, ⊎_elim}
use Rattle.std.specs.Prelude.{◌&&◌, ◌||◌, ◌≤◌, Contains, nat_eq, nat_le, take}
use Rattle.std.specs.Option.{option_or}
use Rattle.std.specs.List.{list_any}
use Rattle.std.proofs.lemmas.Bool.{eq-eqb}
use Rattle.std.proofs.lemmas.List.Elements.{Contains-append_cases}
use Rattle.std.proofs.Math.Nat.{le_refl}
use Rattle.wb_names.specs.Values.{MarkValue}
use Rattle.wb_names.specs.declared.echo.Echo.{Echo}
use Rattle.wb_names.specs.declared.entries.TheConstants.{MAX_ENTRIES}
use Rattle.wb_names.specs.declared.name.PageId.{PageId}
use Rattle.wb_names.proofs.Listings.{Contains-none}
use Rattle.wb_codec.specs.declared.datagram.Datagram.{Datagram}
use Rattle.wb_codec.specs.declared.datagram.Datagram.TheVariants.{Draw, Session}
use Rattle.wb_gaps.specs.Answers.{pages_of}
use Rattle.wb_keeper.specs.Keeper.{heard_by, is_own, newest, remember, senders_of, session_heard, session_in}
use Rattle.wb_keeper.specs.declared.keeper.Heard.{Heard}
use Rattle.wb_member.specs.Judged.{echoes}
use Rattle.wb_member.specs.Opened.{Opened, has_room_for, heard, may_ask, present, ticked}
use Rattle.wb_member.specs.declared.calls.Call.TheVariants as calls
use Rattle.wb_policy.specs.Choices.{echoed_delay, own_echo as echo_of, told_names, echoed}
use Rattle.wb_policy.specs.Policy.{Policy}
use Rattle.wb_keeping.specs.Kept.{Calls, Doing, Line, Says, Transition, and_then, came, measures, performs, still, timed, want_told}
use Rattle.wb_keeping.specs.Laws.{Added, Came, KeptLine, Ticked, Tuned, doing_of, fault_of}
use Rattle.wb_keeping.specs.Performing.{Keeping, after_doing, after_line, after_lines, sees, sent_by_doing, sent_by_line, sent_by_lines, view_of}
use Rattle.wb_keeping.proofs.EachLine.{Each, each_both, measures_each, states_each, then_each, timed_each, told_each}
use Rattle.wb_keeping.proofs.EachStep.{HoldsOfSteps, line_holds}
use Rattle.wb_keeping.proofs.KeptDelays.{all_both}
use Rattle.wb_keeping.proofs.Performed.{after_both}
use Rattle.wb_keeping.proofs.SpacedLines.{AreAll, missing}
use Rattle.wb_kept_progress.proofs.FirstLines.{AreLinesOf, IsHeardBy, IsLineOf, lines_of_call}
use Rattle.wb_kept_progress.proofs.Lines.{AreSmall, IsSmall, are_small}
use Rattle.wb_kept_progress.proofs.Performed.{Begins, IsNoTick, adds_begin, came_begins, ticks_begin}
use Rattle.wb_kept_progress.proofs.StillCalls.{line_now}
use Rattle.wb_laws_kept.specs.Listening.{heard_of}
use Rattle.wb_laws_sessions.proofs.Sending.{one_of}
use Rattle.wb_judged_sessions.specs.Answering.{taken_from, taken_in}
use Rattle.wb_keeping.specs.Views.{is_known}
use Rattle.wb_judged_sessions.proofs.SaidOnly.{SaysOnly, line_sends, lines_send, want_says}

-- ---- what was heard last under a number

abbrev pub newest_of : ℕ → Opened → Option Heard
newest_of number host = newest (λ call. heard_by number (session_heard host.is.number call)) host.is.calls

-- it says nothing of that number
abbrev NotOf : ℕ → Datagram → Type 0
NotOf number (Session s sent page marks es) = nat_eq s number ≡ false
NotOf number v = Unit {0}

abbrev HearsNo : ℕ → Line → Type 0
HearsNo number (Calls (calls.Hear v)) = NotOf number v
HearsNo number line = Unit {0}

-- what is so of both is so of the one that is taken
either_way : (P : Opened → Type 0) (b : Bool) (one other : Opened) → P one → P other → P (cond b one other)
either_way P true one other p q = p
either_way P false one other p q = q

module _ (number : ℕ) where
  none_if : (b : Bool) → heard_by number (cond b None None) ≡ None
  none_if true = refl
  none_if false = refl

  hears_no : (me now : ℕ) (v : Datagram) → NotOf number v → heard_by number (cond (is_own me v) None (session_in now v)) ≡ None
  hears_no me now (Session s sent page marks es) not = by (nat_eq s me) where
    by : (b : Bool) → heard_by number (cond b None (Some (s, record { sent = sent; at = now }))) ≡ None
    by true = refl
    by false = ap (λ (c : Bool). cond c (Some (record { sent = sent; at = now })) None) not
  hears_no me now v not = none_if (is_own me v)

  line_same : (line : Line) (host : Opened) → HearsNo number line → newest_of number (after_line line host) ≡ newest_of number host
  line_same (Calls (calls.Hear v)) host unheard =
      either_way (λ (next : Opened). newest_of number next ≡ newest_of number host) (has_room_for v host) (heard v host) host
      (ap (λ (o : Option Heard). option_or o (newest_of number host)) (hears_no host.is.number (present host) v unheard)) refl
  line_same (Calls (calls.Ask name)) host unheard = either_way (λ (next : Opened). newest_of number next ≡ newest_of number host) (may_ask name host) (missing name host) host refl refl
  line_same (Says (Draw d)) host unheard = refl
  line_same line host unheard = refl

  pub lines_same : (lines : List Line) (host : Opened) → Each (HearsNo number) lines → newest_of number (after_lines lines host) ≡ newest_of number host
  lines_same [] host unheard = refl
  lines_same (line ∷ lines) host unheard = lines_same lines (after_line line host) unheard.1 ∙ line_same line host unheard.0

  small_no : (lines : List Line) → AreSmall lines → Each (HearsNo number) lines
  small_no [] small = tt
  small_no (line ∷ lines) small = (one line small.0, small_no lines small.1) where
    one : (line : Line) → IsSmall line → HearsNo number line
    one (Calls (calls.Hear v)) small = absurd small
    one line small = tt

-- ---- the senders that are remembered

abbrev pub senders : Opened → List ℕ
senders host = senders_of host.is.number host.is.calls

pub remember_grows : (told : Option (ℕ × Heard)) (known : List ℕ) → length known ≤ length (remember told known)
remember_grows None known = le_refl (length known)
remember_grows (Some told) known = by (list_any (nat_eq told.0) known || nat_le MAX_ENTRIES (length known)) where
  by : (b : Bool) → length known ≤ length (cond b known (told.0 ∷ known))
  by true = le_refl (length known)
  by false = omega arith

line_grows : (line : Line) (host : Opened) → length (senders host) ≤ length (senders (after_line line host))
line_grows (Calls (calls.Hear v)) host =
    either_way (λ (next : Opened). length (senders host) ≤ length (senders next)) (has_room_for v host) (heard v host) host
    (remember_grows (cond (is_own host.is.number v) None (session_in (present host) v)) (senders host)) (le_refl (length (senders host)))
line_grows (Calls (calls.Ask name)) host =
    either_way (λ (next : Opened). length (senders host) ≤ length (senders next)) (may_ask name host) (missing name host) host (le_refl (length (senders host))) (le_refl (length (senders host)))
line_grows (Says (Draw d)) host = le_refl (length (senders host))
line_grows line host = le_refl (length (senders host))

lines_grow : (lines : List Line) (host : Opened) → length (senders host) ≤ length (senders (after_lines lines host))
lines_grow [] host = le_refl (length (senders host))
lines_grow (line ∷ lines) host = let one = line_grows line host in let rest = lines_grow lines (after_line line host) in omega (arith, one, rest)

-- ---- what a report says of its moment, and echoes

-- whom a member echoes of those that it remembers
pub record AreEchoedBy (host : Opened) (es : List Echo) : Type 0 where
  pub known : ℕ → Bool
  pub from : ℕ
  pub is : es ≡ echoed known from (echoes host)

abbrev IsReportOf : Opened → Datagram → Type 0
IsReportOf host (Session s sent page marks es) = (sent ≡ present host) × AreEchoedBy host es
IsReportOf host v = Unit {0}

abbrev IsToldBy : Line → Opened → Type 0
IsToldBy line host = (v : Datagram) → Contains (sent_by_line line host) v → IsReportOf host v

abbrev pub IsNoReport : Datagram → Type 0
IsNoReport (Session s sent page marks es) = ⊥
IsNoReport v = Unit {0}

-- lines that say no report send none
pub none_reported : (lines : List Line) (host : Opened) → Each (SaysOnly IsNoReport) lines → (v : Datagram) → Contains (sent_by_lines lines host) v → IsNoReport v
none_reported = lines_send (λ me. IsNoReport) (λ me d. tt) (λ me name. tt) (λ me page marks. tt)

line_none : (line : Line) (host : Opened) → SaysOnly IsNoReport line → (v : Datagram) → Contains (sent_by_line line host) v → IsNoReport v
line_none = line_sends (λ me. IsNoReport) (λ me d. tt) (λ me name. tt) (λ me page marks. tt)

free : (host : Opened) (v : Datagram) → IsNoReport v → IsReportOf host v
free host (Session s sent page marks es) none = absurd none
free host v none = tt

all_told : (lines : List Line) (host : Opened) → Each (SaysOnly IsNoReport) lines → AreAll IsToldBy lines host
all_told [] host none = tt
all_told (line ∷ lines) host none = (λ v c. free host v (line_none line host none.0 v c), all_told lines (after_line line host) none.1)

record Tells (k : Keeping) (lines : List Line) (m : Keeping) : Type 0 where
  at : m.host ≡ after_lines lines k.host
  told : AreAll IsToldBy lines k.host

quietly : (k : Keeping) (lines : List Line) (p : Policy) → Each (SaysOnly IsNoReport) lines → Tells k lines (record { host = after_lines lines k.host; policy = p })
quietly k lines p none = record { at = refl; told = all_told lines k.host none }

both_tell : (k m n : Keeping) (one other : List Line) → Tells k one m → Tells m other n → Tells k (one ++ other) n
both_tell k m n one other a b = record {
  at = b.at ∙ ap (after_lines other) a.at ∙ sym (after_both one other k.host);
  told = all_both IsToldBy one other k.host a.told (subst (AreAll IsToldBy other) a.at b.told);
}

steps_tell : HoldsOfSteps Tells
steps_tell = record {
  due = record {
    nothing = λ k. quietly k [] k.policy tt;
    both = both_tell;
    wants = λ name anew k. quietly k _ _ (want_says IsNoReport name anew (sees k.host) k.policy);
    turned = λ t l k. quietly k [] _ tt;
    beats = λ k due. quietly k [] _ tt;
    answers = λ k is. quietly k _ _ (states_each (SaysOnly IsNoReport) (view_of k.host) (λ page. tt) (take 64 (pages_of k.host.is.held)));
    asks_pages = λ k is. quietly k _ _ (tt, tt);
    reports = λ page until told k is. record { at = refl; told = (λ v c. subst (IsReportOf k.host) (one_of _ v c) (refl, record { known = is_known (view_of k.host); from = k.policy.echoed; is = refl }), tt) };
  };
  ticks = λ now k later. quietly k _ k.policy (tt, tt);
  arrives = λ d k free. quietly k _ k.policy (tt, tt);
  answered = λ d k lacks asked. quietly k _ _ (tt, tt);
  hears = λ v k. quietly k _ k.policy (tt, tt);
  stops = λ name k full. quietly k _ k.policy (tt, tt);
  sets = λ source micros k. quietly k _ k.policy (tt, tt);
  lends = λ source k. quietly k _ k.policy (tt, tt);
  takes_back = λ source k. quietly k _ k.policy (tt, tt);
  tunes = λ constants k within. quietly k _ k.policy (tt, tt);
  draws = λ d k unasked. quietly k _ k.policy (tt, tt);
  drawn = λ d k asked. quietly k _ _ (tt, tt);
  measured = λ micros k. quietly k [] _ tt;
  told = λ k. quietly k [] _ tt;
  takes_up = λ k is. quietly k [] _ tt;
}

-- ---- a report that is sent

-- where a report of a moment with some echoes was said, among lines with which no time goes on, and nothing of a number is heard
record IsSaidAt (number : ℕ) (host end : Opened) (moment : ℕ) (es : List Echo) : Type 0 where
  there : Opened
  now : moment ≡ present host
  echoed : AreEchoedBy there es
  same : newest_of number there ≡ newest_of number host
  then : present there ≡ present host
  few : length (senders there) ≤ length (senders end)

module _ (number s moment : ℕ) (page : PageId) (marks : List MarkValue) (es : List Echo) where
  abbrev report : Datagram
  report = Session s moment page marks es

  said_at : (lines : List Line) (host : Opened) → AreAll IsToldBy lines host → Each (HearsNo number) lines → Each IsNoTick lines → Contains (sent_by_lines lines host) report → IsSaidAt number host (after_lines lines host) moment es
  said_at [] host told unheard stands c = absurd (Contains-none report c)
  said_at (line ∷ lines) host told unheard stands c = ⊎_elim
      (λ (here : Contains (sent_by_line line host) report).
      let is = told.0 report here in
      record { there = host; now = is.0; echoed = is.1; same = refl; then = refl; few = lines_grow (line ∷ lines) host })
      (λ (later : Contains (sent_by_lines lines (after_line line host)) report).
      let r = said_at lines (after_line line host) told.1 unheard.1 stands.1 later in
      record {
        there = r.there;
        now = r.now ∙ line_now line host stands.0;
        echoed = r.echoed;
        same = r.same ∙ line_same number line host unheard.0;
        then = r.then ∙ line_now line host stands.0;
        few = r.few;
      })
      (Contains-append_cases (sent_by_line line host) (sent_by_lines lines (after_line line host)) report c)

-- ---- a call in which nothing of the number is heard

abbrev pub IsQuiet : ℕ → KeptLine → Type 0
IsQuiet number (Came now v) = NotOf number v
IsQuiet number call = Unit {0}

pub quiet_lines : (number : ℕ) (call : KeptLine) (start host : Opened) (lines : List Line) → IsQuiet number call → AreLinesOf call start host lines → Each (HearsNo number) lines
quiet_lines number call start host [] quiet are = tt
quiet_lines number call start host (line ∷ lines) quiet are = (one line are.0, quiet_lines number call start (after_line line host) lines quiet are.1) where
  heard_no : (v : Datagram) → IsHeardBy call v → NotOf number v
  heard_no (Session s sent page marks es) is = subst (IsQuiet number) is.3 quiet
  heard_no v is = tt

  one : (line : Line) → IsLineOf call start host line → HearsNo number line
  one (Calls (calls.Hear v)) is = heard_no v is
  one line is = tt

-- a call begins with a tick of its moment, if it is no tuning, and time stands still after that
abbrev pub moment_in : KeptLine → ℕ
moment_in (Came now v) = now
moment_in (Ticked now) = now
moment_in (Added now page time op) = now
moment_in (Tuned constants) = 0

abbrev pub IsTimed : KeptLine → Type 0
IsTimed (Tuned constants) = ⊥
IsTimed call = Unit {0}

begins : (call : KeptLine) (k : Keeping) → IsTimed call → Begins (moment_in call) (doing_of call (sees k.host) k.policy)
begins (Came now v) k timed_call = came_begins now v (sees k.host) k.policy
begins (Ticked now) k timed_call = ticks_begin now (sees k.host) k.policy
begins (Added now page time op) k timed_call = adds_begin now page time op (sees k.host) k.policy
begins (Tuned constants) k timed_call = absurd timed_call

-- what a call makes of what was heard last, and where its report was said
pub record CallTells (number : ℕ) (call : KeptLine) (k : Keeping) : Type 0 where
  pub newest_is : newest_of number (after_doing (doing_of call) k).host ≡ taken_in number call k (newest_of number k.host)
  pub said : (s moment : ℕ) (page : PageId) (marks : List MarkValue) (es : List Echo) → fault_of call k ≡ None → Contains (sent_by_doing (doing_of call) k) (Session s moment page marks es)
      → (there : Opened) × (moment ≡ moment_in call) × AreEchoedBy there es × (newest_of number there ≡ newest_of number (after_doing (doing_of call) k).host) × (present there ≡ moment) × (length (senders there) ≤ length (senders (after_doing (doing_of call) k).host))

not_taken : (number : ℕ) (call : KeptLine) (k : Keeping) (before : Option Heard) → IsQuiet number call → taken_in number call k before ≡ before
not_taken number (Came now (Session s sent page marks es)) k before quiet =
    ap (λ (b : Bool). cond (b && has_room_for (heard_of now (Session s sent page marks es) k) (ticked now k.host)) (Some (record { sent = sent; at = now })) before) quiet
not_taken number (Came now v) k before quiet = refl
not_taken number call k before quiet = refl

-- of lines that begin with a tick, the report is said after it
said_after_tick : (number : ℕ) (call : KeptLine) (k : Keeping) → IsTimed call → Each (HearsNo number) (doing_of call (sees k.host) k.policy).lines → fault_of call k ≡ None
    → (s moment : ℕ) (page : PageId) (marks : List MarkValue) (es : List Echo) → Contains (sent_by_doing (doing_of call) k) (Session s moment page marks es)
    → (there : Opened) × (moment ≡ moment_in call) × AreEchoedBy there es × (newest_of number there ≡ newest_of number k.host) × (present there ≡ moment) × (length (senders there) ≤ length (senders (after_doing (doing_of call) k).host))
said_after_tick number call k timed_call unheard none s moment page marks es c =
    let b = begins call k timed_call in
    let told = subst (λ (lines : List Line). AreAll IsToldBy lines k.host) b.is (line_holds Tells steps_tell call k none).told in
    let quiet = subst (Each (HearsNo number)) b.is unheard in
    let within = subst (λ (lines : List Line). Contains (sent_by_lines lines k.host) (Session s moment page marks es)) b.is c in
    let first = after_line (Calls (calls.Tick (moment_in call))) k.host in
    ⊎_elim
    (λ (at_once : Contains (sent_by_line (Calls (calls.Tick (moment_in call))) k.host) (Session s moment page marks es)).
    absurd (line_none (Calls (calls.Tick (moment_in call))) k.host tt (Session s moment page marks es) at_once))
    (λ (later : Contains (sent_by_lines b.rest first) (Session s moment page marks es)).
    let r = said_at number s moment page marks es b.rest first told.1 quiet.1 b.none later in
    (r.there, r.now, r.echoed, r.same, r.then ∙ sym r.now, subst (λ (lines : List Line). length (senders r.there) ≤ length (senders (after_lines lines k.host))) (sym b.is) r.few))
    (Contains-append_cases (sent_by_line (Calls (calls.Tick (moment_in call))) k.host) (sent_by_lines b.rest first) (Session s moment page marks es) within)

quiet_tells : (number : ℕ) (call : KeptLine) (k : Keeping) → IsQuiet number call → IsTimed call → CallTells number call k
quiet_tells number call k quiet timed_call = record {
  newest_is = lines_same number lines k.host unheard ∙ sym (not_taken number call k (newest_of number k.host) quiet);
  said = λ s moment page marks es none c.
      let r = said_after_tick number call k timed_call unheard none s moment page marks es c in
      (r.0, r.1, r.2, r.3 ∙ sym (lines_same number lines k.host unheard), r.4, r.5);
} where
  lines : List Line
  lines = (doing_of call (sees k.host) k.policy).lines

  unheard : Each (HearsNo number) lines
  unheard = quiet_lines number call k.host k.host lines quiet (lines_of_call call k)

-- ---- a report under the number comes

module _ (number now sent : ℕ) (page : PageId) (marks : List MarkValue) (es : List Echo) (k : Keeping) (another : nat_eq number k.host.is.number ≡ false) where
  abbrev v : Datagram
  v = Session number sent page marks es

  abbrev own : Datagram
  own = heard_of now v k

  abbrev ticking : Opened
  ticking = after_line (Calls (calls.Tick now)) k.host

  abbrev hearing : Opened
  hearing = after_line (Calls (calls.Hear own)) ticking

  more : Transition
  more = and_then (measures number (echoed_delay now (echo_of k.host.is.number es))) (want_told (told_names k.host.is.number page marks))

  heard_doing : Doing
  heard_doing = and_then (performs (Calls (calls.Hear own))) more (sees ticking) k.policy

  lines_with : Doing → List Line
  lines_with d = Calls (calls.Tick now) ∷ (d.lines ++ (timed (λ lines. sees ticking (d.lines ++ lines)) d.policy).lines)

  -- after the tick it is heard, and then nothing comes
  record HearsFirst (lines : List Line) : Type 0 where
    rest : List Line
    split : lines ≡ Calls (calls.Tick now) ∷ Calls (calls.Hear own) ∷ rest
    small : AreSmall rest

  hears_first : HearsFirst (came now v (sees k.host) k.policy).lines
  unfolding lines_with heard_doing more
  hears_first = subst HearsFirst (ap (λ (b : Bool). lines_with (cond b (still (sees ticking) k.policy) heard_doing)) (sym another)) (record {
    rest = (more (sees hearing) k.policy).lines ++ (timed (λ lines. sees ticking (heard_doing.lines ++ lines)) heard_doing.policy).lines;
    split = refl;
    small = each_both IsSmall _ _
        (then_each IsSmall (measures number (echoed_delay now (echo_of k.host.is.number es))) (want_told (told_names k.host.is.number page marks))
        (measures_each IsSmall are_small number (echoed_delay now (echo_of k.host.is.number es))) (told_each IsSmall are_small (told_names k.host.is.number page marks)) (sees hearing) k.policy)
        (timed_each IsSmall are_small (λ lines. sees ticking (heard_doing.lines ++ lines)) heard_doing.policy);
  })

  hearing_is : newest_of number hearing ≡ taken_from number now v k (newest_of number k.host)
  hearing_is = by (has_room_for own ticking) ∙ ap (λ (b : Bool). cond (b && has_room_for own ticking) (Some (record { sent = sent; at = now })) (newest_of number k.host)) (sym (eq-eqb number number refl)) where
    by : (b : Bool) → newest_of number (cond b (heard own ticking) ticking) ≡ cond (true && b) (Some (record { sent = sent; at = now })) (newest_of number k.host)
    by true =
        ap (λ (b : Bool). option_or (heard_by number (cond b None (Some (number, record { sent = sent; at = now })))) (newest_of number k.host)) another
        ∙ ap (λ (b : Bool). option_or (cond b (Some (record { sent = sent; at = now })) None) (newest_of number k.host)) (eq-eqb number number refl)
    by false = refl

  came_tells : CallTells number (Came now v) k
  came_tells = record {
    newest_is =
        ap (λ (lines : List Line). newest_of number (after_lines lines k.host)) hears_first.split
        ∙ lines_same number hears_first.rest hearing (small_no number hears_first.rest hears_first.small) ∙ hearing_is;
    said = λ s moment on told_marks told none c.
        let f = hears_first in
        let b = begins (Came now v) k tt in
        let lines = subst (λ (ls : List Line). AreAll IsToldBy ls k.host) f.split (line_holds Tells steps_tell (Came now v) k none).told in
        let stands = subst (λ (ls : List Line). Each IsNoTick ls) (tail b.rest (Calls (calls.Hear own) ∷ f.rest) (sym b.is ∙ f.split)) b.none in
        let within = subst (λ (ls : List Line). Contains (sent_by_lines ls k.host) (Session s moment on told_marks told)) f.split c in
        let unheard = small_no number f.rest f.small in
        let r = said_at number s moment on told_marks told f.rest hearing lines.1.1 unheard stands.1 (after_first s moment on told_marks told f.rest within) in (
          r.there,
          r.now ∙ then_now,
          r.echoed,
          r.same ∙ sym (lines_same number f.rest hearing unheard) ∙ ap (λ (ls : List Line). newest_of number (after_lines ls k.host)) (sym f.split),
          r.then ∙ sym r.now,
          subst (λ (ls : List Line). length (senders r.there) ≤ length (senders (after_lines ls k.host))) (sym f.split) r.few,
        );
  } where
    tail : (xs ys : List Line) → Calls (calls.Tick now) ∷ xs ≡ Calls (calls.Tick now) ∷ ys → xs ≡ ys
    tail xs ys e = cc

    then_now : present hearing ≡ now
    then_now = line_now (Calls (calls.Hear own)) ticking tt

    after_first : (s moment : ℕ) (on : PageId) (told_marks : List MarkValue) (told : List Echo) (rest : List Line) → let w = Session s moment on told_marks told in
        Contains (sent_by_lines (Calls (calls.Tick now) ∷ Calls (calls.Hear own) ∷ rest) k.host) w → Contains (sent_by_lines rest hearing) w
    after_first s moment on told_marks told rest c = ⊎_elim
        (λ (at_once : Contains (sent_by_line (Calls (calls.Tick now)) k.host) w). absurd (line_none (Calls (calls.Tick now)) k.host tt w at_once))
        (λ (next : Contains (sent_by_line (Calls (calls.Hear own)) ticking ++ sent_by_lines rest hearing) w). ⊎_elim
        (λ (heard_it : Contains (sent_by_line (Calls (calls.Hear own)) ticking) w). absurd (line_none (Calls (calls.Hear own)) ticking tt w heard_it))
        (λ (later : Contains (sent_by_lines rest hearing) w). later)
        (Contains-append_cases (sent_by_line (Calls (calls.Hear own)) ticking) (sent_by_lines rest hearing) w next))
        (Contains-append_cases (sent_by_line (Calls (calls.Tick now)) k.host) (sent_by_lines (Calls (calls.Hear own) ∷ rest) ticking) w c) where
          w : Datagram
          w = Session s moment on told_marks told

-- ---- any call

pub call_tells : (number : ℕ) (call : KeptLine) (k : Keeping) → nat_eq number k.host.is.number ≡ false → IsTimed call → CallTells number call k
call_tells number (Came now (Session s sent page marks es)) k another timed_call = by (nat_eq s number) refl where
  by : (b : Bool) → nat_eq s number ≡ b → CallTells number (Came now (Session s sent page marks es)) k
  by false not = quiet_tells number (Came now (Session s sent page marks es)) k not tt
  by true is = subst (λ (n : ℕ). CallTells number (Came now (Session n sent page marks es)) k) (sym (eqb-true s number is)) (came_tells number now sent page marks es k another)
call_tells number (Came now v) k another timed_call = quiet_tells number (Came now v) k tt tt
call_tells number call k another timed_call = quiet_tells number call k tt timed_call
