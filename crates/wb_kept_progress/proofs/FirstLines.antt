-- What each line of a call is like: its first lines take in what was handed in, and few lines follow them.
use Rattle.std.proofs.Common.{◌≡◌, ℕ, Bool, true, false, cond, List, [], ◌∷◌, ◌++◌, ◌∙◌, ap, append_assoc, length, refl, subst, sym}
use Rattle.std.specs.Prelude.{◌||◌, Contains, nat_eq, nat_lt}
use Rattle.std.proofs.lemmas.List.Elements.{Contains-append_left}
use Rattle.wb_names.specs.Values.{DrawopValue, MarkValue, NameValue}
use Rattle.wb_names.specs.declared.echo.Echo.{Echo}
use Rattle.wb_names.specs.declared.name.PageId.{PageId}
use Rattle.wb_names.specs.declared.parts.Op.{Op}
use Rattle.wb_codec.specs.declared.datagram.Datagram.{Datagram}
use Rattle.wb_codec.specs.declared.datagram.Datagram.TheVariants.{Draw, Session, Request, AskPages, PageState}
use Rattle.wb_member.specs.Lines.{IsOfPolicy}
use Rattle.wb_member.specs.Opened.{Opened}
use Rattle.wb_member.specs.declared.calls.Call.{Call}
use Rattle.wb_member.specs.declared.calls.Call.TheVariants.{Tick, Hear, SetDelay, Tune, Ask, Stop}
use Rattle.wb_recovery.specs.declared.limits.TheConstants.{UNKNOWN_DELAY}
use Rattle.wb_policy.specs.Choices.{echoed_delay, own_echo, own_marks, told_names}
use Rattle.wb_keeping.specs.Kept.{Arrives, Doing, Line, Says, Transition, and_then, came, drawing, ends_full, hears, hears_some, learned, measures, performs, still, takes_question, timed, want_told, hears_request, Calls, drew}
use Rattle.wb_keeping.specs.Laws.{KeptLine, Came, Ticked, Added, Tuned, doing_of}
use Rattle.wb_keeping.specs.Performing.{Keeping, after_line, after_lines, sees, view_of}
use Rattle.wb_policy.specs.Policy.{Policy, after_state, after_taking_up}
use Rattle.wb_keeping.specs.Views.{View, holds, is_asked, is_full}
use Rattle.wb_policy.specs.Questions.{is_to_answer}
use Rattle.wb_kept_progress.proofs.Lines.{AreSmall, IsSmall, are_small}
use Rattle.wb_keeping.proofs.EachLine.{learned_each, measures_each, timed_each, told_each, each_both, ends_each, then_each}
use Rattle.wb_keeping.proofs.PolicyCalls.{calls_are_of_policies}

-- ---- a line of a call

-- a request is heard only where it is handed in, and a report where one of its sender is: of its marks and echoes not all are heard. No question is.
abbrev pub IsHeardBy : KeptLine → Datagram → Type 0
IsHeardBy call (Draw d) = Unit {0}
IsHeardBy call (Session sender sent page marks echoes) = (now : ℕ) × (all : List MarkValue) × (told : List Echo) × (call ≡ Came now (Session sender sent page all told))
IsHeardBy call (Request asker name) = (now : ℕ) × (call ≡ Came now (Request asker name))
IsHeardBy call (AskPages asker) = ⊥
IsHeardBy call (PageState sender page marks) = Unit {0}

-- a drawop is said only where the user draws, under the host's own number, and no request is
abbrev pub IsSaidBy : KeptLine → Opened → Datagram → Type 0
IsSaidBy call start (Draw d) = (now : ℕ) × (page : PageId) × (time : ℕ) × (op : Op) × (call ≡ Added now page time op) × (d.name.source ≡ start.is.number)
IsSaidBy call start (Session sender sent page marks echoes) = Unit {0}
IsSaidBy call start (Request asker name) = ⊥
IsSaidBy call start (AskPages asker) = Unit {0}
IsSaidBy call start (PageState sender page marks) = Unit {0}

-- A line that a host performs in a call: `start` is the host before the call, and `host` that before the line. A drawop arrives only
-- where it is handed in, and nothing came before it.
abbrev pub IsLineOf : KeptLine → Opened → Opened → Line → Type 0
IsLineOf call start host (Arrives d) = ((now : ℕ) × (call ≡ Came now (Draw d))) × (host.is.held ≡ start.is.held)
IsLineOf call start host (Calls (Hear v)) = IsHeardBy call v
IsLineOf call start host (Calls (Tune constants)) = call ≡ Tuned constants
IsLineOf call start host (Calls made) = IsOfPolicy made
IsLineOf call start host (Says v) = IsSaidBy call start v

abbrev pub AreLinesOf : KeptLine → Opened → Opened → List Line → Type 0
AreLinesOf call start host [] = Unit {0}
AreLinesOf call start host (line ∷ lines) = IsLineOf call start host line × AreLinesOf call start (after_line line host) lines

pub one_of_lines : (call : KeptLine) (start host : Opened) (before later : List Line) (line : Line) → AreLinesOf call start host (before ++ line ∷ later) → IsLineOf call start (after_lines before host) line
one_of_lines call start host [] later line all = all.0
one_of_lines call start host (first ∷ before) later line all = one_of_lines call start (after_line first host) before later line all.1

join : (call : KeptLine) (start host : Opened) (one other : List Line) → AreLinesOf call start host one → AreLinesOf call start (after_lines one host) other → AreLinesOf call start host (one ++ other)
join call start host [] other a b = b
join call start host (line ∷ one) other a b = (a.0, join call start (after_line line host) one other a.1 b)

from_small : (call : KeptLine) (start host : Opened) (lines : List Line) → AreSmall lines → AreLinesOf call start host lines
from_small call start host [] small = tt
from_small call start host (line ∷ lines) small = (one_small line small.0, from_small call start (after_line line host) lines small.1) where
  one_small : (line : Line) → IsSmall line → IsLineOf call start host line
  one_small (Calls (Ask name)) small = tt
  one_small (Calls (Stop name)) small = tt
  one_small (Calls (SetDelay source micros)) small = tt
  one_small (Says (Draw d)) small = absurd small
  one_small (Says (Request asker name)) small = absurd small
  one_small (Says v) small = tt
  one_small line small = absurd small

-- ---- first lines, and small ones behind them

record HasFirst (call : KeptLine) (start host : Opened) (lines : List Line) : Type 0 where
  first : List Line
  rest : List Line
  split : lines ≡ first ++ rest
  fine : AreLinesOf call start host first
  small : AreSmall rest

-- so it is with more of these
with_more : (call : KeptLine) (start host : Opened) (lines more : List Line) → AreSmall more → HasFirst call start host lines → AreLinesOf call start host (lines ++ more)
with_more call start host lines more little f =
    let h = after_lines f.first host in
    let all = join call start host f.first (f.rest ++ more) f.fine (from_small call start h (f.rest ++ more) (each_both IsSmall f.rest more f.small little)) in
    subst (AreLinesOf call start host) (sym (append_assoc f.first f.rest more) ∙ ap (λ (ls : List Line). ls ++ more) (sym f.split)) all

none_first : (call : KeptLine) (start host : Opened) (lines : List Line) → AreSmall lines → HasFirst call start host lines
none_first call start host lines small = record { first = []; rest = lines; split = refl; fine = tt; small = small }

one_first : (call : KeptLine) (start host : Opened) (line : Line) (rest : List Line) → IsLineOf call start host line → AreSmall rest → HasFirst call start host (line ∷ rest)
one_first call start host line rest is small = record { first = line ∷ []; rest = rest; split = refl; fine = (is, tt); small = small }

choose : (call : KeptLine) (start host : Opened) (b : Bool) (x y : Doing) → HasFirst call start host x.lines → HasFirst call start host y.lines → HasFirst call start host (cond b x y).lines
choose call start host true x y p q = p
choose call start host false x y p q = q

-- ---- what comes in

module _ (now : ℕ) (start : Opened) where
  abbrev host : Opened
  host = after_line (Calls (Tick now)) start

  drawop_first : (d : DrawopValue) (p : Policy) → HasFirst (Came now (Draw d)) start host (hears (Draw d) (sees host) p).lines
  drawop_first d p = by (holds (view_of host) d.name) (is_full (view_of host)) where
    call : KeptLine
    call = Came now (Draw d)

    with_it : Opened
    with_it = after_line (Arrives d) host

    new : Doing
    new = and_then (performs (Arrives d)) (learned d.name (is_asked (view_of host) d.name)) (sees host) p

    known : HasFirst call start host (performs (Arrives d) (sees host) p).lines
    known = one_first call start host (Arrives d) [] ((now, refl), refl) tt

    learns : HasFirst call start host new.lines
    learns = one_first call start host (Arrives d) (learned d.name (is_asked (view_of host) d.name) (sees with_it) p).lines ((now, refl), refl) (learned_each IsSmall are_small d.name (is_asked (view_of host) d.name) (sees with_it) p)

    by : (a b : Bool) → HasFirst call start host (cond (a || b) (performs (Arrives d) (sees host) p) new).lines
    by true b = known
    by false true = known
    by false false = learns

  session_first : (sender sent : ℕ) (page : PageId) (marks : List MarkValue) (echoes : List Echo) (p : Policy) → HasFirst (Came now (Session sender sent page marks echoes)) start host (hears (Session sender sent page marks echoes) (sees host) p).lines
  session_first sender sent page marks echoes p = choose call start host (nat_eq sender host.is.number) (still (sees host) p) (and_then (performs (Calls (Hear own))) more (sees host) p) (none_first call start host [] tt) other where
    call : KeptLine
    call = Came now (Session sender sent page marks echoes)

    v : View
    v = view_of host

    own : Datagram
    own = Session sender sent page (own_marks v.me (nat_lt v.now p.ready) marks) (own_echo v.me echoes)

    heard : Opened
    heard = after_line (Calls (Hear own)) host

    measuring : Transition
    measuring = measures sender (echoed_delay v.now (own_echo v.me echoes))

    wanting : Transition
    wanting = want_told (told_names v.me page marks)

    more : Transition
    more = and_then measuring wanting

    other : HasFirst call start host (and_then (performs (Calls (Hear own))) more (sees host) p).lines
    other = one_first call start host (Calls (Hear own)) (more (sees heard) p).lines (now, marks, echoes, refl)
        (then_each IsSmall measuring wanting (measures_each IsSmall are_small sender (echoed_delay v.now (own_echo v.me echoes))) (told_each IsSmall are_small (told_names v.me page marks)) (sees heard) p)

  state_first : (sender : ℕ) (page : PageId) (marks : List MarkValue) (p : Policy) → HasFirst (Came now (PageState sender page marks)) start host (hears (PageState sender page marks) (sees host) p).lines
  state_first sender page marks p = choose call start host (nat_eq sender host.is.number) (still (sees host) p) (and_then (hears_some sender page own) (want_told names) (sees host) q) (none_first call start host [] tt) (from own) where
    call : KeptLine
    call = Came now (PageState sender page marks)

    v : View
    v = view_of host

    q : Policy
    q = after_state v.now p

    own : List MarkValue
    own = own_marks v.me (nat_lt v.now p.ready) marks

    names : List NameValue
    names = told_names v.me page marks

    from : (own : List MarkValue) → HasFirst call start host (and_then (hears_some sender page own) (want_told names) (sees host) q).lines
    from [] = none_first call start host (want_told names (sees host) q).lines (told_each IsSmall are_small names (sees host) q)
    from (m ∷ own) =
        let heard = after_line (Calls (Hear (PageState sender page (m ∷ own)))) host in
        one_first call start host (Calls (Hear (PageState sender page (m ∷ own)))) (want_told names (sees heard) q).lines tt (told_each IsSmall are_small names (sees heard) q)

  request_first : (asker : ℕ) (name : NameValue) (p : Policy) → HasFirst (Came now (Request asker name)) start host (hears_request asker name (sees host) p).lines
  request_first asker name p = by (nat_eq ((view_of host).delay source) UNKNOWN_DELAY) where
    source : ℕ
    source = cond (holds (view_of host) name) asker name.source

    line : Line
    line = Calls (Hear (Request asker name))

    by : (b : Bool) → HasFirst (Came now (Request asker name)) start host (cond b (Calls (SetDelay source p.usual) ∷ line ∷ Calls (SetDelay source UNKNOWN_DELAY) ∷ []) (line ∷ []))
    by true = record { first = Calls (SetDelay source p.usual) ∷ line ∷ []; rest = Calls (SetDelay source UNKNOWN_DELAY) ∷ []; split = refl; fine = (tt, ((now, refl), tt)); small = (tt, tt) }
    by false = one_first (Came now (Request asker name)) start host line [] (now, refl) tt

  hears_first : (v : Datagram) (p : Policy) → HasFirst (Came now v) start host (hears v (sees host) p).lines
  hears_first (Draw d) p = drawop_first d p
  hears_first (Session sender sent page marks echoes) p = session_first sender sent page marks echoes p
  hears_first (PageState sender page marks) p = state_first sender page marks p
  hears_first (Request asker name) p =
      let call : KeptLine = Came now (Request asker name) in
      choose call start host (nat_eq asker host.is.number) (still (sees host) p) (hears_request asker name (sees host) p)
      (none_first call start host [] tt) (request_first asker name p)
  hears_first (AskPages asker) p =
      let call : KeptLine = Came now (AskPages asker) in
      let q = after_taking_up (view_of host).now p in
      let none = none_first call start host [] tt in
      choose call start host (nat_eq asker host.is.number) (still (sees host) p) (takes_question (sees host) p) none
      (choose call start host (is_to_answer (view_of host).now (nat_lt 0 (length (view_of host).held)) p.questions) (still (sees host) q) (still (sees host) p) none none)

-- ---- the lines of a call

pub lines_of_call : (call : KeptLine) (k : Keeping) → AreLinesOf call k.host k.host (doing_of call (sees k.host) k.policy).lines
lines_of_call (Came now v) k =
    let host = after_line (Calls (Tick now)) k.host in
    let d = hears v (sees host) k.policy in
    let see = λ (lines : List Line). sees host (d.lines ++ lines) in
    (tt, with_more (Came now v) k.host host d.lines (timed see d.policy).lines (timed_each IsSmall are_small see d.policy) (hears_first now k.host v k.policy))
lines_of_call (Ticked now) k =
    let host = after_line (Calls (Tick now)) k.host in
    (tt, from_small (Ticked now) k.host host (timed (sees host) k.policy).lines (timed_each IsSmall are_small (sees host) k.policy))
lines_of_call (Added now page time op) k =
    let host = after_line (Calls (Tick now)) k.host in
    let d = drawing (view_of host) page time op in
    let drawn = after_line (Says (Draw d)) host in
    (tt, ((now, page, time, op, refl, refl), from_small (Added now page time op) k.host drawn (and_then ends_full timed (sees drawn) (drew d (view_of host) k.policy)).lines (then_each IsSmall ends_full timed (ends_each IsSmall are_small) (timed_each IsSmall are_small) (sees drawn) (drew d (view_of host) k.policy))))
lines_of_call (Tuned constants) k = (refl, tt)

pub made_in_call : (line : KeptLine) (k : Keeping) (call : Call) → Contains (doing_of line (sees k.host) k.policy).lines (Calls call) → IsOfPolicy call
made_in_call line k call c = calls_are_of_policies (line ∷ []) k call (Contains-append_left (doing_of line (sees k.host) k.policy).lines [] (Calls call) c)

-- ---- the line with which a datagram comes in

pub drawop_begins : (now : ℕ) (d : DrawopValue) (k : Keeping) → (rest : List Line) × ((came now (Draw d) (sees k.host) k.policy).lines ≡ (Calls (Tick now) ∷ []) ++ Arrives d ∷ rest)
drawop_begins now d k = by (holds (view_of host) d.name) (is_full (view_of host)) where
  host : Opened
  host = after_line (Calls (Tick now)) k.host

  new : Doing
  new = and_then (performs (Arrives d)) (learned d.name (is_asked (view_of host) d.name)) (sees host) k.policy

  takes_it : Bool → Bool → Doing
  takes_it a b = cond (a || b) (performs (Arrives d) (sees host) k.policy) new

  by : (a b : Bool) → (rest : List Line) × (Calls (Tick now) ∷ ((takes_it a b).lines ++ (timed (λ (lines : List Line). sees host ((takes_it a b).lines ++ lines)) (takes_it a b).policy).lines) ≡ (Calls (Tick now) ∷ []) ++ Arrives d ∷ rest)
  by true b = (_, refl)
  by false true = (_, refl)
  by false false = (_, refl)

pub request_begins : (now asker : ℕ) (name : NameValue) (k : Keeping) → nat_eq asker k.host.is.number ≡ false
    → (before : List Line) × (rest : List Line) × ((came now (Request asker name) (sees k.host) k.policy).lines ≡ (Calls (Tick now) ∷ before) ++ Calls (Hear (Request asker name)) ∷ rest)
request_begins now asker name k other = by (nat_eq asker k.host.is.number) (nat_eq ((view_of host).delay source) UNKNOWN_DELAY) other where
  host : Opened
  host = after_line (Calls (Tick now)) k.host

  source : ℕ
  source = cond (holds (view_of host) name) asker name.source

  line : Line
  line = Calls (Hear (Request asker name))

  lent : Bool → Doing
  lent lends = record { policy = k.policy; lines = cond lends (Calls (SetDelay source k.policy.usual) ∷ line ∷ Calls (SetDelay source UNKNOWN_DELAY) ∷ []) (line ∷ []) }

  heard : Bool → Bool → Doing
  heard own lends = cond own (still (sees host) k.policy) (lent lends)

  by : (own lends : Bool) → own ≡ false
      → (before : List Line) × (rest : List Line) × (Calls (Tick now) ∷ ((heard own lends).lines ++ (timed (λ (lines : List Line). sees host ((heard own lends).lines ++ lines)) (heard own lends).policy).lines) ≡ (Calls (Tick now) ∷ before) ++ line ∷ rest)
  by true lends e = absurd cc
  by false true e = (Calls (SetDelay source k.policy.usual) ∷ [], _, refl)
  by false false e = ([], _, refl)
