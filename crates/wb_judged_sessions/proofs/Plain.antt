-- The echo that a report has under the number of its sender: nobody does anything for it.
use Rattle.std.proofs.Common.{◌≡◌, ℕ, Bool, true, false, cond, List, [], ◌∷◌, ◌++◌, ap, arith, filter, refl, sym}
use Rattle.std.specs.Prelude.{nat_eq, nat_lt, not}
use Rattle.std.proofs.lemmas.Bool.Decides.{nat_tests}
use Rattle.wb_names.specs.Values.{MarkValue}
use Rattle.wb_names.specs.declared.echo.Echo.{Echo}
use Rattle.wb_names.specs.declared.name.PageId.{PageId}
use Rattle.wb_codec.specs.declared.datagram.Datagram.{Datagram}
use Rattle.wb_codec.specs.declared.datagram.Datagram.TheVariants.{AskPages, Draw, PageState, Request, Session}
use Rattle.wb_policy.specs.Choices.{echoed_delay, own_echo, own_marks, told_names}
use Rattle.wb_policy.specs.Policy.{Policy}
use Rattle.wb_member.specs.declared.calls.Call.TheVariants.{Tick, Hear}
use Rattle.wb_keeping.specs.Kept.{Calls, Doing, Line, and_then, came, hears, measures, performs, still, timed, want_told}
use Rattle.wb_keeping.specs.Laws.{Added, Came, KeptLine, Ticked, Tuned, doing_of, fault_of}
use Rattle.wb_keeping.specs.Performing.{Keeping, after_doing, after_lines, sees, sent_by_doing, sent_by_lines}
use Rattle.wb_keeping.specs.Views.{View}
use Rattle.wb_judging.proofs.Heard.{filter_of_filter}
use Rattle.wb_laws_kept.specs.Kept.{gained_by_line}
use Rattle.wb_judged_sessions.specs.Calls.{plain_line}
use Rattle.wb_judged_sessions.specs.Sessions.{PlainIsTheSame}
use Rattle.wb_laws_machines.specs.Maps.{plain}

abbrev pub of_others : ℕ → List Echo → List Echo
of_others sender echoes = filter (λ (e : Echo). not (nat_eq e.source sender)) echoes

other_source : (sender me : ℕ) → nat_eq sender me ≡ false → (e : Echo) → nat_eq e.source me ≡ true → not (nat_eq e.source sender) ≡ true
other_source sender me other e is = grind (arith, nat_tests)

own_same : (sender me : ℕ) (echoes : List Echo) → nat_eq sender me ≡ false → own_echo me (of_others sender echoes) ≡ own_echo me echoes
own_same sender me echoes other = filter_of_filter (λ (e : Echo). nat_eq e.source me) (λ (e : Echo). not (nat_eq e.source sender)) (other_source sender me other) echoes

module _ (sender sent : ℕ) (page : PageId) (marks : List MarkValue) (see : List Line → View) (p : Policy) where
  -- what is done by the echo of this member
  abbrev by_echo : List Echo → Doing
  by_echo echo =
      let v = see [] in
      and_then (performs (Calls (Hear (Session sender sent page (own_marks v.me (nat_lt v.now p.ready) marks) echo))))
      (and_then (measures sender (echoed_delay v.now echo)) (want_told (told_names v.me page marks))) see p

  session_same : (echoes : List Echo) → hears (Session sender sent page marks (of_others sender echoes)) see p ≡ hears (Session sender sent page marks echoes) see p
  session_same echoes = by (nat_eq sender (see []).me) refl where
    by : (b : Bool) → nat_eq sender (see []).me ≡ b
        → cond b (still see p) (by_echo (own_echo (see []).me (of_others sender echoes))) ≡ cond b (still see p) (by_echo (own_echo (see []).me echoes))
    by true is = refl
    by false is = ap by_echo (own_same sender (see []).me echoes is)

pub hears_same : (v : Datagram) (see : List Line → View) (p : Policy) → hears (plain v) see p ≡ hears v see p
hears_same (Draw d) see p = refl
hears_same (Session sender sent page marks echoes) see p = session_same sender sent page marks see p echoes
hears_same (Request asker name) see p = refl
hears_same (AskPages asker) see p = refl
hears_same (PageState sender page marks) see p = refl

-- what is done once a datagram was heard
abbrev after_hearing : ℕ → (List Line → View) → Doing → Doing
after_hearing now see one =
    let two = timed (λ (lines : List Line). see (Calls (Tick now) ∷ (one.lines ++ lines))) one.policy in
    record { policy = two.policy; lines = Calls (Tick now) ∷ (one.lines ++ two.lines) }

came_same : (now : ℕ) (v : Datagram) (see : List Line → View) (p : Policy) → came now (plain v) see p ≡ came now v see p
came_same now v see p = ap (after_hearing now see) (hears_same v (λ (lines : List Line). see (Calls (Tick now) ∷ lines)) p)

pub plain_is_the_same : PlainIsTheSame
plain_is_the_same now v k = sym (came_same now v (sees k.host) k.policy)

-- ---- lines

does_same : (line : KeptLine) (k : Keeping) → doing_of (plain_line line) (sees k.host) k.policy ≡ doing_of line (sees k.host) k.policy
does_same (Came now v) k = came_same now v (sees k.host) k.policy
does_same (Ticked now) k = refl
does_same (Added now page time op) k = refl
does_same (Tuned constants) k = refl

pub plain_after : (line : KeptLine) (k : Keeping) → after_doing (doing_of (plain_line line)) k ≡ after_doing (doing_of line) k
plain_after line k = ap (λ (d : Doing). let next : Keeping = record { host = after_lines d.lines k.host; policy = d.policy } in next) (does_same line k)

pub plain_sent : (line : KeptLine) (k : Keeping) → sent_by_doing (doing_of (plain_line line)) k ≡ sent_by_doing (doing_of line) k
plain_sent line k = ap (λ (d : Doing). sent_by_lines d.lines k.host) (does_same line k)

came_fault_same : (now : ℕ) (v : Datagram) (k : Keeping) → fault_of (Came now (plain v)) k ≡ fault_of (Came now v) k
came_fault_same now (Draw d) k = refl
came_fault_same now (Session sender sent page marks echoes) k = refl
came_fault_same now (Request asker name) k = refl
came_fault_same now (AskPages asker) k = refl
came_fault_same now (PageState sender page marks) k = refl

pub plain_fault : (line : KeptLine) (k : Keeping) → fault_of (plain_line line) k ≡ fault_of line k
plain_fault (Came now v) k = came_fault_same now v k
plain_fault (Ticked now) k = refl
plain_fault (Added now page time op) k = refl
plain_fault (Tuned constants) k = refl

gained_same : (now : ℕ) (v : Datagram) → gained_by_line (Came now (plain v)) ≡ gained_by_line (Came now v)
gained_same now (Draw d) = refl
gained_same now (Session sender sent page marks echoes) = refl
gained_same now (Request asker name) = refl
gained_same now (AskPages asker) = refl
gained_same now (PageState sender page marks) = refl

pub plain_came : (line : KeptLine) → gained_by_line (plain_line line) ≡ gained_by_line line
plain_came (Came now v) = gained_same now v
plain_came (Ticked now) = refl
plain_came (Added now page time op) = refl
plain_came (Tuned constants) = refl
