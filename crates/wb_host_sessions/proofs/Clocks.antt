-- A session of judged members that keeps time is one of self-managing members, and that keeps time.
use Rattle.std.proofs.Common.{◌≡◌, ℕ, List, [], ◌∷◌, ◌∙◌, None, Some, ap, refl, subst, sym}
use Rattle.std.specs.Prelude.{Contains, Option}
use Rattle.wb_names.specs.declared.echo.Echo.{Echo}
use Rattle.wb_names.proofs.Listings.{Contains-here, Contains-map, Contains-none}
use Rattle.wb_codec.specs.declared.datagram.Datagram.{Datagram}
use Rattle.wb_judge.specs.Aliens.{alien_at}
use Rattle.wb_judge.specs.Adding.{own_echo}
use Rattle.wb_judge.specs.Judge.{Judge}
use Rattle.wb_judge.specs.declared.verdict.Why.{Why}
use Rattle.wb_keeping.specs.Laws.{Added, Came, KeptLine, Ticked, Tuned, doing_of}
use Rattle.wb_keeping.specs.Performing.{sent_by_doing}
use Rattle.wb_judging.specs.Echoing.{echoing}
use Rattle.wb_judging.specs.Handing.{handed, handed_for, verdict_on}
use Rattle.wb_judging.specs.Judged.{Judged, moment_of}
use Rattle.wb_judging.specs.Laws.{sends_in}
use Rattle.wb_judging.specs.Performing.{events_of, judging, sent_by_kept_line}
use Rattle.wb_judging.specs.declared.call.Call.{Call}
use Rattle.wb_judging.specs.declared.call.Call.TheVariants.{CameFrom, Held, Passed, UserDrew}
use Rattle.wb_judging.proofs.AsKept.{sends_as_kept}
use Rattle.wb_judging.proofs.Numbers.{me_judging}
use Rattle.wb_laws_sessions.proofs.Sending.{one_of}
use Rattle.wb_judged_sessions.specs.Calls.{IsLineTaken, IsTaken, JudgedCall, plain_line, sent_by, Starts, Takes, Tunes}
use Rattle.wb_laws_machines.specs.Maps.{plain, HasSame, below}
use Rattle.wb_judged_sessions.proofs.Echoes.{call_sends, plain_again}
use Rattle.wb_judged_sessions.proofs.Plain.{plain_sent}
use Rattle.wb_judged_sessions.proofs.Sent.{echo_mine}
use Rattle.wb_judged_sessions.proofs.Terms.{IsOwn, fault_none}
use Rattle.wb_host_sessions.specs.Clocks.{IsSteady, IsSteadyLine, JudgedKeepTime, heard_in, judged_clock, judged_hears, kept_clock, kept_hears}
use Rattle.wb_judged_sessions.specs.Judged.{calls_of, judged, judged_map}
use Rattle.wb_laws_kept.specs.Kept.{kept}
use Rattle.wb_laws_machines.specs.Times.{IsMapInTime}
use Rattle.wb_judged_sessions.proofs.Judged.{judged_is_map, kept_sends, plain_twice}
use Rattle.wb_laws_machines.proofs.Mapped.{member_below}
use Rattle.wb_laws_machines.proofs.Times.{keeps_time_below}
use Rattle.wb_laws_kept.specs.Calls.{Begins, Call as KeptCall, Handed}

-- the one call below; of a start it is the first
abbrev one : JudgedCall → Judged → KeptCall
one (Starts start given) h = Begins start.opening []
one (Takes line) h = Handed (plain_line (handed line h))
one (Tunes constants) h = Handed (Tuned constants)

pub is_one : (call : JudgedCall) (h : Judged) → IsSteady call → calls_of call h ≡ one call h ∷ []
is_one (Starts start given) h is = absurd is
is_one (Takes line) h is = refl
is_one (Tunes constants) h is = refl

steady : (call : JudgedCall) (h : Judged) → IsSteady call → kept_clock.IsSteady (one call h) h.kept
steady (Starts start given) h is = absurd is
steady (Takes line) h is = tt
steady (Tunes constants) h is = tt

came_moment : (now : ℕ) (v : Datagram) (why : Option Why) (h : Judged) → kept.moment (Handed (plain_line (handed_for now v why))) h.kept ≡ Some now
came_moment now v None h = refl
came_moment now v (Some why) h = refl

line_moment : (line : Call) (h : Judged) → IsSteadyLine line → kept.moment (Handed (plain_line (handed line h))) h.kept ≡ judged.moment (Takes line) h
line_moment (CameFrom now o v) h is = came_moment now v (verdict_on now o v h).why h
line_moment (Passed now news) h is = refl
line_moment (UserDrew now page op) h is = refl
line_moment (Held line) h is = absurd is

moment : (call : JudgedCall) (h : Judged) → IsSteady call → kept.moment (one call h) h.kept ≡ judged.moment call h
moment (Starts start given) h is = absurd is
moment (Takes line) h is = line_moment line h is
moment (Tunes constants) h is = refl

-- ---- what is heard

line_hears : (line : KeptLine) (v : Datagram) → Contains (heard_in line) v → HasSame (heard_in (plain_line line)) v
line_hears (Came now u) v c = (plain u, Contains-here (plain u) [], plain_twice u ∙ ap plain (one_of u v c))
line_hears (Ticked now) v c = absurd (Contains-none v c)
line_hears (Added now page time op) v c = absurd (Contains-none v c)
line_hears (Tuned constants) v c = absurd (Contains-none v c)

hears : (call : JudgedCall) (h : Judged) (v : Datagram) → IsSteady call → Contains (judged_hears call h) v → HasSame (kept_hears (one call h)) v
hears (Starts start given) h v is c = absurd is
hears (Takes line) h v is c = line_hears (handed line h) v c
hears (Tunes constants) h v is c = absurd (Contains-none v c)

line_heard : (line : KeptLine) (v : Datagram) → Contains (heard_in (plain_line line)) v → HasSame (heard_in line) v
line_heard (Came now u) v c = (u, Contains-here u [], sym (plain_twice u) ∙ ap plain (one_of (plain u) v c))
line_heard (Ticked now) v c = absurd (Contains-none v c)
line_heard (Added now page time op) v c = absurd (Contains-none v c)
line_heard (Tuned constants) v c = absurd (Contains-none v c)

heard : (call : JudgedCall) (h : Judged) (v : Datagram) → IsSteady call → Contains (kept_hears (one call h)) v → HasSame (judged_hears call h) v
heard (Starts start given) h v is c = absurd is
heard (Takes line) h v is c = line_heard (handed line h) v c
heard (Tunes constants) h v is c = absurd (Contains-none v c)

-- ---- what is sent

line_sent : (line : Call) (h : Judged) → IsOwn h → IsLineTaken line h → (v : Datagram) → Contains (sent_by_doing (doing_of (handed line h)) h.kept) v → HasSame (sends_in (events_of line h)) v
unfolding sent_by_kept_line
line_sent line h own taken v c =
    let j : Judge = judging line h in
    let echo = own_echo (moment_of line h) j in
    let said = sent_by_doing (doing_of (handed line h)) h.kept in
    let mine : (e : Echo) → echo ≡ Some e → e.source ≡ h.kept.host.is.number = λ e is. echo_mine j.me (moment_of line h) (alien_at (moment_of line h) j.aliens) e is ∙ me_judging line h ∙ own in
    let again : plain (echoing echo v) ≡ v = plain_again h.kept.host.is.number echo mine v (call_sends (handed line h) h.kept (fault_none line h own taken) v c) in (
      echoing echo v,
      subst (λ (vs : List Datagram). Contains vs (echoing echo v)) (sym (sends_as_kept line h)) (Contains-map (echoing echo) said (echoing echo v) (c.0, v, c.1, c.2, refl)),
      sym (plain_twice (echoing echo v)) ∙ ap plain again,
    )

sent : (call : JudgedCall) (h : Judged) (v : Datagram) → IsSteady call → IsOwn h → IsTaken call h → Contains (kept.sends (one call h) h.kept) v → HasSame (sent_by call h) v
sent (Starts start given) h v is own taken c = absurd is
sent (Takes line) h v is own taken c =
    line_sent line h own taken v (subst (λ (vs : List Datagram). Contains vs v) (kept_sends (plain_line (handed line h)) h.kept ∙ plain_sent (handed line h) h.kept) c)
sent (Tunes constants) h v is own taken c = absurd (Contains-none v c)

in_time : IsMapInTime {up = judged} {low = kept} judged_map judged_clock kept_clock
in_time = record {
  one = one;
  is_one = is_one;
  steady = steady;
  moment = moment;
  hears = hears;
  heard = heard;
  sent = sent;
  due = λ h. refl;
}

pub judged_keep_time : JudgedKeepTime
judged_keep_time numbers terms trace keeps =
    (below judged judged_map numbers trace, keeps_time_below judged_is_map in_time numbers terms trace keeps, member_below judged_is_map numbers trace)
