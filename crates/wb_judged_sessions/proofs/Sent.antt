-- What a judged member sends is what the self-managing one sends, but for an echo of its own.
use Rattle.std.proofs.Common.{◌≡◌, ℕ, Bool, true, false, cond, List, [], ◌∷◌, ◌∙◌, Some, None, ap, map, refl, subst, sym, ⊎_elim}
use Rattle.std.specs.Prelude.{◌-◌, Contains, Option, nat_le}
use Rattle.std.proofs.lemmas.List.Elements.{Contains-append_cases, Contains-append_left, Contains-append_right}
use Rattle.std.proofs.lemmas.Option.{none-some, same_Some}
use Rattle.wb_names.specs.declared.echo.Echo.{Echo}
use Rattle.wb_names.proofs.Listings.{Any-from_map, Contains-none}
use Rattle.wb_codec.specs.declared.datagram.Datagram.{Datagram}
use Rattle.wb_judge.specs.Aliens.{alien_at}
use Rattle.wb_judge.specs.Adding.{echo_of, own_echo}
use Rattle.wb_judge.specs.Judge.{Judge}
use Rattle.wb_judge.specs.declared.aliens.Alien.{Alien}
use Rattle.wb_judge.specs.declared.limits.TheConstants.{FRESH}
use Rattle.wb_member.specs.Opened.{Opened}
use Rattle.wb_keeping.specs.Laws.{KeptLine, doing_of, sent_by_kept}
use Rattle.wb_keeping.specs.Performing.{Keeping, after_doing, sees, sent_by_doing}
use Rattle.wb_judging.specs.Echoing.{echoing}
use Rattle.wb_judging.specs.Handing.{handed}
use Rattle.wb_judging.specs.Judged.{Judged, moment_of}
use Rattle.wb_judging.specs.declared.call.Call.{Call}
use Rattle.wb_judging.specs.declared.call.Call.TheVariants.{Held}
use Rattle.wb_judging.specs.Laws.{expanded, sends_in}
use Rattle.wb_judging.specs.Performing.{after_judged, after_kept_line, events_of, judging, sent_by_kept_line}
use Rattle.wb_judging.specs.declared.record.RecordLine.{RecordLine}
use Rattle.wb_judging.proofs.AsKept.{sends_as_kept as line_sends_as_kept}
use Rattle.wb_judging.proofs.Numbers.{me_judging, own_stays}
use Rattle.wb_laws_kept.specs.Sessions.{At, kept_at, steps_of}
use Rattle.wb_laws_kept.proofs.Agreeing.{steps_behind}
use Rattle.wb_laws_kept.proofs.Steps.{kept_is_session}
use Rattle.wb_laws_sessions.specs.Sessions.{sent as sent_by_steps, sent_by_deeds}
use Rattle.wb_laws_sessions.specs.Members.{Does, member}
use Rattle.wb_laws_sessions.proofs.Several.{sent_performed, sent_then}
use Rattle.wb_judged_sessions.specs.Laws.{SendsAsKept}
use Rattle.wb_judged_sessions.specs.Calls.{AreLinesTaken, IsLineTaken, IsTaken, JudgedCall, plain_line, sent_by, sent_by_lines, started, Starts, Takes, Tunes}
use Rattle.wb_judged_sessions.specs.Sessions.{judged_at, kept_calls, kept_then, lines_then, sent}
use Rattle.wb_laws_machines.specs.Maps.{plain}
use Rattle.wb_judged_sessions.specs.Terms.{AreTaken}
use Rattle.wb_judged_sessions.proofs.Echoes.{call_sends, plain_again}
use Rattle.wb_judged_sessions.proofs.Kept.{at, call_behind, judged_is_kept, lines_behind}
use Rattle.wb_judged_sessions.proofs.Plain.{plain_sent}
use Rattle.wb_judged_sessions.proofs.Terms.{IsOwn, begins, fault_none, here, own_at, started_is}
use Rattle.wb_laws_kept.specs.Calls.{Call as KeptCall}
use Rattle.wb_laws_machines.proofs.Traces.{sent_later}
use Rattle.wb_laws_machines.specs.Machines.{◌⊑◌}

-- ---- one line

pub echo_mine : (me now : ℕ) (alien : Option Alien) (e : Echo) → echo_of me now alien ≡ Some e → e.source ≡ me
echo_mine me now None e is = absurd (none-some e is)
echo_mine me now (Some alien) e is = by (nat_le (now - alien.at) FRESH) is where
  echo : Echo
  echo = record { source = me; sent = alien.sent; held = now - alien.at }

  by : (b : Bool) → cond b (Some echo) None ≡ Some e → e.source ≡ me
  by true is = ap (λ (f : Echo). f.source) (sym (same_Some echo e is))
  by false is = absurd (none-some e is)

pub line_sends : (line : Call) (h : Judged) → IsOwn h → IsLineTaken line h → (v : Datagram) → Contains (sends_in (events_of line h)) v
    → Contains (sent_by_doing (doing_of (handed line h)) h.kept) (plain v)
unfolding sent_by_kept_line
line_sends line h own taken v c =
    let j : Judge = judging line h in
    let echo = own_echo (moment_of line h) j in
    let said = sent_by_doing (doing_of (handed line h)) h.kept in
    let r = Any-from_map (echoing echo) said v (subst (λ (vs : List Datagram). Contains vs v) (line_sends_as_kept line h) c) in
    let among : Contains said r.1 = (r.0, r.2, r.3) in
    let mine : (e : Echo) → echo ≡ Some e → e.source ≡ h.kept.host.is.number = λ e is. echo_mine j.me (moment_of line h) (alien_at (moment_of line h) j.aliens) e is ∙ me_judging line h ∙ own in
    let same : plain v ≡ r.1 = ap plain (sym r.4) ∙ plain_again h.kept.host.is.number echo mine r.1 (call_sends (handed line h) h.kept (fault_none line h own taken) r.1 among) in
    subst (λ (w : Datagram). Contains said w) (sym same) among

-- ---- many lines

record_sends : (given : List RecordLine) (h : Judged) → IsOwn h → AreLinesTaken (map Held given) h → (v : Datagram) → Contains (sent_by_lines (map Held given) h) v
    → Contains (sent_by_kept (expanded (map Held given) h) h.kept) (plain v)
unfolding after_kept_line
record_sends [] h own taken v c = absurd (Contains-none v c)
record_sends (line ∷ given) h own taken v c =
    let next = after_judged (Held line) h in
    let one = sent_by_doing (doing_of (handed (Held line) h)) h.kept in
    let rest = sent_by_kept (expanded (map Held given) next) next.kept in
    ⊎_elim
    (λ (now : Contains (sends_in (events_of (Held line) h)) v). Contains-append_left one rest (plain v) (line_sends (Held line) h own taken.0 v now))
    (λ (later : Contains (sent_by_lines (map Held given) next) v). Contains-append_right one rest (plain v) (record_sends given next (own_stays (Held line) h own) taken.1 v later))
    (Contains-append_cases (sends_in (events_of (Held line) h)) (sent_by_lines (map Held given) next) v c)

-- ---- calls

module _ (numbers : ℕ → ℕ) where
  abbrev Sent : List (At KeptCall) → Datagram → Type 0
  Sent calls v = Contains (sent_by_steps numbers (steps_of numbers calls)) v

  sent_behind : {older calls : List (At KeptCall)} (v : Datagram) → older ⊑ calls → Sent older v → Sent calls v
  sent_behind v behind c = sent_later member numbers v (steps_behind numbers behind) c

  module _ (time place : ℕ) where
    sent_at_once : (line : KeptLine) (older : List (At KeptCall)) (v : Datagram) → Contains (sent_by_doing (doing_of line) (kept_at numbers older place)) v → Sent (at time place line ∷ older) v
    sent_at_once line older v c =
        let k = kept_at numbers older place in
        let lines = (doing_of line (sees k.host) k.policy).lines in
        sent_then numbers time place (map Does lines) (steps_of numbers older) v
        (subst (λ (host : Opened). Contains (sent_by_deeds (map Does lines) host) v) (sym (kept_is_session numbers older place))
        (subst (λ (vs : List Datagram). Contains vs v) (sym (sent_performed lines k.host)) c))

    lines_sent : (lines : List KeptLine) (older : List (At KeptCall)) (v : Datagram) → Contains (sent_by_kept lines (kept_at numbers older place)) v → Sent (lines_then time place lines older) v
    lines_sent [] older v c = absurd (Contains-none v c)
    lines_sent (line ∷ lines) older v c =
        let k = kept_at numbers older place in
        let one = sent_by_doing (doing_of line) k in
        let first = at time place line ∷ older in
        ⊎_elim
        (λ (now : Contains one v). sent_behind v (lines_behind time place lines first) (sent_at_once line older v now))
        (λ (later : Contains (sent_by_kept lines (after_doing (doing_of line) k)) v).
        lines_sent lines first v (subst (λ (k : Keeping). Contains (sent_by_kept lines k) v) (sym (here numbers time place line older)) later))
        (Contains-append_cases one (sent_by_kept lines (after_doing (doing_of line) k)) v c)

    call_sent : (call : JudgedCall) (h : Judged) (older : List (At KeptCall)) → h.kept ≡ kept_at numbers older place → IsOwn h → IsTaken call h → (v : Datagram) → Contains (sent_by call h) v
        → Sent (kept_then time place call h older) (plain v)
    call_sent (Starts start given) h older same own taken v c =
        let first = started h.kept.host.is.number start in
        let lines = expanded (map Held given) first in
        lines_sent lines (begins numbers time place start ∷ older) (plain v)
        (subst (λ (k : Keeping). Contains (sent_by_kept lines k) (plain v)) (started_is numbers time place h older start same) (record_sends given first refl taken.1 v c))
    call_sent (Takes line) h older same own taken v c =
        sent_at_once (plain_line (handed line h)) older (plain v)
        (subst (λ (vs : List Datagram). Contains vs (plain v)) (sym (plain_sent (handed line h) (kept_at numbers older place)))
        (subst (λ (k : Keeping). Contains (sent_by_doing (doing_of (handed line h)) k) (plain v)) same (line_sends line h own taken v c)))
    call_sent (Tunes constants) h older same own taken v c = absurd (Contains-none v c)

  all_sent : (calls : List (At JudgedCall)) → AreTaken numbers calls → (v : Datagram) → Contains (sent numbers calls) v → Sent (kept_calls numbers calls) (plain v)
  all_sent [] taken v c = absurd (Contains-none v c)
  all_sent (e ∷ older) taken v c =
      let h = judged_at numbers older e.place in
      ⊎_elim
      (λ (now : Contains (sent_by e.event h) v). call_sent e.time e.place e.event h (kept_calls numbers older) (judged_is_kept numbers older e.place) (own_at numbers older e.place) taken.0 v now)
      (λ (before : Contains (sent numbers older) v). sent_behind (plain v) (call_behind e.time e.place e.event h (kept_calls numbers older)) (all_sent older taken.1 v before))
      (Contains-append_cases (sent_by e.event h) (sent numbers older) v c)

pub sends_as_kept : SendsAsKept
sends_as_kept numbers calls v taken c = all_sent numbers calls taken v c
