-- A judged member is a kept member, and sends what that sends.
use Rattle.std.proofs.Common.{◌≡◌, ◌⊎◌, ◌∙◌, ℕ, List, [], ◌∷◌, ◌++◌, None, ap, append-nil, inl, inr, map, refl, suc}
use Rattle.std.specs.Prelude.{Option, Some}
use Rattle.wb_names.specs.Values.{DrawopValue}
use Rattle.wb_names.specs.declared.echo.Echo.{Echo}
use Rattle.wb_codec.specs.declared.datagram.Datagram.{Datagram}
use Rattle.wb_judge.specs.Adding.{own_echo}
use Rattle.wb_judge.specs.declared.origin.Origin.{Origin}
use Rattle.wb_judge.specs.declared.verdict.Warning.{Warning}
use Rattle.wb_judge.specs.declared.verdict.Why.{Why}
use Rattle.wb_keeping.specs.Laws.{Came, Ticked}
use Rattle.wb_judging.specs.Echoing.{echoing}
use Rattle.wb_judging.specs.Events.{became_events, drew_event, dropped_events, fetch_events, gain_events, record_events, send_event, told, warn_events}
use Rattle.wb_judging.specs.Handing.{facts_of, handed, handed_for, verdict_on}
use Rattle.wb_judging.specs.Judged.{Call, CameFrom, Held, Judged, Passed, UserDrew, moment_of}
use Rattle.wb_judging.specs.Laws.{JudgedMembersAreKept, SendsAsKept, TheSameOrATick, sends_in}
use Rattle.wb_judging.specs.Performing.{after_judged, after_kept_line, fate_by, first_events, gained, judging, last_events, lines_of, sent_by_kept_line}
use Rattle.wb_judging.specs.declared.event.Event.{Event}
use Rattle.wb_judging.specs.declared.event.Event.TheVariants.{Became, Dropped, Drew, Fetch, NoDatagram, Record, Send, Warn}
use Rattle.wb_judging.specs.declared.event.Fate.{Fate}
use Rattle.wb_judging.specs.declared.record.RecordLine.{RecordLine}
use Rattle.wb_judging.proofs.NewsTold.{news_aside}

pub judged_members_are_kept : JudgedMembersAreKept
unfolding after_kept_line
judged_members_are_kept [] h = (refl, refl)
judged_members_are_kept (line ∷ lines) h = let rest = judged_members_are_kept lines (after_judged line h) in (rest.0, ap (λ (n : ℕ). suc n) rest.1)

one_of : (now : ℕ) (v : Datagram) (why : Option Why) → (handed_for now v why ≡ Came now v) ⊎ (handed_for now v why ≡ Ticked now)
one_of now v None = inl refl
one_of now v (Some why) = inr refl

pub the_same_or_a_tick : TheSameOrATick
the_same_or_a_tick now o v h = one_of now v (verdict_on now o v h).why

-- ---- what is sent

sends_both : (one other : List Event) → sends_in (one ++ other) ≡ sends_in one ++ sends_in other
sends_both [] other = refl
sends_both (Send v ∷ one) other = ap (λ (vs : List Datagram). v ∷ vs) (sends_both one other)
sends_both (NoDatagram ∷ one) other = sends_both one other
sends_both (Dropped why ∷ one) other = sends_both one other
sends_both (Record line ∷ one) other = sends_both one other
sends_both (Drew name ∷ one) other = sends_both one other
sends_both (Became fate ∷ one) other = sends_both one other
sends_both (Fetch o lacking ∷ one) other = sends_both one other
sends_both (Warn warning ∷ one) other = sends_both one other

sends_drew : (gained : List DrawopValue) → sends_in (map drew_event gained) ≡ []
sends_drew [] = refl
sends_drew (d ∷ gained) = sends_drew gained

sends_sent : (echo : Option Echo) (sent : List Datagram) → sends_in (map (send_event echo) sent) ≡ map (echoing echo) sent
sends_sent echo [] = refl
sends_sent echo (v ∷ sent) = ap (λ (vs : List Datagram). echoing echo v ∷ vs) (sends_sent echo sent)

sends_became : (fate : Option Fate) → sends_in (became_events fate) ≡ []
sends_became None = refl
sends_became (Some fate) = refl

sends_dropped : (why : Option Why) → sends_in (dropped_events why) ≡ []
sends_dropped None = refl
sends_dropped (Some why) = refl

sends_advice : (fetch : Option Origin) (warning : Option Warning) (lacking : ℕ) → sends_in (fetch_events fetch lacking ++ warn_events warning) ≡ []
sends_advice None None lacking = refl
sends_advice None (Some warning) lacking = refl
sends_advice (Some o) None lacking = refl
sends_advice (Some o) (Some warning) lacking = refl

sends_records : (lines : List RecordLine) → sends_in (map Record lines) ≡ []
sends_records [] = refl
sends_records (line ∷ lines) = sends_records lines

sends_recorded : (now : ℕ) (lines : List RecordLine) → sends_in (record_events now lines) ≡ []
sends_recorded now [] = refl
sends_recorded now (line ∷ lines) = sends_records (line ∷ lines)

sends_gain : (now : ℕ) (lines : List RecordLine) (gained : List DrawopValue) → sends_in (gain_events now lines gained) ≡ []
sends_gain now lines gained =
    sends_both (record_events now lines) (map drew_event gained)
    ∙ ap (λ (vs : List Datagram). vs ++ sends_in (map drew_event gained)) (sends_recorded now lines)
    ∙ sends_drew gained

sends_told : (gain : List Event) (echo : Option Echo) (sent : List Datagram) (fate : Option Fate) → sends_in gain ≡ [] → sends_in (told gain echo sent fate) ≡ map (echoing echo) sent
sends_told gain echo sent fate none =
    sends_both gain (map (send_event echo) sent ++ became_events fate)
    ∙ ap (λ (vs : List Datagram). vs ++ sends_in (map (send_event echo) sent ++ became_events fate)) none
    ∙ sends_both (map (send_event echo) sent) (became_events fate)
    ∙ ap (λ (vs : List Datagram). sends_in (map (send_event echo) sent) ++ vs) (sends_became fate)
    ∙ append-nil (sends_in (map (send_event echo) sent))
    ∙ sends_sent echo sent

sends_first : (line : Call) (h : Judged) → sends_in (first_events line h) ≡ []
sends_first (CameFrom now o v) h = sends_dropped (verdict_on now o v h).why
sends_first (Passed now news) h = (news_aside news).sends
sends_first (UserDrew now page op) h = refl
sends_first (Held line) h = refl

sends_last : (line : Call) (h : Judged) → sends_in (last_events line h) ≡ []
sends_last (CameFrom now o v) h = let verdict = verdict_on now o v h in sends_advice verdict.fetch verdict.warning (facts_of now v h.kept).lacking
sends_last (Passed now news) h = refl
sends_last (UserDrew now page op) h = refl
sends_last (Held line) h = refl

pub sends_as_kept : SendsAsKept
sends_as_kept line h =
    let kept = handed line h in
    let j = judging line h in
    let now = moment_of line h in
    let echo = own_echo now j in
    let gain = gain_events now (lines_of line h) (gained kept h.kept) in
    let middle = told gain echo (sent_by_kept_line kept h.kept) (fate_by kept h.kept) in
    sends_both (first_events line h) (middle ++ last_events line h)
    ∙ ap (λ (vs : List Datagram). vs ++ sends_in (middle ++ last_events line h)) (sends_first line h)
    ∙ sends_both middle (last_events line h)
    ∙ ap (λ (vs : List Datagram). sends_in middle ++ vs) (sends_last line h)
    ∙ append-nil (sends_in middle)
    ∙ sends_told gain echo (sent_by_kept_line kept h.kept) (fate_by kept h.kept) (sends_gain now (lines_of line h) (gained kept h.kept))
