-- What a judged member does for a line, by what each of its parts does.
use Rattle.std.proofs.Common.{◌≡◌, ◌∙◌, ℕ, List, ◌++◌, Option, ap, append_assoc, drop, length, subst, sym}
use Rattle.wb_codec.specs.declared.datagram.Datagram.{Datagram}
use Rattle.wb_judge.specs.Adding.{own_echo}
use Rattle.wb_judge.specs.Judge.{Judge}
use Rattle.wb_keeping.specs.Laws.{KeptLine}
use Rattle.wb_keeping.specs.Performing.{IsKeptAt, Keeping, KeptValue}
use Rattle.wb_judging.specs.Events.{gain_events, told}
use Rattle.wb_judging.specs.Handing.{handed}
use Rattle.wb_judging.specs.Hearing.{after_sends}
use Rattle.wb_judging.specs.Judged.{Call, Judged, giver_of, moment_of}
use Rattle.wb_judging.specs.Performing.{Goes, IsJudgedAt, JudgedValue, KeptDoes, after_judged, after_kept_line, events_of, first_events, first_lines, judging, last_events, sent_by_kept_line, told_by}
use Rattle.wb_judging.specs.Recording.{gain_lines}
use Rattle.wb_judging.specs.declared.event.Event.{Event}
use Rattle.wb_judging.specs.declared.event.Fate.{Fate}
use Rattle.wb_judging.specs.declared.record.Giver.{Giver}
use Rattle.wb_judging.specs.declared.record.RecordLine.{RecordLine}
use Rattle.wb_judging.proofs.Numbers.{own_stays}

-- A kept member did a line, and then its events.
pub went : (now : ℕ) (lines : List RecordLine) (giver : Giver) (line : KeptLine) (old mid new : JudgedValue) (held : ℕ) (sent : List Datagram) (fate : Option Fate) (first events : List Event)
    → KeptDoes line old.kept mid.kept held sent fate → mid.judge ≡ old.judge → new.kept ≡ mid.kept → new.judge ≡ after_sends sent mid.judge
    → ((k : Keeping) → IsKeptAt mid.kept k → events ≡ first ++ told
    (gain_events now (lines ++ gain_lines giver mid.judge.strange.given (drop held k.host.is.held)) (drop held k.host.is.held)) (own_echo now mid.judge) sent fate)
    → Goes now lines giver line first old events new
went now lines giver line old mid new held sent fate first events did same kept judge tells k at =
    let d = did k at in
    let after = (after_kept_line line k).host.is.held in
    let says : Judge → ℕ → List Datagram → Option Fate → List Event =
    λ j n ds f. first ++ told (gain_events now (lines ++ gain_lines giver j.strange.given (drop n after)) (drop n after)) (own_echo now j) ds f in (
      tells (after_kept_line line k) d.3
          ∙ ap (λ (j : Judge). says j held sent fate) same
          ∙ ap (λ (n : ℕ). says old.judge n sent fate) d.0
          ∙ ap (λ (ds : List Datagram). says old.judge (length k.host.is.held) ds fate) d.1
          ∙ ap (λ (f : Option Fate). says old.judge (length k.host.is.held) (sent_by_kept_line line k) f) d.2,
      subst (λ (v : KeptValue). IsKeptAt v (after_kept_line line k)) (sym kept) d.3,
      judge ∙ ap (λ (j : Judge). after_sends sent j) same ∙ ap (λ (ds : List Datagram). after_sends ds old.judge) d.1,
    )

-- A line was performed whose judge is known, before its last events.
pub performed : (line : Call) (h : Judged) (old mid new : JudgedValue) (lines : List RecordLine) (first events all : List Event) → IsJudgedAt old h → mid.kept ≡ old.kept → mid.judge ≡ judging line h
    → lines ≡ first_lines line h → first ≡ first_events line h → Goes (moment_of line h) lines (giver_of line) (handed line h) first mid events new → all ≡ events ++ last_events line h
    → (all ≡ events_of line h) × IsJudgedAt new (after_judged line h)
performed line h old mid new lines first events all at kept judge records begins goes ends =
    let g = goes h.kept (subst (λ (v : KeptValue). IsKeptAt v h.kept) (sym kept) at.kept) in
    let tells : List RecordLine → Judge → List Event = λ ls j. told_by (moment_of line h) ls (giver_of line) (handed line h) h.kept j in
    let middle = tells (first_lines line h) (judging line h) in (
      ends
          ∙ ap (λ (es : List Event). es ++ last_events line h)
          (g.0 ∙ ap (λ (es : List Event). es ++ tells lines mid.judge) begins ∙ ap (λ (j : Judge). first_events line h ++ tells lines j) judge ∙ ap (λ (ls : List RecordLine). first_events line h ++ tells ls (judging line h)) records)
          ∙ append_assoc (first_events line h) middle (last_events line h),
      record {
        kept = g.1;
        judge = g.2 ∙ ap (λ (j : Judge). after_sends (sent_by_kept_line (handed line h) h.kept) j) judge;
        own = own_stays line h at.own;
      },
    )
