-- The clock of a member is not ahead of its newest call, and its next report is due within 96 seconds.
use Rattle.std.proofs.Common.{◌≡◌, ◌≤◌, ◌+◌, ◌∙◌, ℕ, Bool, true, false, cond, List, [], ◌∷◌, None, arith, eqb-true, map, refl, subst, ⊎_elim}
use Rattle.std.specs.Prelude.{Option, Some, nat_eq}
use Rattle.wb_codec.specs.declared.datagram.Datagram.{Datagram}
use Rattle.wb_judge.specs.declared.verdict.Why.{Why}
use Rattle.wb_policy.specs.Words.{started as started_words, word_of}
use Rattle.wb_progress.specs.Turns.{IsNowAt, Terms}
use Rattle.wb_member.specs.Opened.{present}
use Rattle.wb_keeping.specs.Laws.{doing_of}
use Rattle.wb_keeping.specs.Performing.{after_doing}
use Rattle.wb_judging.specs.Handing.{handed, handed_for, verdict_on}
use Rattle.wb_judging.specs.Judged.{Judged, moment_of}
use Rattle.wb_judging.specs.declared.call.Call.{Call}
use Rattle.wb_judging.specs.declared.call.Call.TheVariants.{CameFrom, Held, Passed, UserDrew}
use Rattle.wb_judging.specs.Laws.{after_all}
use Rattle.wb_judging.specs.Performing.{after_judged, after_kept_line}
use Rattle.wb_judging.specs.declared.record.RecordLine.{RecordLine}
use Rattle.wb_laws_kept.specs.Openings.{opened_host}
use Rattle.wb_kept_progress.proofs.Moments.{moment_of as kept_moment, told_itself}
use Rattle.wb_kept_progress.proofs.StillCalls.{IsTuning, call_now}
use Rattle.wb_judged_sessions.specs.Calls.{after_call, AreLinesTaken, IsLineTaken, IsTaken, JudgedCall, started, Starts, Takes, Tunes}
use Rattle.wb_judged_sessions.specs.Sessions.{At, judged_at}
use Rattle.wb_judged_sessions.specs.Terms.{AreTaken}
use Rattle.wb_judged_sessions.specs.Timely.{AreFittingSince, IsFittingSince}
use Rattle.wb_judged_sessions.proofs.Records.{number_at}
use Rattle.wb_judged_sessions.proofs.Reporting.{IsDueSoon, due_soon, first_soon}
use Rattle.wb_judged_sessions.proofs.Terms.{IsOwn, fault_none, own_at}
use Rattle.wb_judged_sessions.proofs.Timely.{present_recalled, recalled_now}
use Rattle.wb_kept_progress.specs.Timed.{AreInOrder, time_of}

-- ---- one line

came_moment : (now : ℕ) (v : Datagram) (why : Option Why) → kept_moment (handed_for now v why) ≡ now
came_moment now v None = refl
came_moment now v (Some why) = refl

-- what is handed in says the moment of the line
handed_moment : (line : Call) (h : Judged) → kept_moment (handed line h) ≡ moment_of line h
handed_moment (CameFrom now o v) h = came_moment now v (verdict_on now o v h).why
handed_moment (Passed now news) h = refl
handed_moment (UserDrew now page op) h = refl
handed_moment (Held line) h = recalled_now line (present h.kept.host)

line_present : (line : Call) (h : Judged) (lag time : ℕ) → moment_of line h + lag ≤ time → present h.kept.host + lag ≤ time → present (after_judged line h).kept.host + lag ≤ time
unfolding after_kept_line
line_present line h lag time said before =
    let call = handed line h in
    ⊎_elim
    (λ (t : IsTuning (doing_of call) h.kept). let now = t.now_is in omega (arith, now, before))
    (λ (now : present (after_doing (doing_of call) h.kept).host ≡ kept_moment call). let is = handed_moment line h in omega (arith, now, is, said))
    (call_now call h.kept (kept_moment call) (told_itself call))

line_due : (line : Call) (h : Judged) → IsOwn h → IsLineTaken line h → IsDueSoon h.kept → IsDueSoon (after_judged line h).kept
unfolding after_kept_line
line_due line h own taken soon = due_soon (handed line h) h.kept (fault_none line h own taken) soon

-- ---- a start

record_present : (given : List RecordLine) (h : Judged) → present (after_all (map Held given) h).kept.host ≡ present h.kept.host
record_present [] h = refl
record_present (line ∷ given) h = record_present given (after_judged (Held line) h) ∙ present_recalled line h

record_due : (given : List RecordLine) (h : Judged) → AreLinesTaken (map Held given) h → IsDueSoon h.kept → IsDueSoon (after_all (map Held given) h).kept
unfolding after_kept_line
record_due [] h taken soon = soon
record_due (line ∷ given) h taken soon = record_due given (after_judged (Held line) h) taken.1 (due_soon (handed (Held line) h) h.kept taken.0 soon)

-- ---- calls

module _ (numbers : ℕ → ℕ) (terms : Terms) where
  pub present_at : (calls : List (At JudgedCall)) (i : ℕ) → AreFittingSince terms numbers i calls → AreInOrder calls → present (judged_at numbers calls i).kept.host + terms.lag i ≤ time_of calls
  present_at [] i fitting order = absurd fitting
  present_at (e ∷ older) i fitting order = by (λ fits. let le = present_at older i fits order.1 in let o = order.0 in omega (arith, le, o)) (nat_eq e.place i) refl e.event fitting where
    h : Judged
    h = judged_at numbers older i

    by : (AreFittingSince terms numbers i older → present h.kept.host + terms.lag i ≤ e.time) → (b : Bool) → nat_eq e.place i ≡ b → (call : JudgedCall) → IsFittingSince terms (numbers i) i b e.time call (judged_at numbers older e.place) (AreFittingSince terms numbers i older)
        → present (let after : Judged = cond b (after_call call h) h in after.kept.host) + terms.lag i ≤ e.time
    by before false other call fits = before fits
    by before true here (Starts start given) fits =
        let ahead = fits.1.not_ahead in
        let same = record_present given (started h.kept.host.is.number start) in
        let number = number_at numbers older i in
        let first : present (started h.kept.host.is.number start).kept.host ≡ present (opened_host (numbers i) start.opening) = subst (λ (n : ℕ). present (started h.kept.host.is.number start).kept.host ≡ present (opened_host n start.opening)) number refl in
        omega (arith, ahead, same, first)
    by before true here (Takes line) fits =
        let there : IsNowAt terms e.time i (moment_of line h) = subst (λ (p : ℕ). IsNowAt terms e.time i (moment_of line (judged_at numbers older p))) (eqb-true e.place i here) fits.0 in
        line_present line h (terms.lag i) e.time there.not_ahead (before fits.1)
    by before true here (Tunes constants) fits = before fits.1

  pub due_at : (calls : List (At JudgedCall)) (i : ℕ) → AreFittingSince terms numbers i calls → AreTaken numbers calls → IsDueSoon (judged_at numbers calls i).kept
  due_at [] i fitting taken = absurd fitting
  due_at (e ∷ older) i fitting taken = by (λ fits. due_at older i fits taken.1) (nat_eq e.place i) refl e.event fitting taken.0 where
    h : Judged
    h = judged_at numbers older i

    by : (AreFittingSince terms numbers i older → IsDueSoon h.kept) → (b : Bool) → nat_eq e.place i ≡ b → (call : JudgedCall) → IsFittingSince terms (numbers i) i b e.time call (judged_at numbers older e.place) (AreFittingSince terms numbers i older)
        → IsTaken call (judged_at numbers older e.place) → IsDueSoon (let after : Judged = cond b (after_call call h) h in after.kept)
    by before false other call fits now = before fits
    by before true here (Starts start given) fits now =
        let lines : IsTaken (Starts start given) h = subst (λ (p : ℕ). IsTaken (Starts start given) (judged_at numbers older p)) (eqb-true e.place i here) now in
        let first = started h.kept.host.is.number start in
        record_due given first lines.1 (first_soon (present first.kept.host) (word_of (started_words start.opening.seed)))
    by before true here (Takes line) fits now =
        line_due line h (own_at numbers older i) (subst (λ (p : ℕ). IsLineTaken line (judged_at numbers older p)) (eqb-true e.place i here) now) (before fits.1)
    by before true here (Tunes constants) fits now = before fits.1
