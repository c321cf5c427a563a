-- Two members come to know each other by their reports.
use Rattle.std.proofs.Common.{◌≡◌, ◌∙◌, ◌≤◌, ◌+◌, ℕ, Bool, true, cond, List, [], ◌∷◌, ◌++◌, ap, arith, refl, subst, sym, true≢false}
use Rattle.std.specs.Prelude.{◌-◌, Contains, Option, None, Some, is_some, nat_eq, nat_le}
use Rattle.std.specs.List.{list_any}
use Rattle.std.proofs.lemmas.Bool.{and_from, eq-eqb, le-leb}
use Rattle.std.proofs.lemmas.Cmp.{nat_eq_equiv}
use Rattle.std.proofs.lemmas.Map.Views.{list_any-from_Contains}
use Rattle.std.proofs.lemmas.Option.{same_Some}
use Rattle.wb_names.specs.declared.echo.Echo.{Echo}
use Rattle.wb_codec.specs.declared.datagram.Datagram.{Datagram}
use Rattle.wb_codec.specs.declared.datagram.Datagram.TheVariants.{Session}
use Rattle.wb_keeper.specs.declared.keeper.Heard.{Heard}
use Rattle.wb_judge.specs.Answers.{answers, by_their_clock}
use Rattle.wb_judge.specs.Judge.{Judge}
use Rattle.wb_judge.specs.Laws.{is_answer}
use Rattle.wb_judge.specs.Reports.{echo_to}
use Rattle.wb_judge.specs.declared.limits.TheConstants.{FRESH}
use Rattle.wb_judging.specs.Judged.{Judged}
use Rattle.wb_judging.specs.declared.call.Call.{Call}
use Rattle.wb_judging.specs.declared.call.Call.TheVariants.{CameFrom}
use Rattle.wb_judging.specs.Laws.{sends_in}
use Rattle.wb_judging.specs.Performing.{after_judged, events_of}
use Rattle.wb_judged_sessions.specs.Answering.{IsInTime, TheyComeToKnow, last_taken}
use Rattle.wb_judged_sessions.specs.Knowing.{IsKnownSince}
use Rattle.wb_judged_sessions.specs.Calls.{after_call, JudgedCall, Takes}
use Rattle.wb_judged_sessions.specs.Sessions.{At, judged_at}
use Rattle.wb_judged_sessions.specs.Terms.{AreTaken}
use Rattle.wb_judged_sessions.proofs.Answering.{answers_are_handed_in, answers_make_known}
use Rattle.wb_judged_sessions.proofs.Echoed.{last_taken_is_echoed}
use Rattle.wb_judged_sessions.proofs.Records.{number_at}
use Rattle.wb_judged_sessions.proofs.Terms.{own_at}

-- ---- an echo that comes in time

pub answers_in_time : (heard : Heard) (moment now : ℕ) (j : Judge) (e : Echo) → IsInTime heard moment now j → e.sent ≡ heard.sent → e.held ≡ moment - heard.at → answers j.own (Some e) now ≡ true
unfolding answers
answers_in_time heard moment now j e t sent held =
    and_from (list_any (nat_eq e.sent) j.own) _ (ap (λ (n : ℕ). list_any (nat_eq n) j.own) sent ∙ list_any-from_Contains nat_eq_equiv heard.sent j.own t.own)
    (and_from (nat_le (now - e.sent) FRESH) _ (le-leb (now - e.sent) FRESH (fresh sent t.fresh)) (le-leb e.held _ (shorter sent held t.clocks))) where
      fresh : e.sent ≡ heard.sent → now ≤ heard.sent + FRESH → now - e.sent ≤ FRESH
      fresh same le = omega (arith, same, le)

      shorter : e.sent ≡ heard.sent → e.held ≡ moment - heard.at → moment - heard.at ≤ by_their_clock (now - heard.sent) → e.held ≤ by_their_clock (now - e.sent)
      shorter same is le = subst (λ (n : ℕ). n ≤ by_their_clock (now - e.sent)) (sym is) (subst (λ (n : ℕ). moment - heard.at ≤ by_their_clock (now - n)) (sym same) le)

-- ---- a call

pub taken_part : (numbers : ℕ → ℕ) (calls later older : List (At JudgedCall)) → calls ≡ later ++ older → AreTaken numbers calls → AreTaken numbers older
taken_part numbers calls later older split taken = part later (subst (AreTaken numbers) split taken) where
  part : (later : List (At JudgedCall)) → AreTaken numbers (later ++ older) → AreTaken numbers older
  part [] taken = taken
  part (e ∷ later) taken = part later taken.1

pub after_it : (numbers : ℕ → ℕ) (calls : List (At JudgedCall)) (e : At JudgedCall) (line : Call) → e.event ≡ Takes line → judged_at numbers (e ∷ calls) e.place ≡ after_judged line (judged_at numbers calls e.place)
after_it numbers calls e line takes =
    let h = judged_at numbers calls e.place in
    ap (λ (b : Bool). cond b (after_call e.event h) h) (eq-eqb e.place e.place refl) ∙ ap (λ (call : JudgedCall). after_call call h) takes

pub me_at : (numbers : ℕ → ℕ) (calls : List (At JudgedCall)) (place : ℕ) → (judged_at numbers calls place).judge.me ≡ numbers place
me_at numbers calls place = own_at numbers calls place ∙ number_at numbers calls place

-- ---- the reports

pub they_come_to_know : TheyComeToKnow
they_come_to_know numbers calls e other now moment o page marks echoes heard taken apart sent echoed call in_time room fit =
    subst (λ (k : Judged). IsKnownSince o (numbers other) now k.judge) (sym (after_it numbers calls e (CameFrom now o v) call))
    (answers_make_known now o (numbers other) v h refl answer (answers_are_handed_in now o (numbers other) v h refl answer (λ same. apart (same ∙ me_at numbers calls e.place)) room fit)) where
      me : ℕ
      me = numbers e.place

      v : Datagram
      v = Session (numbers other) moment page marks echoes

      h : Judged
      h = judged_at numbers calls e.place

      echoes_it : (x : Option Echo) → echo_to me echoes ≡ x → is_some x ≡ true → answers h.judge.own x now ≡ true
      echoes_it None found some = absurd (true≢false (sym some))
      echoes_it (Some x) found some =
          let there : numbers sent.call.place ≡ numbers other = ap numbers sent.here in
          let last = last_taken_is_echoed numbers sent.earlier sent.call sent.line me (numbers other) moment page marks echoes x
          (taken_part numbers calls sent.later (sent.call ∷ sent.earlier) sent.split taken) sent.takes (λ same. apart (sym there ∙ sym same))
          (subst (λ (p : ℕ). Contains (sends_in (events_of sent.line (judged_at numbers sent.earlier p))) v) (sym sent.here) sent.sends) found in
          let is : last.0 ≡ heard = same_Some last.0 heard (sym last.1 ∙ ap (λ (p : ℕ). last_taken numbers me p (sent.call ∷ sent.earlier)) sent.here ∙ sent.after) in
          answers_in_time heard moment now h.judge x in_time (last.2 ∙ ap (λ (g : Heard). g.sent) is) (last.3 ∙ ap (λ (g : Heard). moment - g.at) is)

      answer : is_answer v now h.judge ≡ true
      answer = ap (λ (n : ℕ). answers h.judge.own (echo_to n echoes) now) (me_at numbers calls e.place) ∙ echoes_it (echo_to me echoes) refl echoed
