-- The example computes.
use Rattle.std.proofs.Common.{◌≡◌, ◌∙◌, ◌<◌, ◌≤◌, List, [], ◌∷◌, ap, arith, inl, inr, refl, subst, sym}
use Rattle.std.specs.Prelude.{Contains}
use Rattle.wb_names.specs.Values.{DrawopValue}
use Rattle.wb_names.specs.declared.name.PageId.{PageId}
use Rattle.wb_names.proofs.Listings.{Contains-none}
use Rattle.wb_gaps.specs.Answers.{gaps_of, pages_of, report_of}
use Rattle.wb_judge.specs.Firm.{is_firm_beside}
use Rattle.wb_judge.specs.Judging.{drawop_verdict, is_ahead, is_forged_drawop}
use Rattle.wb_judge.specs.Known.{is_known}
use Rattle.wb_judge.specs.Others.{is_bound_elsewhere}
use Rattle.wb_judge.specs.Strange.{is_over, is_wide, with_given, without_name}
use Rattle.wb_judge.specs.Told.{leaves_holes}
use Rattle.wb_member.specs.Random.{after_word, started as random_started, word_of}
use Rattle.wb_policy.specs.Choices.{near_names}
use Rattle.wb_policy.specs.Words as words
use Rattle.wb_judging.specs.Handing.{judge_after, verdict_on}
use Rattle.wb_judging.specs.Laws.{drawops_of}
use Rattle.wb_judging.specs.Performing.{after_kept_line, sent_by_kept_line}
use Rattle.wb_laws_sessions.proofs.Sending.{one_of}
use Rattle.wb_judged_sessions.specs.Examples.{numbers, page}
use Rattle.wb_judged_sessions.proofs.Meeting.{is_opening}
use Rattle.wb_host_sessions.specs.Examples.{IsMixed, drawing, drawn, file, followed, forged, heard, lied, mixed, started, tuned}
use Rattle.wb_laws_machines.specs.Honest.{AreApart}
use Rattle.wb_host_sessions.specs.Hosts.{HostEvent, hosts}
use Rattle.wb_laws_machines.specs.Machines.{AreTaken, At, WasHeld, member_at, ◌⊑◌, whole, part}
use Rattle.wb_host_sessions.specs.Records.{KeepRecords, file_at}

apart : AreApart numbers
apart i j is = omega (arith, is)

first : 0 < 1
first = omega arith

taken : AreTaken hosts numbers mixed
unfolding random_started word_of after_word words.started report_of gaps_of pages_of near_names after_kept_line sent_by_kept_line
    verdict_on judge_after drawop_verdict is_forged_drawop is_known is_firm_beside is_bound_elsewhere is_ahead is_over is_wide leaves_holes with_given without_name
taken = ((is_opening 3 7, (refl, (refl, tt))), ((is_opening 4 1, (refl, tt)), (refl, (omega arith, (refl, (refl, (tt, ((is_opening 2 1, tt), ((is_opening 3 1, tt), (omega arith, tt))))))))))

held_first : (member_at hosts numbers drawn 0).is.held ≡ drawing ∷ []
held_first = refl

was_held : (trace : List (At HostEvent)) → drawn ⊑ trace → (d : DrawopValue) → Contains (drawing ∷ []) d → WasHeld hosts numbers trace d
was_held trace behind d c = record { older = drawn; behind = behind; place = 0; held = subst (λ (ds : List DrawopValue). Contains ds d) (sym held_first) c }

none_held : (trace : List (At HostEvent)) (d : DrawopValue) → Contains [] d → WasHeld hosts numbers trace d
none_held trace d c = absurd (Contains-none d c)

not_here : (d : DrawopValue) → d.name.page ≡ page → Contains (forged ∷ []) d → ⊥
not_here d here c =
    let is : forged ≡ d = one_of forged d c in
    let e : 2 ≡ 1 = ap (λ (x : DrawopValue). x.name.page.number) is ∙ ap (λ (p : PageId). p.number) here in
    omega (arith, e)

told : file_at numbers followed 2 ≡ file
unfolding random_started word_of after_word words.started report_of gaps_of pages_of near_names after_kept_line sent_by_kept_line
    verdict_on judge_after drawop_verdict is_forged_drawop is_known is_firm_beside is_bound_elsewhere is_ahead is_over is_wide leaves_holes with_given without_name
told = refl

-- what its driver draws at the first place
draws : (d : DrawopValue) → Contains (drawing ∷ []) d → (d.name.source ≡ 10) × (1 ≤ d.name.seq) × ((y : DrawopValue) → Contains [] y → y.name.page ≡ d.name.page → y.name.seq < d.name.seq)
draws d c = subst (λ (x : DrawopValue). (x.name.source ≡ 10) × (1 ≤ x.name.seq) × ((y : DrawopValue) → Contains [] y → y.name.page ≡ x.name.page → y.name.seq < x.name.seq)) (one_of drawing d c)
    (refl, omega arith, λ y cy on. absurd (Contains-none y cy))

records : KeepRecords page numbers mixed
unfolding random_started word_of after_word words.started report_of gaps_of pages_of near_names after_kept_line sent_by_kept_line
    verdict_on judge_after drawop_verdict is_forged_drawop is_known is_firm_beside is_bound_elsewhere is_ahead is_over is_wide leaves_holes with_given without_name
records = (
  record { comes = λ d here c. was_held followed (part (part (part (part (part whole))))) d c; starts = inl (ap drawops_of (sym told), refl) },
  (
    record { comes = λ d here c. was_held tuned (part (part (part (part whole)))) d c; starts = λ d c here. c },
    (
      record { comes = λ d here c. none_held heard d c; starts = tt },
      (
        record { comes = λ d here c. was_held lied (part (part whole)) d c; starts = tt },
        (
          record { comes = λ d here c. absurd (not_here d here c); starts = tt },
          (
            record { comes = λ d here c. was_held drawn whole d c; starts = tt },
            (
              record { comes = λ d here c. none_held started d c; starts = λ d here c. draws d c },
              (
                record { comes = λ d here c. absurd (Contains-none d c); starts = inr (λ d c here. absurd (Contains-none d c)) },
                (
                  record { comes = λ d here c. absurd (Contains-none d c); starts = λ d c here. absurd (Contains-none d c) },
                  (record { comes = λ d here c. absurd (Contains-none d c); starts = λ d here c. absurd (Contains-none d c) }, tt),
                ),
              ),
            ),
          ),
        ),
      ),
    ),
  ),
)

pub it_is_mixed : IsMixed
unfolding random_started word_of after_word words.started report_of gaps_of pages_of near_names after_kept_line sent_by_kept_line
    verdict_on judge_after drawop_verdict is_forged_drawop is_known is_firm_beside is_bound_elsewhere is_ahead is_over is_wide leaves_holes with_given without_name
it_is_mixed = record { apart = apart; taken = taken; records = records; one = refl; other = refl; third = refl; reports = refl; reports' = refl; gaps = refl; gaps' = refl; gaps'' = refl }
