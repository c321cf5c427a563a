use Rattle.std.proofs.Common.{arith, inl, inr, refl, map, sym, ◌∙◌}
use Rattle.wb.proofs.Statuses.{misused, reason}
use Rattle.wb.proofs.serving.serve.Goals as goal

pub returns-in-Ok-clause-served : goal.returns-in-Ok-clause-served
returns-in-Ok-clause-served g c = inl (c.in-Ok.task, c.in-Ok.ensures.asked, c.finish.ensures.served)

pub returns-in-Ok-clause-failed : goal.returns-in-Ok-clause-failed
returns-in-Ok-clause-failed g c = λ e. c.finish.ensures.served.performed.failed (sym c.finish.ensures.served.answered ∙ e)

pub returns-in-Err-clause-served : goal.returns-in-Err-clause-served
returns-in-Err-clause-served g c =
    inr (record {
      unread = refl;
      unwritten = refl;
      reason = reason (map (λ word. word.now) c.args.words.now) c.in-Err.error c.misuse.result c.misuse.ensures.status c.in-Err.ensures.refused;
      said = c.misuse.ensures.text;
    })

pub returns-in-Err-clause-failed : goal.returns-in-Err-clause-failed
returns-in-Err-clause-failed g c = λ e.
    absurd (misused c.in-Err.error c.misuse.result 3 c.misuse.ensures.status (λ n. absurd (omega (arith, n))) (λ n. absurd (omega (arith, n))) e)

pub returns-in-Err-clause-quiet : goal.returns-in-Err-clause-quiet
returns-in-Err-clause-quiet g c = λ e.
    absurd (misused c.in-Err.error c.misuse.result 0 c.misuse.ensures.status (λ n. absurd (omega (arith, n))) (λ n. absurd (omega (arith, n))) e)
