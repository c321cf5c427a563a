use Rattle.std.proofs.Common.{◌≡◌, ◌++◌, ◌∙◌, append-nil, refl, subst, sym}
use Rattle.std.specs.Prelude.{IsOk}
use Rattle.wb_gaps.specs.LastNumbers.{AreGreatest}
use Rattle.wb_gaps.specs.Runs.{AreRuns, runs_left}
use Rattle.wb_gaps.specs.Walk.{ahead}
use Rattle.wb_gaps.proofs.GreatestNumbers.{are_greatest, last_counted, last_marks, later_lawful, passed, pushed}
use Rattle.wb_gaps.proofs.MarkFaults.{mark_made, no_seq_fault}
use Rattle.wb_gaps.proofs.highest.highs.Goals as goal

pub unwrap-requires : goal.unwrap-requires
unwrap-requires c =
    let left = runs_left c.loop-next.runs in
    let runs = subst (λ next. AreRuns (ahead next left)) c.in-Some.is c.loop-next.invariant.lawful in
    subst IsOk (sym (c.new.ensures ∙ no_seq_fault c.in-Some.run'.last _ (last_counted c.in-Some.run' left runs))) refl

pub loop-next-preserved-in-Continue-1 : goal.loop-next-preserved-in-Continue-1
loop-next-preserved-in-Continue-1 c =
    let left = runs_left c.loop-next.runs in
    let runs = subst (λ next. AreRuns (ahead next left)) c.in-Some.is c.loop-next.invariant.lawful in
    let kept = subst (λ next. c.loop-next.marks.items ++ last_marks (ahead next left) ≡ last_marks (runs_left c.args.runs)) c.in-Some.is c.loop-next.invariant.kept in
    record {
      lawful = later_lawful c.in-Some.run' left _ _ c.next-next-in-Some.ensures runs;
      kept = pushed c.in-Some.run' left _ _ c.next-next-in-Some.ensures c.loop-next.marks.items _ _ c.unwrap.result (sym c.goes_on.ensures ∙ c.if-not-goes_on.true)
          (mark_made c.in-Some.run'.last _ c.unwrap.result (last_counted c.in-Some.run' left runs) (sym c.new.ensures ∙ c.unwrap.ensures)) c.in_ok-push.ensures.items kept;
    }

pub loop-next-preserved : goal.loop-next-preserved
loop-next-preserved c =
    let left = runs_left c.loop-next.runs in
    let runs = subst (λ next. AreRuns (ahead next left)) c.in-Some.is c.loop-next.invariant.lawful in
    let kept = subst (λ next. c.loop-next.marks.items ++ last_marks (ahead next left) ≡ last_marks (runs_left c.args.runs)) c.in-Some.is c.loop-next.invariant.kept in
    record {
      lawful = later_lawful c.in-Some.run' left _ _ c.next-next-in-Some.ensures runs;
      kept = passed c.in-Some.run' left _ _ c.next-next-in-Some.ensures c.loop-next.marks.items _ (sym c.goes_on.ensures ∙ c.if-not-goes_on.false) kept;
    }

pub returns : goal.returns
returns c =
    let kept = subst (λ next. c.loop-next.marks.items ++ last_marks (ahead next (runs_left c.loop-next.runs)) ≡ last_marks (runs_left c.args.runs)) c.in_default.is c.loop-next.invariant.kept in
    subst (AreGreatest (runs_left c.args.runs)) (sym kept ∙ append-nil _) (are_greatest (runs_left c.args.runs) c.requires)
