use Rattle.std.proofs.Common.{rules, ◌∙◌, [], ◌∷◌, ◌++◌, ap, refl, subst, sym}
use Rattle.std.specs.Prelude.{IsOk}
use Rattle.wb_names.specs.Values.{MarkValue}
use Rattle.wb_gaps.specs.Starts.{IsNextSource}
use Rattle.wb_gaps.proofs.ListParts.{as_many, no_more, one_more}
use Rattle.wb_gaps.proofs.MarkFaults.{mark_made, no_seq_fault}
use Rattle.wb_gaps.proofs.NextMarks.{highest_positive, mark_next, none_above}
use Rattle.wb_gaps.proofs.telling.marks_above.Goals as goal

pub unwrap-requires : goal.unwrap-requires
unwrap-requires c =
    let next = subst (IsNextSource c.args.ranges.now.entries c.args.page c.loop-source.last) c.in-Some.is c.next_source.ensures.next in
    let some = highest_positive c.args.ranges.now c.requires c.args.page c.in-Some.source c.highest_in-high.result next.0 c.highest_in-high.ensures in
    subst IsOk (sym (c.new.ensures ∙ no_seq_fault c.highest_in-high.result _ some)) refl

pub loop-source-preserved : goal.loop-source-preserved
loop-source-preserved c =
    let next = subst (IsNextSource c.args.ranges.now.entries c.args.page c.loop-source.last) c.in-Some.is c.next_source.ensures.next in
    let some = highest_positive c.args.ranges.now c.requires c.args.page c.in-Some.source c.highest_in-high.result next.0 c.highest_in-high.ensures in
    let made = mark_made c.highest_in-high.result _ c.unwrap.result some (sym c.new.ensures ∙ c.unwrap.ensures) in
    record {
      few = search rules;
      split = λ all top. one_more c.args.most c.loop-source.marks.items _ _ (c.loop-source.invariant.split all top) c.loop-source.invariant.few _ _ _
          (mark_next c.args.ranges.now c.next_source.ensures.ordered c.requires c.args.page all top c.loop-source.last c.in-Some.source c.highest_in-high.result next c.highest_in-high.ensures)
          (c.in_ok-push.ensures.items ∙ ap (λ (n : MarkValue). c.loop-source.marks.items ++ n ∷ []) made);
    }

pub returns-then-len-most-clause-marks : goal.returns-then-len-most-clause-marks
returns-then-len-most-clause-marks c = λ all top. as_many c.args.most c.loop-source.marks.items _ _ (c.loop-source.invariant.split all top) c.loop-source.invariant.few (search rules)

pub returns-clause-marks : goal.returns-clause-marks
returns-clause-marks c = λ all top. no_more c.args.most c.loop-source.marks.items _ _ (c.loop-source.invariant.split all top) c.loop-source.invariant.few
    (none_above c.args.ranges.now c.next_source.ensures.ordered c.requires c.args.page all top c.loop-source.last (subst (IsNextSource c.args.ranges.now.entries c.args.page c.loop-source.last) c.in_default.is c.next_source.ensures.next))
