use Rattle.std.proofs.Common.{◌≡◌, false, cond, Option, Some as some, subst}
use Rattle.std.specs.BTreeMap.{is_at}
use Rattle.wb_gaps.specs.Starts.{BeginAsBefore, is_among, start_cmp}
use Rattle.wb_gaps.specs.declared.holdings.Start.{Start}
use Rattle.wb_gaps.proofs.Behind.{stay_behind}
use Rattle.wb_gaps.proofs.HeldRanges.{already, held_begins_none}
use Rattle.wb_gaps.proofs.holdings.add.Goals as goal

pub returns-in_default-clause-ok : goal.returns-in_default-clause-ok
returns-in_default-clause-ok c = already c.args.ranges.now c.args.at.page c.args.at.source c.args.at.first c.in_default.ensures

pub returns-in-Ok-Some-clause-kept : goal.returns-in-Ok-Some-clause-kept
returns-in-Ok-Some-clause-kept c =
    let was = c.args.ranges.now.entries in
    let now = c.join.new.ranges.entries in
    let mid = c.note.new.behind.keys in
    let left = c.remove.new.self.keys in
    let begin = subst (λ (next : Option Start). BeginAsBefore was now c.in-Some.start next) c.in-Ok-Some.field-0-is c.in-Ok-Some.ensures.begin in
    let gone = subst (λ (next : Start). (s : Start) → is_among left s ≡ cond (is_at (start_cmp next) s) false (is_among mid s)) c.in-Ok-Some.next-is c.remove.ensures.updates.0 in
    record {
      ordered = c.join.ensures.ordered;
      ranges = c.join.ensures.ranges;
      behind = stay_behind was now c.args.behind.now.keys mid c.in-Some.start c.requires.kept.behind c.in_ok-note.ensures.ok left (some c.in-Ok-Some.next) begin gone;
    }

pub returns-in_err-note-clause-again : goal.returns-in_err-note-clause-again
returns-in_err-note-clause-again c = λ h. absurd (held_begins_none c.args.ranges.now c.args.at.page c.args.at.source c.args.at.first c.in-Some.start.first c.requires.kept.ordered c.in-Some.ensures.2 h)

pub returns-in-Ok-Some-clause-again : goal.returns-in-Ok-Some-clause-again
returns-in-Ok-Some-clause-again c = λ h. absurd (held_begins_none c.args.ranges.now c.args.at.page c.args.at.source c.args.at.first c.in-Some.start.first c.requires.kept.ordered c.in-Some.ensures.2 h)

pub returns-in-Ok-None-clause-again : goal.returns-in-Ok-None-clause-again
returns-in-Ok-None-clause-again c = λ h. absurd (held_begins_none c.args.ranges.now c.args.at.page c.args.at.source c.args.at.first c.in-Some.start.first c.requires.kept.ordered c.in-Some.ensures.2 h)

pub returns-in-Err-clause-again : goal.returns-in-Err-clause-again
returns-in-Err-clause-again c = λ h. absurd (held_begins_none c.args.ranges.now c.args.at.page c.args.at.source c.args.at.first c.in-Some.start.first c.requires.kept.ordered c.in-Some.ensures.2 h)
