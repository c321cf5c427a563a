use Rattle.std.proofs.Common.{List, subst}
use Rattle.wb_names.specs.declared.gap.Gap.{Gap}
use Rattle.std.specs.Map.Iter.{TakesFirst}
use Rattle.wb_gaps.specs.Walk.{gaps_left}
use Rattle.wb_gaps.proofs.missing.MissingIterator.next.Goals as goal

pub returns-clause-steps : goal.returns-clause-steps
returns-clause-steps c = subst (λ (gaps : List Gap). TakesFirst {A = Gap} {X = Gap} (λ gap. gap) gaps c.next_gap.result (gaps_left c.next_gap.new.self)) c.self.view_is c.next_gap.ensures
