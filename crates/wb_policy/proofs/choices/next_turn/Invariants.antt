use Rattle.std.proofs.Common.{◌≡◌, drop}
use Rattle.wb_policy.specs.Choices.{next_turn}
use Rattle.wb_policy.proofs.choices.next_turn.Given as goal

abbrev pub invariant-loop-echo : goal.invariant-loop-echo
invariant-loop-echo l = next_turn l.firsts l.next (drop l.echo-index l.echoed) ≡ next_turn l.firsts l.from l.echoed
