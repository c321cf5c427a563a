use Rattle.wb_policy.proofs.Echoing.{answers_are_echoed, turns_reach_each}
use Rattle.wb_policy.proofs.laws.echoes_are_fair.Goals as goal

pub returns-clause-answered : goal.returns-clause-answered
returns-clause-answered c = answers_are_echoed

pub returns-clause-reached : goal.returns-clause-reached
returns-clause-reached c = turns_reach_each
