use Rattle.wb_judge.proofs.Firmness.{names_take_turns, nobody_hushes_firm_names, turns_are_few}
use Rattle.wb_judge.proofs.laws.nobody_hushes_firm_names.Goals as goal

pub returns : goal.returns
returns c = record { firm = nobody_hushes_firm_names; turns = names_take_turns; few = turns_are_few }
