use Rattle.wb_keeping.proofs.WantedNames.{only_held_is_answered, wanted_is_asked}
use Rattle.wb_keeping.proofs.laws.wanted_names_are_asked_for.Goals as goal

pub returns : goal.returns
returns c = record { answers = only_held_is_answered; asked = wanted_is_asked }
