use Rattle.wb_judged_sessions.proofs.FirmTurns.{firm_for_its_turn, turns_are_firm}
use Rattle.wb_judged_sessions.proofs.Unhushed.{repairs_are_sent, requests_are_sent}
use Rattle.wb_judged_sessions.proofs.laws.what_is_firm_is_not_hushed.Goals as goal

pub returns : goal.returns
returns c = record { repair = repairs_are_sent; request = requests_are_sent; turns = turns_are_firm; turn = firm_for_its_turn }
