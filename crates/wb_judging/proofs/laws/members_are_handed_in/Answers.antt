use Rattle.wb_judging.proofs.Followed.{members_are_handed_in}
use Rattle.wb_judging.proofs.MembersIn.{each_kind_is_handed_in, needed_is_handed_in, others_drawops_are_fit, reports_are_fit}
use Rattle.wb_judging.proofs.laws.members_are_handed_in.Goals as goal

pub returns : goal.returns
returns c = record { drawops = members_are_handed_in; kinds = each_kind_is_handed_in; needed = needed_is_handed_in; drawops_fit = others_drawops_are_fit; reports_fit = reports_are_fit }
