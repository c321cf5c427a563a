use Rattle.std.proofs.Common.{◌∙◌, sym}
use Rattle.wb_keeping.proofs.Performed.{at_inside}
use Rattle.wb_keeping.proofs.AskedTimers as asked
use Rattle.wb_keeping.proofs.kept_member.KeptMember.asks.Goals as goal

pub returns : goal.returns
returns c = λ k at. c.asks.ensures k.host (at_inside k c.self.view_is at).member ∙ sym (asked.count_seen k.host)
