use Rattle.std.proofs.Common.{◌≡◌, ◌∙◌, ap}
use Rattle.wb_keeping.proofs.Performed.{at_inside}
use Rattle.wb_keeping.proofs.AskedTimers as asked
use Rattle.wb_member.specs.Opened.{events}
use Rattle.wb_recovery.specs.Events.{timers_of}
use Rattle.wb_keeping.specs.Performing.{asked_with}
use Rattle.wb_keeping.proofs.kept_member.KeptMember.asked.Goals as goal

pub returns : goal.returns
returns c = λ k at.
    let inside = at_inside k c.self.view_is at in
    let among = asked_with (timers_of k.host.is.constants (events k.host)) in
    let these : c.in_ok-asked.asked.items ≡ among c.deref.result.now = c.in_ok-asked.ensures k at in
    these ∙ ap among (c.deref.ensures.value ∙ c.in_ok-names.ensures k.host inside.member) ∙ asked.asked_seen k.host
