use Rattle.std.proofs.Common.{◌∙◌, sym}
use Rattle.std.specs.Prelude.{nat_le}
use Rattle.wb_recovery.proofs.AlarmNames.{count_listed, no_count_until}
use Rattle.wb_recovery.proofs.alarms.Alarms.count_until.Goals as goal

pub returns : goal.returns
returns c = λ dues keep names listed. c.due_len.ensures.len ∙ count_listed dues c.args.self.now keep c.due_len.ensures.ordered (λ d. nat_le d c.args.now) names listed

pub returns-then-is_ahead_of : goal.returns-then-is_ahead_of
returns-then-is_ahead_of c = λ dues keep names listed. no_count_until dues c.args.self.now keep c.args.now (sym c.is_ahead_of.ensures ∙ c.if-is_ahead_of.true) names listed
