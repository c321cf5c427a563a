use Rattle.std.proofs.Common.{◌≡◌, List, ap, subst}
use Rattle.std.specs.Prelude.{Some}
use Rattle.wb_keeping.specs.Kept.{Line}
use Rattle.wb_keeping.specs.Performing.{DoesQuietly}
use Rattle.wb_keeping.specs.Steps.{performs_all, back_lines}
use Rattle.wb_keeping.proofs.kept_member.KeptMember.take_back.Goals as goal

pub returns-in_ok-set_delay-in-Some-clause-does : goal.returns-in_ok-set_delay-in-Some-clause-does
returns-in_ok-set_delay-in-Some-clause-does c =
    let told : Some c.in-Some._micros ≡ c.args.lent = cc in
    subst (λ (ls : List Line). DoesQuietly (performs_all ls) c.args.self.now c.set_delay.new.self) (ap (back_lines c.args.source) told) c.in_ok-set_delay-in-Some.ensures.does
