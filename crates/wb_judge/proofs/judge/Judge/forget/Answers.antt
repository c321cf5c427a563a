use Rattle.std.proofs.Common.{◌≡◌, ap, false, rules, sym}
use Rattle.wb_judge.specs.Judge.{Judge}
use Rattle.wb_judge.specs.Shares.{Shares}
use Rattle.wb_judge.specs.Strange.{has_name}
use Rattle.wb_judge.proofs.Lessening.{nothing_less}
use Rattle.wb_judge.proofs.judge.Judge.forget.Goals as goal

pub returns-else-has : goal.returns-else-has
returns-else-has c =
    let absent : has_name c.args.name.now c.args.self.now.strange.given ≡ false = search rules in
    ap (λ (s : Shares). let j : Judge = record c.args.self.now { strange = s } in j) (sym (nothing_less c.args.name.now c.args.self.now.strange absent))
