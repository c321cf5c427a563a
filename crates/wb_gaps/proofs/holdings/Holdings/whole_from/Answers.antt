use Rattle.std.proofs.Common.{◌≡◌, ℕ, true, subst}
use Rattle.std.specs.Prelude.{List}
use Rattle.wb_names.specs.History.{name_of}
use Rattle.wb_gaps.specs.Greatest.{IsWholeFrom}
use Rattle.wb_gaps.specs.Holdings.{HeldRange, IsHighest, holds}
use Rattle.wb_gaps.proofs.HeldRanges.{whole_is}
use Rattle.wb_gaps.proofs.holdings.Holdings.whole_from.Goals as goal

pub returns : goal.returns
returns c = whole_is c.args.self.now c.args.page c.args.source _ (subst (λ (rs : List HeldRange). (high : ℕ) → IsHighest rs c.args.page c.args.source high → IsWholeFrom (λ n. holds rs (name_of c.args.page c.args.source n) ≡ true) high c.last_start.result) c.self.view_is c.last_start.ensures)
