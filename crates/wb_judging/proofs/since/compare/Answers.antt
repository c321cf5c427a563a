use Rattle.std.proofs.Common.{refl}
use Rattle.wb_judging.proofs.Patching.{compared}
use Rattle.wb_judging.proofs.since.compare.Goals as goal

pub returns : goal.returns
returns c = λ is. compared c.args.page c.args.count c.args.drawops.now c.args.view.now c.first-before.result.now c.gained-news.result.now c.in_ok-touched.touched _ c.in_ok-touched.ensures c.first-before.ensures c.gained-news.ensures
    refl c.in_ok-hidden.ensures c.in_ok-shown.ensures is
