use Rattle.std.proofs.Common.{List, ap, arith, length}
use Rattle.wb_names.specs.Values.{NameValue}
use Rattle.wb_judging.proofs.Asked.{names_few}
use Rattle.wb_judging.proofs.judged_member.listing.listed_page.Goals as goal

pub overflow_cast-result : goal.overflow_cast-result
overflow_cast-result c =
    let count = ap (λ (ns : List NameValue). length ns) c.in_ok-names.ensures in
    let few = names_few c.args.page c.args.drawops.now in
    omega (arith, c.requires, c.len.ensures, count, few)
