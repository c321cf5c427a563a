use Rattle.std.proofs.Common.{refl}
use Rattle.wb_script.proofs.Reading.{printed_then, takes_printed}
use Rattle.wb_script.proofs.taking.take_batch.Goals as goal

pub returns : goal.returns
returns g c =
    let t = c.take_arrivals-taken.ensures in
    let p = c.print_taken.ensures.printed in (
      p.0,
      t.0,
      printed_then p.0 t.0 t.1 c.print_taken.ensures.lines refl refl refl refl p.1,
      takes_printed c.args.member c.args.workers c.args.first t.0 p.0 c.take_arrivals-taken.new.progress.lines c.print_taken.new.progress.lines
          c.take_arrivals-taken.result c.print_taken.result c.print_taken.ensures.lines t.2 p.2,
    )
