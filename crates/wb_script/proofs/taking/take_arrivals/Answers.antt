use Rattle.std.proofs.Common.{rules, ◌≡◌, refl, Some, false}
use Rattle.wb_lines.specs.Progress.{reached}
use Rattle.wb_script.specs.Inside.Arriving.{reading_of}
use Rattle.wb_script.proofs.Reading.{takes_arrivals}
use Rattle.wb_script.proofs.taking.take_arrivals.Goals as goal

pub returns : goal.returns
returns g c =
    let reads = c.take_from.ensures.reads in
    let r = reads.1 in
    let new = c.take_from.new.arriving in
    let progress : c.progress-1.given.0 ≡ c.take_from.new.arriving.progress.now = search rules in
    let source : c.source-1.given.0 ≡ c.take_from.new.arriving.source.now = search rules in
    let sink : c.sink-1.given.0 ≡ c.take_from.new.arriving.sink.now = search rules in
    rw (progress, source, sink) (
      r.gathers.0,
      r.gathers.1,
      takes_arrivals c.args.member c.args.workers
          (record { at = reached g.R.Source g.W.Sink c.args.progress.now c.args.source.now c.args.sink.now; first = Some c.args.first; over = false })
          (reading_of g.R.Source g.W.Sink new)
          c.args.first reads.0 r c.take_from.result refl reads.2,
    )
