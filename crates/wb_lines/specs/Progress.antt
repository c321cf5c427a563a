-- Where a driver is, by how far it has come.
use Rattle.wb_names.specs.declared.stream.Sink.{Ghosts as SinkOf}
use Rattle.wb_names.specs.declared.stream.Source.{Ghosts as SourceOf}
use Rattle.wb_lines.specs.declared.progress.Progress.{Progress}
use Rattle.wb_lines.specs.Moments.{Moment, driver_moment}

-- the moment that a driver of a source and a sink has reached
abbrev pub reached : {S R W : Type 0} → SourceOf R → SinkOf W → Progress S → R → W → Moment S
reached R W progress source sink = driver_moment R W progress.lines progress.output source sink
