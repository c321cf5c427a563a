-- From where the arrivals of a batch come, by how far its script was read.
use Rattle.wb_names.specs.declared.stream.Sink.{Ghosts as SinkOf}
use Rattle.wb_names.specs.declared.stream.Source.{Ghosts as SourceOf}
use Rattle.wb_lines.specs.Progress.{reached}
use Rattle.wb_script.specs.declared.arriving.BatchSource.{BatchSource}
use Rattle.wb_script.specs.Inside.Reading.{BatchReading}

-- how far the source of a batch has read its script, with the first arrival while it was not taken
abbrev pub reading_of : {R W : Type 0} → SourceOf R → SinkOf W → BatchSource R W → BatchReading
reading_of R W s = record { at = reached R W s.progress.now s.source.now s.sink.now; first = s.first; over = s.over }
