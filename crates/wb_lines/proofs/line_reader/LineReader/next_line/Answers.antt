use Rattle.std.proofs.Common.{ℕ, [], ◌∷◌, ◌++◌, ap, ◌∙◌, arith}
use Rattle.std.proofs.lemmas.Result.{err_from_is_err_and}
use Rattle.wb_lines.proofs.KnownBytes.{SendsOut-then}
use Rattle.wb_lines.proofs.LineBytes.{ReadsAhead-then, ReadsAhead-on, pulled-then, stays_free, grows, goes_on}
use Rattle.wb_lines.proofs.line_reader.LineReader.next_line.Goals as goal

pub returns-in-Unwritten-clause-read : goal.returns-in-Unwritten-clause-read
returns-in-Unwritten-clause-read g c =
    let so_far = c.loop-line.invariant.read in
    let one = c.in-Unwritten.ensures.read in
    (so_far.0 ++ one.0, ReadsAhead-then c.args.self.now c.loop-line.self c.next_byte.new.self (g.R.Source.left c.args.source.now) (g.R.Source.left c.loop-line.source) (g.R.Source.left c.next_byte.new.source) (g.R.Source.has_failed c.args.source.now) (g.R.Source.has_failed c.loop-line.source) (g.R.Source.has_failed c.next_byte.new.source) so_far.0 one.0 so_far.1 one.1, tt)

pub returns-in-Unwritten-clause-sends : goal.returns-in-Unwritten-clause-sends
returns-in-Unwritten-clause-sends g c = SendsOut-then (g.W.Sink.taken c.args.sink.now) (g.W.Sink.taken c.loop-line.sink) (g.W.Sink.taken c.next_byte.new.sink) c.args.output.now c.loop-line.output c.next_byte.new.output [] [] c.loop-line.invariant.sends c.in-Unwritten.ensures.sends

pub returns-in-Failed-clause-sends : goal.returns-in-Failed-clause-sends
returns-in-Failed-clause-sends g c = SendsOut-then (g.W.Sink.taken c.args.sink.now) (g.W.Sink.taken c.loop-line.sink) (g.W.Sink.taken c.next_byte.new.sink) c.args.output.now c.loop-line.output c.next_byte.new.output [] [] c.loop-line.invariant.sends c.in-Failed.ensures.sends

pub returns-then-is_empty-clause-sends : goal.returns-then-is_empty-clause-sends
returns-then-is_empty-clause-sends g c = SendsOut-then (g.W.Sink.taken c.args.sink.now) (g.W.Sink.taken c.loop-line.sink) (g.W.Sink.taken c.next_byte.new.sink) c.args.output.now c.loop-line.output c.next_byte.new.output [] [] c.loop-line.invariant.sends c.in-End.ensures.sends

pub returns-else-is_empty-clause-sends : goal.returns-else-is_empty-clause-sends
returns-else-is_empty-clause-sends g c = SendsOut-then (g.W.Sink.taken c.args.sink.now) (g.W.Sink.taken c.loop-line.sink) (g.W.Sink.taken c.next_byte.new.sink) c.args.output.now c.loop-line.output c.next_byte.new.output [] [] c.loop-line.invariant.sends c.in-End.ensures.sends

pub returns-then-byte-eq10-clause-sends : goal.returns-then-byte-eq10-clause-sends
returns-then-byte-eq10-clause-sends g c = SendsOut-then (g.W.Sink.taken c.args.sink.now) (g.W.Sink.taken c.loop-line.sink) (g.W.Sink.taken c.next_byte.new.sink) c.args.output.now c.loop-line.output c.next_byte.new.output [] [] c.loop-line.invariant.sends c.in-Byte.ensures.sends

pub returns-in_err-push-in-Byte-clause-sends : goal.returns-in_err-push-in-Byte-clause-sends
returns-in_err-push-in-Byte-clause-sends g c = SendsOut-then (g.W.Sink.taken c.args.sink.now) (g.W.Sink.taken c.loop-line.sink) (g.W.Sink.taken c.next_byte.new.sink) c.args.output.now c.loop-line.output c.next_byte.new.output [] [] c.loop-line.invariant.sends c.in-Byte.ensures.sends

pub returns-then-byte-eq10-clause-read : goal.returns-then-byte-eq10-clause-read
returns-then-byte-eq10-clause-read g c =
    let so_far = c.loop-line.invariant.read in
    let one = c.in-Byte.ensures.read in
    let pulls = ReadsAhead-then c.args.self.now c.loop-line.self c.next_byte.new.self (g.R.Source.left c.args.source.now) (g.R.Source.left c.loop-line.source) (g.R.Source.left c.next_byte.new.source) (g.R.Source.has_failed c.args.source.now) (g.R.Source.has_failed c.loop-line.source) (g.R.Source.has_failed c.next_byte.new.source) so_far.0 one.0 so_far.1 one.1 in
    let line = c.loop-line.line.items in
    let bytes = pulled-then c.args.self.now.bytes line c.loop-line.self.bytes so_far.0 one.0 (c.in-Byte.byte ∷ c.next_byte.new.self.bytes) so_far.2 one.2 in
    (so_far.0 ++ one.0, pulls, (record { no_line_feed = so_far.3; short = so_far.4 }, bytes ∙ ap (λ (b : ℕ). line ++ b ∷ c.next_byte.new.self.bytes) c.if-byte-eq10.true))

pub returns-in_err-push-in-Byte-clause-read : goal.returns-in_err-push-in-Byte-clause-read
returns-in_err-push-in-Byte-clause-read g c =
    let so_far = c.loop-line.invariant.read in
    let one = c.in-Byte.ensures.read in
    let pulls = ReadsAhead-then c.args.self.now c.loop-line.self c.next_byte.new.self (g.R.Source.left c.args.source.now) (g.R.Source.left c.loop-line.source) (g.R.Source.left c.next_byte.new.source) (g.R.Source.has_failed c.args.source.now) (g.R.Source.has_failed c.loop-line.source) (g.R.Source.has_failed c.next_byte.new.source) so_far.0 one.0 so_far.1 one.1 in
    let p = err_from_is_err_and c.from_residual.result c.from_residual.ensures.1 in
    (so_far.0 ++ one.0, pulls, rw p.1 tt)

-- what is known once the block was gone through
pub returns-in_err-take_run-in-Byte-clause-sends : goal.returns-in_err-take_run-in-Byte-clause-sends
returns-in_err-take_run-in-Byte-clause-sends g c = SendsOut-then (g.W.Sink.taken c.args.sink.now) (g.W.Sink.taken c.loop-line.sink) (g.W.Sink.taken c.next_byte.new.sink) c.args.output.now c.loop-line.output c.next_byte.new.output [] [] c.loop-line.invariant.sends c.in-Byte.ensures.sends

pub returns-in_err-take_run-in-Byte-clause-read : goal.returns-in_err-take_run-in-Byte-clause-read
returns-in_err-take_run-in-Byte-clause-read g c =
    let so_far = c.loop-line.invariant.read in
    let one = c.in-Byte.ensures.read in
    let pulls = ReadsAhead-then c.args.self.now c.loop-line.self c.next_byte.new.self (g.R.Source.left c.args.source.now) (g.R.Source.left c.loop-line.source) (g.R.Source.left c.next_byte.new.source) (g.R.Source.has_failed c.args.source.now) (g.R.Source.has_failed c.loop-line.source) (g.R.Source.has_failed c.next_byte.new.source) so_far.0 one.0 so_far.1 one.1 in
    let p = err_from_is_err_and c.from_residual-in_err-take_run-in-Byte.result c.from_residual-in_err-take_run-in-Byte.ensures.1 in
    (so_far.0 ++ one.0, ReadsAhead-on c.args.self.now c.next_byte.new.self c.take_run.new.self (g.R.Source.left c.args.source.now) (g.R.Source.left c.next_byte.new.source) (g.R.Source.has_failed c.args.source.now) (g.R.Source.has_failed c.next_byte.new.source) (so_far.0 ++ one.0) c.take_run.ensures.ended pulls, rw p.1 tt)

pub returns-then-len-gt-MAX_LINE_LEN-clause-sends : goal.returns-then-len-gt-MAX_LINE_LEN-clause-sends
returns-then-len-gt-MAX_LINE_LEN-clause-sends g c = SendsOut-then (g.W.Sink.taken c.args.sink.now) (g.W.Sink.taken c.loop-line.sink) (g.W.Sink.taken c.next_byte.new.sink) c.args.output.now c.loop-line.output c.next_byte.new.output [] [] c.loop-line.invariant.sends c.in-Byte.ensures.sends

pub returns-then-len-gt-MAX_LINE_LEN-clause-read : goal.returns-then-len-gt-MAX_LINE_LEN-clause-read
returns-then-len-gt-MAX_LINE_LEN-clause-read g c =
    let so_far = c.loop-line.invariant.read in
    let one = c.in-Byte.ensures.read in
    let pulls = ReadsAhead-then c.args.self.now c.loop-line.self c.next_byte.new.self (g.R.Source.left c.args.source.now) (g.R.Source.left c.loop-line.source) (g.R.Source.left c.next_byte.new.source) (g.R.Source.has_failed c.args.source.now) (g.R.Source.has_failed c.loop-line.source) (g.R.Source.has_failed c.next_byte.new.source) so_far.0 one.0 so_far.1 one.1 in
    let line = c.loop-line.line.items in
    let byte = c.in-Byte.byte in
    let bytes = pulled-then c.args.self.now.bytes line c.loop-line.self.bytes so_far.0 one.0 (byte ∷ c.next_byte.new.self.bytes) so_far.2 one.2 in
    let pushed = c.in_ok-push-in-Byte.ensures.items in
    let taken = rw pushed at c.in_ok-take_run-in-Byte.ensures.ok in
    (so_far.0 ++ one.0, ReadsAhead-on c.args.self.now c.next_byte.new.self c.take_run.new.self (g.R.Source.left c.args.source.now) (g.R.Source.left c.next_byte.new.source) (g.R.Source.has_failed c.args.source.now) (g.R.Source.has_failed c.next_byte.new.source) (so_far.0 ++ one.0) c.take_run.ensures.ended pulls, (stays_free line c.take_run.new.line.items byte c.next_byte.new.self c.take_run.new.self so_far.3 c.if-byte-eq10.false taken, omega (arith, taken.short, c.if-len-gt-MAX_LINE_LEN.true, c.len.ensures), goes_on (c.args.self.now.bytes ++ (so_far.0 ++ one.0)) line c.take_run.new.line.items byte c.next_byte.new.self c.take_run.new.self bytes taken))

pub loop-line-preserved : goal.loop-line-preserved
loop-line-preserved g c =
    let so_far = c.loop-line.invariant.read in
    let one = c.in-Byte.ensures.read in
    let pulls = ReadsAhead-then c.args.self.now c.loop-line.self c.next_byte.new.self (g.R.Source.left c.args.source.now) (g.R.Source.left c.loop-line.source) (g.R.Source.left c.next_byte.new.source) (g.R.Source.has_failed c.args.source.now) (g.R.Source.has_failed c.loop-line.source) (g.R.Source.has_failed c.next_byte.new.source) so_far.0 one.0 so_far.1 one.1 in
    let line = c.loop-line.line.items in
    let byte = c.in-Byte.byte in
    let bytes = pulled-then c.args.self.now.bytes line c.loop-line.self.bytes so_far.0 one.0 (byte ∷ c.next_byte.new.self.bytes) so_far.2 one.2 in
    let pushed = c.in_ok-push-in-Byte.ensures.items in
    let taken = rw pushed at c.in_ok-take_run-in-Byte.ensures.ok in
    record {
      sends = SendsOut-then (g.W.Sink.taken c.args.sink.now) (g.W.Sink.taken c.loop-line.sink) (g.W.Sink.taken c.next_byte.new.sink) c.args.output.now c.loop-line.output c.next_byte.new.output [] [] c.loop-line.invariant.sends c.in-Byte.ensures.sends;
      waits = λ e. c.in-Byte.ensures.nothing (c.loop-line.invariant.waits e);
      read = (
        so_far.0 ++ one.0,
        ReadsAhead-on c.args.self.now c.next_byte.new.self c.take_run.new.self (g.R.Source.left c.args.source.now) (g.R.Source.left c.next_byte.new.source) (g.R.Source.has_failed c.args.source.now) (g.R.Source.has_failed c.next_byte.new.source) (so_far.0 ++ one.0) c.take_run.ensures.ended pulls,
        goes_on (c.args.self.now.bytes ++ (so_far.0 ++ one.0)) line c.take_run.new.line.items byte c.next_byte.new.self c.take_run.new.self bytes taken,
        stays_free line c.take_run.new.line.items byte c.next_byte.new.self c.take_run.new.self so_far.3 c.if-byte-eq10.false taken,
        omega (arith, c.if-len-gt-MAX_LINE_LEN.false, c.len.ensures),
      );
    }

pub loop-line-smaller : goal.loop-line-smaller
loop-line-smaller g c =
    let pushed = c.in_ok-push-in-Byte.ensures.items in
    let taken = rw pushed at c.in_ok-take_run-in-Byte.ensures.ok in
    let more = grows c.loop-line.line.items c.take_run.new.line.items c.in-Byte.byte c.next_byte.new.self c.take_run.new.self taken in
    omega (arith, more, c.loop-line.invariant.read.4)
