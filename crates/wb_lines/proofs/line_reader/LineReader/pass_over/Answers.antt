use Rattle.std.proofs.Common.{ℕ, [], ◌∷◌, ◌++◌, refl, ap, ◌∙◌, arith, append-nil, length-append}
use Rattle.wb_lines.proofs.KnownBytes.{SendsOut-none, SendsOut-then}
use Rattle.wb_lines.proofs.LineBytes.{ReadsAhead-none, ReadsAhead-on, ReadsAhead-then, pulled-then, NoLineFeed-push, NoLineFeed-append, passes_on}
use Rattle.wb_lines.proofs.line_reader.LineReader.pass_over.Goals as goal

pub loop-passed-init : goal.loop-passed-init
loop-passed-init g c = record {
  sends = SendsOut-none (g.W.Sink.taken c.args.sink.now) c.args.output.now;
  read = ([], [], ReadsAhead-none c.args.self.now (g.R.Source.left c.args.source.now) (g.R.Source.has_failed c.args.source.now), append-nil c.args.self.now.bytes, tt, refl);
}

pub returns-in-Byte-eq10-clause-read : goal.returns-in-Byte-eq10-clause-read
returns-in-Byte-eq10-clause-read g c =
    let so_far = c.loop-passed.invariant.read in
    let one = c.in-Byte-eq10.ensures.read in
    let byte = c.in-Byte-eq10.field-0 in
    let bytes = pulled-then c.args.self.now.bytes so_far.1 c.loop-passed.self.bytes so_far.0 one.0 (byte ∷ c.next_byte.new.self.bytes) so_far.3 one.2 in (
      so_far.0 ++ one.0,
      so_far.1,
      ReadsAhead-then c.args.self.now c.loop-passed.self c.next_byte.new.self (g.R.Source.left c.args.source.now) (g.R.Source.left c.loop-passed.source) (g.R.Source.left c.next_byte.new.source) (g.R.Source.has_failed c.args.source.now) (g.R.Source.has_failed c.loop-passed.source) (g.R.Source.has_failed c.next_byte.new.source) so_far.0 one.0 so_far.2 one.1,
      (so_far.4, omega (arith, so_far.5, c.loop-passed-test.true), bytes ∙ ap (λ (b : ℕ). so_far.1 ++ b ∷ c.next_byte.new.self.bytes) c.in-Byte-eq10.field-0-test),
    )

pub returns-in-End-clause-read : goal.returns-in-End-clause-read
returns-in-End-clause-read g c =
    let so_far = c.loop-passed.invariant.read in
    let one = c.in-End.ensures.read in
    let all = pulled-then c.args.self.now.bytes so_far.1 c.loop-passed.self.bytes so_far.0 one.0 [] so_far.3 one.2.0 ∙ append-nil so_far.1 in
    (so_far.0 ++ one.0, so_far.1, ReadsAhead-then c.args.self.now c.loop-passed.self c.next_byte.new.self (g.R.Source.left c.args.source.now) (g.R.Source.left c.loop-passed.source) (g.R.Source.left c.next_byte.new.source) (g.R.Source.has_failed c.args.source.now) (g.R.Source.has_failed c.loop-passed.source) (g.R.Source.has_failed c.next_byte.new.source) so_far.0 one.0 so_far.2 one.1, (so_far.4, omega (arith, so_far.5, c.loop-passed-test.true), all, one.2.1, one.2.2))

pub returns-in-Failed-clause-read : goal.returns-in-Failed-clause-read
returns-in-Failed-clause-read g c =
    let so_far = c.loop-passed.invariant.read in
    let one = c.in-Failed.ensures.read in
    let all = pulled-then c.args.self.now.bytes so_far.1 c.loop-passed.self.bytes so_far.0 one.0 [] so_far.3 one.2.0 ∙ append-nil so_far.1 in
    (so_far.0 ++ one.0, so_far.1, ReadsAhead-then c.args.self.now c.loop-passed.self c.next_byte.new.self (g.R.Source.left c.args.source.now) (g.R.Source.left c.loop-passed.source) (g.R.Source.left c.next_byte.new.source) (g.R.Source.has_failed c.args.source.now) (g.R.Source.has_failed c.loop-passed.source) (g.R.Source.has_failed c.next_byte.new.source) so_far.0 one.0 so_far.2 one.1, (so_far.4, omega (arith, so_far.5, c.loop-passed-test.true), all, one.2.1, one.2.2))

pub returns-in-Unwritten-clause-read : goal.returns-in-Unwritten-clause-read
returns-in-Unwritten-clause-read g c =
    let so_far = c.loop-passed.invariant.read in
    let one = c.in-Unwritten.ensures.read in
    (so_far.0 ++ one.0, so_far.1, ReadsAhead-then c.args.self.now c.loop-passed.self c.next_byte.new.self (g.R.Source.left c.args.source.now) (g.R.Source.left c.loop-passed.source) (g.R.Source.left c.next_byte.new.source) (g.R.Source.has_failed c.args.source.now) (g.R.Source.has_failed c.loop-passed.source) (g.R.Source.has_failed c.next_byte.new.source) so_far.0 one.0 so_far.2 one.1, tt)

pub returns-in-Byte-eq10-clause-sends : goal.returns-in-Byte-eq10-clause-sends
returns-in-Byte-eq10-clause-sends g c = SendsOut-then (g.W.Sink.taken c.args.sink.now) (g.W.Sink.taken c.loop-passed.sink) (g.W.Sink.taken c.next_byte.new.sink) c.args.output.now c.loop-passed.output c.next_byte.new.output [] [] c.loop-passed.invariant.sends c.in-Byte-eq10.ensures.sends

pub returns-in-End-clause-sends : goal.returns-in-End-clause-sends
returns-in-End-clause-sends g c = SendsOut-then (g.W.Sink.taken c.args.sink.now) (g.W.Sink.taken c.loop-passed.sink) (g.W.Sink.taken c.next_byte.new.sink) c.args.output.now c.loop-passed.output c.next_byte.new.output [] [] c.loop-passed.invariant.sends c.in-End.ensures.sends

pub returns-in-Failed-clause-sends : goal.returns-in-Failed-clause-sends
returns-in-Failed-clause-sends g c = SendsOut-then (g.W.Sink.taken c.args.sink.now) (g.W.Sink.taken c.loop-passed.sink) (g.W.Sink.taken c.next_byte.new.sink) c.args.output.now c.loop-passed.output c.next_byte.new.output [] [] c.loop-passed.invariant.sends c.in-Failed.ensures.sends

pub returns-in-Unwritten-clause-sends : goal.returns-in-Unwritten-clause-sends
returns-in-Unwritten-clause-sends g c = SendsOut-then (g.W.Sink.taken c.args.sink.now) (g.W.Sink.taken c.loop-passed.sink) (g.W.Sink.taken c.next_byte.new.sink) c.args.output.now c.loop-passed.output c.next_byte.new.output [] [] c.loop-passed.invariant.sends c.in-Unwritten.ensures.sends

pub loop-passed-preserved : goal.loop-passed-preserved
loop-passed-preserved g c =
    let so_far = c.loop-passed.invariant.read in
    let one = c.in-Byte.ensures.read in
    let byte = c.in-Byte.field-0 in
    let run = c.pass_run-passed.ensures.run in
    let bytes = pulled-then c.args.self.now.bytes so_far.1 c.loop-passed.self.bytes so_far.0 one.0 (byte ∷ c.next_byte.new.self.bytes) so_far.3 one.2 in
    record {
      sends = SendsOut-then (g.W.Sink.taken c.args.sink.now) (g.W.Sink.taken c.loop-passed.sink) (g.W.Sink.taken c.next_byte.new.sink) c.args.output.now c.loop-passed.output c.next_byte.new.output [] [] c.loop-passed.invariant.sends c.in-Byte.ensures.sends;
      read = (
        so_far.0 ++ one.0,
        (so_far.1 ++ byte ∷ []) ++ run.run,
        ReadsAhead-on c.args.self.now c.next_byte.new.self c.pass_run-passed.new.self (g.R.Source.left c.args.source.now) (g.R.Source.left c.next_byte.new.source) (g.R.Source.has_failed c.args.source.now) (g.R.Source.has_failed c.next_byte.new.source) (so_far.0 ++ one.0) c.pass_run-passed.ensures.ended (ReadsAhead-then c.args.self.now c.loop-passed.self c.next_byte.new.self (g.R.Source.left c.args.source.now) (g.R.Source.left c.loop-passed.source) (g.R.Source.left c.next_byte.new.source) (g.R.Source.has_failed c.args.source.now) (g.R.Source.has_failed c.loop-passed.source) (g.R.Source.has_failed c.next_byte.new.source) so_far.0 one.0 so_far.2 one.1),
        passes_on (c.args.self.now.bytes ++ (so_far.0 ++ one.0)) so_far.1 byte c.pass_run-passed.result c.next_byte.new.self c.pass_run-passed.new.self run bytes,
        NoLineFeed-append (so_far.1 ++ byte ∷ []) run.run (NoLineFeed-push so_far.1 byte so_far.4 c.in-Byte.field-0-test.1) run.no_line_feed,
        omega (arith, so_far.5, run.counted, length-append so_far.1 (byte ∷ []), length-append (so_far.1 ++ byte ∷ []) run.run),
      );
    }
