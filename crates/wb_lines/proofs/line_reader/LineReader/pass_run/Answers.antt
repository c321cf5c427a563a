use Rattle.std.proofs.Common.{ℕ, List, ◌+◌, ◌-◌, take, drop, sym, ap, ◌∙◌}
use Rattle.wb_lines.specs.Ahead.{Ahead}
use Rattle.wb_lines.proofs.LineBytes.{run_passed}
use Rattle.wb_lines.proofs.line_reader.LineReader.pass_run.Goals as goal

pub returns-clause-run : goal.returns-clause-run
returns-clause-run c =
    let start = c.self.inside.start in
    let end = c.self.inside.end in
    let count = c.len_before_line_feed-count.result in
    let same = sym c.deref.ensures.value in
    run_passed c.args.self.now (record { bytes = take (end - (start + count)) (drop (start + count) c.self.inside.block.items); ended = c.self.inside.ended }) c.deref.result.now start end count c.min-room.result c.args.most
    (ap (λ (r : Ahead). r.bytes) (sym c.self.view_is) ∙ ap (λ (xs : List ℕ). take (end - start) (drop start xs)) same)
    (ap (λ (xs : List ℕ). take (end - (start + count)) (drop (start + count) xs)) same)
    c.self.invariant.0 c.min-room.ensures c.len_before_line_feed-count.ensures.within c.len_before_line_feed-count.ensures.before
