use Rattle.std.proofs.Common.{◌≡◌, ◌+◌, ◌-◌, [], ◌++◌, List, ℕ, length, take, drop, ap, sym, ◌∙◌, arith, append-nil, drop-drop, take_all, length-drop, length-append, take-append-drop}
use Rattle.wb_lines.proofs.KnownBytes.{SendsOut-then}
use Rattle.wb_lines.proofs.output.Output.flush.Goals as goal

pub loop-self-preserved : goal.loop-self-preserved
loop-self-preserved g c =
    let items = c.loop-self.self-inside.bytes.items in
    let start = c.loop-self.self-inside.start in
    let count = c.in-Some.count in
    let all : take (length items - start) (drop start items) ≡ drop start items = take_all (length items - start) (drop start items) (omega (arith, length-drop start items)) in
    let pushed = rw (c.deref.ensures.value, all) at c.in-Some.ensures.bytes in
    let rest : drop start items ++ [] ≡ take count (drop start items) ++ drop (start + count) items =
    append-nil (drop start items) ∙ sym (take-append-drop count (drop start items)) ∙ ap (λ (t : List ℕ). take count (drop start items) ++ t) (drop-drop count start items) in
    record {
      in_range = omega (arith, pushed.1, length-drop start items, c.loop-self-test.true);
      sends = SendsOut-then (g.W.Sink.taken c.args.sink.now) (g.W.Sink.taken c.loop-self.sink) (g.W.Sink.taken c.push.new.self) c.args.self.now (drop start items) (drop (start + count) items) [] [] c.loop-self.invariant.sends (take count (drop start items), pushed.2, rest);
    }

pub returns-in-None-clause-nothing : goal.returns-in-None-clause-nothing
returns-in-None-clause-nothing g c = λ e.
    let items = c.loop-self.self-inside.bytes.items in
    let start = c.loop-self.self-inside.start in
    let s = c.loop-self.invariant.sends in
    let long = ap (λ (t : List ℕ). length t) s.2 in
    let none = ap (λ (t : List ℕ). length t) e in
    absurd (omega (arith, long, none, length-append c.args.self.now [], length-append s.0 (drop start items), length-drop start items, c.loop-self-test.true))
