use Rattle.std.proofs.Common.{◌≡◌, ◌-◌, ℕ, List, [], ◌++◌, length, take, drop, ap, sym, subst, ◌∙◌, inr, refl, arith, append-nil, take_all, take-add, take-append-drop, length-drop}
use Rattle.std.specs.Io.KnownBytes.{Appends}
use Rattle.wb_lines.proofs.KnownBytes.{Appends-then}
use Rattle.wb.proofs.Statuses.{kept_appends}
use Rattle.wb.proofs.serving.push_all.Goals as goal

pub loop-sent-preserved : goal.loop-sent-preserved
loop-sent-preserved g c =
    let bytes : List ℕ = c.args.bytes.now in
    let sent : ℕ = c.loop-sent.sent in
    let count : ℕ = c.in-Some.count in
    let all : take (length bytes - sent) (drop sent bytes) ≡ drop sent bytes = take_all (length bytes - sent) (drop sent bytes) (omega (arith, length-drop sent bytes)) in
    let pushed = rw all at c.in-Some.ensures.bytes in
    let before = g.S.Sink.taken c.args.sink.now in
    let after = g.S.Sink.taken c.push.new.self in
    record {
      in_range = omega (arith, pushed.1, length-drop sent bytes, c.loop-sent-test.true);
      taken = subst (λ (t : List ℕ). Appends before after t) (sym (take-add sent count bytes))
          (Appends-then before (g.S.Sink.taken c.loop-sent.sink) after (take sent bytes) (take count (drop sent bytes)) c.loop-sent.invariant.taken pushed.2);
    }

pub returns-in-None : goal.returns-in-None
returns-in-None g c =
    let bytes : List ℕ = c.args.bytes.now in
    let sent : ℕ = c.loop-sent.sent in
    let before = g.S.Sink.taken c.args.sink.now in
    let here = g.S.Sink.taken c.loop-sent.sink in
    let after = g.S.Sink.taken c.push.new.self in
    record {
      written = take sent bytes;
      took = subst (λ (t : List ℕ). Appends before after t) (append-nil (take sent bytes))
          (Appends-then before here after (take sent bytes) [] c.loop-sent.invariant.taken (kept_appends here after c.in-None.ensures.bytes));
      front = (drop sent bytes, sym (take-append-drop sent bytes));
      whole = inr (c.in-None.ensures.failed.0 refl);
    }
