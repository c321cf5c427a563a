use Rattle.std.proofs.Common.{◌+◌, ◌∷◌, ◌∙◌, List, ap, drop, sym}
use Rattle.std.proofs.lemmas.List.{at_drop_all, at_drop_more}
use Rattle.wb_codec.specs.declared.datagram.Datagram.{Datagram}
use Rattle.wb_judge.specs.Judge.{Judge}
use Rattle.wb_judging.specs.Hearing.{after_sends}
use Rattle.wb_judging.proofs.hearing.hear_sent.Goals as goal

pub loop-datagram-preserved : goal.loop-datagram-preserved
loop-datagram-preserved c =
    let sent = c.args.sent.now in
    let i = c.loop-datagram.datagram-index in
    let v = c.datagram-item.result in
    let judge = c.loop-datagram.judge in
    ap (λ (j : Judge). after_sends (drop (i + 1) sent) j) c.hear_one.ensures
    ∙ ap (λ (x : Datagram). after_sends (x ∷ drop (i + 1) sent) judge) c.datagram-item.is
    ∙ sym (at_drop_more (λ (vs : List Datagram). after_sends vs judge) sent i v c.loop-datagram-test.true)
    ∙ c.loop-datagram.invariant

pub returns : goal.returns
returns c = sym (at_drop_all (λ (vs : List Datagram). after_sends vs c.loop-datagram.judge) c.args.sent.now c.loop-datagram.datagram-index c.loop-datagram-test.false) ∙ c.loop-datagram.invariant
