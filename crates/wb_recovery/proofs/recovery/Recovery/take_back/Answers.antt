use Rattle.std.proofs.Common.{◌∙◌, sym, ap, List, Bool}
use Rattle.wb_names.specs.Values.{NameValue}
use Rattle.wb_recovery.specs.Values.{record_in}
use Rattle.wb_recovery.specs.Noticing.{taken_back}
use Rattle.wb_recovery.proofs.NoticedNames.{taken_last}
use Rattle.wb_recovery.proofs.recovery.Recovery.take_back.Goals as goal

pub loop-last-preserved : goal.loop-last-preserved
loop-last-preserved c =
    let inv = c.loop-last.invariant in
    let left = c.pop.new.self.items in
    let last = c.in-Some.last in
    record {
      back = λ n.
          ap (taken_back n left) (c.unset_ask.ensures.back n)
          ∙ sym (taken_last n left last (record_in c.loop-last.self n))
          ∙ ap (λ (set : List (NameValue × Bool)). taken_back n set (record_in c.loop-last.self n)) (sym c.in-Some.ensures.items)
          ∙ inv.back n;
      tuning = c.unset_ask.ensures.tuning ∙ inv.tuning;
      moment = c.unset_ask.ensures.moment ∙ inv.moment;
      ordered = λ s. c.unset_ask.ensures.ordered;
    }
