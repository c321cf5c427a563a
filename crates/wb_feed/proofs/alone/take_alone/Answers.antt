use Rattle.std.proofs.Common.{rules, ◌∙◌, List, sym, subst}
use Rattle.wb_names.specs.Values.{DrawopValue}
use Rattle.wb_feed.specs.Accepts.{Loses}
use Rattle.wb_feed.specs.Batches.{IsSettled}
use Rattle.wb_feed.proofs.Sending.{arrived_end, arrived_more}
use Rattle.wb_feed.proofs.TakenAlone.{alone_failed, alone_keeps, alone_more, alone_settles}
use Rattle.wb_feed.proofs.alone.take_alone.Goals as goal

pub take_one-taken-requires-clause-desk : goal.take_one-taken-requires-clause-desk
take_one-taken-requires-clause-desk g c = (alone_keeps _ _ _ _ c.loop-nth.invariant.taken).kept.same.0 ∙ c.requires.desk

pub loop-nth-preserved : goal.loop-nth-preserved
loop-nth-preserved g c =
    let one = rw c.in-Some.is at c.in_ok-nth.ensures in
    record { taken = alone_more _ _ _ _ _ _ _ _ _ c.loop-nth.invariant.taken c.in_ok-taken.ensures.ok one.all (search rules); arrived = arrived_more _ _ _ _ _ _ _ _ _ g.met.S.Arrivals.gives_on c.loop-nth.invariant.arrived one }

pub returns-in_err-nth-clause-kept : goal.returns-in_err-nth-clause-kept
returns-in_err-nth-clause-kept g c = subst (λ (l : List DrawopValue). Loses 0 l c.args.desk.now c.loop-nth.desk) (sym c.in_err-nth.ensures.1) (alone_keeps _ _ _ _ c.loop-nth.invariant.taken)

pub returns-in_err-taken-clause-kept : goal.returns-in_err-taken-clause-kept
returns-in_err-taken-clause-kept g c =
    let one = rw c.in-Some.is at c.in_ok-nth.ensures in
    alone_failed _ _ _ _ _ _ _ _ c.loop-nth.invariant.taken c.take_one-taken.ensures.kept one.all (search rules)

pub returns-in_err-taken-clause-arrived : goal.returns-in_err-taken-clause-arrived
returns-in_err-taken-clause-arrived g c = arrived_more _ _ _ _ _ _ _ _ _ g.met.S.Arrivals.gives_on c.loop-nth.invariant.arrived (rw c.in-Some.is at c.in_ok-nth.ensures)

pub returns-clause-kept : goal.returns-clause-kept
returns-clause-kept g c =
    let none = rw c.in_default.is at c.in_ok-nth.ensures in
    subst (λ (l : List DrawopValue). Loses 0 l c.args.desk.now c.loop-nth.desk) (sym none.2) (alone_keeps _ _ _ _ c.loop-nth.invariant.taken)

pub returns-clause-arrived : goal.returns-clause-arrived
returns-clause-arrived g c =
    let none = rw c.in_default.is at c.in_ok-nth.ensures in
    arrived_end _ _ _ _ _ _ _ _ g.met.S.Arrivals.gives_on c.loop-nth.invariant.arrived none.0 none.1 none.2

pub returns-clause-settled : goal.returns-clause-settled
returns-clause-settled g c =
    let none = rw c.in_default.is at c.in_ok-nth.ensures in
    subst (λ (l : List DrawopValue). IsSettled 1 c.args.desk.now l c.loop-nth.desk c.loop-nth.batch) (sym none.2) (alone_settles _ _ _ _ c.requires.sound c.loop-nth.invariant.taken)
