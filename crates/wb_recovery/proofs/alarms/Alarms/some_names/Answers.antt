use Rattle.std.proofs.Common.{◌++◌, ◌∙◌, sym, ap, refl, List}
use Rattle.std.specs.Prelude.{filter}
use Rattle.std.specs.BTreeMap.{keys}
use Rattle.std.proofs.lemmas.Fn.{says_at}
use Rattle.std.proofs.lemmas.List.{append-nil}
use Rattle.wb_names.specs.Values.{NameValue}
use Rattle.wb_recovery.proofs.AlarmNames.{name_put, name_left}
use Rattle.wb_recovery.proofs.alarms.Alarms.some_names.Goals as goal

pub loop-name-init : goal.loop-name-init
loop-name-init g c = λ p tells.
    ap (filter p) (sym (c.into_iter-name-iterator.ensures.into_iter_gives ∙ c.keys-name-items.ensures.rest))
    ∙ ap (λ (ns : List NameValue). ns ++ filter p c.into_iter-name-iterator.result) (sym c.new-names.ensures.items)

pub loop-name-preserved-in-Continue-1 : goal.loop-name-preserved-in-Continue-1
loop-name-preserved-in-Continue-1 g c = λ p tells.
    name_put p (keys c.args.self.now.dues) c.loop-name.names.items c.loop-name.name-iterator c.next.new.self c.in-Some.name.now (c.loop-name.invariant p tells) c.in-Some.ensures.steps
    c.push.new.self.items c.test.result (tells _ _ (says_at g.F.Fn c.test.ensures refl)) c.if-test.true c.in_ok-push.ensures.items

pub loop-name-preserved : goal.loop-name-preserved
loop-name-preserved g c = λ p tells.
    name_left p (keys c.args.self.now.dues) c.loop-name.names.items c.loop-name.name-iterator c.next.new.self c.in-Some.name.now (c.loop-name.invariant p tells) c.in-Some.ensures.steps
    c.test.result (tells _ _ (says_at g.F.Fn c.test.ensures refl)) c.if-test.false

pub returns-clause-names : goal.returns-clause-names
returns-clause-names g c = λ p tells.
    sym (c.loop-name.invariant p tells ∙ ap (λ (ks : List NameValue). c.loop-name.names.items ++ filter p ks) c.in-None.ensures.steps.0 ∙ append-nil c.loop-name.names.items)
