use Rattle.std.proofs.Common.{◌∙◌, sym, ap, List, Bool}
use Rattle.std.specs.Prelude.{is_some}
use Rattle.wb_names.specs.Values.{NameValue}
use Rattle.wb_recovery.specs.Values.{record_in}
use Rattle.wb_recovery.specs.Noticing.{taken_back, unset_at}
use Rattle.wb_recovery.specs.declared.timers.Timers.{Timers}
use Rattle.wb_recovery.proofs.NoticedNames.{taken_last, unset_started}
use Rattle.wb_recovery.proofs.recovery.Recovery.start_noted.Goals as goal

pub returns-clause-back : goal.returns-clause-back
returns-clause-back c = λ n.
    let old = c.args.self.now in
    let name = c.args.one.name in
    let set = c.args.set.now.items in
    let kept = record_in c.start.new.self n in
    let none = ap (λ (s : Timers). is_some s.ask) (sym c.timers.ensures.timers) ∙ sym c.is_some.ensures ∙ c.if-is_some.false in
    ap (λ (xs : List (NameValue × Bool)). taken_back n xs kept) c.in_ok-push.ensures.items
    ∙ taken_last n set (name, c.has_record.result) kept
    ∙ ap (taken_back n set) (ap (λ (had : Bool). unset_at n (name, had) kept) c.has_record.ensures ∙ unset_started c.start.result n name old c.start.new.self old.tuning c.args.now c.args.one.delay c.args.one.word none c.start.ensures.records c.start.ensures.err)
