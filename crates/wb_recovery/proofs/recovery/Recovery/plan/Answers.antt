use Rattle.std.proofs.Common.{◌≡◌, ◌≤◌, List, ◌++◌, length, ap, sym, subst, ◌∙◌}
use Rattle.std.specs.Prelude.{map}
use Rattle.std.specs.BTreeSet.{contains}
use Rattle.std.specs.List.Sorted.{IsStrictlySortedBy}
use Rattle.wb_names.specs.Values.{NameValue}
use Rattle.wb_names.specs.Orders.{name_cmp}
use Rattle.wb_recovery.specs.Firing.{with_ask_fired}
use Rattle.wb_recovery.specs.declared.plan.Plan.{Plan}
use Rattle.wb_recovery.specs.Values.{RecoveryValue, names_in, timers_in}
use Rattle.wb_recovery.specs.Events.{names_of, timers_of, due_asks}
use Rattle.wb_recovery.specs.Accepted.{StandsFor}
use Rattle.wb_recovery.specs.Stopping.{receipts, IsPlanOf}
use Rattle.wb_recovery.specs.declared.plan.Action.{Action}
use Rattle.wb_recovery.specs.declared.plan.Action.TheVariants.{Ask, Answer}
use Rattle.wb_recovery.proofs.StoppedNames.{asking_left, answering_left, words_left, others_asking, others_answering}
use Rattle.wb_recovery.proofs.recovery.Recovery.plan.Goals as goal

pub asked_after-requires-clause-rising : goal.asked_after-requires-clause-rising
asked_after-requires-clause-rising c =
    let view : RecoveryValue = record { tuning = c.self.inside.tuning; moment = c.self.inside.moment; records = c.self.inside.records.entries } in
    let asking = asking_left c.args.now view c.args.received.now (contains name_cmp c.in_ok-stopped.stopped) c.in_ok-stopped.ensures c.in_ok-asking.asking.items (c.in_ok-asking.ensures _ c.self.invariant.asks) in
    subst (IsStrictlySortedBy name_cmp) (sym c.deref-3.ensures.value) asking.rising

pub asked_after-requires-clause-words : goal.asked_after-requires-clause-words
asked_after-requires-clause-words c =
    let view : RecoveryValue = record { tuning = c.self.inside.tuning; moment = c.self.inside.moment; records = c.self.inside.records.entries } in
    let asking = asking_left c.args.now view c.args.received.now (contains name_cmp c.in_ok-stopped.stopped) c.in_ok-stopped.ensures c.in_ok-asking.asking.items (c.in_ok-asking.ensures _ c.self.invariant.asks) in
    subst (λ (xs : List NameValue). length xs ≤ length c.args.words.now) (sym c.deref-3.ensures.value)
    (words_left c.args.now (length c.args.words.now) view c.args.received.now c.in_ok-asking.asking.items c.self.invariant.ordered asking
    (subst (λ (v : RecoveryValue). length (due_asks (names_in v) (timers_in v) c.args.now) ≤ length c.args.words.now) (sym c.self.view_is) c.requires))

pub returns-clause-actions : goal.returns-clause-actions
returns-clause-actions c = λ constants events s.
    let view : RecoveryValue = record { tuning = c.self.inside.tuning; moment = c.self.inside.moment; records = c.self.inside.records.entries } in
    let asking = asking_left c.args.now view c.args.received.now (contains name_cmp c.in_ok-stopped.stopped) c.in_ok-stopped.ensures c.in_ok-asking.asking.items (c.in_ok-asking.ensures _ c.self.invariant.asks) in
    let answering = answering_left c.args.now view c.args.received.now (contains name_cmp c.in_ok-stopped.stopped) c.in_ok-stopped.ensures c.in_ok-answering.answering.items (c.in_ok-answering.ensures _ c.self.invariant.answers) in
    let stands = subst (StandsFor constants events) (sym c.self.view_is) s in
    let a = c.deref.ensures.value ∙ others_asking constants c.args.now c.args.received.now events view stands c.in_ok-asking.asking.items asking in
    let b = c.deref-2.ensures.value ∙ others_answering constants c.args.now c.args.received.now events view stands c.in_ok-answering.answering.items answering in
    c.in_ok-actions.ensures
    ∙ ap (λ (xs : List NameValue). map {B = Action} Ask xs ++ map {B = Action} Answer c.deref-2.result.now) a
    ∙ ap (λ (xs : List NameValue). map {B = Action} Ask (due_asks (names_of (receipts c.args.now events c.args.received.now)) (timers_of constants (receipts c.args.now events c.args.received.now)) c.args.now) ++ map {B = Action} Answer xs) b

pub returns-clause-plan : goal.returns-clause-plan
returns-clause-plan c =
    let view : RecoveryValue = record { tuning = c.self.inside.tuning; moment = c.self.inside.moment; records = c.self.inside.records.entries } in
    let plan : Plan = record { moment = c.args.now; actions = c.in_ok-actions.actions; asking = c.in_ok-asking.asking; after = c.in_ok-after.after; answering = c.in_ok-answering.answering } in
    let same = c.deref-3.ensures.value in
    let fired = λ (names : List NameValue). with_ask_fired c.self.inside.tuning c.args.now c.args.words.now names (timers_in view) in
    subst (λ (v : RecoveryValue). IsPlanOf v c.args.received.now c.args.words.now plan) c.self.view_is
    (record {
      moment = c.in_ok-check.ensures.moment;
      delays = sym c.are_delays.ensures ∙ c.in_ok-check.ensures.delays;
      asking = asking_left c.args.now view c.args.received.now (contains name_cmp c.in_ok-stopped.stopped) c.in_ok-stopped.ensures c.in_ok-asking.asking.items (c.in_ok-asking.ensures _ c.self.invariant.asks);
      answering = answering_left c.args.now view c.args.received.now (contains name_cmp c.in_ok-stopped.stopped) c.in_ok-stopped.ensures c.in_ok-answering.answering.items (c.in_ok-answering.ensures _ c.self.invariant.answers);
      after = subst (λ (names : List NameValue). plan.after.items ≡ map (fired names) names) same c.in_ok-after.ensures;
    })
