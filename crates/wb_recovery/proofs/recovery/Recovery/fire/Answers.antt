use Rattle.std.proofs.Common.{◌∙◌, sym, ap, subst, cond, List, map}
use Rattle.std.specs.Prelude.{Contains, not}
use Rattle.std.specs.List.Sorted.{IsStrictlySortedBy}
use Rattle.wb_names.specs.Values.{NameValue}
use Rattle.wb_names.specs.Orders.{name_cmp}
use Rattle.wb_names.proofs.Orders.{and_both}
use Rattle.wb_recovery.specs.Timing.{is_ask_due, is_answer_due, AreDelays}
use Rattle.wb_recovery.specs.Values.{RecoveryValue, timers_at, timers_in}
use Rattle.wb_recovery.specs.Alarms.{among}
use Rattle.wb_recovery.specs.Firing.{with_ask_fired}
use Rattle.wb_recovery.specs.Stopping.{is_received, with_these_fired, IsPlanOf}
use Rattle.wb_recovery.proofs.FiredTimers.{due_request_stands}
use Rattle.wb_recovery.proofs.FiredThese.{answer_as_before, answers_kept, these_fired, asks_kept, fired_delays}
use Rattle.wb_recovery.proofs.recovery.Recovery.fire.Goals as goal

pub ask_all-requires-clause-rising : goal.ask_all-requires-clause-rising
ask_all-requires-clause-rising c = subst (IsStrictlySortedBy name_cmp) (sym c.deref.ensures.value) c.requires.1.1.asking.rising

pub ask_all-requires-clause-standing : goal.ask_all-requires-clause-standing
ask_all-requires-clause-standing c = λ n h.
    let p = c.args.plan.now in
    let view : RecoveryValue = record { tuning = c.self.inside.tuning; moment = c.self.inside.moment; records = c.self.inside.records.entries } in
    let is = subst (λ (v : RecoveryValue). IsPlanOf v c.requires.0 c.requires.1.0 p) (sym c.self.view_is) c.requires.1.1 in
    due_request_stands p.moment (timers_in view n) (and_both (not (is_received c.requires.0 n)) (is_ask_due p.moment (timers_in view n).ask) ((is.asking.members n).0 (subst (λ (xs : List NameValue). Contains xs n) c.deref.ensures.value h))).1

pub ask_all-requires-clause-each : goal.ask_all-requires-clause-each
ask_all-requires-clause-each c =
    let p = c.args.plan.now in
    let g = with_ask_fired c.args.self.now.tuning p.moment c.requires.1.0 p.asking.items (timers_in c.args.self.now) in
    (g, c.deref-2.ensures.value ∙ c.requires.1.1.after ∙ ap (map g) (sym c.deref.ensures.value))

pub answer_all-requires-clause-delays : goal.answer_all-requires-clause-delays
answer_all-requires-clause-delays c = λ n.
    let p = c.args.plan.now in
    let view : RecoveryValue = record { tuning = c.self.inside.tuning; moment = c.self.inside.moment; records = c.self.inside.records.entries } in
    let is = subst (λ (v : RecoveryValue). IsPlanOf v c.requires.0 c.requires.1.0 p) (sym c.self.view_is) c.requires.1.1 in
    let g = with_ask_fired view.tuning p.moment c.requires.1.0 p.asking.items (timers_in view) in
    let written = c.ask_all.ensures.written g (c.deref-2.ensures.value ∙ is.after ∙ ap (map g) (sym c.deref.ensures.value)) n ∙ ap (λ (xs : List NameValue). cond (among xs n) (g n) (timers_in view n)) c.deref.ensures.value in
    subst AreDelays (sym written) (fired_delays view.tuning p.moment c.requires.1.0 p.asking.items (timers_in view) c.self.invariant.delays n)

pub answer_all-requires-clause-kept : goal.answer_all-requires-clause-kept
answer_all-requires-clause-kept c =
    let p = c.args.plan.now in
    let view : RecoveryValue = record { tuning = c.self.inside.tuning; moment = c.self.inside.moment; records = c.self.inside.records.entries } in
    let is = subst (λ (v : RecoveryValue). IsPlanOf v c.requires.0 c.requires.1.0 p) (sym c.self.view_is) c.requires.1.1 in
    let g = with_ask_fired view.tuning p.moment c.requires.1.0 p.asking.items (timers_in view) in
    let written = λ (n : NameValue). c.ask_all.ensures.written g (c.deref-2.ensures.value ∙ is.after ∙ ap (map g) (sym c.deref.ensures.value)) n ∙ ap (λ (xs : List NameValue). cond (among xs n) (g n) (timers_in view n)) c.deref.ensures.value in
    answers_kept view.tuning p.moment c.requires.1.0 p.asking.items (timers_in view) (timers_at c.ask_all.new.records.entries) written c.self.inside.answers c.self.invariant.answers

pub answer_all-requires-clause-rising : goal.answer_all-requires-clause-rising
answer_all-requires-clause-rising c = subst (IsStrictlySortedBy name_cmp) (sym c.deref-3.ensures.value) c.requires.1.1.answering.rising

pub answer_all-requires-clause-due : goal.answer_all-requires-clause-due
answer_all-requires-clause-due c = λ n h.
    let p = c.args.plan.now in
    let view : RecoveryValue = record { tuning = c.self.inside.tuning; moment = c.self.inside.moment; records = c.self.inside.records.entries } in
    let is = subst (λ (v : RecoveryValue). IsPlanOf v c.requires.0 c.requires.1.0 p) (sym c.self.view_is) c.requires.1.1 in
    let g = with_ask_fired view.tuning p.moment c.requires.1.0 p.asking.items (timers_in view) in
    let written = λ (n : NameValue). c.ask_all.ensures.written g (c.deref-2.ensures.value ∙ is.after ∙ ap (map g) (sym c.deref.ensures.value)) n ∙ ap (λ (xs : List NameValue). cond (among xs n) (g n) (timers_in view n)) c.deref.ensures.value in
    ap (is_answer_due p.moment) (answer_as_before view.tuning p.moment c.requires.1.0 p.asking.items (timers_in view) (timers_at c.ask_all.new.records.entries) written n)
    ∙ (and_both (not (is_received c.requires.0 n)) (is_answer_due p.moment (timers_in view n).answer) ((is.answering.members n).0 (subst (λ (xs : List NameValue). Contains xs n) c.deref-3.ensures.value h))).1

pub invariant_of-self : goal.invariant_of-self
invariant_of-self c =
    let p = c.args.plan.now in
    let view : RecoveryValue = record { tuning = c.self.inside.tuning; moment = c.self.inside.moment; records = c.self.inside.records.entries } in
    let is = subst (λ (v : RecoveryValue). IsPlanOf v c.requires.0 c.requires.1.0 p) (sym c.self.view_is) c.requires.1.1 in
    let f = timers_in view in
    let g = with_ask_fired view.tuning p.moment c.requires.1.0 p.asking.items f in
    let written = λ (n : NameValue). c.ask_all.ensures.written g (c.deref-2.ensures.value ∙ is.after ∙ ap (map g) (sym c.deref.ensures.value)) n ∙ ap (λ (xs : List NameValue). cond (among xs n) (g n) (f n)) c.deref.ensures.value in
    let s = c.self.invariant in
    record {
      tuning = s.tuning;
      moment = s.moment;
      ordered = c.answer_all.ensures.ordered;
      delays = c.answer_all.ensures.delays;
      asks = asks_kept view.tuning p.moment c.requires.1.0 p.asking.items f (timers_at c.ask_all.new.records.entries) written c.deref-3.result.now (timers_at c.answer_all.new.records.entries) c.answer_all.ensures.written c.renew.new.self (c.renew.ensures.kept _ c.ask_all.ensures.kept);
      answers = c.renew-2.ensures.kept _ c.answer_all.ensures.kept;
      first_ask = c.renew.ensures.exact;
      first_answer = c.renew-2.ensures.exact;
    }

pub returns : goal.returns
returns c = λ received words planned.
    let p = c.args.plan.now in
    let view : RecoveryValue = record { tuning = c.self.inside.tuning; moment = c.self.inside.moment; records = c.self.inside.records.entries } in
    let is = subst (λ (v : RecoveryValue). IsPlanOf v received words p) (sym c.self.view_is) planned in
    let f = timers_in view in
    let g = with_ask_fired view.tuning p.moment words p.asking.items f in
    let written = λ (n : NameValue). c.ask_all.ensures.written g (c.deref-2.ensures.value ∙ is.after ∙ ap (map g) (sym c.deref.ensures.value)) n ∙ ap (λ (xs : List NameValue). cond (among xs n) (g n) (f n)) c.deref.ensures.value in
    record {
      tuning = ap (λ (v : RecoveryValue). v.tuning) c.self.view_is;
      moment = ap (λ (v : RecoveryValue). v.moment) c.self.view_is;
      timers = λ n.
          these_fired view.tuning p.moment words p.asking.items f (timers_at c.ask_all.new.records.entries) written c.deref-3.result.now (timers_at c.answer_all.new.records.entries) c.answer_all.ensures.written n
          ∙ ap (λ (xs : List NameValue). with_these_fired view.tuning p.moment words p.asking.items xs f n) c.deref-3.ensures.value
          ∙ ap (λ (v : RecoveryValue). with_these_fired v.tuning p.moment words p.asking.items p.answering.items (timers_in v) n) c.self.view_is;
    }
