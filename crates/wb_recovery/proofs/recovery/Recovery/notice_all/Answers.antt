use Rattle.std.proofs.Common.{◌≡◌, ℕ, ◌∙◌, sym, ap, subst, refl, arith, Bool, List, length, take, ◌≤◌, eqb-true, true≢false}
use Rattle.std.specs.Prelude.{◌==◌}
use Rattle.std.proofs.lemmas.List.{take_all}
use Rattle.std.specs.List.Sorted.{IsStrictlySortedBy}
use Rattle.wb_names.specs.Values.{NameValue}
use Rattle.wb_names.specs.Orders.{name_cmp}
use Rattle.wb_recovery.specs.Timing.{noticed}
use Rattle.wb_recovery.specs.Values.{RecoveryValue, record_in, timers_in, names_in, Replaces}
use Rattle.wb_recovery.specs.Events.{Event, timers_of, moment_of}
use Rattle.wb_recovery.specs.Noticing.{notices, taken_back}
use Rattle.wb_recovery.specs.declared.missed.Missed.{Missed}
use Rattle.wb_recovery.proofs.Outcomes.{on_err, on_no_err}
use Rattle.wb_recovery.proofs.NoticedNames.{notices_first, notices_none, notices_constants, all_back, notices_more, stands_more}
use Rattle.wb_recovery.proofs.recovery.Recovery.notice_all.Goals as goal
use Rattle.wb_recovery.proofs.recovery.Recovery.notice_all.Goals.{then-is_empty, else-is_empty}

pub loop-one-init : goal.loop-one-init
loop-one-init c = record {
  events = λ constants events s. s.timers;
  back = λ n. ap (λ (set : List (NameValue × Bool)). taken_back n set (record_in c.args.self.now n)) c.new-set.ensures.items;
  tuning = refl;
  moment = refl;
}

pub loop-one-preserved : goal.loop-one-preserved
loop-one-preserved c =
    let a = c.args in
    let i = c.loop-one.one-index in
    let m = c.one-item.result in
    let inv = c.loop-one.invariant in
    let kept = sym c.is_err.ensures.value ∙ c.if-is_err.false in
    let r : Replaces c.loop-one.self c.start_noted.new.self m.name (noticed c.loop-one.self.tuning a.now m.delay m.word (timers_in c.loop-one.self m.name)) = on_no_err c.start_noted.result kept c.start_noted.ensures.ok in
    record {
      events = λ constants events s n.
          stands_more constants a.now m (notices a.now events (take i a.missed.now)) c.loop-one.self c.start_noted.new.self (inv.tuning ∙ s.tuning ∙ sym (notices_constants constants a.now events (take i a.missed.now))) (inv.events constants events s) r n
          ∙ ap (λ (after : List Event). timers_of constants after n) (sym (notices_more a.now events a.missed.now i m (omega arith) c.one-item.is));
      back = λ n. c.start_noted.ensures.back n ∙ inv.back n;
      tuning = r.tuning ∙ inv.tuning;
      moment = r.moment ∙ inv.moment;
    }

pub returns-clause-ok : goal.returns-clause-ok
returns-clause-ok c = λ constants events s.
    let missed = c.args.missed.now in
    let inv = c.loop-one.invariant in
    let len : length missed ≤ c.loop-one.one-index = omega arith in
    let whole = λ (n : NameValue). inv.events constants events s n ∙ ap (λ (xs : List Missed). timers_of constants (notices c.args.now events xs) n) (take_all c.loop-one.one-index missed len) in
    let tuning = ap (λ (v : RecoveryValue). v.tuning) c.self-2.view_is ∙ inv.tuning ∙ s.tuning ∙ sym (notices_constants constants c.args.now events missed) in
    let timers = λ (n : NameValue). ap (λ (v : RecoveryValue). timers_in v n) c.self-2.view_is ∙ whole n in
    elim c.if-is_empty.branch [
      | then-is_empty w ↦
          let none : length missed ≡ 0 = eqb-true _ _ (sym c.is_empty.ensures ∙ w.if-is_empty.true) in
          record {
            tuning = tuning;
            moment = w.self-is ∙ ap (λ (v : RecoveryValue). v.moment) c.self-2.view_is ∙ inv.moment ∙ s.moment ∙ ap moment_of (sym (notices_none c.args.now events missed none));
            timers = timers;
            rising = c.self-2.invariant.ordered;
          }
      | else-is_empty w ↦
          let some : length missed ≡ 0 → ⊥ = λ h. true≢false (sym (ap (λ (k : ℕ). k == 0) h) ∙ sym c.is_empty.ensures ∙ w.if-is_empty.false) in
          record {
            tuning = tuning;
            moment = w.self-is ∙ sym (notices_first c.args.now events missed some);
            timers = timers;
            rising = c.self-2.invariant.ordered;
          }
    ]

pub returns-then-is_err-clause-err : goal.returns-then-is_err-clause-err
returns-then-is_err-clause-err c =
    let back = c.take_back.ensures in
    let same = on_err c.start_noted.result (sym c.is_err.ensures.value ∙ c.if-is_err.true) c.start_noted.ensures.err in
    let rising = c.in_ok-check.ensures.ordered in
    all_back c.args.self.now c.take_back.new.self rising (back.ordered (subst (λ (v : RecoveryValue). IsStrictlySortedBy name_cmp (names_in v)) (sym same) c.start_noted.ensures.ordered))
    (back.tuning ∙ ap (λ (v : RecoveryValue). v.tuning) same ∙ c.loop-one.invariant.tuning)
    (back.moment ∙ ap (λ (v : RecoveryValue). v.moment) same ∙ c.loop-one.invariant.moment)
    (λ n. back.back n ∙ c.start_noted.ensures.back n ∙ c.loop-one.invariant.back n)
