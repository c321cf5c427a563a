use Rattle.std.proofs.Common.{◌≡◌, ℕ, ◌+◌, ◌-◌, ◌++◌, ◌∙◌, ap, arith, sym, filter, take}
use Rattle.wb_recovery.specs.Values.{timers_in}
use Rattle.wb_keeper.specs.Missing.{is_unasked}
use Rattle.wb_keeper.proofs.WantedNames.{name_more, no_room, part, value_is}
use Rattle.wb_keeper.proofs.keeper.Keeper.add_unasked.Goals as goal

pub returns-then-len-room : goal.returns-then-len-room
returns-then-len-room c =
    let a = c.args in
    no_room (is_unasked (timers_in a.self.now.recovery)) a.room a.names.now.items a.page a.gap.source a.gap.first c.loop-seq.seq c.loop-seq.names.items c.loop-seq.auto.seq c.loop-seq.invariant.added a.gap.last (omega arith) (sym c.loop-seq.names.ok.0 ∙ sym c.len.ensures ∙ c.if-len-room.true)

pub loop-seq-preserved : goal.loop-seq-preserved
loop-seq-preserved c =
    let a = c.args in
    let h = name_more (is_unasked (timers_in a.self.now.recovery)) a.room a.names.now.items a.page a.gap.source a.gap.first c.loop-seq.seq c.loop-seq.names.items c.loop-seq.auto.seq c.loop-seq.invariant.added c.unwrap.result _ (value_is _ _ _ (sym c.new.ensures ∙ c.unwrap.ensures)) c.loop-seq.invariant.few (λ e. c.if-len-room.false (c.len.ensures ∙ c.loop-seq.names.ok.0 ∙ e)) c.in_ok-add_if_unasked.ensures in
    record { few = h.0; added = h.1 }

pub returns-in_ok-add_if_unasked : goal.returns-in_ok-add_if_unasked
returns-in_ok-add_if_unasked c =
    let a = c.args in
    let p = is_unasked (timers_in a.self.now.recovery) in
    let h = name_more p a.room a.names.now.items a.page a.gap.source a.gap.first c.loop-seq.seq c.loop-seq.names.items c.loop-seq.auto.seq c.loop-seq.invariant.added c.unwrap.result _ (value_is _ _ _ (sym c.new.ensures ∙ c.unwrap.ensures)) c.loop-seq.invariant.few (λ e. c.if-len-room.false (c.len.ensures ∙ c.loop-seq.names.ok.0 ∙ e)) c.in_ok-add_if_unasked.ensures in
    let end : c.loop-seq.seq ≡ a.gap.last = omega arith in
    h.1 ∙ ap (λ (n : ℕ). take a.room (a.names.now.items ++ filter p (part a.page a.gap.source a.gap.first (n + 1 - a.gap.first)))) end
