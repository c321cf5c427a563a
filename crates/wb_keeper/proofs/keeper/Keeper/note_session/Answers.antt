use Rattle.std.proofs.Common.{ℕ, ◌<◌, ◌^◌, ◌∙◌, List, sym, subst}
use Rattle.wb_keeper.specs.Keeping.{delay_at}
use Rattle.wb_keeper.proofs.MapEdits.{on_is_err, delays_again, keeper_delays_again}
use Rattle.wb_keeper.proofs.keeper.Keeper.note_session.Goals as goal

pub invariant_of-self-then-is_err : goal.invariant_of-self-then-is_err
invariant_of-self-then-is_err c =
    let same = c.self-2.view_is ∙ on_is_err c.note_sender-2.result _ (sym c.is_err.ensures.value ∙ c.if-is_err.true) c.note_sender-2.ensures.err in
    let again = delays_again _ _ c.args.sender _ c.in-Ok.before c.insert.new.self.entries c.restore.new.map.entries same c.in-Ok.ensures.entries c.in-Ok.ensures.old c.in-Ok.ensures.keys_stay c.restore.ensures in
    record {
      moment = c.self-2.invariant.moment;
      before = c.self-2.invariant.before;
      near = subst (λ (es : List (ℕ × ℕ)). (source : ℕ) → delay_at es source < 2 ^ 24) (sym again) c.self.invariant.near;
      few = c.self-2.invariant.few;
      empty = c.self-2.invariant.empty;
    }

pub returns-then-is_err-clause-err : goal.returns-then-is_err-clause-err
returns-then-is_err-clause-err c =
    let same = c.self-2.view_is ∙ on_is_err c.note_sender-2.result _ (sym c.is_err.ensures.value ∙ c.if-is_err.true) c.note_sender-2.ensures.err in
    keeper_delays_again _ _ c.args.sender c.args.self.now c.insert.new.self.entries c.restore.new.map.entries same c.self.view_is
    (delays_again _ _ c.args.sender _ c.in-Ok.before c.insert.new.self.entries c.restore.new.map.entries same c.in-Ok.ensures.entries c.in-Ok.ensures.old c.in-Ok.ensures.keys_stay c.restore.ensures)
