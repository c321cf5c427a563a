use Rattle.std.proofs.Common.{ℕ, ◌≤◌, ◌∙◌, List, length, sym, subst}
use Rattle.wb_keeper.specs.declared.keeper.Heard.{Heard}
use Rattle.wb_keeper.proofs.MapEdits.{on_is_err, heard_again, keeper_again}
use Rattle.wb_keeper.proofs.keeper.Keeper.note_sender.Goals as goal
use Rattle.wb_names.specs.declared.entries.TheConstants.{MAX_ENTRIES}

pub invariant_of-self-then-is_err : goal.invariant_of-self-then-is_err
invariant_of-self-then-is_err c =
    let same = c.self-2.view_is ∙ on_is_err c.note_marks-2.result _ (sym c.is_err.ensures.value ∙ c.if-is_err.true) c.note_marks-2.ensures.err in
    let again = heard_again _ _ c.args.sender _ c.in-Ok.before c.insert.new.self.entries c.restore.new.map.entries same c.in-Ok.ensures.entries c.in-Ok.ensures.old c.in-Ok.ensures.keys_stay c.restore.ensures in
    record {
      moment = c.self-2.invariant.moment;
      before = c.self-2.invariant.before;
      near = c.self-2.invariant.near;
      few = subst (λ (es : List (ℕ × Heard)). length es ≤ MAX_ENTRIES) (sym again) c.self.invariant.few;
      empty = c.self-2.invariant.empty;
    }

pub returns-then-is_err-clause-err : goal.returns-then-is_err-clause-err
returns-then-is_err-clause-err c =
    let same = c.self-2.view_is ∙ on_is_err c.note_marks-2.result _ (sym c.is_err.ensures.value ∙ c.if-is_err.true) c.note_marks-2.ensures.err in
    keeper_again _ _ c.args.sender c.args.self.now c.insert.new.self.entries c.restore.new.map.entries same c.self.view_is
    (heard_again _ _ c.args.sender _ c.in-Ok.before c.insert.new.self.entries c.restore.new.map.entries same c.in-Ok.ensures.entries c.in-Ok.ensures.old c.in-Ok.ensures.keys_stay c.restore.ensures)
