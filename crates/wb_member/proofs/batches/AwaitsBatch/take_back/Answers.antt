use Rattle.std.proofs.Common.{◌∙◌, ap, sym, subst}
use Rattle.wb_member.specs.Board.{held_of}
use Rattle.wb_member.specs.Holding.{MemberValue, IsOpenAt, board_after}
use Rattle.wb_member.proofs.OneArrival.{told}
use Rattle.wb_member.proofs.batches.AwaitsBatch.take_back.Goals as goal

pub returns : goal.returns
returns c = λ host order at is.
    let v = c.self.inside in
    let there = subst (λ (s : MemberValue). IsOpenAt s host) (sym c.self.view_is) at in
    told (held_of v.before.value) (held_of c.args.desk) v.keeper c.tell_arrived.new.keeper v.words host c.args.batch.now order c.deref.result.now there
    (c.deref.ensures.value ∙ c.in_ok-names.ensures)
    (is ∙ ap (λ (s : MemberValue). board_after s.board order) (sym c.self.view_is))
    c.tell_arrived.ensures
