use Rattle.std.proofs.Common.{List, IsPermutation, ◌∙◌, ap, sym, subst}
use Rattle.wb_names.specs.Values.{DrawopValue}
use Rattle.wb_member.specs.Holding.{MemberValue, IsOpenAt, board_after}
use Rattle.wb_member.specs.Opened.{batched}
use Rattle.wb_script.proofs.WholeBatches.{taken_at}
use Rattle.wb_script.proofs.taking.take_all.Goals as goal

pub take_back-requires-clause-taken : goal.take_back-requires-clause-taken
take_back-requires-clause-taken g c =
    let t = taken_at c.await_batch-board.result.0 c.await_batch-board.result.1 c.run_batch-taken.new.desk c.args.member.board c.args.workers c.in-Ok.drawops.items c.in-Ok.batch c.await_batch-board.ensures.held c.await_batch-board.ensures.owns c.requires.workers.0 c.run_batch-taken.ensures.kept c.in-Ok.ensures.taken in
    (t.order, subst (λ (l : List DrawopValue). IsPermutation l t.order) (sym c.deref.ensures.value) t.may.moved, t.held ∙ ap (λ (v : MemberValue). board_after v.board t.order) (sym c.await_batch-board.ensures.awaits))

pub returns-in-Ok-clause-taken : goal.returns-in-Ok-clause-taken
returns-in-Ok-clause-taken g c =
    let t = taken_at c.await_batch-board.result.0 c.await_batch-board.result.1 c.run_batch-taken.new.desk c.args.member.board c.args.workers c.in-Ok.drawops.items c.in-Ok.batch c.await_batch-board.ensures.held c.await_batch-board.ensures.owns c.requires.workers.0 c.run_batch-taken.ensures.kept c.in-Ok.ensures.taken in
    record {
      order = t.order;
      may = t.may;
      counts = t.counts;
      leads = λ host at.
          let there = subst (λ (v : MemberValue). IsOpenAt v host) (sym c.await_batch-board.ensures.awaits) at in
          let leads = c.in_ok-member-in-Ok.ensures host t.order there (t.held ∙ ap (λ (v : MemberValue). board_after v.board t.order) (sym c.await_batch-board.ensures.awaits)) in
          subst (λ (l : List DrawopValue). IsOpenAt c.in_ok-member-in-Ok.member (batched l t.order host)) c.deref.ensures.value leads;
    }
