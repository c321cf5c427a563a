use Rattle.std.proofs.Common.{◌≡◌, ◌∙◌, ap, subst, sym}
use Rattle.wb_board.specs.Desks.{PassValue}
use Rattle.wb_keeper.specs.Hearing.{answers_to, asks_for_held}
use Rattle.wb_keeper.specs.Keeping.{KeeperValue}
use Rattle.wb_keeper.proofs.HeardCalls.{keeps_own_datagram}
use Rattle.wb_keeper.proofs.KeeperAnswers.{only_sent, own_unanswered}
use Rattle.wb_keeper.proofs.keeper.Keeper.hear.Goals as goal

pub returns-then-is_own-clause-ok : goal.returns-then-is_own-clause-ok
returns-then-is_own-clause-ok c =
    let a = c.args in
    keeps_own_datagram a.self.now _ a.now a.datagram.now a.word (asks_for_held c.refresh.new.desk.seen a.datagram.now) (sym c.is_own.ensures ∙ c.if-is_own.true) (ap (λ (v : KeeperValue). record v { moment = a.now }) c.self.view_is)

pub returns-then-is_own-clause-answers : goal.returns-then-is_own-clause-answers
returns-then-is_own-clause-answers c = c.new.ensures.items ∙ sym (own_unanswered c.args.self.now.me c.refresh.new.desk.seen c.args.datagram.now (sym c.is_own.ensures ∙ c.if-is_own.true))

pub returns-clause-answers : goal.returns-clause-answers
returns-clause-answers c =
    let me = c.args.self.now.me in
    let datagram = c.args.datagram.now in
    let sent = c.in_ok-sent.sent.items in
    subst (λ (q : PassValue). sent ≡ answers_to me q.seen datagram) (sym c.in_ok-sent.ensures.same) (only_sent me c.refresh-2.new.desk datagram sent c.refresh-2.ensures.reads.sound c.in_ok-sent.ensures.sent)
