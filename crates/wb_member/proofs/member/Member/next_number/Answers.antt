use Rattle.std.proofs.Common.{rules, ◌≡◌, ◌∙◌, List, ap, sym, subst}
use Rattle.wb_names.specs.Values.{DrawopValue}
use Rattle.wb_keeper.specs.Known.{known_number}
use Rattle.wb_member.specs.Board.{held_of}
use Rattle.wb_member.specs.Holding.{MemberValue, IsOpenAt}
use Rattle.wb_member.specs.Opened.{last_number}
use Rattle.wb_member.proofs.Acts.{same_history}
use Rattle.wb_member.proofs.NextNumbers.{by_number}
use Rattle.wb_member.proofs.member.Member.next_number.Goals as goal

pub returns-clause-number : goal.returns-clause-number
returns-clause-number c = λ host at.
    let v = c.self.inside in
    let there = subst (λ (s : MemberValue). IsOpenAt s host) (sym c.self.view_is) at in
    let me : c.me.result ≡ host.is.number = c.me.ensures ∙ there.keeper.me_is in
    let last : c.known_number-last.result ≡ last_number c.args.page host =
    c.known_number-last.ensures.value host.is.number host.is.constants host.is.calls there.keeper
    ∙ ap (λ (l : List DrawopValue). known_number host.is.number host.is.calls l c.args.page c.me.result) (same_history (held_of v.desk) v.keeper v.words host there)
    ∙ ap (known_number host.is.number host.is.calls host.is.held c.args.page) me in
    search (rules, last)

pub returns-clause-unreached : goal.returns-clause-unreached
returns-clause-unreached c = by_number c.checked_add.result c.args.self.now c.args.page (returns-clause-number c)
