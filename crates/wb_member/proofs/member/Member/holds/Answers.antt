use Rattle.std.proofs.Common.{◌∙◌, ap, sym, subst, List}
use Rattle.wb_names.specs.Values.{DrawopValue}
use Rattle.wb_keeper.specs.Keeper.{holds}
use Rattle.wb_keeper.proofs.KeptCalls.{found_by, holds_from, holds_not}
use Rattle.wb_member.specs.Board.{held_of}
use Rattle.wb_member.specs.Holding.{MemberValue, IsOpenAt}
use Rattle.wb_member.proofs.Acts.{same_history}
use Rattle.wb_member.proofs.member.Member.holds.Goals as goal

pub returns : goal.returns
returns c = λ host at.
    let v = c.self.inside in
    let there = subst (λ (s : MemberValue). IsOpenAt s host) (sym c.self.view_is) at in
    let history = v.desk.seen in
    let name = c.args.name.now in
    c.is_some.ensures ∙ found_by c.find.result _ _ (holds history name) c.find.ensures (holds_not history name) (λ d h. holds_from history name d.now h.0 h.1)
    ∙ ap (λ (ds : List DrawopValue). holds ds name) (same_history (held_of v.desk) v.keeper v.words host there)
