use Rattle.std.proofs.Common.{◌∙◌, [], ◌∷◌, ap, sym, subst}
use Rattle.wb_names.specs.Values.{NameValue}
use Rattle.wb_names.specs.Arrivals.{outcome_of}
use Rattle.wb_member.specs.Board.{Held, held_of}
use Rattle.wb_member.specs.Holding.{MemberValue, IsOpenAt}
use Rattle.wb_member.proofs.OneArrival.{told}
use Rattle.wb_member.proofs.member.Member.accept.Goals as goal

pub returns-clause-accepted : goal.returns-clause-accepted
returns-clause-accepted c = λ host at.
    let v = c.self.inside in
    let d = c.args.drawop.now in
    let there = subst (λ (s : MemberValue). IsOpenAt s host) (sym c.self.view_is) at in (
      c.in_ok-reply.ensures.became ∙ ap (λ (h : Held). outcome_of h.cells h.drawops d) there.board,
      told (held_of v.desk) (held_of c.take.new.desk) v.keeper c.tell_arrived.new.keeper v.words host (d ∷ []) (d ∷ []) (c.name.result ∷ []) there (ap (λ (n : NameValue). n ∷ []) c.name.ensures) c.in_ok-reply.ensures.held c.tell_arrived.ensures,
    )
