use Rattle.std.proofs.Common.{◌≡◌, ◌∙◌, ℕ, Bool, ap, sym, subst, refl, is_some}
use Rattle.wb_recovery.specs.declared.timers.Timers.{Timers}
use Rattle.wb_keeper.specs.Keeper.{GiveUp}
use Rattle.wb_member.specs.Board.{held_of}
use Rattle.wb_member.specs.Holding.{MemberValue, IsOpenAt}
use Rattle.wb_member.specs.Opened.{present, asks_for}
use Rattle.wb_member.proofs.Acts.{called}
use Rattle.wb_member.proofs.member.Member.stop.Goals as goal

pub returns : goal.returns
returns c = λ host at.
    let v = c.self.inside in
    let name = c.args.name.now in
    let there = subst (λ (s : MemberValue). IsOpenAt s host) (sym c.self.view_is) at in
    let asked : c.in-Ok.asked ≡ asks_for name host = c.in-Ok.ensures.asked ∙ ap (λ (t : Timers). is_some t.ask) (there.keeper.recovery.timers name) in
    let call = ap (λ (m : ℕ). GiveUp m name c.in-Ok.asked) (c.moment-now.ensures.moment ∙ there.keeper.moment) ∙ ap (λ (b : Bool). GiveUp (present host) name b) asked in
    (asked, called (held_of v.desk) v.keeper c.give_up.new.self v.words v.words host (GiveUp c.moment-now.result name c.in-Ok.asked) (GiveUp (present host) name (asks_for name host)) 0 there c.in-Ok.ensures.ok call refl)
