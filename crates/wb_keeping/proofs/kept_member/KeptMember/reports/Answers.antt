use Rattle.std.proofs.Common.{◌≡◌, ◌∙◌, ap, sym}
use Rattle.std.specs.Prelude.{Option}
use Rattle.wb_names.specs.Values.{NameValue}
use Rattle.wb_keeping.specs.Kept.{reports, reports_either, reports_in_turn, reports_newest}
use Rattle.wb_keeping.specs.Performing.{IsKeptAt, Keeping, sees}
use Rattle.wb_keeping.proofs.LeftSome.{on_err_as, on_ok_as}
use Rattle.wb_keeping.proofs.kept_member.KeptMember.reports.Goals as goal

pub returns-in-Some : goal.returns-in-Some
returns-in-Some c =
    let other = reports_newest c.in-Some.name in
    let same = λ (k : Keeping) (at : IsKeptAt c.args.self.now k). ap (λ (o : Option NameValue). reports_either o (sees k.host) k.policy) (sym (c.newest_now.ensures k at) ∙ c.in-Some.is) in
    record { does = on_ok_as reports other c.reports_newest.new.self c.args.sent.now.items c.reports_newest.new.sent.items c.reports_newest.result same c.reports_newest.ensures.does; left = on_err_as reports other c.reports_newest.new.self c.reports_newest.result same c.reports_newest.ensures.left }

pub returns-in-None : goal.returns-in-None
returns-in-None c =
    let same = λ (k : Keeping) (at : IsKeptAt c.args.self.now k). ap (λ (o : Option NameValue). reports_either o (sees k.host) k.policy) (sym (c.newest_now.ensures k at) ∙ c.in-None.is) in
    record { does = on_ok_as reports reports_in_turn c.reports_in_turn.new.self c.args.sent.now.items c.reports_in_turn.new.sent.items c.reports_in_turn.result same c.reports_in_turn.ensures.does; left = on_err_as reports reports_in_turn c.reports_in_turn.new.self c.reports_in_turn.result same c.reports_in_turn.ensures.left }
