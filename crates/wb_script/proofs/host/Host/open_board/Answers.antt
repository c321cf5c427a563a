use Rattle.std.proofs.Common.{rules, ◌≡◌, None, Some, refl, sym, ap, ◌∙◌, unwrap_or, Ok}
use Rattle.std.proofs.lemmas.Result.{err_from_is_err_and}
use Rattle.wb_commands.specs.declared.command.Command.TheVariants.{Board}
use Rattle.wb_script.specs.Hosts.{script_host}
use Rattle.wb_script.specs.Script.{said_step}
use Rattle.wb_script.specs.Inside.Steps.{HostValue}
use Rattle.wb_member.specs.Holding.{IsOpenAt}
use Rattle.wb_script.proofs.Outcomes.{as_it_came}
use Rattle.wb_script.proofs.Steps.{ends_empty, opens, stopped}
use Rattle.wb_script.proofs.host.Host.open_board.Goals as goal

pub returns-clause-text : goal.returns-clause-text
returns-clause-text g c =
    let none : c.self.inside.member ≡ None = search rules in
    let closed : c.args.self.now.member ≡ None = ap (λ (h : HostValue). h.member) (sym c.self.view_is) ∙ none in
    let value : c.unwrap_or.result ≡ unwrap_or c.self.inside.workers c.args.workers = search rules in
    let known : Some c.unwrap_or.result ≡ Some (unwrap_or c.args.self.now.workers c.args.workers) = ap Some (value ∙ ap (λ (h : HostValue). unwrap_or h.workers c.args.workers) c.self.view_is) in
    let open_now : IsOpenAt c.in_ok-open.field-0 (script_host c.args.member c.args.cells c.args.seed) = search rules in
    λ s at.
    let e = ends_empty c.args.self.now s at in
    (e.0, e.1, opens c.args.self.now (record { member = Some c.in_ok-open.field-0; workers = Some c.unwrap_or.result; refused = c.self.inside.refused }) s e.0 c.in_ok-open.field-0 c.args.member c.args.cells c.args.workers c.args.seed e.2 closed refl known open_now)

pub returns-in_err-open-clause-text : goal.returns-in_err-open-clause-text
returns-in_err-open-clause-text g c =
    let p = err_from_is_err_and c.from_residual.result c.from_residual.ensures.1 in
    λ s at. rw (p.1, p.2) (s.waiting, as_it_came s.workers s.waiting, stopped c.args.self.now s (said_step s s.waiting (Ok (Board c.args.member c.args.cells c.args.workers c.args.seed))))
