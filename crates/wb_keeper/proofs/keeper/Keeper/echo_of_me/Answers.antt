use Rattle.std.proofs.Common.{◌<◌, ◌∙◌, rules, sym, ap, subst}
use Rattle.std.specs.Prelude.{AllPairs, nat_eq}
use Rattle.std.specs.List.{find}
use Rattle.std.proofs.lemmas.Fn.{always_returns_same}
use Rattle.wb_names.specs.declared.echo.Echo.{Echo}
use Rattle.wb_keeper.specs.Keeping.{KeeperValue}
use Rattle.wb_keeper.proofs.Searching.{found_ok, found_err}
use Rattle.wb_keeper.proofs.keeper.Keeper.echo_of_me.Goals as goal

pub returns-in-Ok : goal.returns-in-Ok
returns-in-Ok c =
    let me = c.self.inside.me in
    let list = c.as_slice-echoes.result.now in
    let up = subst (AllPairs (λ (m n : Echo). m.source < n.source)) (sym c.as_slice-echoes.ensures.entries) c.as_slice-echoes.ensures.lawful.ascending in
    sym (found_ok (λ (e : Echo). e.source) me list up c.in-Ok.place c.in-Ok.ensures.bound (c.in-Ok.ensures.position (λ (e : Echo). e.source) (always_returns_same _ _ _ (λ a r g h. (search rules, search rules)))) _)
    ∙ ap (find (λ (e : Echo). nat_eq e.source me)) c.as_slice-echoes.ensures.entries
    ∙ ap (λ (v : KeeperValue). find (λ (e : Echo). nat_eq e.source v.me) c.args.echoes.now) c.self.view_is

pub returns-in-Err : goal.returns-in-Err
returns-in-Err c =
    let me = c.self.inside.me in
    let list = c.as_slice-echoes.result.now in
    let up = subst (AllPairs (λ (m n : Echo). m.source < n.source)) (sym c.as_slice-echoes.ensures.entries) c.as_slice-echoes.ensures.lawful.ascending in
    sym (found_err (λ (e : Echo). e.source) me list up _ (c.in-Err.ensures.position (λ (e : Echo). e.source) (always_returns_same _ _ _ (λ a r g h. (search rules, search rules)))))
    ∙ ap (find (λ (e : Echo). nat_eq e.source me)) c.as_slice-echoes.ensures.entries
    ∙ ap (λ (v : KeeperValue). find (λ (e : Echo). nat_eq e.source v.me) c.args.echoes.now) c.self.view_is
