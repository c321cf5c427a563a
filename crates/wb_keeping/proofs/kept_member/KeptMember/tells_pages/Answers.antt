use Rattle.std.proofs.Common.{List, ◌++◌, ◌∙◌, ap, append-nil, arith, map, sym}
use Rattle.wb_names.specs.declared.name.PageId.{PageId}
use Rattle.wb_keeping.specs.Kept.{state_of}
use Rattle.wb_keeping.specs.Performing.{view_of}
use Rattle.std.proofs.lemmas.List.{drop_all}
use Rattle.wb_keeping.proofs.kept_member.KeptMember.tells_pages.Goals as goal

pub returns-clause-sent : goal.returns-clause-sent
returns-clause-sent c = λ k at.
    let sent = c.loop-page.sent.items in
    let f = state_of (view_of k.host) in
    sym (append-nil sent) ∙ ap (λ (ps : List PageId). sent ++ map f ps) (sym (drop_all c.loop-page.page-index c.args.pages.now (omega arith))) ∙ c.loop-page.invariant.1 k at
