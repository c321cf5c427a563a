use Rattle.std.proofs.Common.{◌++◌, List, ap, ◌∙◌}
use Rattle.std.proofs.lemmas.List.{take_all}
use Rattle.std.proofs.lemmas.List.Filters.{dedup_is}
use Rattle.wb_names.specs.declared.name.PageId.{PageId}
use Rattle.wb_keeper.specs.Keeping.{marks_at}
use Rattle.wb_keeper.proofs.KnownThings.{listed, by_keeper}
use Rattle.wb_keeper.proofs.keeper.Keeper.known_pages.Goals as goal

pub returns-clause-pages : goal.returns-clause-pages
returns-clause-pages c =
    listed (marks_at c.args.self.now.marks) c.pages.new.desk.seen c.in_ok-pages.pages.items c.in_ok-heard.heard.items c.loop-page.pages.items c.sort_unstable.new.self.items c.dedup.new.self.items
    c.in_ok-pages.ensures.answer c.in_ok-heard.ensures.pages
    (c.loop-page.invariant ∙ ap (λ (ps : List PageId). c.in_ok-pages.pages.items ++ ps) (take_all _ _ c.loop-page-test.false ∙ c.deref-page-items.ensures.value))
    c.sort_unstable.ensures.permutation c.sort_unstable.ensures.sorted (dedup_is _ _ _ c.dedup.ensures.filtered)

pub returns-clause-value : goal.returns-clause-value
returns-clause-value c = λ me t calls s. by_keeper me calls (marks_at c.args.self.now.marks) c.pages.new.desk.seen c.dedup.new.self.items s.merged (returns-clause-pages c)
