use Rattle.std.proofs.Common.{◌∙◌, ap, sym, subst}
use Rattle.indexmap.specs.IndexMap.{insert_entry}
use Rattle.wb_names.specs.Same.{same_target}
use Rattle.wb_display.specs.TakingIn.{AreHeld}
use Rattle.wb_names.specs.declared.parts.Target.{Target}
use Rattle.wb_display.proofs.Layers.{on_ok, entries_with, held_more_of}
use Rattle.wb_display.proofs.layer.hold.Goals as goal

pub returns-clause-held : goal.returns-clause-held
returns-clause-held c here new held =
    let last_words = on_ok _ _ _ _ _ c.unwrap.ensures c.update.ensures.ok in
    let put = on_ok _ _ _ _ _ c.unwrap-2.ensures c.insert.ensures.entries ∙ ap (λ (k : Target). insert_entry same_target c.args.drawops.now.entries k c.args.drawop.now) c.naming.ensures ∙ entries_with c.args.words.now c.update.new.self c.args.drawops.now.entries c.args.drawop.now here new held c.update.ensures.page last_words in
    (subst (AreHeld c.update.new.self) (sym put) (held_more_of c.args.words.now c.update.new.self c.args.drawops.now.entries c.args.drawop.now here new held c.update.ensures.page last_words), put)
