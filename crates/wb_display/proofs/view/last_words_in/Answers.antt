use Rattle.std.proofs.Common.{◌∙◌, ◌++◌, ◌∷◌, ap, sym, subst, take, List, []}
use Rattle.std.proofs.lemmas.List.{take_all, take_more}
use Rattle.wb_names.specs.Values.{DrawopValue}
use Rattle.wb_display.specs.LastWords.{AreLastWords}
use Rattle.wb_display.proofs.view.last_words_in.Goals as goal

pub loop-drawop-preserved : goal.loop-drawop-preserved
loop-drawop-preserved c = record {
  page = c.update.ensures.page ∙ c.loop-drawop.invariant.page;
  last_words = subst (λ (ds : List DrawopValue). AreLastWords ds c.update.new.self) (ap (λ (d : DrawopValue). take c.loop-drawop.drawop-index c.args.list.now ++ d ∷ []) c.drawop-item.is ∙ sym (take_more c.args.list.now c.loop-drawop.drawop-index c.drawop-item.result c.loop-drawop-test.true)) (c.in_ok-update.ensures.ok (take c.loop-drawop.drawop-index c.args.list.now) c.loop-drawop.invariant.last_words);
}

pub returns-clause-words : goal.returns-clause-words
returns-clause-words c = subst (λ (ds : List DrawopValue). AreLastWords ds c.loop-drawop.words) (take_all _ c.args.list.now c.loop-drawop-test.false) c.loop-drawop.invariant.last_words
