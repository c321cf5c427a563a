use Rattle.wb_history.specs.Sizes.{row_words}
use Rattle.std.proofs.Common.{◌+◌, [], ◌++◌, arith}
use Rattle.std.proofs.lemmas.Result.{MatchResult-weaker}
use Rattle.wb_history.proofs.Walks.{walk_on, answer_on}
use Rattle.wb_history.proofs.cells.CellTable.publish_or_find.Goals as goal

pub returns : goal.returns
returns c = record {
  done = MatchResult-weaker c.contend.result c.contend.ensures.done
      (λ a s. answer_on c.args.cursor.now [] c.args.drawop.now row_words 0 c.store.new.cursor c.contend.new.cursor a c.requires.cursor.1 c.store.ensures.done.0 s)
      (λ _ s. let few = s.2 in ([] ++ s.0, row_words + s.1, (omega arith), walk_on _ _ _ row_words s.1 _ _ c.requires.cursor.1 c.store.ensures.done.0 s.3));
}
