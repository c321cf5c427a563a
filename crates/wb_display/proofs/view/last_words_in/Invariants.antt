use Rattle.std.proofs.Common.{◌≡◌, take}
use Rattle.wb_display.specs.LastWords.{AreLastWords}
use Rattle.wb_display.proofs.view.last_words_in.Given as goal

abbrev pub invariant-loop-drawop : goal.invariant-loop-drawop
invariant-loop-drawop l = record {
  page : l.words.page ≡ l.fn.page;
  last_words : AreLastWords (take l.drawop-index l.list) l.words;
}
