use Rattle.wb_lines.specs.Words.{words}
use Rattle.wb_commands.proofs.FirstWords.{four_found}
use Rattle.wb_commands.proofs.parsing.four_words.Goals as goal

pub returns : goal.returns
returns c = four_found (words c.args.rest.now) (words c.in_ok-first.rest.now) (words c.in_ok-second.rest.now) c.in_ok-first.first.now c.in_ok-second.second.now c.in_ok-third.third.now c.in_ok-third.fourth.now c.in_ok-first.ensures c.in_ok-second.ensures c.in_ok-third.ensures
