use Rattle.wb_lines.proofs.WordEnds.{word_split}
use Rattle.wb_lines.proofs.words.split_word.Goals as goal

pub returns : goal.returns
returns c = rw (c.split_at.ensures.front, c.split_at.ensures.back, c.unwrap_or-end.ensures) (word_split c.args.text.now c.memchr.result c.memchr.ensures c.requires.some c.requires.begins)
