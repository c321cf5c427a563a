use Rattle.std.proofs.Common.{◌≡◌, ◌≤◌, vec_len, vec_capacity}
use Rattle.wb_random.specs.Words.{words_of, after_words}
use Rattle.wb_random.proofs.words.RandomWords.take.Given as goal

abbrev pub invariant-loop : goal.invariant-loop
invariant-loop l = record {
  len : vec_len l.words ≡ l.counter;
  room : l.count ≤ vec_capacity l.words;
  words : l.words.items ≡ words_of l.initial.self l.counter;
  rest : l.self ≡ after_words l.initial.self l.counter;
}
