-- The words that are left of a line.
use Rattle.std.specs.Prelude.{ℕ, List, []}
use Rattle.wb_words.specs.Words.{words}
use Rattle.wb_words.specs.declared.rest.Rest.{Rest}
use Rattle.wb_words.specs.declared.rest.Rest.TheVariants.{End, Words}

abbrev pub words_left : Rest → List (List ℕ)
words_left End = []
words_left (Words bytes) = words bytes.now
