-- The random words of a member: those of its seed on a stream of its own.
use Rattle.std.specs.Prelude.{ℕ}
use Rattle.wb_random.specs.Words.{started as words_started}
pub use Rattle.wb_random.specs.Words.{Lcg, after_words, words_of}
unfoldable pub use Rattle.wb_random.specs.Words.{after_word, word_of}
use Rattle.wb_member.specs.declared.member.TheConstants.{STREAM}

-- the generator of a seed
unfoldable pub started : ℕ → Lcg
started seed = words_started STREAM seed
