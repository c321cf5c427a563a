-- The random words of a policy: those of its seed on a stream of its own, so that they take none of the timers'.
use Rattle.std.specs.Prelude.{ℕ}
use Rattle.wb_random.specs.Words.{started as words_started}
pub use Rattle.wb_random.specs.Words.{Lcg, drawn}
unfoldable pub use Rattle.wb_random.specs.Words.{after_word, word_of}
use Rattle.wb_policy.specs.declared.limits.TheConstants.{STREAM}

-- the generator of a seed
unfoldable pub started : ℕ → Lcg
started seed = words_started STREAM seed
