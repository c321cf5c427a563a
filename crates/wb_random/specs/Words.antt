-- Random words: one generator gives them all, and each is two of its words of 32 bits, the low half first.
use Rattle.std.specs.Prelude.{◌≡◌, ℕ, zero, suc, ◌+◌, ◌%◌, ◌<◌, ◌^◌, List, [], ◌∷◌, ◌++◌}
use Rattle.rand_core.specs.Steps.{u64_via_u32}
use Rattle.rand_pcg.specs.Lcg.{started as started_as, increment_of}
pub use Rattle.rand_pcg.specs.Lcg.{Lcg}
use Rattle.rand_pcg.specs.Pcg.{multiplier_64, pcg32}

-- the generator of a seed on a stream: PCG with 64 bits of state and words of 32 bits
abbrev pub started : ℕ → ℕ → Lcg
started stream seed = started_as 64 multiplier_64 seed (increment_of 64 stream)

-- the next word, and the generator after it
unfoldable pub word_of : Lcg → ℕ
word_of g = (u64_via_u32 pcg32 g).0

unfoldable pub after_word : Lcg → Lcg
after_word g = (u64_via_u32 pcg32 g).1

-- the next word, as a number from 0 to this
abbrev pub drawn : ℕ → Lcg → ℕ
drawn most g = word_of g % (most + 1)

-- the next `count` words, and the generator after them
abbrev pub words_of : Lcg → ℕ → List ℕ
words_of g zero = []
words_of g (suc count) = word_of g ∷ words_of (after_word g) count

abbrev pub after_words : Lcg → ℕ → Lcg
after_words g zero = g
after_words g (suc count) = after_words (after_word g) count

-- ---- laws

-- Words that are taken in two parts are those that are taken at once, so what was taken is the first words of a generator, however it was taken.
abbrev pub WordsFollowWords : Type 0
WordsFollowWords = (g : Lcg) (a b : ℕ) → words_of g (a + b) ≡ words_of g a ++ words_of (after_words g a) b

abbrev pub StepsFollowSteps : Type 0
StepsFollowSteps = (g : Lcg) (a b : ℕ) → after_words g (a + b) ≡ after_words (after_words g a) b

-- each word has 64 bits
abbrev pub WordsFit : Type 0
WordsFit = (g : Lcg) → word_of g < 2 ^ 64
