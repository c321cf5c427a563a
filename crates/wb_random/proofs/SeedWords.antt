-- The random words, in parts.
use Rattle.std.proofs.Common.{◌≡◌, ℕ, zero, suc, ◌+◌, ◌*◌, ◌/◌, ◌%◌, ◌-◌, ◌<◌, ◌≤◌, ◌^◌, List, [], ◌∷◌, ◌++◌, refl, ap, ◌∙◌, zero-add, arith, bit_xor, div-le_self}
use Rattle.std.specs.Int.{w32, rotate_right}
use Rattle.std.proofs.lemmas.Nat.{or_lt}
use Rattle.rand_pcg.specs.Lcg.{Lcg}
use Rattle.rand_pcg.specs.Pcg.{pcg32, output_xsh_rr}
use Rattle.wb_random.specs.Words.{word_of, after_word, words_of, after_words, WordsFollowWords, StepsFollowSteps, WordsFit}

pub words_of-add : WordsFollowWords
words_of-add g zero b = rw zero-add refl
words_of-add g (suc a) b =
    let e : suc a + b ≡ suc (a + b) = omega arith in
    rw e (ap (λ (words : List ℕ). word_of g ∷ words) (words_of-add (after_word g) a b))

pub after_words-add : StepsFollowSteps
after_words-add g zero b = rw zero-add refl
after_words-add g (suc a) b =
    let e : suc a + b ≡ suc (a + b) = omega arith in
    rw e (after_words-add (after_word g) a b)

-- `count` words were taken
pub record AreTaken (old new : Lcg) (count : ℕ) (taken : List ℕ) : Type 0 where
  pub words : taken ≡ words_of old count
  pub rest : new ≡ after_words old count

-- one word more
pub one_more : (old new : Lcg) (count : ℕ) (taken all : List ℕ) (word : ℕ) (after : Lcg) → taken ≡ words_of old count → new ≡ after_words old count → word ≡ word_of new → after ≡ after_word new → all ≡ taken ++ word ∷ [] → AreTaken old after (count + 1) all
one_more old new count taken all word after so_far there is step put = record {
  words = put ∙ rw (so_far, is, there, words_of-add old count 1) refl;
  rest = step ∙ rw (there, after_words-add old count 1) refl;
}

rotated : (n by : ℕ) → n < 2 ^ 32 → rotate_right w32 n by < 2 ^ 32
rotated n by lt = or_lt 32 (n / 2 ^ (by % 32)) (n * 2 ^ ((32 - by % 32) % 32) % 2 ^ 32) (let le : n / 2 ^ (by % 32) ≤ n = div-le_self n (2 ^ (by % 32)) in omega arith) (omega arith)

half : (state : ℕ) → output_xsh_rr state < 2 ^ 32
half state = rotated (bit_xor (state / 2 ^ 18) state / 2 ^ 27 % 2 ^ 32) (state / 2 ^ 59) (omega arith)

joined : (low high : ℕ) → low < 2 ^ 32 → high < 2 ^ 32 → low + high * 2 ^ 32 < 2 ^ 64
joined low high l h = omega arith

pub word_of-fits : WordsFit
unfolding word_of
word_of-fits g = joined _ _ (half g.state) (half (pcg32 g).1.state)
