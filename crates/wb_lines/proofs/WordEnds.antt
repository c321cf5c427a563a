-- Where a word ends.
use Rattle.std.proofs.Common.{◌≡◌, ◌≢◌, ℕ, zero, suc, ◌<◌, ◌≤◌, true, false, List, [], ◌∷◌, ◌++◌, length, get_or, take, drop, refl, sym, ap, ◌∙◌, append_assoc, arith, Option, Some, None, nat_eq, ◌==◌, unwrap_or, append-nil, get_or-drop, length-drop, length-take}
use Rattle.std.proofs.lemmas.Bool.Decides.{nat_tests}
use Rattle.memchr.specs.Find.{IsFirstByte, is_byte}
use Rattle.wb_lines.specs.Words.{words, words_after}

-- bytes that are no spaces go on with the word
goes_on : (begun xs : List ℕ) (n : ℕ) → ((k : ℕ) → k < n → get_or xs k 0 ≢ 32) → n ≤ length xs → words_after begun xs ≡ words_after (begun ++ take n xs) (drop n xs)
goes_on begun xs zero h le = ap (λ (t : List ℕ). words_after t xs) (sym (append-nil begun))
goes_on begun [] (suc n) h le = absurd (omega arith)
goes_on begun (x ∷ xs) (suc n) h le =
    let first : x ≢ 32 = h 0 (omega arith) in
    let other : nat_eq x 32 ≡ false = grind (arith, nat_tests, first) in
    rw other (goes_on (begun ++ x ∷ []) xs n (λ k lt. h (suc k) (omega arith)) (omega arith) ∙ ap (λ (t : List ℕ). words_after t (drop n xs)) (append_assoc begun (x ∷ []) (take n xs)))

-- a space or the end ends it
ends : (word rest : List ℕ) → 0 < length word → (0 < length rest → get_or rest 0 0 ≡ 32) → words_after word rest ≡ word ∷ words rest
ends word [] some h = let long : nat_eq (length word) 0 ≡ false = grind (arith, nat_tests) in rw long refl
ends word (b ∷ rest) some h =
    let long : nat_eq (length word) 0 ≡ false = grind (arith, nat_tests) in
    let is : b ≡ 32 = h (omega arith) in
    let space : nat_eq b 32 ≡ true = grind (arith, nat_tests) in
    rw (space, long) refl

word_ends : (text : List ℕ) (n : ℕ) → ((k : ℕ) → k < n → get_or text k 0 ≢ 32) → 0 < n → n ≤ length text → (n < length text → get_or text n 0 ≡ 32) → words text ≡ take n text ∷ words (drop n text)
word_ends text n before some le at =
    goes_on [] text n before le
    ∙ ends (take n text) (drop n text) (omega (arith, length-take n text)) (λ lt. get_or-drop n text 0 0 ∙ ap (λ (k : ℕ). get_or text k 0) (omega arith) ∙ at (omega (arith, lt, length-drop n text)))

is_space : (b : ℕ) → b ≡ 32 → (b == 32) ≡ true
is_space b e = grind (arith, nat_tests)

from_test : (b : ℕ) → (b == 32) ≡ true → b ≡ 32
from_test b e = grind (arith, nat_tests)

-- the first word, where the text begins with one
pub word_split : (text : List ℕ) (r : Option ℕ) → IsFirstByte (is_byte 32) text r → 0 < length text → get_or text 0 0 ≢ 32 → words text ≡ take (unwrap_or r (length text)) text ∷ words (drop (unwrap_or r (length text)) text)
word_split text None h some first = word_ends text (length text) (λ k lt e. h k (omega arith) lt (is_space (get_or text k 0) e)) some (omega arith) (λ lt. absurd (omega arith))
word_split text (Some zero) h some first = absurd (first (from_test (get_or text 0 0) h.1))
word_split text (Some (suc n)) h some first = word_ends text (suc n) (λ k lt e. h.0.before k (omega arith) lt (is_space (get_or text k 0) e)) (omega arith) (omega (arith, h.0.high)) (λ lt. from_test (get_or text (suc n) 0) h.1)
