-- What stands before and after the first byte that is a mark, and the words of a line.
use Rattle.std.proofs.lemmas.Grind.{common_steps}
use Rattle.std.proofs.Common.{◌≡◌, ℕ, ◌<◌, ◌≤◌, ◌^◌, Bool, true, false, cond, Some, None, List, [], ◌∷◌, ◌++◌, refl, sym, ap, ◌∙◌, append_assoc, arith}
use Rattle.std.specs.Prelude.{nat_eq, All, map, decimal}
use Rattle.std.specs.Char.{digit_value}
use Rattle.std.specs.List.{onto_first}
use Rattle.std.specs.Str.Parse.{AllDigits}
use Rattle.std.proofs.lemmas.Bool.{eqb-true}
use Rattle.std.proofs.lemmas.Bool.Decides.{nat_tests}
use Rattle.std.proofs.lemmas.List.{append-nil}
use Rattle.std.proofs.lemmas.List.Elements.{All-cons, All-head, All-tail, All-nil}
use Rattle.std.proofs.lemmas.List.Splits.{slice_split_at, slice_split_none, join_with_byte-slice_split}
use Rattle.wb_words.specs.Words.{is_space, words, joined, split_after, split_once, text_in}
use Rattle.wb_words.specs.declared.fault.WordFault.TheVariants.{Text}
use Rattle.wb_words.specs.Reading.{said, text_at}
use Rattle.wb_words.proofs.Numerals.{decimal_digits}

-- the first of two choices was taken
pub record Chosen {A : Type 0} (b : Bool) (x y z : A) : Type 0 where
  pub first : b ≡ true → x ≡ z
  pub second : b ≡ false → y ≡ z

pub chosen : {A : Type 0} (b : Bool) (x y z : A) → cond b x y ≡ z → Chosen b x y z
chosen true x y z e = record { first = λ h. e; second = λ h. absurd cc }
chosen false x y z e = record { first = λ h. absurd cc; second = λ h. e }

pub some_is : {A : Type 0} (x y : A) → Some x ≡ Some y → x ≡ y
some_is x y e = cc

-- ---- splitting at a mark

module _ (mark : ℕ) where
  pub split_once_takes : (passed word before after : List ℕ) → split_after passed mark word ≡ Some (before, after) → passed ++ word ≡ before ++ mark ∷ after
  split_once_takes passed [] before after e = absurd cc
  split_once_takes passed (b ∷ bytes) before after e = grind (arith, common_steps, chosen, some_is, eqb-true, append_assoc, split_once_takes (passed ++ b ∷ []) bytes before after)

  pub split_once_again : (passed before after : List ℕ) → All (λ b. nat_eq b mark ≡ false) before → split_after passed mark (before ++ mark ∷ after) ≡ Some (passed ++ before, after)
  split_once_again passed [] after none = grind (arith, common_steps, nat_tests, append-nil)
  split_once_again passed (b ∷ before) after none = grind (arith, common_steps, All-head, All-tail, append_assoc, split_once_again (passed ++ b ∷ []) before after (All-tail (λ c. nat_eq c mark ≡ false) b before none))

  pub split_once_none : (passed word : List ℕ) → All (λ b. nat_eq b mark ≡ false) word → split_after passed mark word ≡ None
  split_once_none passed [] none = refl
  split_once_none passed (b ∷ bytes) none = grind (arith, common_steps, All-head, All-tail, split_once_none (passed ++ b ∷ []) bytes (All-tail (λ c. nat_eq c mark ≡ false) b bytes none))

-- no digit is such a mark
pub digits_lack : (mark : ℕ) → 10 ≤ digit_value mark → (ds : List ℕ) → AllDigits 10 ds → All (λ b. nat_eq b mark ≡ false) ds
digits_lack mark far [] d = All-nil (λ b. nat_eq b mark ≡ false)
digits_lack mark far (c ∷ cs) d = grind (arith, common_steps, All-cons, eqb-true, digits_lack mark far cs d.1)

pub decimal_lacks : (mark n : ℕ) → 10 ≤ digit_value mark → n < 2 ^ 64 → All (λ b. nat_eq b mark ≡ false) (decimal n)
decimal_lacks mark n far small = digits_lack mark far (decimal n) (decimal_digits n small)

-- ---- words: splitting at spaces

words_space : (b : ℕ) (bytes : List ℕ) → nat_eq b 32 ≡ true → words (b ∷ bytes) ≡ [] ∷ words bytes
words_space b bytes h = grind (arith, common_steps)

words_other : (b : ℕ) (bytes : List ℕ) → nat_eq b 32 ≡ false → words (b ∷ bytes) ≡ onto_first b (words bytes)
words_other b bytes h = grind (arith, common_steps)

-- each line has a word, be it empty
pub record HasWord (ws : List (List ℕ)) : Type 0 where
  pub first : List ℕ
  pub others : List (List ℕ)
  pub is : ws ≡ first ∷ others

pub has_word : (line : List ℕ) → HasWord (words line)
has_word [] = record { first = []; others = []; is = refl }
has_word (b ∷ line) = onto (nat_eq b 32) (words line) where
  onto : (t : Bool) (ws : List (List ℕ)) → HasWord (cond t ([] ∷ ws) (onto_first b ws))
  onto true ws = record { first = []; others = ws; is = refl }
  onto false [] = record { first = b ∷ []; others = []; is = refl }
  onto false (w ∷ ws) = record { first = b ∷ w; others = ws; is = refl }

record Split (passed bytes before after : List ℕ) : Type 0 where
  front : List ℕ
  is : before ≡ passed ++ front
  parts : words bytes ≡ front ∷ words after

split : (passed bytes before after : List ℕ) → split_after passed 32 bytes ≡ Some (before, after) → Split passed bytes before after
split passed [] before after e = absurd cc
split passed (b ∷ bytes) before after e = by (split (passed ++ b ∷ []) bytes before after) (nat_eq b 32) refl where
  by : (split_after (passed ++ b ∷ []) 32 bytes ≡ Some (before, after) → Split (passed ++ b ∷ []) bytes before after) → (t : Bool) → nat_eq b 32 ≡ t → Split passed (b ∷ bytes) before after
  by later true h =
      let made : Some (passed, bytes) ≡ Some (before, after) = (chosen (nat_eq b 32) _ _ _ e).first h in
      let parts = some_is (passed, bytes) (before, after) made in
      let one : passed ≡ before = ap (λ p. p.0) parts in
      let two : bytes ≡ after = ap (λ p. p.1) parts in
      record { front = []; is = sym one ∙ sym (append-nil passed); parts = words_space b bytes h ∙ ap (λ t. [] ∷ words t) two }
  by later false h =
      let rest = later ((chosen (nat_eq b 32) _ _ _ e).second h) in
      record { front = b ∷ rest.front; is = rest.is ∙ append_assoc passed (b ∷ []) rest.front; parts = words_other b bytes h ∙ ap (onto_first b) rest.parts }

pub words_split_once : (line before after : List ℕ) → split_once 32 line ≡ Some (before, after) → words line ≡ before ∷ words after
words_split_once line before after e = let s = split [] line before after e in s.parts ∙ ap (λ t. t ∷ words after) (sym s.is)

one_word : (passed bytes : List ℕ) → split_after passed 32 bytes ≡ None → words bytes ≡ bytes ∷ []
one_word passed [] e = refl
one_word passed (b ∷ bytes) e = by (one_word (passed ++ b ∷ []) bytes) (nat_eq b 32) refl where
  by : (split_after (passed ++ b ∷ []) 32 bytes ≡ None → words bytes ≡ bytes ∷ []) → (t : Bool) → nat_eq b 32 ≡ t → words (b ∷ bytes) ≡ (b ∷ bytes) ∷ []
  by later true h = grind (arith, common_steps, chosen)
  by later false h = grind (arith, common_steps, words_other, chosen)

pub words_whole : (line : List ℕ) → split_once 32 line ≡ None → words line ≡ line ∷ []
words_whole line e = one_word [] line e

pub joined_words : (line : List ℕ) → joined (words line) ≡ line
joined_words line = join_with_byte-slice_split 32 line

-- no space is among the bytes
abbrev pub NoSpace : List ℕ → Type 0
NoSpace word = All (λ b. nat_eq b 32 ≡ false) word

abbrev pub NoSpaces : List (List ℕ) → Type 0
NoSpaces [] = Unit {0}
NoSpaces (w ∷ ws) = NoSpace w × NoSpaces ws

pub words_joined : (w : List ℕ) (ws : List (List ℕ)) → NoSpaces (w ∷ ws) → words (joined (w ∷ ws)) ≡ w ∷ ws
words_joined w [] none = slice_split_none is_space w none.0
words_joined w (v ∷ ws) none = grind (arith, common_steps, slice_split_at, words_joined v ws none.1)

NoSpaces-onto : (b : ℕ) (ws : List (List ℕ)) → nat_eq b 32 ≡ false → NoSpaces ws → NoSpaces (onto_first b ws)
NoSpaces-onto b [] other none = grind (arith, common_steps, All-cons, All-nil)
NoSpaces-onto b (w ∷ ws) other none = (All-cons (λ c. nat_eq c 32 ≡ false) b w other none.0, none.1)

pub NoSpaces-words : (line : List ℕ) → NoSpaces (words line)
NoSpaces-words [] = (All-nil (λ c. nat_eq c 32 ≡ false), tt)
NoSpaces-words (b ∷ line) = by (NoSpaces-words line) (nat_eq b 32) refl where
  by : NoSpaces (words line) → (t : Bool) → nat_eq b 32 ≡ t → NoSpaces (words (b ∷ line))
  by later true h = rw h (All-nil (λ c. nat_eq c 32 ≡ false), later)
  by later false h = rw h (NoSpaces-onto b (words line) h later)

pub NoSpaces-append : (xs ys : List (List ℕ)) → NoSpaces xs → NoSpaces ys → NoSpaces (xs ++ ys)
NoSpaces-append [] ys h k = k
NoSpaces-append (x ∷ xs) ys h k = (h.0, NoSpaces-append xs ys h.1 k)

pub NoSpaces-map : {X : Type 0} (spell : X → List ℕ) (P : X → Type 0) → ((x : X) → P x → NoSpace (spell x)) → (xs : List X) → All P xs → NoSpaces (map spell xs)
NoSpaces-map spell P each [] all = tt
NoSpaces-map spell P each (x ∷ xs) all = (each x (All-head P x xs all), NoSpaces-map spell P each xs (All-tail P x xs all))

-- the rest of a line as a text in quotes
pub text_words : (place : ℕ) (line : List ℕ) → text_at place (words line) ≡ said place Text (text_in line)
text_words place line =
    let h = has_word line in
    let whole : joined (h.first ∷ h.others) ≡ line = ap joined (sym h.is) ∙ joined_words line in
    ap (text_at place) h.is ∙ ap (λ t. said place Text (text_in t)) whole
