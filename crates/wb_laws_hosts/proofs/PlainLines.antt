-- Texts of whole lines, none of which begins as a line does that closes a block.
use Rattle.std.proofs.Common.{◌≡◌, ◌≢◌, ◌≤◌, ◌<◌, ℕ, zero, suc, ◌/◌, ◌%◌, Bool, true, false, List, [], ◌∷◌, ◌++◌, refl, sym, ap, subst, ◌∙◌, arith, slice_index, flat_map, append_assoc, codes, decimal, All, if◌then◌else◌, ⊎_elim}
use Rattle.std.specs.Prelude.{◌&&◌, ◌||◌, Option, Some, None, nat_eq, not, unwrap_or}
use Rattle.std.specs.Option.{option_map}
use Rattle.std.specs.Fmt.{digits, digits_onto, digit_glyph}
use Rattle.std.proofs.lemmas.Bool.Decides.{nat_tests}
use Rattle.std.proofs.lemmas.List.{append-nil}
use Rattle.std.proofs.lemmas.List.Elements.{All-nil, All-cons}
use Rattle.hex.specs.Hex.{lower_digits, encode_with, encode_lower}
use Rattle.wb_lines.specs.Ahead.{NoLineFeed}
use Rattle.wb_lines.specs.Input.{InputLine, BeginsWith, input_lines}
use Rattle.wb_lines.proofs.InputLines.{input_lines-whole}
use Rattle.wb_lines.proofs.LineBytes.{NoLineFeed-append}
use Rattle.wb_laws_hosts.specs.Closings.{LooksClosing, IsPlain}

-- ---- bytes

abbrev AreDigits : List ℕ → Type 0
AreDigits [] = Unit {0}
AreDigits (b ∷ bytes) = (48 ≤ b) × (b < 58) × AreDigits bytes

glyph : (d : ℕ) → d < 10 → (48 ≤ digit_glyph false d) × (digit_glyph false d < 58)
glyph d lt = grind (arith, nat_tests)

remainder : (n : ℕ) → n % 10 < 10
remainder n = omega arith

last_or_more : (last : Bool) (d : ℕ) (acc more : List ℕ) → d < 10 → AreDigits acc → (AreDigits (digit_glyph false d ∷ acc) → AreDigits more) → AreDigits (if last then digit_glyph false d ∷ acc else more)
last_or_more true d acc more lt h next = let g = glyph d lt in (g.0, g.1, h)
last_or_more false d acc more lt h next = let g = glyph d lt in next (g.0, g.1, h)

onto : (k n : ℕ) (acc : List ℕ) → AreDigits acc → AreDigits (digits_onto k 10 false n acc)
onto zero n acc h = h
onto (suc k) n acc h =
    let next = digit_glyph false (n % 10) ∷ acc in
    last_or_more (nat_eq (n / 10) 0) (n % 10) acc (digits_onto k 10 false (n / 10) next) (remainder n) h (onto k (n / 10) next)

are_digits : (n : ℕ) → AreDigits (decimal n)
unfolding digits
are_digits n = onto 64 n [] tt

digits_free : (word : List ℕ) → AreDigits word → NoLineFeed word
digits_free [] h = tt
digits_free (b ∷ word) h = (omega (arith, h.0), digits_free word h.2)

pub number_free : (n : ℕ) → NoLineFeed (decimal n)
number_free n = digits_free (decimal n) (are_digits n)

table_free : (bytes : List ℕ) → NoLineFeed bytes → (i : ℕ) → slice_index bytes i ≢ 10
table_free [] h i = omega arith
table_free (b ∷ bytes) h zero = h.0
table_free (b ∷ bytes) h (suc i) = table_free bytes h.1 i

digit_free : (i : ℕ) → slice_index lower_digits i ≢ 10
digit_free i = table_free lower_digits free i where
  free : NoLineFeed lower_digits
  free = (omega arith, (omega arith, (omega arith, (omega arith, (omega arith, (omega arith, (omega arith, (omega arith, (omega arith, (omega arith, (omega arith, (omega arith, (omega arith, (omega arith, (omega arith, (omega arith, tt))))))))))))))))

pub hex_free : (bytes : List ℕ) → NoLineFeed (encode_lower bytes)
unfolding encode_with
hex_free [] = tt
hex_free (b ∷ bytes) = (digit_free (b / 16), (digit_free (b % 16), hex_free bytes))

-- ---- lines

-- a line and the line feed that ends it
pub record OneLine (x : List ℕ) : Type 0 where
  pub bytes : List ℕ
  pub free : NoLineFeed bytes
  pub is : x ≡ bytes ++ 10 ∷ []

behind : (w x : List ℕ) → NoLineFeed w → OneLine x → OneLine (w ++ x)
behind w x free line = record {
  bytes = w ++ line.bytes;
  free = NoLineFeed-append w line.bytes free line.free;
  is = ap (λ (y : List ℕ). w ++ y) line.is ∙ sym (append_assoc w line.bytes (10 ∷ []));
}

-- a text that does not begin as a line does that closes a block
abbrev OpensPlain : List ℕ → Type 0
OpensPlain x = ((rest : List ℕ) → x ≢ 111 ∷ rest) × ((rest : List ℕ) → x ≢ 114 ∷ 101 ∷ 102 ∷ rest)

begins_longer : (line bytes more : List ℕ) → BeginsWith line bytes → BeginsWith (line ++ more) bytes
begins_longer line bytes more b = (b.0 ++ more, ap (λ (y : List ℕ). y ++ more) b.1 ∙ append_assoc bytes b.0 more)

looks_plain : (line : List ℕ) → OpensPlain (line ++ 10 ∷ []) → LooksClosing line → ⊥
unfolding begins_longer
looks_plain line plain looks = ⊎_elim
    (λ (b : BeginsWith line (codes "ok ")). plain.0 (107 ∷ 32 ∷ (b.0 ++ 10 ∷ [])) (begins_longer line (codes "ok ") (10 ∷ []) b).1)
    (λ (b : BeginsWith line (codes "refused ")). plain.1 (117 ∷ 115 ∷ 101 ∷ 100 ∷ 32 ∷ (b.0 ++ 10 ∷ [])) (begins_longer line (codes "refused ") (10 ∷ []) b).1)
    looks

number_opens : (n b : ℕ) (rest : List ℕ) → b ≢ 111 → b ≢ 114 → OpensPlain (decimal n ++ b ∷ rest)
number_opens n b rest first second = from (decimal n) (are_digits n) where
  from : (w : List ℕ) → AreDigits w → OpensPlain (w ++ b ∷ rest)
  from [] h = (λ (more : List ℕ) (e : b ∷ rest ≡ 111 ∷ more). first cc, λ (more : List ℕ) (e : b ∷ rest ≡ 114 ∷ 101 ∷ 102 ∷ more). second cc)
  from (d ∷ w) h =
      let less : d < 58 = h.1 in (
        λ (more : List ℕ) (e : d ∷ (w ++ b ∷ rest) ≡ 111 ∷ more). let is : d ≡ 111 = cc in omega arith,
        λ (more : List ℕ) (e : d ∷ (w ++ b ∷ rest) ≡ 114 ∷ 101 ∷ 102 ∷ more). let is : d ≡ 114 = cc in omega arith,
      )

abbrev third_plain : List ℕ → Bool
third_plain [] = true
third_plain (b ∷ []) = true
third_plain (b ∷ c ∷ more) = not (nat_eq c 102)

-- whether a text opens so, by its first and its third byte
abbrev pub opens_plain : List ℕ → Bool
opens_plain [] = true
opens_plain (a ∷ more) = not (nat_eq a 111) && (not (nat_eq a 114) || third_plain more)

opens : (x : List ℕ) → opens_plain x ≡ true → OpensPlain x
opens x plain = (
  λ (rest : List ℕ) (e : x ≡ 111 ∷ rest). let bad : false ≡ true = subst (λ (y : List ℕ). opens_plain y ≡ true) e plain in absurd cc,
  λ (rest : List ℕ) (e : x ≡ 114 ∷ 101 ∷ 102 ∷ rest). let bad : false ≡ true = subst (λ (y : List ℕ). opens_plain y ≡ true) e plain in absurd cc,
)

-- ---- texts

-- A text of plain lines: before any such text it gives one.
pub record Plain (x : List ℕ) : Type 0 where
  pub before : (y : List ℕ) → All IsPlain (input_lines y) → All IsPlain (input_lines (x ++ y))

pub none : Plain []
none = record { before = λ (y : List ℕ) (p : All IsPlain (input_lines y)). p }

pub both : (x y : List ℕ) → Plain x → Plain y → Plain (x ++ y)
both x y p q = record {
  before = λ (z : List ℕ) (r : All IsPlain (input_lines z)). subst (λ (t : List ℕ). All IsPlain (input_lines t)) (sym (append_assoc x y z)) (p.before (y ++ z) (q.before z r));
}

one : (x : List ℕ) → OneLine x → OpensPlain x → Plain x
one x line plain = subst Plain (sym line.is) (record {
  before = λ (y : List ℕ) (p : All IsPlain (input_lines y)).
      subst (λ (t : List ℕ). All IsPlain (input_lines t)) (sym (append_assoc line.bytes (10 ∷ []) y))
      (subst (λ (ls : List InputLine). All IsPlain ls) (sym (input_lines-whole line.bytes y line.free))
      (All-cons IsPlain (record { bytes = line.bytes; ended = true }) (input_lines y)
      (record { ended = refl; plain = looks_plain line.bytes (subst OpensPlain line.is plain) }) p));
})

pub each : {X : Type 0} (line : X → List ℕ) (xs : List X) → ((x : X) → Plain (line x)) → Plain (flat_map line xs)
each line [] p = none
each line (x ∷ xs) p = both (line x) (flat_map line xs) (p x) (each line xs p)

pub whole : (x : List ℕ) → Plain x → All IsPlain (input_lines x)
whole x p = subst (λ (t : List ℕ). All IsPlain (input_lines t)) (append-nil x) (p.before [] (All-nil IsPlain))

-- ---- texts of words and numbers, which the rules below walk byte by byte

-- the rest of a line, and plain lines after it
pub record Rest (x : List ℕ) : Type 0 where
  pub line : List ℕ
  pub more : List ℕ
  pub is_line : OneLine line
  pub plain : Plain more
  pub is : x ≡ line ++ more

pub ended : (y : List ℕ) → Plain y → Rest (10 ∷ y)
ended y plain = record { line = 10 ∷ []; more = y; is_line = record { bytes = []; free = tt; is = refl }; plain = plain; is = refl }

pub further : (w x : List ℕ) → NoLineFeed w → Rest x → Rest (w ++ x)
further w x free rest = record {
  line = w ++ rest.line;
  more = rest.more;
  is_line = behind w rest.line free rest.is_line;
  plain = rest.plain;
  is = ap (λ (y : List ℕ). w ++ y) rest.is ∙ sym (append_assoc w rest.line rest.more);
}

pub byte : (b : ℕ) (x : List ℕ) → nat_eq b 10 ≡ false → Rest x → Rest (b ∷ x)
byte b x other rest = further (b ∷ []) x (grind (arith, nat_tests), tt) rest

pub number : (n : ℕ) (x : List ℕ) → Rest x → Rest (decimal n ++ x)
number n x rest = further (decimal n) x (number_free n) rest

pub hex : (bytes x : List ℕ) → Rest x → Rest (encode_lower bytes ++ x)
hex bytes x rest = further (encode_lower bytes) x (hex_free bytes) rest

-- how many there are, and their lines
pub counted : (n : ℕ) (y : List ℕ) → Plain y → Rest ((decimal n ++ codes "\n") ++ y)
counted n y plain = subst Rest (sym (append_assoc (decimal n) (codes "\n") y)) (number n (10 ∷ y) (ended y plain))

opens_shorter : (x y : List ℕ) → OpensPlain (x ++ y) → OpensPlain x
opens_shorter x y plain = (
  λ (rest : List ℕ) (e : x ≡ 111 ∷ rest). plain.0 (rest ++ y) (ap (λ (t : List ℕ). t ++ y) e),
  λ (rest : List ℕ) (e : x ≡ 114 ∷ 101 ∷ 102 ∷ rest). plain.1 (rest ++ y) (ap (λ (t : List ℕ). t ++ y) e),
)

begun : (x : List ℕ) → OpensPlain x → Rest x → Plain x
begun x plain rest = subst Plain (sym rest.is) (both rest.line rest.more (one rest.line rest.is_line (opens_shorter rest.line rest.more (subst OpensPlain rest.is plain))) rest.plain)

-- a text that begins with a word
pub worded : (x : List ℕ) → opens_plain x ≡ true → Rest x → Plain x
worded x plain rest = begun x (opens x plain) rest

-- or with a number, and a byte after it
pub numbered : (n b : ℕ) (x : List ℕ) → nat_eq b 111 ≡ false → nat_eq b 114 ≡ false → Rest (b ∷ x) → Plain (decimal n ++ b ∷ x)
numbered n b x first second rest = begun (decimal n ++ b ∷ x) (number_opens n b x (grind (arith, nat_tests)) (grind (arith, nat_tests))) (number n (b ∷ x) rest)

pub either : (b : Bool) (x y : List ℕ) → Plain x → Plain y → Plain (if b then x else y)
either true x y p q = p
either false x y p q = q

-- a line, if there is one
pub perhaps : {X : Type 0} (line : X → List ℕ) (o : Option X) → ((x : X) → Plain (line x)) → Plain (unwrap_or (option_map line o) [])
perhaps line None p = none
perhaps line (Some x) p = p x

-- A text of words, numbers and lists of such lines is plain by these, if its words are.
pub ruleset plain_rules = (none, each, ended, byte, number, hex, counted, worded, numbered, either, perhaps)
