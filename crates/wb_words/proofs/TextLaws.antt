-- Texts in quotes: what is read is the text that was quoted, and what was quoted is read again.
use Rattle.std.proofs.Common.{arith}
use Rattle.std.proofs.lemmas.Grind.{common_steps}
use Rattle.std.proofs.lemmas.Bool.Decides.{nat_tests}
use Rattle.std.proofs.Common.{◌≡◌, ℕ, Bool, true, false, cond, Some, None, List, [], ◌∷◌, ◌++◌, length, refl, sym, ap, ◌∙◌, append_assoc, append-nil}
use Rattle.std.specs.Prelude.{nat_eq, flat_map}
use Rattle.std.proofs.lemmas.Bool.{eqb-true, or_from, or_parts}
use Rattle.std.proofs.lemmas.List.{nil_from_length}
use Rattle.wb_words.specs.Words.{is_special, text_after, text_in}
use Rattle.wb_words.specs.Spelling.{escaped, quoted}
use Rattle.wb_words.proofs.Splitting.{chosen, some_is}

escaped_special : (b : ℕ) → is_special b ≡ true → escaped b ≡ 92 ∷ b ∷ []
escaped_special b e = ap (λ (t : Bool). cond t (92 ∷ b ∷ []) (b ∷ [])) e

escaped_plain : (b : ℕ) → is_special b ≡ false → escaped b ≡ b ∷ []
escaped_plain b e = ap (λ (t : Bool). cond t (92 ∷ b ∷ []) (b ∷ [])) e

-- what has been read of a backslash
abbrev lead : Bool → List ℕ
lead true = 92 ∷ []
lead false = []

record Unquoted (passed : List ℕ) (front : Bool) (bytes text : List ℕ) : Type 0 where
  rest : List ℕ
  is : text ≡ passed ++ rest
  spelled : lead front ++ bytes ≡ flat_map escaped rest ++ 34 ∷ []

one_more : (passed : List ℕ) (b : ℕ) (bytes text : List ℕ) (front : Bool) → lead front ++ b ∷ [] ≡ escaped b → Unquoted (passed ++ b ∷ []) false bytes text → Unquoted passed front (b ∷ bytes) text
one_more passed b bytes text front e u = record {
  rest = b ∷ u.rest;
  is = u.is ∙ append_assoc passed (b ∷ []) u.rest;
  spelled = sym (append_assoc (lead front) (b ∷ []) bytes) ∙ ap (λ t. t ++ bytes) e ∙ ap (λ t. escaped b ++ t) u.spelled ∙ sym (append_assoc (escaped b) (flat_map escaped u.rest) (34 ∷ []));
}

unquoted : (passed : List ℕ) (front : Bool) (bytes text : List ℕ) → text_after passed front bytes ≡ Some text → Unquoted passed front bytes text
unquoted passed front [] text e = absurd cc
unquoted passed true (b ∷ bytes) text e = grind (arith, common_steps, nat_tests, one_more, escaped_special, chosen, unquoted (passed ++ b ∷ []) false bytes text)
unquoted passed false (b ∷ bytes) text e = by (unquoted passed true bytes text) (unquoted (passed ++ b ∷ []) false bytes text) (nat_eq b 34) refl (nat_eq b 92) refl where
  closed : (t : Bool) → nat_eq (length bytes) 0 ≡ t → cond t (Some passed) None ≡ Some text → (bytes ≡ []) × (passed ≡ text)
  closed true h f = (nil_from_length bytes (eqb-true (length bytes) 0 h), some_is passed text f)
  closed false h f = absurd cc

  by : (text_after passed true bytes ≡ Some text → Unquoted passed true bytes text) → (text_after (passed ++ b ∷ []) false bytes ≡ Some text → Unquoted (passed ++ b ∷ []) false bytes text)
      → (q : Bool) → nat_eq b 34 ≡ q → (s : Bool) → nat_eq b 92 ≡ s → Unquoted passed false (b ∷ bytes) text
  by slash later true h s k =
      let ends = closed (nat_eq (length bytes) 0) refl ((chosen (nat_eq b 34) _ _ _ e).first h) in
      let quote : b ≡ 34 = eqb-true b 34 h in
      record { rest = []; is = sym ends.1 ∙ sym (append-nil passed); spelled = ap (λ c. c ∷ bytes) quote ∙ ap (λ t. 34 ∷ t) ends.0 }
  by slash later false h true k =
      let rest = slash ((chosen (nat_eq b 92) _ _ _ ((chosen (nat_eq b 34) _ _ _ e).second h)).first k) in
      let backslash : b ≡ 92 = eqb-true b 92 k in
      record { rest = rest.rest; is = rest.is; spelled = ap (λ c. c ∷ bytes) backslash ∙ rest.spelled }
  by slash later false h false k = grind (arith, common_steps, nat_tests, or_from, one_more, escaped_plain, chosen)

pub text_takes : (bytes text : List ℕ) → text_in bytes ≡ Some text → bytes ≡ quoted text
text_takes [] text e = absurd cc
text_takes (b ∷ bytes) text e = by (nat_eq b 34) refl where
  by : (t : Bool) → nat_eq b 34 ≡ t → b ∷ bytes ≡ quoted text
  by true h =
      let u = unquoted [] false bytes text ((chosen (nat_eq b 34) _ _ _ e).first h) in
      let quote : b ≡ 34 = eqb-true b 34 h in
      ap (λ c. c ∷ bytes) quote ∙ ap (λ t. 34 ∷ t) u.spelled ∙ ap (λ t. 34 ∷ (flat_map escaped t ++ 34 ∷ [])) (sym u.is)
  by false h = let none = (chosen (nat_eq b 34) _ _ _ e).second h in absurd cc

quoted_again : (passed text : List ℕ) → text_after passed false (flat_map escaped text ++ 34 ∷ []) ≡ Some (passed ++ text)
quoted_again passed [] = ap (λ t. Some t) (sym (append-nil passed))
quoted_again passed (b ∷ text) =
    ap (text_after passed false) (append_assoc (escaped b) (flat_map escaped text) (34 ∷ [])) ∙ by (flat_map escaped text ++ 34 ∷ []) (is_special b) refl ∙ quoted_again (passed ++ b ∷ []) text ∙ ap (λ t. Some t) (append_assoc passed (b ∷ []) text)
  where
    by : (rest : List ℕ) (t : Bool) → is_special b ≡ t → text_after passed false (escaped b ++ rest) ≡ text_after (passed ++ b ∷ []) false rest
    by rest true h = ap (λ t. text_after passed false (t ++ rest)) (escaped_special b h) ∙ rw h refl
    by rest false h = grind (arith, common_steps, nat_tests, or_parts, escaped_plain)

pub text_again : (text : List ℕ) → text_in (quoted text) ≡ Some text
text_again text = quoted_again [] text
