-- The only words of a line, by its first two and the rest.
use Rattle.std.proofs.Common.{◌≡◌, ℕ, List, [], ◌∷◌, refl, sym, ap, ◌∙◌, Some, option_map}
use Rattle.wb_commands.specs.Parsing.{two_of, four_of}

two_more : (a b : List ℕ) (rest : List (List ℕ)) → option_map (λ (x : List ℕ × List ℕ). (a, b, x.0, x.1)) (two_of rest) ≡ four_of (a ∷ b ∷ rest)
two_more a b (c ∷ d ∷ []) = refl
two_more a b rest = refl

pub four_found : (line after rest : List (List ℕ)) (a b c d : List ℕ) → line ≡ a ∷ after → after ≡ b ∷ rest → Some (c, d) ≡ two_of rest → Some (a, b, c, d) ≡ four_of line
four_found line after rest a b c d first second others =
    ap (option_map (λ (x : List ℕ × List ℕ). (a, b, x.0, x.1))) others ∙ two_more a b rest ∙ ap four_of (sym (first ∙ ap (λ (t : List (List ℕ)). a ∷ t) second))
