use Rattle.std.proofs.Common.{◌≡◌, ℕ, List, [], ◌∷◌, Some, refl, sym, ap, ◌∙◌, option_map}
use Rattle.wb_lines.specs.Words.{words}
use Rattle.wb_commands.specs.Parsing.{four_of}
use Rattle.wb_dialog.specs.Words.{six_of}
use Rattle.wb_dialog.proofs.words.six_words.Goals as goal

two_more : (a b : List ℕ) (rest : List (List ℕ)) → option_map (λ (x : List ℕ × List ℕ × List ℕ × List ℕ). (a, b, x.0, x.1, x.2, x.3)) (four_of rest) ≡ six_of (a ∷ b ∷ rest)
two_more a b (c ∷ d ∷ e ∷ f ∷ []) = refl
two_more a b rest = refl

six_found : (line after rest : List (List ℕ)) (a b c d e f : List ℕ) → line ≡ a ∷ after → after ≡ b ∷ rest → Some (c, d, e, f) ≡ four_of rest → Some (a, b, c, d, e, f) ≡ six_of line
six_found line after rest a b c d e f first second others =
    ap (option_map (λ (x : List ℕ × List ℕ × List ℕ × List ℕ). (a, b, x.0, x.1, x.2, x.3))) others ∙ two_more a b rest ∙ ap six_of (sym (first ∙ ap (λ (t : List (List ℕ)). a ∷ t) second))

pub returns : goal.returns
returns c = six_found (words c.args.rest.now) (words c.in_ok-first.rest.now) (words c.in_ok-second.rest.now) c.in_ok-first.first.now c.in_ok-second.second.now c.in_ok-third.third.now c.in_ok-third.fourth.now c.in_ok-third.fifth.now c.in_ok-third.sixth.now c.in_ok-first.ensures c.in_ok-second.ensures c.in_ok-third.ensures
