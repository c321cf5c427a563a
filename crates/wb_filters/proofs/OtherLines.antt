-- Lines that neither filter turns.
use Rattle.std.proofs.Common.{◌≡◌, ◌≢◌, ℕ, Bool, true, false, List, [], ◌∷◌, Ok, Some, None, refl, sym, ap, subst, ◌∙◌, arith, Option, All, codes, bytes_eq}
use Rattle.std.proofs.lemmas.Slice.Eq.{bytes_eq-Decides}
use Rattle.wb_words.specs.declared.fault.WordFault.TheVariants as word_faults
use Rattle.wb_words.specs.Words.{words, split_once}
use Rattle.wb_words.specs.Reading.{wrong, datagram_at}
use Rattle.wb_words.proofs.Splitting.{words_split_once}
use Rattle.wb_words.proofs.SpellingLaws.{first_read}
use Rattle.wb_filters.specs.Turning.{carrier_of, sent_part, hexed_by, hexed_in, worded_by, worded_at, worded}
use Rattle.wb_filters.specs.Laws.{openers, OtherLinesStay}

differ : (xs ys : List ℕ) → xs ≢ ys → bytes_eq xs ys ≡ false
differ xs ys ne = at (bytes_eq xs ys) refl where
  at : (t : Bool) → bytes_eq xs ys ≡ t → bytes_eq xs ys ≡ false
  at true e = absurd (ne ((bytes_eq-Decides xs ys).0 e))
  at false e = e

first_of : (v w : List ℕ) (vs ws : List (List ℕ)) → v ∷ vs ≡ w ∷ ws → v ≡ w
first_of v w vs ws e = cc

abbrev IsNoOpener : List ℕ → Type 0
IsNoOpener word = All (λ opener. word ≢ opener) openers

no_kind : (word : List ℕ) (ws : List (List ℕ)) → IsNoOpener word → datagram_at word ws ≡ wrong 1 word_faults.Unknown
unfolding datagram_at
no_kind word ws h = rw (differ word (codes "draw") (h 0 [] (omega arith)), differ word (codes "session-message") (h 1 [] (omega arith)), differ word (codes "request") (h 2 [] (omega arith)), differ word (codes "ask-pages") (h 3 [] (omega arith)), differ word (codes "page-state") (h 4 [] (omega arith))) refl

no_carrier : (word : List ℕ) → IsNoOpener word → carrier_of word ≡ None
no_carrier word h = rw (differ word (codes "arrive") (h 5 [] (omega arith)), differ word (codes "hear") (h 6 [] (omega arith)), differ word (codes "send") (h 7 [] (omega arith))) refl

not_sent : (word : List ℕ) → IsNoOpener word → bytes_eq word (codes "send") ≡ false
not_sent word h = differ word (codes "send") (h 7 [] (omega arith))

-- what stands before the first space is the first word
split_once_first : (line word w rest : List ℕ) (others : List (List ℕ)) → words line ≡ word ∷ others → split_once 32 line ≡ Some (w, rest) → word ≡ w
split_once_first line word w rest others e p = first_of word w others (words rest) (sym e ∙ words_split_once line w rest p)

none_sent : (line word : List ℕ) (others : List (List ℕ)) → words line ≡ word ∷ others → IsNoOpener word → sent_part (split_once 32 line) ≡ None
none_sent line word others e h = at (split_once 32 line) refl where
  at : (parts : Option (List ℕ × List ℕ)) → split_once 32 line ≡ parts → sent_part parts ≡ None
  at None p = refl
  at (Some (w, rest)) p = rw (not_sent w (subst IsNoOpener (split_once_first line word w rest others e p) h)) refl

left_by_words : (line word : List ℕ) (others : List (List ℕ)) → words line ≡ word ∷ others → IsNoOpener word → worded line ≡ Ok line
left_by_words line word others e h = at (split_once 32 line) refl where
  at : (parts : Option (List ℕ × List ℕ)) → split_once 32 line ≡ parts → worded_at line parts ≡ Ok line
  at None p = refl
  at (Some (w, rest)) p = ap (worded_by line rest) (no_carrier w (subst IsNoOpener (split_once_first line word w rest others e p) h))

pub other_lines_stay : OtherLinesStay
other_lines_stay line word others e h = (ap (hexed_by line) (none_sent line word others e h) ∙ ap (hexed_in line) (first_read line word others e ∙ no_kind word others h), left_by_words line word others e h)
