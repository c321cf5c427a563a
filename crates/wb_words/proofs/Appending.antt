-- Words added one after another.
use Rattle.std.proofs.Common.{◌≡◌, ℕ, List, [], ◌∷◌, ◌++◌, sym, ap, ◌∙◌, append_assoc, append-nil}
use Rattle.std.specs.Prelude.{codes, decimal}
use Rattle.std.proofs.lemmas.Grind.{flat_map-append}
use Rattle.wb_words.specs.Words.{words, joined}
use Rattle.wb_names.specs.declared.parts.Stroke.{Stroke}
use Rattle.wb_words.specs.Spelling.{stroke_words, quoted, tailed}
use Rattle.wb_words.proofs.Splitting.{has_word, joined_words}

-- a text added, and another behind it
pub glued : (o a b text tail whole : List ℕ) → a ≡ o ++ text → b ≡ a ++ tail → text ++ tail ≡ whole → b ≡ o ++ whole
glued o a b text tail whole e f g = f ∙ ap (λ t. t ++ tail) e ∙ append_assoc o text tail ∙ ap (λ t. o ++ t) g

pub joined_tailed : (w : List ℕ) (ws : List (List ℕ)) → joined (w ∷ ws) ≡ w ++ tailed ws
joined_tailed w [] = sym (append-nil w)
joined_tailed w (v ∷ ws) = ap (λ t. w ++ 32 ∷ t) (joined_tailed v ws)

-- the words of a text in quotes, a space before each
pub tailed_words : (line : List ℕ) → tailed (words line) ≡ 32 ∷ line
tailed_words line =
    let h = has_word line in
    let whole : joined (h.first ∷ h.others) ≡ line = ap joined (sym h.is) ∙ joined_words line in
    ap tailed h.is ∙ ap (λ t. 32 ∷ t) (sym (joined_tailed h.first h.others) ∙ whole)

pub stroke_text : (word : List ℕ) (s : Stroke) → (codes " " ++ (word ++ (codes " " ++ (decimal s.x0 ++ (codes " " ++ (decimal s.y0 ++ (codes " " ++ (decimal s.x1 ++ (codes " " ++ (decimal s.y1 ++ codes " ")))))))))) ++ s.glyph ∷ [] ≡ tailed (word ∷ stroke_words s)
stroke_text word s = simp append_assoc

pub text_text : (word : List ℕ) (x y : ℕ) (text : List ℕ) → (codes " " ++ (word ++ (codes " " ++ (decimal x ++ (codes " " ++ decimal y))))) ++ 32 ∷ quoted text ≡ tailed (word ∷ decimal x ∷ decimal y ∷ words (quoted text))
text_text word x y text = ap (λ t. (codes " " ++ (word ++ (codes " " ++ (decimal x ++ (codes " " ++ decimal y))))) ++ t) (sym (tailed_words (quoted text))) ∙ simp append_assoc

-- ---- whole lines

pub draw_text : (source creator number seq time : ℕ) (op : List (List ℕ)) → (codes "draw " ++ (decimal source ++ (codes " " ++ (decimal creator ++ (codes "/" ++ (decimal number ++ (codes " " ++ (decimal seq ++ (codes " " ++ decimal time))))))))) ++ tailed op
    ≡ joined (codes "draw" ∷ decimal source ∷ (decimal creator ++ 47 ∷ decimal number) ∷ decimal seq ∷ decimal time ∷ op)
draw_text source creator number seq time op = rw joined_tailed (simp append_assoc)

pub session_text : (sender sent creator number : ℕ) (marks echoes : List (List ℕ)) → ((codes "session-message " ++ (decimal sender ++ (codes " " ++ (decimal sent ++ (codes " " ++ (decimal creator ++ (codes "/" ++ decimal number))))))) ++ tailed marks) ++ tailed echoes
    ≡ joined (codes "session-message" ∷ decimal sender ∷ decimal sent ∷ (decimal creator ++ 47 ∷ decimal number) ∷ (marks ++ echoes))
session_text sender sent creator number marks echoes = rw joined_tailed (simp (append_assoc, flat_map-append))

pub page_state_text : (sender creator number : ℕ) (marks : List (List ℕ)) → (codes "page-state " ++ (decimal sender ++ (codes " " ++ (decimal creator ++ (codes "/" ++ decimal number))))) ++ tailed marks
    ≡ joined (codes "page-state" ∷ decimal sender ∷ (decimal creator ++ 47 ∷ decimal number) ∷ marks)
page_state_text sender creator number marks = rw joined_tailed (simp append_assoc)
