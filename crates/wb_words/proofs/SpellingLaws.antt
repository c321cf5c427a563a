-- The two laws of the readable form: what is read is spelled so, and what is spelled so is read.
use Rattle.std.proofs.lemmas.Grind.{common_steps}
use Rattle.std.proofs.Common.{◌≡◌, ℕ, ◌^◌, ◌<◌, Bool, true, false, None, List, [], ◌∷◌, ◌++◌, Result, Ok, Err, refl, sym, ap, ◌∙◌, arith, inl, inr}
use Rattle.std.specs.Prelude.{map, nat_eq, not, codes, decimal, ◌⊎◌, IfOk}
use Rattle.std.specs.List.{list_all}
use Rattle.std.proofs.lemmas.Bool.Decides.{nat_tests}
use Rattle.std.proofs.lemmas.List.Elements.{All-cons, All-nil}
use Rattle.std.proofs.lemmas.Bool.{and_parts, not-true}
use Rattle.wb_names.specs.Values.{NameValue}
use Rattle.wb_names.specs.Drawing.{IsLawful, stroke_fault}
use Rattle.wb_names.specs.declared.parts.Stroke.{Stroke}
use Rattle.wb_names.specs.Kinds.{op_kind}
use Rattle.wb_names.specs.declared.parts.OpKind.{OpKind}
use Rattle.wb_names.specs.declared.parts.Op.{Op}
use Rattle.wb_names.specs.declared.parts.Op.TheVariants.{Drawn, Text, Aimed}
use Rattle.wb_codec.specs.declared.datagram.Datagram.{Datagram}
use Rattle.wb_codec.specs.declared.datagram.Datagram.TheVariants.{Draw, Session, Request, AskPages, PageState}
use Rattle.wb_codec.specs.Ranges.{IsName, HasTarget, IsMark, IsEcho, IsDatagram}
use Rattle.wb_codec.proofs.Lawful.{lawful_stroke, lawful_text}
use Rattle.wb_words.specs.declared.fault.WordsFault.{WordsFault}
use Rattle.wb_words.specs.declared.fault.WordsFault.TheVariants.{Word, Memory}
use Rattle.wb_words.specs.declared.fault.WrongWord.{WrongWord}
use Rattle.wb_words.specs.Words.{words, joined}
use Rattle.wb_words.specs.Spelling.{page_word, mark_word, echo_word, stroke_words, kind_word, field_words, op_words, name_words, word_list, spelled}
use Rattle.wb_words.specs.Reading.{MayGive, datagram_at, reading_of, reading}
use Rattle.wb_words.specs.Grammar.{Says}
use Rattle.wb_words.proofs.EntryLists.{ok_is}
use Rattle.wb_words.proofs.Splitting.{NoSpace, NoSpaces, NoSpaces-words, NoSpaces-append, NoSpaces-map, words_joined, joined_words}
use Rattle.wb_words.proofs.WordLaws.{decimal_space, page_space, mark_space, echo_space}
use Rattle.wb_words.proofs.LineLaws.{reading_takes, reading_again}

-- ---- no word of a spelling has a space

abbrev other : ℕ → Bool
other b = not (nat_eq b 32)

tested : (word : List ℕ) → list_all other word ≡ true → NoSpace word
tested [] e = All-nil (λ b. nat_eq b 32 ≡ false)
tested (b ∷ word) e = let p = and_parts (other b) (list_all other word) e in All-cons (λ b. nat_eq b 32 ≡ false) b word (not-true (nat_eq b 32) p.0) (tested word p.1)

space32 : (n : ℕ) → n < 2 ^ 32 → NoSpace (decimal n)
space32 n lt = decimal_space n (omega arith)

space12 : (n : ℕ) → n < 2 ^ 12 → NoSpace (decimal n)
space12 n lt = decimal_space n (omega arith)

visible : (s : Stroke) → stroke_fault s ≡ None → nat_eq s.glyph 32 ≡ false
visible s e = grind (arith, nat_tests)

stroke_space : (s : Stroke) → stroke_fault s ≡ None → NoSpaces (stroke_words s)
stroke_space s e = grind (arith, common_steps, lawful_stroke, space12, All-cons, visible, All-nil)

kind_space : (kind : OpKind) → NoSpace (kind_word kind)
kind_space kind = grind (arith, common_steps, tested, other)

fields_space : (name : NameValue) (op : Op) → IsLawful name op → HasTarget op → NoSpaces (field_words op)
fields_space name (Drawn figure s) lawful target = stroke_space s lawful
fields_space name (Text x y text) lawful target = grind (arith, common_steps, lawful_text, space12, NoSpaces-words)
fields_space name (Aimed change t) lawful target = (space32 t.source target.0, (space32 t.seq target.1, tt))

op_space : (name : NameValue) (op : Op) → IsLawful name op → HasTarget op → NoSpaces (op_words op)
op_space name op lawful target = (kind_space (op_kind op), fields_space name op lawful target)

name_space : (n : NameValue) (more : List (List ℕ)) → IsName n → NoSpaces more → NoSpaces (name_words n more)
name_space n more fits h = grind (arith, common_steps, space32, page_space)

pub words_spelled : (v : Datagram) → IsDatagram v → words (spelled v) ≡ word_list v
words_spelled (Draw d) fits = words_joined (codes "draw") (name_words d.name (decimal d.time ∷ op_words d.op)) (tested (codes "draw") refl, name_space d.name (decimal d.time ∷ op_words d.op) fits.name (decimal_space d.time fits.time, op_space d.name d.op fits.lawful fits.target))
words_spelled (Session sender sent page marks echoes) fits =
    words_joined (codes "session-message") (decimal sender ∷ decimal sent ∷ page_word page ∷ (map mark_word marks ++ map echo_word echoes))
    (tested (codes "session-message") refl, (space32 sender fits.sender-fits, (decimal_space sent fits.sent-fits, (page_space page fits.page-fits, NoSpaces-append (map mark_word marks) (map echo_word echoes) (NoSpaces-map mark_word IsMark mark_space marks fits.marks-fit.ranges) (NoSpaces-map echo_word IsEcho echo_space echoes fits.echoes-fit.ranges)))))
words_spelled (Request asker name) fits = words_joined (codes "request") (decimal asker ∷ name_words name []) (tested (codes "request") refl, (space32 asker fits.0, name_space name [] fits.1 tt))
words_spelled (AskPages asker) fits = words_joined (codes "ask-pages") (decimal asker ∷ []) (tested (codes "ask-pages") refl, (space32 asker fits, tt))
words_spelled (PageState sender page marks) fits = words_joined (codes "page-state") (decimal sender ∷ page_word page ∷ map mark_word marks) (tested (codes "page-state") refl, (space32 sender fits.sender-fits, (page_space page fits.page-fits, NoSpaces-map mark_word IsMark mark_space marks fits.marks-fit.ranges)))

-- ---- the laws

pub said_so : (line : List ℕ) (v : Datagram) → reading line ≡ Ok v → Says line v
said_so line v e =
    let t = reading_takes (words line) v (NoSpaces-words line) e in
    (t.1, sym (joined_words line) ∙ ap joined t.0)

pub read_again : (line : List ℕ) (v : Datagram) → Says line v → reading line ≡ Ok v
read_again line v says = grind (arith, common_steps, words_spelled, reading_again)

-- one line, one datagram
pub one_spelling : (v w : Datagram) → IsDatagram v → IsDatagram w → spelled v ≡ spelled w → v ≡ w
one_spelling v w hv hw e = ok_is v w (sym (read_again (spelled v) v (hv, refl)) ∙ ap reading e ∙ read_again (spelled w) w (hw, refl))

-- ---- what the code answers

pub first_read : (line word : List ℕ) (ws : List (List ℕ)) → words line ≡ word ∷ ws → reading line ≡ datagram_at word ws
unfolding reading_of
first_read line word ws e = ap reading_of e

pub answer_same : (r : Result Datagram WordsFault) (a b : Result Datagram WrongWord) → a ≡ b → MayGive (λ v. v) r b → MayGive (λ v. v) r a
answer_same r a b e h = rw e h

pub answer_found : (line : List ℕ) (r : Result Datagram WordsFault) → MayGive (λ v. v) r (reading line) → IfOk r (Says line)
answer_found line (Ok v) h = said_so line v h
answer_found line (Err e) h = tt

pub answer_only : (line : List ℕ) (r : Result Datagram WordsFault) → MayGive (λ v. v) r (reading line) → (v : Datagram) → Says line v → (r ≡ Ok v) ⊎ (r ≡ Err Memory)
answer_only line (Ok w) h v says = inl (ap (λ u. Ok u) (ok_is w v (sym h ∙ read_again line v says)))
answer_only line (Err (Word wrong)) h v says = let e = sym h ∙ read_again line v says in absurd cc
answer_only line (Err Memory) h v says = inr refl
