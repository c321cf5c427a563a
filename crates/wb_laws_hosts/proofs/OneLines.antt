-- What a lawful operation says is one line.
use Rattle.std.proofs.Common.{◌≡◌, ◌≤◌, ℕ, true, List, [], ◌∷◌, None, arith, nat_le, All}
use Rattle.std.specs.List.{list_all}
use Rattle.std.proofs.lemmas.Bool.{and_parts, leb-true}
use Rattle.std.proofs.lemmas.Bool.Decides.{nat_tests}
use Rattle.std.proofs.lemmas.List.Elements.{All-nil, All-cons, All-head, All-tail}
use Rattle.wb_names.specs.Values.{NameValue, DrawopValue}
use Rattle.wb_names.specs.Drawing.{IsLawful, text_fault, is_printable}
use Rattle.wb_names.specs.declared.parts.Op.{Op}
use Rattle.wb_names.specs.declared.parts.Op.TheVariants.{Drawn, Text, Aimed}
use Rattle.wb_codec.specs.Ranges.{IsDrawop}
use Rattle.wb_words.proofs.Visible.{glyph_seen}
use Rattle.wb_lines.specs.Ahead.{NoLineFeed}
use Rattle.wb_laws_hosts.specs.Closings.{IsOneLine, AreOneLine}

printed : (text : List ℕ) → list_all is_printable text ≡ true → NoLineFeed text
printed [] e = tt
printed (b ∷ text) e =
    let p = and_parts (is_printable b) (list_all is_printable text) e in
    let q = and_parts (nat_le 32 b) (nat_le b 126) p.0 in
    let least : 32 ≤ b = leb-true 32 b q.0 in
    (omega arith, printed text p.1)

text_seen : (x y : ℕ) (text : List ℕ) → text_fault x y text ≡ None → NoLineFeed text
text_seen x y text e = let printable : list_all is_printable text ≡ true = grind (arith, nat_tests) in printed text printable

pub lawful_line : (name : NameValue) (op : Op) → IsLawful name op → IsOneLine op
lawful_line name (Drawn figure s) e = let least : 32 ≤ s.glyph = glyph_seen s e in omega arith
lawful_line name (Text x y text) e = text_seen x y text e
lawful_line name (Aimed change t) e = tt

pub board_lines : (ds : List DrawopValue) → All IsDrawop ds → AreOneLine ds
board_lines [] h = All-nil (λ (d : DrawopValue). IsOneLine d.op)
board_lines (d ∷ ds) h = All-cons (λ (e : DrawopValue). IsOneLine e.op) d ds (lawful_line d.name d.op (All-head IsDrawop d ds h).lawful) (board_lines ds (All-tail IsDrawop d ds h))
