-- A record read back is the drawop that it was made from.
use Rattle.std.proofs.lemmas.Grind.{common_steps}
use Rattle.std.proofs.Common.{◌≡◌, ℕ, zero, suc, ◌+◌, ◌-◌, ◌*◌, ◌^◌, ◌<◌, Bool, true, List, ◌++◌, length, get_or, take, drop, replicate, map, Option, Some, None, Result, refl, sym, ap, subst, ◌∙◌, arith}
use Rattle.std.specs.List.{flat_map, range_with_len}
use Rattle.std.specs.Int.{w64, to_be_bytes}
use Rattle.std.proofs.lemmas.List.{drop_all, length-take, length-drop, length-append, length-replicate, drop-drop, take-append-drop}
use Rattle.std.proofs.lemmas.Nat.{be_bytes_8}
use Rattle.wb_names.specs.TextFields.{padded}
use Rattle.std.specs.Prelude.{nat_le, option_and_then, if◌then◌else◌}
use Rattle.std.proofs.lemmas.Bool.{le-leb}
use Rattle.std.specs.Result.{result_ok}
use Rattle.wb_names.specs.Values.{NameValue, DrawopValue}
use Rattle.wb_names.specs.Faults.{value_unless}
use Rattle.wb_names.specs.declared.fault.FieldFault.{FieldFault}
use Rattle.wb_names.specs.Drawing.{IsLawful, op_fault, seq_fault}
use Rattle.wb_names.specs.declared.parts.Stroke.{Stroke}
use Rattle.wb_names.specs.declared.parts.OpKind.{OpKind}
use Rattle.wb_names.specs.declared.parts.OpKind.TheVariants as kinds
use Rattle.wb_names.specs.declared.parts.Target.{Target}
use Rattle.wb_names.specs.declared.parts.Op.{Op}
use Rattle.wb_names.specs.declared.parts.Op.TheVariants.{Drawn, Text, Aimed}
use Rattle.wb_codec.specs.Ranges.{IsName, IsDrawop, HasTarget}
use Rattle.wb_codec.specs.Rows.{row_words, row, op_words, text_word, text_words, op_word, pair_word}
use Rattle.wb_codec.specs.RowReading.{high_half, low_half, code_in, byte_in, p_in, q_in, r_in, s_in, stroke_in, target_in, op_of_kind, op_in}
use Rattle.wb_codec.specs.Kinds.{op_code, op_kind_of}
use Rattle.wb_codec.proofs.DrawopLaws.{code_back}
use Rattle.wb_codec.proofs.Bytes.{IsBytes, IsBytes-take, IsBytes-drop, IsBytes-append, IsBytes-zeros}
use Rattle.wb_codec.proofs.Lawful.{IsText, lawful_stroke, lawful_text}

-- eight bytes at a time, what is read of a word is what it was made of
pub words_back : (bytes : List ℕ) (k n : ℕ) → length bytes ≡ 8 * (k + n) → IsBytes bytes → flat_map (to_be_bytes w64) (map (text_word bytes) (range_with_len k n)) ≡ drop (8 * k) bytes
words_back bytes k zero len fits = sym (drop_all (8 * k) bytes (omega arith))
words_back bytes k (suc n) len fits =
    let rest = drop (8 * k) bytes in
    let long : length rest ≡ 8 * suc n = omega (arith, length-drop (8 * k) bytes) in
    let front : to_be_bytes w64 (text_word bytes k) ≡ take 8 rest = be_bytes_8 (take 8 rest) (text_word bytes k) (omega (arith, length-take 8 rest)) (IsBytes-take 8 rest (IsBytes-drop (8 * k) bytes fits)) refl in
    let next : 8 * (k + 1) ≡ 8 * k + 8 = omega arith in
    let back : drop (8 * (k + 1)) bytes ≡ drop 8 rest = ap (λ (m : ℕ). drop m bytes) next ∙ sym (drop-drop 8 (8 * k) bytes) in
    let tail = words_back bytes (k + 1) n (omega arith) fits ∙ back in
    ap (λ (t : List ℕ). t ++ flat_map (to_be_bytes w64) (map (text_word bytes) (range_with_len (k + 1) n))) front ∙ ap (λ (t : List ℕ). take 8 rest ++ t) tail ∙ take-append-drop 8 rest

-- the bytes of a text's words are the text and zeros
pub text_back : (x y : ℕ) (text : List ℕ) → IsText x y text → flat_map (to_be_bytes w64) (text_words text) ≡ padded text
text_back x y text h = words_back (padded text) 0 8 (omega (arith, h.few_bytes, length-append text (replicate (64 - length text) 0), length-replicate {A = ℕ} (64 - length text) 0)) (IsBytes-append text (replicate (64 - length text) 0) h.bytes (IsBytes-zeros (64 - length text)))

pub record HasParts (word code byte p q r s : ℕ) : Type 0 where
  pub code-is : code_in word ≡ code
  pub byte-is : byte_in word ≡ byte
  pub p-is : p_in word ≡ p
  pub q-is : q_in word ≡ q
  pub r-is : r_in word ≡ r
  pub s-is : s_in word ≡ s

pub parts_back : (kind byte p q r s : ℕ) → byte < 2 ^ 8 → p < 2 ^ 12 → q < 2 ^ 12 → r < 2 ^ 12 → s < 2 ^ 12 → HasParts (op_word kind byte p q r s) kind byte p q r s
parts_back kind byte p q r s hb hp hq hr hs = grind (arith, common_steps)

stroke_back : (word kind : ℕ) (s : Stroke) → HasParts word kind s.glyph s.x0 s.y0 s.x1 s.y1 → stroke_in word ≡ s
stroke_back word kind s h = rw (h.p-is, h.q-is, h.r-is, h.s-is, h.byte-is) refl

-- the text's words read back: its front is the text
text_front : (x y n : ℕ) (text bytes : List ℕ) (word : ℕ) → HasParts word 3 (length text) x y 0 0 → bytes ≡ padded text → Text (p_in word) (q_in word) (take (byte_in word) bytes) ≡ Text x y text
text_front x y n text bytes word h e = grind (arith, common_steps)

target_back : (t : Target) → t.source < 2 ^ 32 → t.seq < 2 ^ 32 → target_in (pair_word t.source t.seq) ≡ t
target_back t hs hn = grind (arith, common_steps)

op_found : (kind : OpKind) (word target : ℕ) (bytes : List ℕ) → code_in word ≡ op_code kind → op_in word target bytes ≡ op_of_kind kind word target bytes
unfolding op_in
op_found kind word target bytes e = ap (λ (n : ℕ). option_and_then (λ k. op_of_kind k word target bytes) (op_kind_of n)) e ∙ ap (option_and_then (λ k. op_of_kind k word target bytes)) (code_back kind)

-- the operation's words read back
abbrev pub op_in_words : List ℕ → Option Op
op_in_words words = op_in (get_or words 0 0) (get_or words 1 0) (flat_map (to_be_bytes w64) (take 8 (drop 1 words)))

pub op_back : (name : NameValue) (op : Op) → IsLawful name op → HasTarget op → op_in_words (op_words op) ≡ Some op
op_back name (Drawn figure s) lawful fits =
    let f = lawful_stroke s lawful in
    let code = op_code (kinds.Drawn figure) in
    let word = op_word code s.glyph s.x0 s.y0 s.x1 s.y1 in
    let h = parts_back code s.glyph s.x0 s.y0 s.x1 s.y1 f.glyph-fits f.x0-fits f.y0-fits f.x1-fits f.y1-fits in
    op_found (kinds.Drawn figure) word _ _ h.code-is ∙ ap (λ (t : Stroke). Some (Drawn figure t)) (stroke_back word code s h)
op_back name (Text x y text) lawful fits =
    let t = lawful_text x y text lawful in
    let word = op_word 3 (length text) x y 0 0 in
    let bytes = flat_map (to_be_bytes w64) (text_words text) in
    let h = parts_back 3 (length text) x y 0 0 (omega (arith, t.few_bytes)) t.x-fits t.y-fits (omega arith) (omega arith) in
    let few : nat_le (byte_in word) 64 ≡ true = le-leb _ _ (omega (arith, h.byte-is, t.few_bytes)) in
    let whole : Option Op = Some (Text (p_in word) (q_in word) (take (byte_in word) bytes)) in
    op_found kinds.Text word (get_or (text_words text) 0 0) bytes h.code-is ∙ ap (λ (b : Bool). if b then whole else None) few ∙ ap Some (text_front x y 0 text bytes word h (text_back x y text t))
op_back name (Aimed change t) lawful fits =
    let code = op_code (kinds.Aimed change) in
    let h = parts_back code 0 0 0 0 0 (omega arith) (omega arith) (omega arith) (omega arith) (omega arith) in
    op_found (kinds.Aimed change) (op_word code 0 0 0 0 0) (pair_word t.source t.seq) _ h.code-is ∙ ap (λ (u : Target). Some (Aimed change u)) (target_back t fits.0 fits.1)

-- the operation read from the words of a record
pub row_op_back : (d : DrawopValue) (words bytes : List ℕ) (o : Option Op) → IsDrawop d → row d ≡ words → bytes ≡ flat_map (to_be_bytes w64) (take 8 (drop 4 words)) → o ≡ op_in (get_or words 3 0) (get_or words 4 0) bytes → o ≡ Some d.op
row_op_back d words bytes o h e b s = s ∙ ap (op_in (get_or words 3 0) (get_or words 4 0)) b ∙ subst (λ (ws : List ℕ). op_in (get_or ws 3 0) (get_or ws 4 0) (flat_map (to_be_bytes w64) (take 8 (drop 4 ws))) ≡ Some d.op) e (op_back d.name d.op h.lawful h.target)

one_drawop : (m n : NameValue) (t u : ℕ) (o p : Op) → m ≡ n → t ≡ u → o ≡ p → let a : DrawopValue = record { name = m; time = t; op = o } in let b : DrawopValue = record { name = n; time = u; op = p } in a ≡ b
one_drawop m n t u o p e f g = cc

-- the name made from the first two words
pub row_name_back : (d : DrawopValue) (words : List ℕ) (source seq creator number : ℕ) (name : NameValue) (r : Result NameValue FieldFault) → IsDrawop d → row d ≡ words
    → source ≡ high_half (get_or words 0 0) → seq ≡ low_half (get_or words 0 0) → creator ≡ high_half (get_or words 1 0) → number ≡ low_half (get_or words 1 0)
    → r ≡ value_unless (seq_fault seq) (record { source = source; page = record { creator = creator; number = number }; seq = seq }) → Some name ≡ result_ok r → name ≡ d.name
row_name_back d words source seq creator number name r h e es eq ec en made given = grind (arith, common_steps)

-- the drawop made from what the words say
pub row_back : (d : DrawopValue) (words : List ℕ) (name : NameValue) (op : Op) (r : Result DrawopValue FieldFault) → IsDrawop d → row d ≡ words → name ≡ d.name → (let x : Option Op = Some op in let y : Option Op = Some d.op in x ≡ y)
    → r ≡ value_unless (op_fault name op) (record { name = name; time = get_or words 2 0; op = op }) → result_ok r ≡ Some d
row_back d words name op r h e name-is same made = grind (arith, common_steps)

pub row_length : (d : DrawopValue) → length (row d) ≡ row_words
row_length d = grind (arith, common_steps)

one_name : (m n : NameValue) → IsName m → IsName n → pair_word m.source m.seq ≡ pair_word n.source n.seq → pair_word m.page.creator m.page.number ≡ pair_word n.page.creator n.page.number → m ≡ n
one_name m n hm hn e f = grind (arith, common_steps)

-- rows are one to one
pub one_row : (d e : DrawopValue) → IsDrawop d → IsDrawop e → row d ≡ row e → d ≡ e
one_row d e hd he h =
    let name : d.name ≡ e.name = one_name d.name e.name hd.name he.name (ap (λ (ws : List ℕ). get_or ws 0 0) h) (ap (λ (ws : List ℕ). get_or ws 1 0) h) in
    let time : d.time ≡ e.time = ap (λ (ws : List ℕ). get_or ws 2 0) h in
    let op : d.op ≡ e.op = (let same = sym (op_back d.name d.op hd.lawful hd.target) ∙ ap (λ (ws : List ℕ). op_in_words (drop 3 ws)) h ∙ op_back e.name e.op he.lawful he.target in cc) in
    one_drawop d.name e.name d.time e.time d.op e.op name time op
