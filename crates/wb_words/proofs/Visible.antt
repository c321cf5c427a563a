-- Each byte of a datagram in words is a space or above it.
use Rattle.std.proofs.Common.{◌≡◌, ◌≢◌, ℕ, zero, suc, ◌<◌, ◌≤◌, ◌^◌, Bool, true, false, None, List, [], ◌∷◌, ◌++◌, refl, sym, subst, arith, slice_index, All, map, flat_map, decimal, codes, Ok, nat_le, if◌then◌else◌}
use Rattle.std.specs.Char.{digit_value}
use Rattle.std.specs.List.{list_all}
use Rattle.std.specs.Str.Parse.{AllDigits}
use Rattle.std.proofs.lemmas.Bool.{and_parts, leb-true}
use Rattle.std.proofs.lemmas.Bool.Decides.{nat_tests}
use Rattle.std.proofs.lemmas.List.Elements.{All-head, All-tail}
use Rattle.wb_names.specs.Values.{NameValue, MarkValue}
use Rattle.wb_names.specs.declared.name.PageId.{PageId}
use Rattle.wb_names.specs.declared.echo.Echo.{Echo}
use Rattle.wb_names.specs.declared.parts.Stroke.{Stroke}
use Rattle.wb_names.specs.Kinds.{op_kind, every_kind}
use Rattle.wb_names.specs.declared.parts.OpKind.{OpKind}
use Rattle.wb_names.specs.declared.parts.Op.{Op}
use Rattle.wb_names.specs.declared.parts.Op.TheVariants.{Drawn, Text, Aimed}
use Rattle.wb_names.specs.Drawing.{IsLawful, stroke_fault, text_fault, is_printable}
use Rattle.wb_codec.specs.declared.datagram.Datagram.{Datagram}
use Rattle.wb_codec.specs.declared.datagram.Datagram.TheVariants.{Draw, Session, Request, AskPages, PageState}
use Rattle.wb_codec.specs.Ranges.{IsPage, IsName, IsMark, IsEcho, HasTarget, IsDatagram}
use Rattle.wb_codec.proofs.Lawful.{lawful_stroke, lawful_text}
use Rattle.wb_words.specs.Words.{words, joined, is_special}
use Rattle.wb_words.specs.Spelling.{page_word, mark_word, echo_word, escaped, quoted, stroke_words, target_words, kind_word, field_words, op_words, name_words, spelled, tailed}
use Rattle.wb_words.proofs.Numerals.{decimal_digits}
use Rattle.wb_words.proofs.Appending.{joined_tailed, tailed_words}
use Rattle.wb_words.specs.Reading.{reading}
use Rattle.wb_words.proofs.SpellingLaws.{said_so}

abbrev pub AllSeen : List ℕ → Type 0
AllSeen [] = Unit {0}
AllSeen (b ∷ bytes) = (32 ≤ b) × AllSeen bytes

pub record Visible (bytes : List ℕ) : Type 0 where
  pub each : AllSeen bytes

none : Visible []
none = record { each = tt }

put : (b : ℕ) (bytes : List ℕ) → 32 ≤ b → Visible bytes → Visible (b ∷ bytes)
put b bytes le p = record { each = (le, p.each) }

seen_append : (xs ys : List ℕ) → AllSeen xs → AllSeen ys → AllSeen (xs ++ ys)
seen_append [] ys p q = q
seen_append (x ∷ xs) ys p q = (p.0, seen_append xs ys p.1 q)

pub cat : (xs ys : List ℕ) → Visible xs → Visible ys → Visible (xs ++ ys)
cat xs ys p q = record { each = seen_append xs ys p.each q.each }

seen_at : (bytes : List ℕ) → AllSeen bytes → (i : ℕ) → slice_index bytes i ≢ 13
seen_at [] p i = omega arith
seen_at (b ∷ bytes) p zero = omega (arith, p.0)
seen_at (b ∷ bytes) p (suc i) = seen_at bytes p.1 i

pub no_return : (bytes : List ℕ) → Visible bytes → (i : ℕ) → slice_index bytes i ≢ 13
no_return bytes p = seen_at bytes p.each

tested : (word : List ℕ) → list_all (nat_le 32) word ≡ true → AllSeen word
tested [] e = tt
tested (b ∷ word) e = let p = and_parts (nat_le 32 b) (list_all (nat_le 32) word) e in (leb-true 32 b p.0, tested word p.1)

pub text_of : (word : List ℕ) → list_all (nat_le 32) word ≡ true → Visible word
text_of word e = record { each = tested word e }

digit_above : (b : ℕ) → digit_value b < 10 → 32 ≤ b
digit_above b lt = grind (arith, nat_tests)

decimal_seen : (word : List ℕ) → AllDigits 10 word → AllSeen word
decimal_seen [] h = tt
decimal_seen (b ∷ word) h = (digit_above b h.0, decimal_seen word h.1)

number : (n : ℕ) → n < 2 ^ 64 → Visible (decimal n)
number n lt = record { each = decimal_seen (decimal n) (decimal_digits n lt) }

number32 : (n : ℕ) → n < 2 ^ 32 → Visible (decimal n)
number32 n lt = number n (omega arith)

number12 : (n : ℕ) → n < 2 ^ 12 → Visible (decimal n)
number12 n lt = number n (omega arith)

page : (p : PageId) → IsPage p → Visible (page_word p)
page p fits = cat (decimal p.creator) (47 ∷ decimal p.number) (number32 p.creator fits.creator) (put 47 (decimal p.number) (omega arith) (number32 p.number fits.number))

mark : (m : MarkValue) → IsMark m → Visible (mark_word m)
mark m fits = cat (decimal m.source) (61 ∷ decimal m.high) (number32 m.source fits.source) (put 61 (decimal m.high) (omega arith) (number32 m.high fits.high))

echo : (e : Echo) → IsEcho e → Visible (echo_word e)
echo e fits =
    cat (decimal e.source) (64 ∷ (decimal e.sent ++ 43 ∷ decimal e.held)) (number32 e.source fits.source)
    (put 64 (decimal e.sent ++ 43 ∷ decimal e.held) (omega arith) (cat (decimal e.sent) (43 ∷ decimal e.held) (number e.sent fits.sent) (put 43 (decimal e.held) (omega arith) (number e.held fits.held))))

-- words after others of a line
behind : (w : List ℕ) (ws : List (List ℕ)) → Visible w → Visible (tailed ws) → Visible (tailed (w ∷ ws))
behind w ws p q = put 32 (w ++ tailed ws) (omega arith) (cat w (tailed ws) p q)

abbrev AreVisible : List (List ℕ) → Type 0
AreVisible [] = Unit {0}
AreVisible (w ∷ ws) = Visible w × AreVisible ws

before : (ws more : List (List ℕ)) → AreVisible ws → Visible (tailed more) → Visible (tailed (ws ++ more))
before [] more h q = q
before (w ∷ ws) more h q = behind w (ws ++ more) h.0 (before ws more h.1 q)

tails : (ws : List (List ℕ)) → AreVisible ws → Visible (tailed ws)
tails [] h = none
tails (w ∷ ws) h = behind w ws h.0 (tails ws h.1)

marks_seen : (marks : List MarkValue) (ws : List (List ℕ)) → All IsMark marks → Visible (tailed ws) → Visible (tailed (map mark_word marks ++ ws))
marks_seen [] ws h q = q
marks_seen (m ∷ marks) ws h q = behind (mark_word m) (map mark_word marks ++ ws) (mark m (All-head IsMark m marks h)) (marks_seen marks ws (All-tail IsMark m marks h) q)

marks_alone : (marks : List MarkValue) → All IsMark marks → Visible (tailed (map mark_word marks))
marks_alone [] h = none
marks_alone (m ∷ marks) h = behind (mark_word m) (map mark_word marks) (mark m (All-head IsMark m marks h)) (marks_alone marks (All-tail IsMark m marks h))

echoes_seen : (echoes : List Echo) → All IsEcho echoes → Visible (tailed (map echo_word echoes))
echoes_seen [] h = none
echoes_seen (e ∷ echoes) h = behind (echo_word e) (map echo_word echoes) (echo e (All-head IsEcho e echoes h)) (echoes_seen echoes (All-tail IsEcho e echoes h))

escaped_seen : (b : ℕ) → 32 ≤ b → AllSeen (escaped b)
escaped_seen b le = at (is_special b) where
  at : (special : Bool) → AllSeen (if special then 92 ∷ b ∷ [] else b ∷ [])
  at true = (omega arith, (le, tt))
  at false = (le, tt)

escapes : (text : List ℕ) → AllSeen text → AllSeen (flat_map escaped text)
escapes [] h = tt
escapes (b ∷ text) h = seen_append (escaped b) (flat_map escaped text) (escaped_seen b h.0) (escapes text h.1)

quotes : (text : List ℕ) → AllSeen text → Visible (quoted text)
quotes text h = put 34 (flat_map escaped text ++ 34 ∷ []) (omega arith) (cat (flat_map escaped text) (34 ∷ []) (record { each = escapes text h }) (put 34 [] (omega arith) none))

printed : (text : List ℕ) → list_all is_printable text ≡ true → AllSeen text
printed [] e = tt
printed (b ∷ text) e =
    let p = and_parts (is_printable b) (list_all is_printable text) e in
    let q = and_parts (nat_le 32 b) (nat_le b 126) p.0 in
    (leb-true 32 b q.0, printed text p.1)

pub glyph_seen : (s : Stroke) → stroke_fault s ≡ None → 32 ≤ s.glyph
glyph_seen s e = grind (arith, nat_tests)

text_seen : (x y : ℕ) (text : List ℕ) → text_fault x y text ≡ None → AllSeen text
text_seen x y text e = let printable : list_all is_printable text ≡ true = grind (arith, nat_tests) in printed text printable

stroke : (s : Stroke) → stroke_fault s ≡ None → AreVisible (stroke_words s)
stroke s e =
    let f = lawful_stroke s e in
    (number12 s.x0 f.x0-fits, (number12 s.y0 f.y0-fits, (number12 s.x1 f.x1-fits, (number12 s.y1 f.y1-fits, (put s.glyph [] (glyph_seen s e) none, tt)))))

kind_seen : (kind : OpKind) → Visible (kind_word kind)
kind_seen kind = text_of (kind_word kind) (every_kind (λ k. list_all (nat_le 32) (kind_word k)) refl kind)

fields_seen : (name : NameValue) (op : Op) → IsLawful name op → HasTarget op → Visible (tailed (field_words op))
fields_seen name (Drawn f s) lawful h = tails (stroke_words s) (stroke s lawful)
fields_seen name (Text x y text) lawful h =
    let t = lawful_text x y text lawful in
    let last : Visible (tailed (words (quoted text))) = subst Visible (sym (tailed_words (quoted text))) (put 32 (quoted text) (omega arith) (quotes text (text_seen x y text lawful))) in
    before (decimal x ∷ decimal y ∷ []) (words (quoted text)) (number12 x t.x-fits, (number12 y t.y-fits, tt)) last
fields_seen name (Aimed c t) lawful h = tails (target_words t) (number32 t.source h.0, (number32 t.seq h.1, tt))

op_seen : (name : NameValue) (op : Op) → IsLawful name op → HasTarget op → Visible (tailed (op_words op))
op_seen name op lawful h = behind (kind_word (op_kind op)) (field_words op) (kind_seen (op_kind op)) (fields_seen name op lawful h)

name_seen : (n : NameValue) (more : List (List ℕ)) → IsName n → Visible (tailed more) → Visible (tailed (name_words n more))
name_seen n more fits q = before (decimal n.source ∷ page_word n.page ∷ decimal n.seq ∷ []) more (number32 n.source fits.source, (page n.page fits.page, (number32 n.seq fits.seq, tt))) q

line_seen : (w : List ℕ) (ws : List (List ℕ)) → Visible w → Visible (tailed ws) → Visible (joined (w ∷ ws))
line_seen w ws p q = subst Visible (sym (joined_tailed w ws)) (cat w (tailed ws) p q)

pub spelled_visible : (v : Datagram) → IsDatagram v → Visible (spelled v)
spelled_visible (Draw d) fits =
    let fields = before (decimal d.time ∷ []) (op_words d.op) (number d.time fits.time, tt) (op_seen d.name d.op fits.lawful fits.target) in
    line_seen (codes "draw") (name_words d.name (decimal d.time ∷ op_words d.op)) (text_of (codes "draw") refl) (name_seen d.name (decimal d.time ∷ op_words d.op) fits.name fields)
spelled_visible (Session sender sent p marks echoes) fits =
    let entries = marks_seen marks (map echo_word echoes) fits.marks-fit.ranges (echoes_seen echoes fits.echoes-fit.ranges) in
    line_seen (codes "session-message") (decimal sender ∷ decimal sent ∷ page_word p ∷ (map mark_word marks ++ map echo_word echoes)) (text_of (codes "session-message") refl)
    (before (decimal sender ∷ decimal sent ∷ page_word p ∷ []) (map mark_word marks ++ map echo_word echoes) (number32 sender fits.sender-fits, (number sent fits.sent-fits, (page p fits.page-fits, tt))) entries)
spelled_visible (Request asker name) fits =
    line_seen (codes "request") (decimal asker ∷ name_words name []) (text_of (codes "request") refl) (before (decimal asker ∷ []) (name_words name []) (number32 asker fits.0, tt) (name_seen name [] fits.1 none))
spelled_visible (AskPages asker) fits = line_seen (codes "ask-pages") (decimal asker ∷ []) (text_of (codes "ask-pages") refl) (tails (decimal asker ∷ []) (number32 asker fits, tt))
spelled_visible (PageState sender p marks) fits =
    line_seen (codes "page-state") (decimal sender ∷ page_word p ∷ map mark_word marks) (text_of (codes "page-state") refl)
    (before (decimal sender ∷ page_word p ∷ []) (map mark_word marks) (number32 sender fits.sender-fits, (page p fits.page-fits, tt)) (marks_alone marks fits.marks-fit.ranges))

pub read_visible : (line : List ℕ) (v : Datagram) → reading line ≡ Ok v → Visible line
read_visible line v e = let says = said_so line v e in subst Visible (sym says.1) (spelled_visible v says.0)

-- So no carriage return ends a datagram in words.
pub no_return_ends : (line : List ℕ) → Visible (line ++ 13 ∷ []) → ⊥
no_return_ends line p = ends line p.each where
  ends : (line : List ℕ) → AllSeen (line ++ 13 ∷ []) → ⊥
  ends [] p = absurd (let low = p.0 in omega arith)
  ends (b ∷ line) p = ends line p.1
