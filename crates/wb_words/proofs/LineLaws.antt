-- What the words of a line say is spelled so, and what is spelled so is read.
use Rattle.std.proofs.lemmas.Grind.{common_steps}
use Rattle.std.proofs.Common.{◌≡◌, ℕ, ◌+◌, ◌^◌, ◌<◌, ◌≤◌, Bool, false, cond, Option, Some, None, List, [], ◌∷◌, ◌++◌, length, Result, Ok, refl, sym, ap, subst, ◌∙◌, append-nil, arith}
use Rattle.std.specs.Prelude.{All, map, decimal, codes}
use Rattle.std.specs.Str.{bytes_eq}
use Rattle.std.proofs.lemmas.Slice.Eq.{bytes_eq-Decides}
use Rattle.std.proofs.lemmas.List.Elements.{All-head}
use Rattle.wb_names.specs.Values.{NameValue, DrawopValue, MarkValue}
use Rattle.wb_names.specs.Drawing.{IsLawful, seq_fault, stroke_fault, text_fault, target_fault}
use Rattle.wb_names.specs.Kinds.{op_kind, kind_with-key}
use Rattle.wb_names.specs.declared.name.PageId.{PageId}
use Rattle.wb_names.specs.declared.echo.Echo.{Echo}
use Rattle.wb_names.specs.declared.fault.FieldFault.{FieldFault}
use Rattle.wb_names.specs.declared.parts.Stroke.{Stroke}
use Rattle.wb_names.specs.declared.parts.Target.{Target}
use Rattle.wb_names.specs.declared.parts.OpKind.{OpKind}
use Rattle.wb_names.specs.declared.parts.OpKind.TheVariants as kinds
use Rattle.wb_names.specs.declared.parts.Op.{Op}
use Rattle.wb_names.specs.declared.parts.Op.TheVariants.{Drawn, Text, Aimed}
use Rattle.wb_codec.specs.declared.datagram.Datagram.{Datagram}
use Rattle.wb_codec.specs.declared.datagram.Datagram.TheVariants as datagrams
use Rattle.wb_codec.specs.Ranges.{IsPage, IsName, HasTarget, IsDrawop, IsMark, IsEcho, IsMarkList, IsEchoList, IsDatagram}
use Rattle.wb_codec.proofs.DrawopLaws.{seq_counted, seq_free}
use Rattle.wb_codec.proofs.EntryLaws.{mark_source, echo_source}
use Rattle.wb_codec.proofs.Lawful.{IsStroke, lawful_stroke, lawful_text}
use Rattle.wb_words.specs.declared.fault.WordFault.{WordFault}
use Rattle.wb_words.specs.declared.fault.WordFault.TheVariants as faults
use Rattle.wb_words.specs.declared.fault.WrongWord.{WrongWord}
use Rattle.wb_words.specs.Words.{words, joined, most32, most64, number_in, glyph_in, text_in}
use Rattle.wb_words.specs.Spelling.{page_word, mark_word, echo_word, quoted, stroke_words, kind_word, field_words, op_words, name_words, word_list}
use Rattle.wb_words.specs.Reading.{◌>>=◌, said, in_range, word_at, end_at, number_at, page_at, glyph_at, text_at, name_at, drawn, stroke_at, figure_at, written_at, change_at, kind_in, fields_at, op_at, drawop_at, mark_at, echo_at, is_echo, left_at, marks_at, echoes_at, draw_at, session_at, request_at, ask_pages_at, page_state_at, datagram_at, reading_of}
use Rattle.wb_words.proofs.Numerals.{number_again}
use Rattle.wb_words.proofs.Splitting.{NoSpaces, words_joined, text_words}
use Rattle.wb_words.proofs.TextLaws.{text_takes, text_again}
use Rattle.wb_words.proofs.EntryLists.{Reads, found, gives, weaker, step, list_reads, entries_back, Stopped}
use Rattle.wb_words.proofs.WordLaws.{said_step, ranged, again32, again64, number_finds, page_finds, page_again, mark_reads, mark_spelled, echo_reads, echo_spelled, mark_goes, echo_stops}

-- ---- one word

-- the word at a place, and the words after it
word_then : {B : Type 0} {Q : B → Type 0} (place : ℕ) (ws : List (List ℕ)) (f : List ℕ × List (List ℕ) → Result B WrongWord) → ((w : List ℕ) (rest : List (List ℕ)) → ws ≡ w ∷ rest → Reads Q (f (w, rest))) → Reads Q (word_at place ws >>= f)
word_then place [] f h = record { it = tt }
word_then place (w ∷ ws) f h = h w ws refl

ends : {A : Type 0} {P : A → Type 0} (place : ℕ) (ws : List (List ℕ)) (x : A) → (ws ≡ [] → P x) → Reads P (end_at place ws x)
ends place [] x h = gives x (h refl)
ends place (w ∷ ws) x h = record { it = tt }

says_then : {A B : Type 0} {Q : B → Type 0} (place : ℕ) (fault : WordFault) (o : Option A) (f : A → Result B WrongWord) → ((x : A) → o ≡ Some x → Reads Q (f x)) → Reads Q (said place fault o >>= f)
says_then place fault (Some x) f h = h x refl
says_then place fault None f h = record { it = tt }

ranges : {A : Type 0} {P : A → Type 0} (place : ℕ) (o : Option FieldFault) (x : A) → (o ≡ None → P x) → Reads P (in_range place o x)
ranges place None x h = gives x (h refl)
ranges place (Some fault) x h = record { it = tt }

number_reads : (place most : ℕ) (ws : List (List ℕ)) → Reads (λ x. (ws ≡ decimal x.0 ∷ x.1) × (x.0 ≤ most)) (number_at place most ws)
unfolding number_at
number_reads place most ws = word_then place ws _ (λ w rest is. said_step _ _ _ (number_finds most w) (λ n t. gives _ (is ∙ ap (λ v. v ∷ rest) t.0, t.1)))

number_back : (place most n : ℕ) (ws : List (List ℕ)) → number_in most (decimal n) ≡ Some n → number_at place most (decimal n ∷ ws) ≡ Ok (n, ws)
unfolding number_at
number_back place most n ws e = rw e refl

back32 : (place n : ℕ) (ws : List (List ℕ)) → n < 2 ^ 32 → number_at place most32 (decimal n ∷ ws) ≡ Ok (n, ws)
back32 place n ws lt = number_back place most32 n ws (again32 n lt)

back64 : (place n : ℕ) (ws : List (List ℕ)) → n < 2 ^ 64 → number_at place most64 (decimal n ∷ ws) ≡ Ok (n, ws)
back64 place n ws lt = number_back place most64 n ws (again64 n lt)

page_reads : (place : ℕ) (ws : List (List ℕ)) → Reads (λ x. (ws ≡ page_word x.0 ∷ x.1) × IsPage x.0) (page_at place ws)
unfolding page_at
page_reads place ws = word_then place ws _ (λ w rest is. said_step _ _ _ (page_finds w) (λ p t. gives _ (is ∙ ap (λ v. v ∷ rest) t.0, t.1)))

page_back : (place : ℕ) (p : PageId) (ws : List (List ℕ)) → IsPage p → page_at place (page_word p ∷ ws) ≡ Ok (p, ws)
unfolding page_at
page_back place p ws fits = rw (page_again p fits) refl

one_byte : (word : List ℕ) (g : ℕ) → glyph_in word ≡ Some g → word ≡ g ∷ []
one_byte [] g e = absurd cc
one_byte (b ∷ []) g e = cc
one_byte (b ∷ c ∷ bytes) g e = absurd cc

glyph_reads : (place : ℕ) (ws : List (List ℕ)) → Reads (λ x. ws ≡ (x.0 ∷ []) ∷ x.1) (glyph_at place ws)
unfolding glyph_at
glyph_reads place ws = grind (arith, common_steps, word_then, says_then, gives, one_byte)

glyph_back : (place g : ℕ) (ws : List (List ℕ)) → glyph_at place ((g ∷ []) ∷ ws) ≡ Ok (g, ws)
unfolding glyph_at
glyph_back place g ws = refl

text_reads : (place : ℕ) (ws : List (List ℕ)) → NoSpaces ws → Reads (λ t. ws ≡ words (quoted t)) (text_at place ws)
text_reads place [] none = record { it = tt }
text_reads place (w ∷ ws) none = of (text_in (joined (w ∷ ws))) refl where
  of : (o : Option (List ℕ)) → text_in (joined (w ∷ ws)) ≡ o → Reads (λ t. w ∷ ws ≡ words (quoted t)) (said place faults.Text o)
  of (Some t) e = gives t (sym (words_joined w ws none) ∙ ap words (text_takes (joined (w ∷ ws)) t e))
  of None e = record { it = tt }

text_back : (place : ℕ) (t : List ℕ) → text_at place (words (quoted t)) ≡ Ok t
text_back place t = text_words place (quoted t) ∙ ap (said place faults.Text) (text_again t)

-- ---- names

record NameRead (ws : List (List ℕ)) (n : NameValue) (rest : List (List ℕ)) : Type 0 where
  words-are : ws ≡ name_words n rest
  source : n.source < 2 ^ 32
  page : IsPage n.page
  seq : n.seq < 2 ^ 32

name_reads : (place : ℕ) (ws : List (List ℕ)) → Reads (λ x. NameRead ws x.0 x.1) (name_at place ws)
unfolding name_at
name_reads place ws = step _ (number_reads place most32 ws) (λ s ts. step _ (page_reads (place + 1) s.1) (λ p tp. step _ (number_reads (place + 2) most32 p.1) (λ n tn. gives _ (record {
  words-are = ts.0 ∙ ap (λ v. decimal s.0 ∷ v) tp.0 ∙ ap (λ v. decimal s.0 ∷ page_word p.0 ∷ v) tn.0;
  source = omega (arith, ts.1);
  page = tp.1;
  seq = omega (arith, tn.1);
}))))

name_back : (place : ℕ) (n : NameValue) (rest : List (List ℕ)) → IsName n → name_at place (name_words n rest) ≡ Ok (n, rest)
unfolding name_at
name_back place n rest fits = grind (arith, common_steps, back32, page_back)

name_is : (ws : List (List ℕ)) (n : NameValue) (rest : List (List ℕ)) → NameRead ws n rest → seq_fault n.seq ≡ None → IsName n
name_is ws n rest r e = record { source = r.source; page = r.page; positive = seq_counted n.seq e; seq = r.seq }

-- ---- operations

-- the words of an operation were read as a drawop of this name and time
record OpRead (name : NameValue) (time : ℕ) (word : List ℕ) (ws : List (List ℕ)) (d : DrawopValue) : Type 0 where
  op : Op
  is : d ≡ record { name = name; time = time; op = op }
  words-are : word ∷ ws ≡ op_words op
  lawful : IsLawful name op
  target : HasTarget op

drawn_back : (place : ℕ) (name : NameValue) (time : ℕ) (op : Op) → IsLawful name op → drawn place name time op ≡ Ok (record { name = name; time = time; op = op })
drawn_back place name time op lawful = rw lawful refl

stroke_reads : (ws : List (List ℕ)) → Reads (λ x. ws ≡ decimal x.0.x0 ∷ decimal x.0.y0 ∷ decimal x.0.x1 ∷ decimal x.0.y1 ∷ (x.0.glyph ∷ []) ∷ x.1) (stroke_at ws)
unfolding stroke_at
stroke_reads ws = step _ (number_reads 7 4095 ws) (λ a ta. step _ (number_reads 8 4095 a.1) (λ b tb. step _ (number_reads 9 4095 b.1) (λ c tc. step _ (number_reads 10 4095 c.1) (λ d td. step _ (glyph_reads 11 d.1) (λ g tg. gives _ (
    ta.0
    ∙ ap (λ v. decimal a.0 ∷ v) tb.0
    ∙ ap (λ v. decimal a.0 ∷ decimal b.0 ∷ v) tc.0
    ∙ ap (λ v. decimal a.0 ∷ decimal b.0 ∷ decimal c.0 ∷ v) td.0
    ∙ ap (λ v. decimal a.0 ∷ decimal b.0 ∷ decimal c.0 ∷ decimal d.0 ∷ v) tg))))))

back12 : (place n : ℕ) (ws : List (List ℕ)) → n < 2 ^ 12 → number_at place 4095 (decimal n ∷ ws) ≡ Ok (n, ws)
back12 place n ws lt = grind (arith, common_steps, number_back, number_again)

stroke_back : (s : Stroke) → IsStroke s → stroke_at (stroke_words s) ≡ Ok (s, [])
unfolding stroke_at
stroke_back s fits = grind (arith, common_steps, back12, glyph_back)

fields_read : (kind : OpKind) (name : NameValue) (time : ℕ) (ws : List (List ℕ)) → NoSpaces ws → Reads (OpRead name time (kind_word kind) ws) (fields_at kind name time ws)
unfolding figure_at written_at change_at
fields_read (kinds.Drawn figure) name time ws none = step _ (stroke_reads ws) (λ s ts. ranged 11 (stroke_fault s.0) _ _ (λ lawful. ends 12 s.1 _ (λ end. record {
  op = Drawn figure s.0;
  is = refl;
  words-are = ap (λ v. kind_word (kinds.Drawn figure) ∷ v) (ts ∙ ap (λ v. decimal s.0.x0 ∷ decimal s.0.y0 ∷ decimal s.0.x1 ∷ decimal s.0.y1 ∷ (s.0.glyph ∷ []) ∷ v) end);
  lawful = lawful;
  target = tt;
})))
fields_read kinds.Text name time ws none = step _ (number_reads 7 4095 ws) (λ x tx. step _ (number_reads 8 4095 x.1) (λ y ty.
    let front : ws ≡ decimal x.0 ∷ decimal y.0 ∷ y.1 = tx.0 ∙ ap (λ v. decimal x.0 ∷ v) ty.0 in
    let left = subst NoSpaces front none in
    step _ (text_reads 9 y.1 left.1.1) (λ t is. ranges 9 (text_fault x.0 y.0 t) _ (λ lawful. record {
      op = Text x.0 y.0 t;
      is = refl;
      words-are = ap (λ v. codes "text" ∷ v) (front ∙ ap (λ v. decimal x.0 ∷ decimal y.0 ∷ v) is);
      lawful = lawful;
      target = tt;
    }))))
fields_read (kinds.Aimed change) name time ws none = step _ (number_reads 7 most32 ws) (λ s ts. step _ (number_reads 8 most32 s.1) (λ n tn.
    let target : Target = record { source = s.0; seq = n.0 } in
    ranged 8 (target_fault name target) _ _ (λ lawful. ends 9 n.1 _ (λ end. record {
      op = Aimed change target;
      is = refl;
      words-are = ap (λ v. kind_word (kinds.Aimed change) ∷ v) (ts.0 ∙ ap (λ v. decimal s.0 ∷ v) tn.0 ∙ ap (λ v. decimal s.0 ∷ decimal n.0 ∷ v) end);
      lawful = lawful;
      target = (omega (arith, ts.1), omega (arith, tn.1));
    }))))

-- a choice by the first word
by_word : {A : Type 0} (P : List ℕ → A → Type 0) (word text : List ℕ) (x y : Result A WrongWord) → Reads (P text) x → Reads (P word) y → Reads (P word) (cond (bytes_eq word text) x y)
by_word P word text x y first second = grind (arith, common_steps, bytes_eq-Decides)

kind_again : (kind : OpKind) → kind_in (kind_word kind) ≡ Some kind
unfolding kind_in
kind_again kind = kind_with-key bytes_eq kind_word refl kind

kind_is : (word : List ℕ) (kind : OpKind) → kind_in word ≡ Some kind → word ≡ kind_word kind
unfolding kind_in
kind_is word kind e = grind (arith, common_steps, bytes_eq-Decides)

op_reads : (name : NameValue) (time : ℕ) (word : List ℕ) (ws : List (List ℕ)) → NoSpaces ws → Reads (OpRead name time word ws) (op_at name time word ws)
unfolding op_at
op_reads name time word ws none = says_then _ _ (kind_in word) _ (λ kind e. subst (λ w. Reads (OpRead name time w ws) (fields_at kind name time ws)) (sym (kind_is word kind e)) (fields_read kind name time ws none))

fields_back : (name : NameValue) (time : ℕ) (op : Op) → IsLawful name op → HasTarget op → fields_at (op_kind op) name time (field_words op) ≡ Ok (record { name = name; time = time; op = op })
unfolding figure_at written_at change_at
fields_back name time (Drawn figure s) lawful target = rw (stroke_back s (lawful_stroke s lawful), drawn_back 11 name time (Drawn figure s) lawful) refl
fields_back name time (Text x y text) lawful target = grind (arith, common_steps, lawful_text, back12, text_back, drawn_back)
fields_back name time (Aimed change t) lawful target = grind (arith, common_steps, back32, drawn_back)

op_back : (name : NameValue) (time : ℕ) (op : Op) → IsLawful name op → HasTarget op → (word_at 6 (op_words op) >>= λ word. op_at name time word.0 word.1) ≡ Ok (record { name = name; time = time; op = op })
unfolding op_at
op_back name time op lawful target = grind (arith, common_steps, kind_again, fields_back)

-- ---- drawops

drawop_reads : (ws : List (List ℕ)) → NoSpaces ws → Reads (λ d. (ws ≡ name_words d.name (decimal d.time ∷ op_words d.op)) × IsDrawop d) (drawop_at ws)
unfolding drawop_at
drawop_reads ws none = step _ (name_reads 2 ws) (λ n tn. ranged 4 (seq_fault n.0.seq) n.0 _ (λ counted. step _ (number_reads 5 most64 n.1) (λ t tm. word_then 6 t.1 _ (λ w rest is.
    let front : ws ≡ name_words n.0 (decimal t.0 ∷ w ∷ rest) = tn.words-are ∙ ap (name_words n.0) (tm.0 ∙ ap (λ v. decimal t.0 ∷ v) is) in
    let left = subst NoSpaces front none in
    weaker (op_reads n.0 t.0 w rest left.1.1.1.1.1) (λ d o. subst (λ (v : DrawopValue). (ws ≡ name_words v.name (decimal v.time ∷ op_words v.op)) × IsDrawop v) (sym o.is) (
      front ∙ ap (λ v. name_words n.0 (decimal t.0 ∷ v)) o.words-are,
      record { name = name_is ws n.0 n.1 tn counted; time = omega (arith, tm.1); lawful = o.lawful; target = o.target },
    ))))))

drawop_back : (d : DrawopValue) → IsDrawop d → drawop_at (name_words d.name (decimal d.time ∷ op_words d.op)) ≡ Ok d
unfolding drawop_at
drawop_back d fits = grind (arith, common_steps, name_back, seq_free, back64, op_back)

-- ---- lists

marks_read : (place : ℕ) (ws : List (List ℕ)) → Reads (λ marks. (ws ≡ map mark_word marks ++ left_at is_echo ws) × IsMarkList marks) (marks_at place ws)
marks_read = list_reads mark_at mark_source is_echo mark_word (λ (m : MarkValue). 1 ≤ m.high) IsMark mark_reads

abbrev never : List ℕ → Bool
never word = false

nothing_left : (ws : List (List ℕ)) → left_at never ws ≡ []
nothing_left [] = refl
nothing_left (w ∷ ws) = nothing_left ws

echoes_read : (place : ℕ) (ws : List (List ℕ)) → Reads (λ echoes. (ws ≡ map echo_word echoes) × IsEchoList echoes) (echoes_at place ws)
echoes_read place ws = weaker (list_reads echo_at echo_source never echo_word (λ (e : Echo). Unit {0}) IsEcho (echo_reads never) place ws) (λ echoes t. (t.0 ∙ ap (λ v. map echo_word echoes ++ v) (nothing_left ws) ∙ append-nil (map echo_word echoes), t.1))

-- marks end at the end of the line or at an echo
echoes_end : (echoes : List Echo) → All IsEcho echoes → Stopped is_echo (map echo_word echoes)
echoes_end [] h = tt
echoes_end (v ∷ echoes) h = echo_stops v (All-head IsEcho v echoes h)

marks_back : (place : ℕ) (marks : List MarkValue) (rest : List (List ℕ)) → Stopped is_echo rest → IsMarkList marks → (marks_at place (map mark_word marks ++ rest) ≡ Ok marks) × (left_at is_echo (map mark_word marks ++ rest) ≡ rest)
marks_back = entries_back mark_at mark_source is_echo mark_word (λ (m : MarkValue). 1 ≤ m.high) IsMark mark_spelled mark_goes

echoes_back : (place : ℕ) (echoes : List Echo) → IsEchoList echoes → echoes_at place (map echo_word echoes) ≡ Ok echoes
echoes_back place echoes h = ap (echoes_at place) (sym (append-nil (map echo_word echoes))) ∙ (entries_back echo_at echo_source never echo_word (λ (e : Echo). Unit {0}) IsEcho echo_spelled (λ v k. refl) place echoes [] tt h).0

-- ---- datagrams

-- the words were read as this datagram
record Read (word : List ℕ) (ws : List (List ℕ)) (v : Datagram) : Type 0 where
  words-are : word ∷ ws ≡ word_list v
  fits : IsDatagram v

datagram_reads : (word : List ℕ) (ws : List (List ℕ)) → NoSpaces ws → Reads (Read word ws) (datagram_at word ws)
unfolding datagram_at draw_at session_at request_at ask_pages_at page_state_at
datagram_reads word ws none =
    by_word (λ w. Read w ws) word (codes "draw") _ _ (step _ (drawop_reads ws none) (λ d t. gives _ (record { words-are = ap (λ u. codes "draw" ∷ u) t.0; fits = t.1 })))
    (by_word (λ w. Read w ws) word (codes "session-message") _ _
    (step _ (number_reads 2 most32 ws) (λ a ta. step _ (number_reads 3 most64 a.1) (λ b tb. step _ (page_reads 4 b.1) (λ p tp. step _ (marks_read 5 p.1) (λ ms tms. step _ (echoes_read (5 + length ms) (left_at is_echo p.1)) (λ es tes. gives _ (record {
      words-are = ap (λ u. codes "session-message" ∷ u) (ta.0
          ∙ ap (λ u. decimal a.0 ∷ u) tb.0
          ∙ ap (λ u. decimal a.0 ∷ decimal b.0 ∷ u) tp.0
          ∙ ap (λ u. decimal a.0 ∷ decimal b.0 ∷ page_word p.0 ∷ u) (tms.0 ∙ ap (λ u. map mark_word ms ++ u) tes.0));
      fits = record { sender-fits = omega (arith, ta.1); sent-fits = omega (arith, tb.1); page-fits = tp.1; marks-fit = tms.1; echoes-fit = tes.1 };
    })))))))
    (by_word (λ w. Read w ws) word (codes "request") _ _
    (step _ (number_reads 2 most32 ws) (λ a ta. step _ (name_reads 3 a.1) (λ n tn. ranged 5 (seq_fault n.0.seq) n.0 _ (λ counted. ends 6 n.1 _ (λ end. record {
      words-are = ap (λ u. codes "request" ∷ u) (ta.0 ∙ ap (λ u. decimal a.0 ∷ u) (tn.words-are ∙ ap (name_words n.0) end));
      fits = (omega (arith, ta.1), name_is a.1 n.0 n.1 tn counted);
    })))))
    (by_word (λ w. Read w ws) word (codes "ask-pages") _ _
    (step _ (number_reads 2 most32 ws) (λ a ta. ends 3 a.1 _ (λ end. record { words-are = ap (λ u. codes "ask-pages" ∷ u) (ta.0 ∙ ap (λ u. decimal a.0 ∷ u) end); fits = omega (arith, ta.1) })))
    (by_word (λ w. Read w ws) word (codes "page-state") _ _
    (step _ (number_reads 2 most32 ws) (λ a ta. step _ (page_reads 3 a.1) (λ p tp. step _ (marks_read 4 p.1) (λ ms tms. ends (4 + length ms) (left_at is_echo p.1) _ (λ end. record {
      words-are = ap (λ u. codes "page-state" ∷ u) (ta.0
          ∙ ap (λ u. decimal a.0 ∷ u) tp.0
          ∙ ap (λ u. decimal a.0 ∷ page_word p.0 ∷ u) (tms.0 ∙ ap (λ u. map mark_word ms ++ u) end ∙ append-nil (map mark_word ms)));
      fits = record { sender-fits = omega (arith, ta.1); page-fits = tp.1; marks-fit = tms.1 };
    })))))
    (record { it = tt })))))

-- what is read was spelled so
line_reads : (ws : List (List ℕ)) → NoSpaces ws → Reads (λ v. (ws ≡ word_list v) × IsDatagram v) (reading_of ws)
unfolding reading_of
line_reads ws none = word_then 1 ws _ (λ w rest is. weaker (datagram_reads w rest (subst NoSpaces is none).1) (λ v r. (is ∙ r.words-are, r.fits)))

pub reading_takes : (ws : List (List ℕ)) (v : Datagram) → NoSpaces ws → reading_of ws ≡ Ok v → (ws ≡ word_list v) × IsDatagram v
reading_takes ws v none e = found v (line_reads ws none) e

-- what is spelled so is read
pub reading_again : (v : Datagram) → IsDatagram v → reading_of (word_list v) ≡ Ok v
unfolding reading_of datagram_at draw_at session_at request_at ask_pages_at page_state_at
reading_again (datagrams.Draw d) fits = rw (drawop_back d fits) refl
reading_again (datagrams.Session sender sent page marks echoes) fits = grind (arith, common_steps, marks_back, echoes_end, back32, back64, page_back, echoes_back)
reading_again (datagrams.Request asker name) fits = grind (arith, common_steps, back32, name_back, seq_free)
reading_again (datagrams.AskPages asker) fits = rw (back32 2 asker [] fits) refl
reading_again (datagrams.PageState sender page marks) fits =
    let m = marks_back 4 marks [] tt fits.marks-fit in
    let whole : map mark_word marks ≡ map mark_word marks ++ [] = sym (append-nil (map mark_word marks)) in
    ap (λ ws. reading_of (codes "page-state" ∷ decimal sender ∷ page_word page ∷ ws)) whole ∙ rw (back32 2 sender (page_word page ∷ (map mark_word marks ++ [])) fits.sender-fits, page_back 3 page (map mark_word marks ++ []) fits.page-fits, m.0, m.1) refl
