-- No line of what a host prints begins as a line does that closes a block, but those of a canvas.
use Rattle.std.proofs.Common.{◌≡◌, ℕ, Bool, true, false, List, [], ◌∷◌, ◌++◌, Ok, refl, sym, subst, arith, flat_map, codes, decimal}
use Rattle.std.specs.Prelude.{◌≢◌, Contains, filter, nat_eq, not, if◌then◌else◌}
use Rattle.std.specs.List.{list_all}
use Rattle.std.proofs.lemmas.Bool.{and_parts}
use Rattle.std.proofs.lemmas.List.Elements.{All-contains, All-head, All-tail}
use Rattle.wb_names.specs.Values.{DrawopValue}
use Rattle.wb_names.specs.Orders.{display_cmp}
use Rattle.wb_names.specs.Kinds.{op_kind, every_kind}
use Rattle.wb_names.specs.declared.parts.OpKind.{OpKind}
use Rattle.wb_names.specs.declared.parts.Op.{Op}
use Rattle.wb_names.specs.declared.parts.Op.TheVariants.{Drawn, Text, Aimed}
use Rattle.wb_names.specs.declared.name.PageId.{PageId}
use Rattle.wb_names.proofs.Listings.{Contains-from_filter}
use Rattle.wb_display.specs.Display.{is_shown}
use Rattle.wb_gaps.proofs.Sorting.{Contains-from_sorted}
use Rattle.wb_codec.specs.declared.datagram.Datagram.{Datagram}
use Rattle.wb_words.specs.Words.{words, is_special}
use Rattle.wb_words.specs.Spelling.{escaped, field_words, kind_word, name_words, op_words, page_word, quoted, stroke_words, tailed, target_words}
use Rattle.wb_words.proofs.Appending.{joined_tailed, tailed_words}
use Rattle.wb_lines.specs.Ahead.{NoLineFeed}
use Rattle.wb_lines.proofs.LineBytes.{NoLineFeed-append}
use Rattle.wb_member.specs.Queries.{view_of}
use Rattle.wb_member.specs.Opened.{Opened, shown}
use Rattle.wb_member.specs.declared.calls.Found.{Found}
use Rattle.wb_member.specs.declared.calls.Found.TheVariants.{Missing}
use Rattle.wb_member.specs.declared.questions.Query.{Query}
use Rattle.wb_member.specs.declared.questions.Query.TheVariants.{Canvas, View}
use Rattle.wb_commands.specs.declared.command.Command.TheVariants.{Question}
use Rattle.wb_dialog.specs.declared.line.DriverLine.TheVariants.{Script}
use Rattle.wb_commands.specs.Answers.{view_text, drawop_line}
use Rattle.wb_commands.specs.SentLines.{found_text, sends_text}
use Rattle.wb_laws_hosts.specs.Closings.{IsOneLine, AreOneLine, IsNoShow}
use Rattle.wb_laws_hosts.specs.Telling.{answered}
use Rattle.wb_laws_hosts.proofs.PlainLines.{Plain, both, ended, further, none, number_free, plain_rules, worded}
use Rattle.wb_laws_sessions.proofs.CallActs.{all_from}

-- ---- words

free_of : (word : List ℕ) → list_all (λ (b : ℕ). not (nat_eq b 10)) word ≡ true → NoLineFeed word
free_of [] e = tt
free_of (b ∷ word) e =
    let p = and_parts (not (nat_eq b 10)) (list_all (λ (c : ℕ). not (nat_eq c 10)) word) e in
    (feed b p.0, free_of word p.1) where
      feed : (b : ℕ) → not (nat_eq b 10) ≡ true → b ≢ 10
      feed b e = λ (is : b ≡ 10). let bad : not (nat_eq 10 10) ≡ true = subst (λ (c : ℕ). not (nat_eq c 10) ≡ true) is e in absurd cc

pub sends : (vs : List Datagram) → Plain (sends_text vs)
sends vs = search plain_rules depth 20

pub found : (it : Found) → Plain (found_text it)
found (Missing count) = search plain_rules depth 20
found it = search plain_rules depth 20

-- ---- drawops in words

abbrev AreFree : List (List ℕ) → Type 0
AreFree [] = Unit {0}
AreFree (w ∷ ws) = NoLineFeed w × AreFree ws

byte : (b : ℕ) → b ≢ 10 → NoLineFeed (b ∷ [])
byte b h = (h, tt)

space : ◌≢◌ {A = ℕ} 32 10
space = omega arith

tails : (ws : List (List ℕ)) → AreFree ws → NoLineFeed (tailed ws)
tails [] h = tt
tails (w ∷ ws) h = (space, NoLineFeed-append w (tailed ws) h.0 (tails ws h.1))

before : (ws more : List (List ℕ)) → AreFree ws → NoLineFeed (tailed more) → NoLineFeed (tailed (ws ++ more))
before [] more h q = q
before (w ∷ ws) more h q = (space, NoLineFeed-append w (tailed (ws ++ more)) h.0 (before ws more h.1 q))

escapes : (text : List ℕ) → NoLineFeed text → NoLineFeed (flat_map escaped text)
escapes [] h = tt
escapes (b ∷ text) h = NoLineFeed-append (escaped b) (flat_map escaped text) (at (is_special b)) (escapes text h.1) where
  at : (special : Bool) → NoLineFeed (if special then 92 ∷ b ∷ [] else b ∷ [])
  at true = (omega arith, (h.0, tt))
  at false = (h.0, tt)

quotes : (text : List ℕ) → NoLineFeed text → NoLineFeed (32 ∷ quoted text)
quotes text h = (space, (omega arith, NoLineFeed-append (flat_map escaped text) (34 ∷ []) (escapes text h) (byte 34 (omega arith))))

kind : (k : OpKind) → NoLineFeed (kind_word k)
kind k = free_of (kind_word k) (every_kind (λ (it : OpKind). list_all (λ (b : ℕ). not (nat_eq b 10)) (kind_word it)) refl k)

fields : (op : Op) → IsOneLine op → NoLineFeed (tailed (field_words op))
fields (Drawn figure s) h = tails (stroke_words s) (number_free s.x0, (number_free s.y0, (number_free s.x1, (number_free s.y1, (byte s.glyph h, tt)))))
fields (Text x y text) h = before (decimal x ∷ decimal y ∷ []) (words (quoted text)) (number_free x, (number_free y, tt)) (subst NoLineFeed (sym (tailed_words (quoted text))) (quotes text h))
fields (Aimed change t) h = tails (target_words t) (number_free t.source, (number_free t.seq, tt))

page_free : (p : PageId) → NoLineFeed (page_word p)
page_free p = NoLineFeed-append (decimal p.creator) (47 ∷ decimal p.number) (number_free p.creator) (omega arith, number_free p.number)

-- the words after the first
abbrev behind_draw : DrawopValue → List (List ℕ)
behind_draw d = name_words d.name (decimal d.time ∷ op_words d.op)

behind_free : (d : DrawopValue) → IsOneLine d.op → NoLineFeed (tailed (behind_draw d))
behind_free d h = before (decimal d.name.source ∷ page_word d.name.page ∷ decimal d.name.seq ∷ decimal d.time ∷ kind_word (op_kind d.op) ∷ []) (field_words d.op)
    (number_free d.name.source, (page_free d.name.page, (number_free d.name.seq, (number_free d.time, (kind (op_kind d.op), tt))))) (fields d.op h)

in_words : (d : DrawopValue) → IsOneLine d.op → Plain (drawop_line d)
in_words d h = subst (λ (line : List ℕ). Plain (line ++ codes "\n")) (sym (joined_tailed (codes "draw") (behind_draw d)))
    (worded _ refl (further (codes "draw" ++ tailed (behind_draw d)) (codes "\n") (NoLineFeed-append (codes "draw") (tailed (behind_draw d)) (free_of (codes "draw") refl) (behind_free d h)) (ended [] none)))

in_lines : (ds : List DrawopValue) → AreOneLine ds → Plain (flat_map drawop_line ds)
in_lines [] h = none
in_lines (d ∷ ds) h = both (drawop_line d) (flat_map drawop_line ds) (in_words d (All-head (λ (e : DrawopValue). IsOneLine e.op) d ds h)) (in_lines ds (All-tail (λ (e : DrawopValue). IsOneLine e.op) d ds h))

seen : (host : Opened) (page : PageId) → AreOneLine host.is.held → (d : DrawopValue) → Contains (view_of host.is.held page) d → IsOneLine d.op
unfolding view_of
seen host page held d c = All-contains (λ (e : DrawopValue). IsOneLine e.op) host.is.held d held (Contains-from_filter (is_shown host.is.held page) host.is.held d (Contains-from_sorted display_cmp (filter (is_shown host.is.held page) host.is.held) d c)).0

view : (host : Opened) (page : PageId) → AreOneLine host.is.held → Plain (view_text (shown page host))
view host page held = search (in_lines (shown page host) (all_from (λ (e : DrawopValue). IsOneLine e.op) (shown page host) (seen host page held)), plain_rules) depth 20

-- ---- answers

-- each but that of a canvas
pub answer : (query : Query) (host : Opened) → AreOneLine host.is.held → IsNoShow (Ok (Script (Question query))) → Plain (answered query host)
answer (Canvas page width height) host held shows = absurd shows
answer (View page) host held shows = view host page held
answer query host held shows = search plain_rules depth 20
