-- The line of words of a datagram: each value has one.
use Rattle.std.specs.Prelude.{ℕ, List, [], ◌∷◌, ◌++◌, map, flat_map, codes, decimal, if◌then◌else◌}
use Rattle.wb_names.specs.Values.{NameValue, MarkValue}
use Rattle.wb_names.specs.Kinds.{op_kind}
use Rattle.wb_names.specs.declared.name.PageId.{PageId}
use Rattle.wb_names.specs.declared.echo.Echo.{Echo}
use Rattle.wb_names.specs.declared.parts.Figure.TheVariants.{Line, Frame}
use Rattle.wb_names.specs.declared.parts.Stroke.{Stroke}
use Rattle.wb_names.specs.declared.parts.Change.TheVariants.{Delete, Restore}
use Rattle.wb_names.specs.declared.parts.Target.{Target}
use Rattle.wb_names.specs.declared.parts.OpKind.{OpKind}
use Rattle.wb_names.specs.declared.parts.OpKind.TheVariants as kinds
use Rattle.wb_names.specs.declared.parts.Op.{Op}
use Rattle.wb_names.specs.declared.parts.Op.TheVariants.{Drawn, Text, Aimed}
use Rattle.wb_codec.specs.declared.datagram.Datagram.{Datagram}
use Rattle.wb_codec.specs.declared.datagram.Datagram.TheVariants.{Draw, Session, Request, AskPages, PageState}
use Rattle.wb_words.specs.Words.{words, joined, is_special}

-- `CREATOR/NUMBER`
abbrev pub page_word : PageId → List ℕ
page_word p = decimal p.creator ++ 47 ∷ decimal p.number

-- `SOURCE=HIGH`
abbrev pub mark_word : MarkValue → List ℕ
mark_word m = decimal m.source ++ 61 ∷ decimal m.high

-- `SOURCE@SENT+HELD`
abbrev pub echo_word : Echo → List ℕ
echo_word e = decimal e.source ++ 64 ∷ (decimal e.sent ++ 43 ∷ decimal e.held)

-- a backslash stands before each quote and each backslash
abbrev pub escaped : ℕ → List ℕ
escaped byte = if is_special byte then 92 ∷ byte ∷ [] else byte ∷ []

-- a text in quotes, whose spaces stand as they are
abbrev pub quoted : List ℕ → List ℕ
quoted text = 34 ∷ (flat_map escaped text ++ 34 ∷ [])

abbrev pub stroke_words : Stroke → List (List ℕ)
stroke_words s = decimal s.x0 ∷ decimal s.y0 ∷ decimal s.x1 ∷ decimal s.y1 ∷ (s.glyph ∷ []) ∷ []

abbrev pub target_words : Target → List (List ℕ)
target_words t = decimal t.source ∷ decimal t.seq ∷ []

-- the word of each kind of operation
abbrev pub kind_word : OpKind → List ℕ
kind_word (kinds.Drawn Line) = codes "line"
kind_word (kinds.Drawn Frame) = codes "frame"
kind_word kinds.Text = codes "text"
kind_word (kinds.Aimed Delete) = codes "delete"
kind_word (kinds.Aimed Restore) = codes "restore"

abbrev pub field_words : Op → List (List ℕ)
field_words (Drawn figure s) = stroke_words s
field_words (Text x y text) = decimal x ∷ decimal y ∷ words (quoted text)
field_words (Aimed change t) = target_words t

abbrev pub op_words : Op → List (List ℕ)
op_words op = kind_word (op_kind op) ∷ field_words op

abbrev pub name_words : NameValue → List (List ℕ) → List (List ℕ)
name_words n more = decimal n.source ∷ page_word n.page ∷ decimal n.seq ∷ more

abbrev pub word_list : Datagram → List (List ℕ)
word_list (Draw d) = codes "draw" ∷ name_words d.name (decimal d.time ∷ op_words d.op)
word_list (Session sender sent page marks echoes) = codes "session-message" ∷ decimal sender ∷ decimal sent ∷ page_word page ∷ (map mark_word marks ++ map echo_word echoes)
word_list (Request asker name) = codes "request" ∷ decimal asker ∷ name_words name []
word_list (AskPages asker) = codes "ask-pages" ∷ decimal asker ∷ []
word_list (PageState sender page marks) = codes "page-state" ∷ decimal sender ∷ page_word page ∷ map mark_word marks

abbrev pub spelled : Datagram → List ℕ
spelled v = joined (word_list v)

-- these words after others of a line: a space stands before each
abbrev pub tailed : List (List ℕ) → List ℕ
tailed ws = flat_map (λ w. 32 ∷ w) ws
