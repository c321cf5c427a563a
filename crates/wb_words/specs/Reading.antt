-- What the words of a line say, or the first word from the left that is wrong. Places of words count from 1.
use Rattle.std.specs.Prelude.{◌≡◌, ℕ, ◌+◌, Bool, ◌||◌, true, false, List, [], ◌∷◌, length, Option, Some, None, Result, Ok, Err, nat_lt, if◌then◌else◌, codes, is_some}
use Rattle.std.specs.Str.{bytes_eq}
use Rattle.wb_names.specs.Values.{NameValue, DrawopValue, MarkValue}
use Rattle.wb_names.specs.Drawing.{seq_fault, op_fault}
use Rattle.wb_names.specs.Kinds.{kind_with}
use Rattle.wb_names.specs.declared.entries.TheConstants.{MAX_ENTRIES}
use Rattle.wb_names.specs.declared.shape.TheConstants.{MAX_COORDINATE}
use Rattle.wb_names.specs.declared.name.PageId.{PageId}
use Rattle.wb_names.specs.declared.fault.FieldFault.{FieldFault}
use Rattle.wb_names.specs.declared.echo.Echo.{Echo}
use Rattle.wb_names.specs.declared.parts.Figure.{Figure}
use Rattle.wb_names.specs.declared.parts.Stroke.{Stroke}
use Rattle.wb_names.specs.declared.parts.Change.{Change}
use Rattle.wb_names.specs.declared.parts.OpKind.{OpKind}
use Rattle.wb_names.specs.declared.parts.OpKind.TheVariants as kinds
use Rattle.wb_names.specs.declared.parts.Op.{Op}
use Rattle.wb_names.specs.declared.parts.Op.TheVariants.{Drawn, Text, Aimed}
use Rattle.wb_codec.specs.declared.datagram.Datagram.{Datagram}
use Rattle.wb_codec.specs.declared.datagram.Datagram.TheVariants.{Draw, Session, Request, AskPages, PageState}
use Rattle.wb_names.specs.Ascending.{is_above}
use Rattle.wb_words.specs.declared.fault.WordFault.{WordFault}
use Rattle.wb_words.specs.declared.fault.WordFault.TheVariants as faults
use Rattle.wb_words.specs.declared.fault.WrongWord.{WrongWord}
use Rattle.wb_words.specs.declared.fault.WordsFault.{WordsFault}
use Rattle.wb_words.specs.declared.fault.WordsFault.TheVariants as words_faults
use Rattle.wb_words.specs.Words.{words, joined, split_once, most32, most64, number_in, page_in, glyph_in, mark_in, echo_in, text_in}
use Rattle.wb_words.specs.Spelling.{kind_word}

infixl 10 ◌>>=◌
abbrev pub ◌>>=◌ : {A B : Type 0} → Result A WrongWord → (A → Result B WrongWord) → Result B WrongWord
(Ok x) >>= f = f x
(Err e) >>= f = Err e

abbrev pub wrong : {A : Type 0} → ℕ → WordFault → Result A WrongWord
wrong place fault = Err (record { place = place; fault = fault })

-- what the word at a place says, if it says anything
abbrev pub said : {A : Type 0} → ℕ → WordFault → Option A → Result A WrongWord
said place fault (Some x) = Ok x
said place fault None = wrong place fault

abbrev pub require : {A : Type 0} → Bool → ℕ → WordFault → A → Result A WrongWord
require true place fault x = Ok x
require false place fault x = wrong place fault

-- the value, where no field has a fault
abbrev pub in_range : {A : Type 0} → ℕ → Option FieldFault → A → Result A WrongWord
in_range place None x = Ok x
in_range place (Some fault) x = wrong place (faults.Field fault)

-- What a reader of the code gave, seen by view, is what reading gives.
abbrev pub Gives : {X Y : Type 0} → (X → Y) → Result X WrongWord → Result Y WrongWord → Type 0
Gives view (Ok x) read = read ≡ Ok (view x)
Gives view (Err wrong) read = read ≡ Err wrong

-- The same, if an allocation may fail: then nothing is promised.
abbrev pub MayGive : {X Y : Type 0} → (X → Y) → Result X WordsFault → Result Y WrongWord → Type 0
MayGive view (Ok x) read = read ≡ Ok (view x)
MayGive view (Err (words_faults.Word wrong)) read = read ≡ Err wrong
MayGive view (Err words_faults.Memory) read = Unit {0}

-- ---- words: what the first one says, and the words after it

abbrev pub word_at : ℕ → List (List ℕ) → Result (List ℕ × List (List ℕ)) WrongWord
word_at place [] = wrong place faults.Missing
word_at place (w ∷ ws) = Ok (w, ws)

abbrev pub end_at : {A : Type 0} → ℕ → List (List ℕ) → A → Result A WrongWord
end_at place [] x = Ok x
end_at place (w ∷ ws) x = wrong place faults.Extra

unfoldable pub number_at : ℕ → ℕ → List (List ℕ) → Result (ℕ × List (List ℕ)) WrongWord
number_at place most ws = do
  word ← word_at place ws
  n ← said place faults.Number (number_in most word.0)
  Ok (n, word.1)

unfoldable pub page_at : ℕ → List (List ℕ) → Result (PageId × List (List ℕ)) WrongWord
page_at place ws = do
  word ← word_at place ws
  page ← said place faults.Page (page_in word.0)
  Ok (page, word.1)

unfoldable pub glyph_at : ℕ → List (List ℕ) → Result (ℕ × List (List ℕ)) WrongWord
glyph_at place ws = do
  word ← word_at place ws
  glyph ← said place faults.Glyph (glyph_in word.0)
  Ok (glyph, word.1)

-- a quoted text takes all words that are left
abbrev pub text_at : ℕ → List (List ℕ) → Result (List ℕ) WrongWord
text_at place [] = wrong place faults.Missing
text_at place (w ∷ ws) = said place faults.Text (text_in (joined (w ∷ ws)))

-- the fields of the name whose source stands at a place; its number may be 0
unfoldable pub name_at : ℕ → List (List ℕ) → Result (NameValue × List (List ℕ)) WrongWord
name_at place ws = do
  source ← number_at place most32 ws
  page ← page_at (place + 1) source.1
  seq ← number_at (place + 2) most32 page.1
  Ok (record { source = source.0; page = page.0; seq = seq.0 }, seq.1)

-- the name, whose number stands at a place
abbrev pub named : ℕ → NameValue → Result NameValue WrongWord
named place name = in_range place (seq_fault name.seq) name

-- ---- drawops: the operation stands at place 6, its fields from place 7 on

abbrev pub drawn : ℕ → NameValue → ℕ → Op → Result DrawopValue WrongWord
drawn place name time op = in_range place (op_fault name op) (record { name = name; time = time; op = op })

unfoldable pub stroke_at : List (List ℕ) → Result (Stroke × List (List ℕ)) WrongWord
stroke_at ws = do
  x0 ← number_at 7 MAX_COORDINATE ws
  y0 ← number_at 8 MAX_COORDINATE x0.1
  x1 ← number_at 9 MAX_COORDINATE y0.1
  y1 ← number_at 10 MAX_COORDINATE x1.1
  glyph ← glyph_at 11 y1.1
  Ok (record { x0 = x0.0; y0 = y0.0; x1 = x1.0; y1 = y1.0; glyph = glyph.0 }, glyph.1)

unfoldable pub figure_at : Figure → NameValue → ℕ → List (List ℕ) → Result DrawopValue WrongWord
figure_at figure name time ws = do
  s ← stroke_at ws
  d ← drawn 11 name time (Drawn figure s.0)
  end_at 12 s.1 d

unfoldable pub written_at : NameValue → ℕ → List (List ℕ) → Result DrawopValue WrongWord
written_at name time ws = do
  x ← number_at 7 MAX_COORDINATE ws
  y ← number_at 8 MAX_COORDINATE x.1
  text ← text_at 9 y.1
  drawn 9 name time (Text x.0 y.0 text)

unfoldable pub change_at : Change → NameValue → ℕ → List (List ℕ) → Result DrawopValue WrongWord
change_at change name time ws = do
  source ← number_at 7 most32 ws
  seq ← number_at 8 most32 source.1
  d ← drawn 8 name time (Aimed change (record { source = source.0; seq = seq.0 }))
  end_at 9 seq.1 d

-- the kind of operation with a word
unfoldable pub kind_in : List ℕ → Option OpKind
kind_in word = kind_with bytes_eq kind_word word

-- the fields of an operation of this kind
abbrev pub fields_at : OpKind → NameValue → ℕ → List (List ℕ) → Result DrawopValue WrongWord
fields_at (kinds.Drawn figure) name time ws = figure_at figure name time ws
fields_at kinds.Text name time ws = written_at name time ws
fields_at (kinds.Aimed change) name time ws = change_at change name time ws

unfoldable pub op_at : NameValue → ℕ → List ℕ → List (List ℕ) → Result DrawopValue WrongWord
op_at name time word ws = do
  kind ← said 6 faults.Operation (kind_in word)
  fields_at kind name time ws

unfoldable pub drawop_at : List (List ℕ) → Result DrawopValue WrongWord
drawop_at ws = do
  fields ← name_at 2 ws
  name ← named 4 fields.0
  time ← number_at 5 most64 fields.1
  word ← word_at 6 time.1
  op_at name time.0 word.0 word.1

-- ---- lists: not too many entries, each source above the one before it

-- entries up to a word at which they stop, of which n have been read
unfoldable pub entries_at : {X : Type 0} → (ℕ → Option ℕ → List ℕ → Result X WrongWord) → (X → ℕ) → (List ℕ → Bool) → ℕ → ℕ → Option ℕ → List (List ℕ) → Result (List X) WrongWord
entries_at entry_at source stops place n before [] = Ok []
entries_at entry_at source stops place n before (w ∷ ws) =
    if stops w then Ok []
    else (require (nat_lt n MAX_ENTRIES) place faults.TooMany w >>= λ word.
    entry_at place before word >>= λ entry.
    entries_at entry_at source stops (place + 1) (n + 1) (Some (source entry)) ws >>= λ others.
    Ok (entry ∷ others))

-- the words from that at which entries stop
abbrev pub left_at : (List ℕ → Bool) → List (List ℕ) → List (List ℕ)
left_at stops [] = []
left_at stops (w ∷ ws) = if stops w then w ∷ ws else left_at stops ws

unfoldable pub mark_at : ℕ → Option ℕ → List ℕ → Result MarkValue WrongWord
mark_at place before word = do
  mark ← said place faults.Mark (mark_in word)
  counted ← in_range place (seq_fault mark.high) mark
  require (is_above before counted.source) place faults.Order counted

unfoldable pub echo_at : ℕ → Option ℕ → List ℕ → Result Echo WrongWord
echo_at place before word = do
  echo ← said place faults.Echo (echo_in word)
  require (is_above before echo.source) place faults.Order echo

-- an echo has an `@`
abbrev pub is_echo : List ℕ → Bool
is_echo word = is_some (split_once 64 word)

-- the marks before the first echo
abbrev pub marks_at : ℕ → List (List ℕ) → Result (List MarkValue) WrongWord
marks_at place ws = entries_at mark_at (λ (m : MarkValue). m.source) is_echo place 0 None ws

-- echoes, up to the end of the line
abbrev pub echoes_at : ℕ → List (List ℕ) → Result (List Echo) WrongWord
echoes_at place ws = entries_at echo_at (λ (e : Echo). e.source) (λ word. false) place 0 None ws

-- ---- lines

unfoldable pub draw_at : List (List ℕ) → Result Datagram WrongWord
draw_at ws = do
  d ← drawop_at ws
  Ok (Draw d)

unfoldable pub session_at : List (List ℕ) → Result Datagram WrongWord
session_at ws = do
  sender ← number_at 2 most32 ws
  sent ← number_at 3 most64 sender.1
  page ← page_at 4 sent.1
  marks ← marks_at 5 page.1
  echoes ← echoes_at (5 + length marks) (left_at is_echo page.1)
  Ok (Session sender.0 sent.0 page.0 marks echoes)

unfoldable pub request_at : List (List ℕ) → Result Datagram WrongWord
request_at ws = do
  asker ← number_at 2 most32 ws
  fields ← name_at 3 asker.1
  name ← named 5 fields.0
  end_at 6 fields.1 (Request asker.0 name)

unfoldable pub ask_pages_at : List (List ℕ) → Result Datagram WrongWord
ask_pages_at ws = do
  asker ← number_at 2 most32 ws
  end_at 3 asker.1 (AskPages asker.0)

unfoldable pub page_state_at : List (List ℕ) → Result Datagram WrongWord
page_state_at ws = do
  sender ← number_at 2 most32 ws
  page ← page_at 3 sender.1
  marks ← marks_at 4 page.1
  end_at (4 + length marks) (left_at is_echo page.1) (PageState sender.0 page.0 marks)

-- a word that tells the kind of a datagram
unfoldable pub is_kind : List ℕ → Bool
is_kind word =
    bytes_eq word (codes "draw")
    || (bytes_eq word (codes "session-message")
    || (bytes_eq word (codes "request")
    || (bytes_eq word (codes "ask-pages")
    || bytes_eq word (codes "page-state"))))

-- The first word tells the kind of a datagram. Each kind has more words, so one alone is none.
abbrev pub first_is_kind : List (List ℕ) → Bool
first_is_kind [] = false
first_is_kind (word ∷ []) = false
first_is_kind (word ∷ next ∷ ws) = is_kind word

-- Its first word tells the kind of a datagram, and others follow.
abbrev pub begins_datagram : List ℕ → Bool
begins_datagram line = first_is_kind (words line)

-- the datagram of this word
unfoldable pub datagram_at : List ℕ → List (List ℕ) → Result Datagram WrongWord
datagram_at word ws =
    if bytes_eq word (codes "draw") then draw_at ws
    else (if bytes_eq word (codes "session-message") then session_at ws
    else (if bytes_eq word (codes "request") then request_at ws
    else (if bytes_eq word (codes "ask-pages") then ask_pages_at ws
    else (if bytes_eq word (codes "page-state") then page_state_at ws
    else wrong 1 faults.Unknown))))

unfoldable pub reading_of : List (List ℕ) → Result Datagram WrongWord
reading_of ws = do
  word ← word_at 1 ws
  datagram_at word.0 word.1

abbrev pub reading : List ℕ → Result Datagram WrongWord
reading line = reading_of (words line)
