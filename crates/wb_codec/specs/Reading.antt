-- What bytes say, or the first check that fails: the header, then the sizes, then the fields.
use Rattle.std.specs.Prelude.{◌≡◌, ℕ, zero, suc, Bool, true, false, ◌&&◌, List, [], ◌∷◌, length, take, drop, Option, Some, None, Result, Ok, Err, nat_eq, nat_le, if◌then◌else◌}
use Rattle.std.specs.List.{list_all}
use Rattle.std.specs.Int.{Width, w16, w32, w64, byte_len, from_be_bytes}
use Rattle.wb_names.specs.Values.{NameValue, DrawopValue, MarkValue}
use Rattle.wb_names.specs.Faults.{first_of, fault_unless}
use Rattle.wb_names.specs.Ascending.{is_above}
use Rattle.wb_names.specs.Drawing.{seq_fault, stroke_fault, target_fault, is_coordinate, is_printable}
use Rattle.wb_names.specs.declared.name.PageId.{PageId}
use Rattle.wb_names.specs.declared.fault.FieldFault.{FieldFault}
use Rattle.wb_names.specs.declared.fault.FieldFault.TheVariants.{Coordinate, TextLength, TextByte}
use Rattle.wb_names.specs.declared.echo.Echo.{Echo}
use Rattle.wb_names.specs.declared.parts.Figure.{Figure}
use Rattle.wb_names.specs.declared.parts.Change.{Change}
use Rattle.wb_names.specs.declared.parts.OpKind.{OpKind}
use Rattle.wb_names.specs.declared.parts.OpKind.TheVariants as kinds
use Rattle.wb_names.specs.declared.parts.Op.{Op}
use Rattle.wb_names.specs.declared.parts.Op.TheVariants.{Drawn, Text, Aimed}
use Rattle.wb_names.specs.declared.text.TheConstants.Text.{MAX_LEN}
use Rattle.wb_codec.specs.declared.datagram.Datagram.{Datagram}
use Rattle.wb_codec.specs.declared.datagram.Datagram.TheVariants as datagrams
use Rattle.wb_codec.specs.declared.version.Version.{Version}
use Rattle.wb_codec.specs.declared.version.Version.TheVariants.{One, Two}
use Rattle.wb_codec.specs.Kinds.{op_kind_of, has_kind}
use Rattle.wb_codec.specs.declared.header.Kind.{Kind}
use Rattle.wb_codec.specs.declared.header.Kind.TheVariants.{Draw, Session, Request, AskPages, PageState}
use Rattle.wb_codec.specs.declared.fault.ReadFault.{ReadFault}
use Rattle.wb_codec.specs.declared.fault.ReadFault.TheVariants as faults

infixl 10 ◌>>=◌
abbrev pub ◌>>=◌ : {A B : Type 0} → Result A ReadFault → (A → Result B ReadFault) → Result B ReadFault
(Ok x) >>= f = f x
(Err e) >>= f = Err e

-- the value, where the check holds
abbrev pub require : {A : Type 0} → Bool → ReadFault → A → Result A ReadFault
require true fault x = Ok x
require false fault x = Err fault

-- What a reader of the code gave, seen by view, is what reading gives.
abbrev pub Gives : {X Y : Type 0} → (X → Y) → Result X ReadFault → Result Y ReadFault → Type 0
Gives view (Ok x) read = read ≡ Ok (view x)
Gives view (Err fault) read = read ≡ Err fault

-- ---- fields: a value at the front, and the bytes after it

abbrev pub number_at : Width → List ℕ → Result (ℕ × List ℕ) ReadFault
number_at w bytes = require (nat_le (byte_len w) (length bytes)) faults.Length (from_be_bytes w (take (byte_len w) bytes), drop (byte_len w) bytes)

abbrev pub byte_at : List ℕ → Result (ℕ × List ℕ) ReadFault
byte_at [] = Err faults.Length
byte_at (b ∷ bytes) = Ok (b, bytes)

unfoldable pub page_at : List ℕ → Result (PageId × List ℕ) ReadFault
page_at bytes = do
  creator ← number_at w32 bytes
  number ← number_at w32 creator.1
  Ok (record { creator = creator.0; number = number.0 }, number.1)

-- the fields of a name, whose number may be 0
unfoldable pub name_at : List ℕ → Result (NameValue × List ℕ) ReadFault
name_at bytes = do
  source ← number_at w32 bytes
  page ← page_at source.1
  seq ← number_at w32 page.1
  Ok (record { source = source.0; page = page.0; seq = seq.0 }, seq.1)

-- no byte is left
abbrev pub end_of : {A : Type 0} → List ℕ → A → Result A ReadFault
end_of rest x = require (nat_eq (length rest) 0) faults.Length x

-- ---- operations, their fields not yet checked

unfoldable pub stroke_at : Figure → List ℕ → Result (Op × List ℕ) ReadFault
stroke_at figure bytes = do
  x0 ← number_at w16 bytes
  y0 ← number_at w16 x0.1
  x1 ← number_at w16 y0.1
  y1 ← number_at w16 x1.1
  glyph ← byte_at y1.1
  Ok (Drawn figure (record { x0 = x0.0; y0 = y0.0; x1 = x1.0; y1 = y1.0; glyph = glyph.0 }), glyph.1)

unfoldable pub text_at : List ℕ → Result (Op × List ℕ) ReadFault
text_at bytes = do
  x ← number_at w16 bytes
  y ← number_at w16 x.1
  n ← byte_at y.1
  require (nat_le n.0 (length n.1)) faults.Length (Text x.0 y.0 (take n.0 n.1), drop n.0 n.1)

unfoldable pub target_at : Change → List ℕ → Result (Op × List ℕ) ReadFault
target_at change bytes = do
  source ← number_at w32 bytes
  seq ← number_at w32 source.1
  Ok (Aimed change (record { source = source.0; seq = seq.0 }), seq.1)

-- the fields of an operation of this kind
unfoldable pub fields_at : OpKind → List ℕ → Result (Op × List ℕ) ReadFault
fields_at (kinds.Drawn figure) bytes = stroke_at figure bytes
fields_at kinds.Text bytes = text_at bytes
fields_at (kinds.Aimed change) bytes = target_at change bytes

-- the kind, if there is one and the version has it
abbrev pub kind_in_version : Version → Option OpKind → Result OpKind ReadFault
kind_in_version version None = Err faults.OpKind
kind_in_version version (Some kind) = require (has_kind version kind) faults.OpKind kind

unfoldable pub op_at : Version → List ℕ → Result (Op × List ℕ) ReadFault
op_at version bytes = do
  number ← byte_at bytes
  kind ← kind_in_version version (op_kind_of number.0)
  fields_at kind number.1

-- ---- drawops

-- how many bytes a text of this version has: each length is said by one version
abbrev pub is_length_of : Version → ℕ → Bool
is_length_of One n = nat_le 1 n && nat_le n 40
is_length_of Two n = nat_le 41 n && nat_le n MAX_LEN

-- The first fault of an operation that this version tells. The length of a text stands where lengths are checked.
abbrev pub fault_in_version : Version → NameValue → Op → Option FieldFault
fault_in_version version name (Drawn figure s) = stroke_fault s
fault_in_version version name (Text x y text) = first_of (
    fault_unless (is_coordinate x && is_coordinate y) Coordinate
    ∷ fault_unless (is_length_of version (length text)) TextLength
    ∷ fault_unless (list_all is_printable text) TextByte
    ∷ [])
fault_in_version version name (Aimed change t) = target_fault name t

-- the value, where no field has a fault
abbrev pub in_range : {A : Type 0} → Option FieldFault → A → Result A ReadFault
in_range None x = Ok x
in_range (Some fault) x = Err (faults.Field fault)

-- a drawop takes all of the body, and its fields are checked last
unfoldable pub drawop_at : Version → List ℕ → Result DrawopValue ReadFault
drawop_at version bytes = do
  name ← name_at bytes
  time ← number_at w64 name.1
  op ← op_at version time.1
  whole ← end_of op.1 op.0
  named ← in_range (seq_fault name.0.seq) name.0
  in_range (fault_in_version version named whole) (record { name = named; time = time.0; op = whole })

-- ---- lists: n entries, each source above the one before it

-- a mark: that it is whole comes first, then its number, then its source
unfoldable pub mark_at : Option ℕ → List ℕ → Result (MarkValue × List ℕ) ReadFault
mark_at before bytes = do
  source ← number_at w32 bytes
  high ← number_at w32 source.1
  counted ← in_range (seq_fault high.0) high.0
  above ← require (is_above before source.0) faults.Order source.0
  Ok (record { source = above; high = counted }, high.1)

unfoldable pub echo_at : Option ℕ → List ℕ → Result (Echo × List ℕ) ReadFault
echo_at before bytes = do
  source ← number_at w32 bytes
  sent ← number_at w64 source.1
  held ← number_at w64 sent.1
  above ← require (is_above before source.0) faults.Order source.0
  Ok (record { source = above; sent = sent.0; held = held.0 }, held.1)

-- n entries, one after another
unfoldable pub list_at : {X : Type 0} → (Option ℕ → List ℕ → Result (X × List ℕ) ReadFault) → (X → ℕ) → ℕ → Option ℕ → List ℕ → Result (List X × List ℕ) ReadFault
list_at entry_at source zero before bytes = Ok ([], bytes)
list_at entry_at source (suc n) before bytes = do
  entry ← entry_at before bytes
  others ← list_at entry_at source n (Some (source entry.0)) entry.1
  Ok (entry.0 ∷ others.0, others.1)

abbrev pub marks_at : ℕ → List ℕ → Result (List MarkValue × List ℕ) ReadFault
marks_at n bytes = list_at mark_at (λ (m : MarkValue). m.source) n None bytes

abbrev pub echoes_at : ℕ → List ℕ → Result (List Echo × List ℕ) ReadFault
echoes_at n bytes = list_at echo_at (λ (e : Echo). e.source) n None bytes

-- ---- bodies

unfoldable pub session_at : List ℕ → Result Datagram ReadFault
session_at bytes = do
  sender ← number_at w32 bytes
  sent ← number_at w64 sender.1
  page ← page_at sent.1
  m ← number_at w16 page.1
  marks ← marks_at m.0 m.1
  n ← number_at w16 marks.1
  echoes ← echoes_at n.0 n.1
  end_of echoes.1 (datagrams.Session sender.0 sent.0 page.0 marks.0 echoes.0)

-- a body of another size is refused before the number of its name is
unfoldable pub request_at : List ℕ → Result Datagram ReadFault
request_at bytes = do
  asker ← number_at w32 bytes
  name ← name_at asker.1
  whole ← end_of name.1 name.0
  in_range (seq_fault whole.seq) (datagrams.Request asker.0 whole)

unfoldable pub ask_pages_at : List ℕ → Result Datagram ReadFault
ask_pages_at bytes = do
  asker ← number_at w32 bytes
  end_of asker.1 (datagrams.AskPages asker.0)

unfoldable pub page_state_at : List ℕ → Result Datagram ReadFault
page_state_at bytes = do
  sender ← number_at w32 bytes
  page ← page_at sender.1
  m ← number_at w16 page.1
  marks ← marks_at m.0 m.1
  end_of marks.1 (datagrams.PageState sender.0 page.0 marks.0)

unfoldable pub draw_at : Version → List ℕ → Result Datagram ReadFault
draw_at version bytes = do
  d ← drawop_at version bytes
  Ok (datagrams.Draw d)

-- the body of a datagram of this version and kind
unfoldable pub body_at : Version → Kind → List ℕ → Result Datagram ReadFault
body_at version Draw bytes = draw_at version bytes
body_at version Session bytes = session_at bytes
body_at version Request bytes = request_at bytes
body_at version AskPages bytes = ask_pages_at bytes
body_at version PageState bytes = page_state_at bytes

-- ---- the header

unfoldable pub version_at : ℕ → Result Version ReadFault
version_at number =
    if nat_eq number 1 then Ok One
    else (if nat_eq number 2 then Ok Two
    else Err faults.Version)

-- version 2 tells drawops alone
unfoldable pub kind_at : Version → ℕ → Result Kind ReadFault
kind_at One number =
    if nat_eq number 1 then Ok Draw
    else (if nat_eq number 2 then Ok Session
    else (if nat_eq number 3 then Ok Request
    else (if nat_eq number 4 then Ok AskPages
    else (if nat_eq number 5 then Ok PageState
    else Err faults.Kind))))
kind_at Two number = if nat_eq number 1 then Ok Draw else Err faults.Kind

pub record Framed : Type 0 where
  pub version : Version
  pub kind : Kind
  pub body : List ℕ

-- a body of as many bytes as the header tells
unfoldable pub frame_at : List ℕ → Result Framed ReadFault
frame_at (a ∷ b ∷ v ∷ k ∷ l0 ∷ l1 ∷ l2 ∷ l3 ∷ bytes) = do
  size ← require (nat_eq a 0x57 && nat_eq b 0x42) faults.Magic (from_be_bytes w32 (l0 ∷ l1 ∷ l2 ∷ l3 ∷ []))
  version ← version_at v
  kind ← kind_at version k
  enough ← require (nat_le size (length bytes)) faults.Short bytes
  body ← require (nat_le (length enough) size) faults.Trailing enough
  Ok (record { version = version; kind = kind; body = body })
frame_at bytes = Err faults.Short

-- all of the bytes
unfoldable pub reading : List ℕ → Result Datagram ReadFault
reading bytes = do
  frame ← frame_at bytes
  body_at frame.version frame.kind frame.body
