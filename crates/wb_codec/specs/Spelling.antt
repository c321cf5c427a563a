-- The bytes of a datagram: each value has one spelling. Numbers are big-endian.
use Rattle.std.specs.Prelude.{ℕ, List, [], ◌∷◌, ◌++◌, length, nat_le, if◌then◌else◌}
use Rattle.std.specs.List.{flat_map}
use Rattle.std.specs.Int.{w16, w32, w64, to_be_bytes}
use Rattle.wb_names.specs.Values.{NameValue, DrawopValue, MarkValue}
use Rattle.wb_names.specs.Kinds.{op_kind}
use Rattle.wb_names.specs.declared.name.PageId.{PageId}
use Rattle.wb_names.specs.declared.echo.Echo.{Echo}
use Rattle.wb_names.specs.declared.parts.Stroke.{Stroke}
use Rattle.wb_names.specs.declared.parts.Target.{Target}
use Rattle.wb_names.specs.declared.parts.Op.{Op}
use Rattle.wb_names.specs.declared.parts.Op.TheVariants.{Drawn, Text, Aimed}
use Rattle.wb_codec.specs.declared.datagram.Datagram.{Datagram}
use Rattle.wb_codec.specs.declared.datagram.Datagram.TheVariants.{Draw, Session, Request, AskPages, PageState}
use Rattle.wb_codec.specs.declared.version.Version.{Version}
use Rattle.wb_codec.specs.declared.version.Version.TheVariants.{One, Two}
use Rattle.wb_codec.specs.Kinds.{op_code, first_version}

abbrev pub page_bytes : PageId → List ℕ
page_bytes p = to_be_bytes w32 p.creator ++ to_be_bytes w32 p.number

abbrev pub name_bytes : NameValue → List ℕ
name_bytes n = to_be_bytes w32 n.source ++ page_bytes n.page ++ to_be_bytes w32 n.seq

abbrev pub stroke_bytes : Stroke → List ℕ
stroke_bytes s = to_be_bytes w16 s.x0 ++ to_be_bytes w16 s.y0 ++ to_be_bytes w16 s.x1 ++ to_be_bytes w16 s.y1 ++ s.glyph ∷ []

abbrev pub text_bytes : ℕ → ℕ → List ℕ → List ℕ
text_bytes x y text = to_be_bytes w16 x ++ to_be_bytes w16 y ++ length text ∷ [] ++ text

abbrev pub target_bytes : Target → List ℕ
target_bytes t = to_be_bytes w32 t.source ++ to_be_bytes w32 t.seq

abbrev pub field_bytes : Op → List ℕ
field_bytes (Drawn figure s) = stroke_bytes s
field_bytes (Text x y text) = text_bytes x y text
field_bytes (Aimed change t) = target_bytes t

-- an operation's number, and its fields
abbrev pub op_bytes : Op → List ℕ
op_bytes op = op_code (op_kind op) ∷ field_bytes op

abbrev pub drawop_bytes : DrawopValue → List ℕ
drawop_bytes d = name_bytes d.name ++ to_be_bytes w64 d.time ++ op_bytes d.op

abbrev pub mark_bytes : MarkValue → List ℕ
mark_bytes m = to_be_bytes w32 m.source ++ to_be_bytes w32 m.high

abbrev pub echo_bytes : Echo → List ℕ
echo_bytes e = to_be_bytes w32 e.source ++ to_be_bytes w64 e.sent ++ to_be_bytes w64 e.held

-- how many, and each
abbrev pub list_bytes : {E : Type 0} → (E → List ℕ) → List E → List ℕ
list_bytes entry_bytes entries = to_be_bytes w16 (length entries) ++ flat_map entry_bytes entries

abbrev pub body : Datagram → List ℕ
body (Draw d) = drawop_bytes d
body (Session sender sent page marks echoes) = to_be_bytes w32 sender ++ to_be_bytes w64 sent ++ page_bytes page ++ list_bytes mark_bytes marks ++ list_bytes echo_bytes echoes
body (Request asker name) = to_be_bytes w32 asker ++ name_bytes name
body (AskPages asker) = to_be_bytes w32 asker
body (PageState sender page marks) = to_be_bytes w32 sender ++ page_bytes page ++ list_bytes mark_bytes marks

abbrev pub kind_code : Datagram → ℕ
kind_code (Draw d) = 1
kind_code (Session sender sent page marks echoes) = 2
kind_code (Request asker name) = 3
kind_code (AskPages asker) = 4
kind_code (PageState sender page marks) = 5

-- version 2 spells a text of over 40 bytes
abbrev pub op_version : Op → Version
op_version (Text x y text) = if nat_le (length text) 40 then One else Two
op_version op = first_version (op_kind op)

abbrev pub version_of : Datagram → Version
version_of (Draw d) = op_version d.op
version_of v = One

abbrev pub version_code : Version → ℕ
version_code One = 1
version_code Two = 2

-- "WB", the version, the kind, how many bytes the body has, and the body
abbrev pub framed : ℕ → ℕ → List ℕ → List ℕ
framed version kind bytes = 0x57 ∷ 0x42 ∷ version ∷ kind ∷ (to_be_bytes w32 (length bytes) ++ bytes)

abbrev pub spelling : Datagram → List ℕ
spelling v = framed (version_code (version_of v)) (kind_code v) (body v)
