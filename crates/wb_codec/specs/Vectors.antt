-- Some datagrams, and their bytes as the layout is documented; some records.
use Rattle.std.specs.Prelude.{ℕ, List, [], ◌∷◌, ◌++◌, replicate}
use Rattle.wb_names.specs.Values.{DrawopValue}
use Rattle.wb_names.specs.declared.name.PageId.{PageId}
use Rattle.wb_names.specs.declared.parts.Op.{Op}
use Rattle.wb_names.specs.declared.parts.Figure.TheVariants.{Line}
use Rattle.wb_names.specs.declared.parts.Change.TheVariants.{Delete, Restore}
use Rattle.wb_names.specs.declared.parts.Op.TheVariants.{Drawn, Text, Aimed}
use Rattle.wb_codec.specs.declared.datagram.Datagram.{Datagram}
use Rattle.wb_codec.specs.declared.datagram.Datagram.TheVariants.{Session, Request, AskPages, PageState}

-- pages of member 7
abbrev pub page : ℕ → PageId
page n = record { creator = 7; number = n }

-- a drawop of page 1 of member 7
abbrev pub drawn : ℕ → ℕ → ℕ → Op → DrawopValue
drawn member n moment op = record { name = record { source = member; page = page 1; seq = n }; time = moment; op = op }

-- a line of five stars
abbrev pub line : DrawopValue
line = drawn 7 1 10 (Drawn Line (record { x0 = 0; y0 = 1; x1 = 4; y1 = 1; glyph = 0x2a }))

abbrev pub line_bytes : List ℕ
line_bytes =
    0x57 ∷ 0x42 ∷ 1 ∷ 1 ∷ 0 ∷ 0 ∷ 0 ∷ 34
    ∷ 0 ∷ 0 ∷ 0 ∷ 7 ∷ 0 ∷ 0 ∷ 0 ∷ 7 ∷ 0 ∷ 0 ∷ 0 ∷ 1 ∷ 0 ∷ 0 ∷ 0 ∷ 1
    ∷ 0 ∷ 0 ∷ 0 ∷ 0 ∷ 0 ∷ 0 ∷ 0 ∷ 10
    ∷ 1 ∷ 0 ∷ 0 ∷ 0 ∷ 1 ∷ 0 ∷ 4 ∷ 0 ∷ 1 ∷ 0x2a ∷ []

abbrev pub line_row : List ℕ
line_row = 0x0000000700000001 ∷ 0x0000000700000001 ∷ 10 ∷ 0x012a000001004001 ∷ replicate 8 0

-- its delete
abbrev pub delete : DrawopValue
delete = drawn 7 2 5 (Aimed Delete (record { source = 7; seq = 1 }))

abbrev pub delete_row : List ℕ
delete_row = 0x0000000700000002 ∷ 0x0000000700000001 ∷ 5 ∷ 0x0400000000000000 ∷ 0x0000000700000001 ∷ replicate 7 0

-- its restore, which only version 2 says
abbrev pub restore : DrawopValue
restore = drawn 8 4 6 (Aimed Restore (record { source = 7; seq = 1 }))

abbrev pub restore_bytes : List ℕ
restore_bytes =
    0x57 ∷ 0x42 ∷ 2 ∷ 1 ∷ 0 ∷ 0 ∷ 0 ∷ 33
    ∷ 0 ∷ 0 ∷ 0 ∷ 8 ∷ 0 ∷ 0 ∷ 0 ∷ 7 ∷ 0 ∷ 0 ∷ 0 ∷ 1 ∷ 0 ∷ 0 ∷ 0 ∷ 4
    ∷ 0 ∷ 0 ∷ 0 ∷ 0 ∷ 0 ∷ 0 ∷ 0 ∷ 6
    ∷ 5 ∷ 0 ∷ 0 ∷ 0 ∷ 7 ∷ 0 ∷ 0 ∷ 0 ∷ 1 ∷ []

-- the text "ab"
abbrev pub text : DrawopValue
text = drawn 8 1 10 (Text 1 1 (0x61 ∷ 0x62 ∷ []))

abbrev pub text_row : List ℕ
text_row = 0x0000000800000001 ∷ 0x0000000700000001 ∷ 10 ∷ 0x0302001001000000 ∷ 0x6162000000000000 ∷ replicate 7 0

-- a text of 41 times "x", which only version 2 says
abbrev pub long_text : DrawopValue
long_text = drawn 8 5 30 (Text 0 0 (replicate 41 0x78))

abbrev pub long_text_bytes : List ℕ
long_text_bytes =
    (0x57 ∷ 0x42 ∷ 2 ∷ 1 ∷ 0 ∷ 0 ∷ 0 ∷ 71
    ∷ 0 ∷ 0 ∷ 0 ∷ 8 ∷ 0 ∷ 0 ∷ 0 ∷ 7 ∷ 0 ∷ 0 ∷ 0 ∷ 1 ∷ 0 ∷ 0 ∷ 0 ∷ 5
    ∷ 0 ∷ 0 ∷ 0 ∷ 0 ∷ 0 ∷ 0 ∷ 0 ∷ 30
    ∷ 3 ∷ 0 ∷ 0 ∷ 0 ∷ 0 ∷ 41 ∷ []) ++ replicate 41 0x78

-- a session message with a mark and an echo
abbrev pub session : Datagram
session = Session 1 50 (page 4) (record { source = 7; high = 1 } ∷ []) (record { source = 8; sent = 0; held = 50 } ∷ [])

abbrev pub session_bytes : List ℕ
session_bytes =
    0x57 ∷ 0x42 ∷ 1 ∷ 2 ∷ 0 ∷ 0 ∷ 0 ∷ 52
    ∷ 0 ∷ 0 ∷ 0 ∷ 1 ∷ 0 ∷ 0 ∷ 0 ∷ 0 ∷ 0 ∷ 0 ∷ 0 ∷ 50 ∷ 0 ∷ 0 ∷ 0 ∷ 7 ∷ 0 ∷ 0 ∷ 0 ∷ 4
    ∷ 0 ∷ 1 ∷ 0 ∷ 0 ∷ 0 ∷ 7 ∷ 0 ∷ 0 ∷ 0 ∷ 1
    ∷ 0 ∷ 1 ∷ 0 ∷ 0 ∷ 0 ∷ 8 ∷ 0 ∷ 0 ∷ 0 ∷ 0 ∷ 0 ∷ 0 ∷ 0 ∷ 0 ∷ 0 ∷ 0 ∷ 0 ∷ 0 ∷ 0 ∷ 0 ∷ 0 ∷ 50 ∷ []

-- a request for the second drawop of page 4
abbrev pub request : Datagram
request = Request 8 (record { source = 7; page = page 4; seq = 2 })

abbrev pub request_bytes : List ℕ
request_bytes = 0x57 ∷ 0x42 ∷ 1 ∷ 3 ∷ 0 ∷ 0 ∷ 0 ∷ 20 ∷ 0 ∷ 0 ∷ 0 ∷ 8 ∷ 0 ∷ 0 ∷ 0 ∷ 7 ∷ 0 ∷ 0 ∷ 0 ∷ 7 ∷ 0 ∷ 0 ∷ 0 ∷ 4 ∷ 0 ∷ 0 ∷ 0 ∷ 2 ∷ []

abbrev pub ask_pages : Datagram
ask_pages = AskPages 8

abbrev pub ask_pages_bytes : List ℕ
ask_pages_bytes = 0x57 ∷ 0x42 ∷ 1 ∷ 4 ∷ 0 ∷ 0 ∷ 0 ∷ 4 ∷ 0 ∷ 0 ∷ 0 ∷ 8 ∷ []

abbrev pub page_state : Datagram
page_state = PageState 1 (page 4) (record { source = 7; high = 1 } ∷ [])

abbrev pub page_state_bytes : List ℕ
page_state_bytes = 0x57 ∷ 0x42 ∷ 1 ∷ 5 ∷ 0 ∷ 0 ∷ 0 ∷ 22 ∷ 0 ∷ 0 ∷ 0 ∷ 1 ∷ 0 ∷ 0 ∷ 0 ∷ 7 ∷ 0 ∷ 0 ∷ 0 ∷ 4 ∷ 0 ∷ 1 ∷ 0 ∷ 0 ∷ 0 ∷ 7 ∷ 0 ∷ 0 ∷ 0 ∷ 1 ∷ []
