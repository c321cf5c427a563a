-- The lines that tell what a host sends, and what it finds.
use Rattle.std.specs.Prelude.{◌≡◌, ℕ, List, [], ◌++◌, Bool, codes, flat_map, Ok, if◌then◌else◌}
use Rattle.std.specs.Fmt.{decimal}
use Rattle.hex.specs.Hex.{encode_lower}
use Rattle.wb_codec.specs.declared.datagram.Datagram.{Datagram}
use Rattle.wb_codec.specs.Ranges.{IsDatagram}
use Rattle.wb_codec.specs.Spelling.{spelling}
use Rattle.wb_words.specs.Spelling.{spelled}
use Rattle.wb_member.specs.Calls.{found_by, sent_by_call}
use Rattle.wb_member.specs.Opened.{Opened}
use Rattle.wb_member.specs.declared.calls.Call.{Call}
use Rattle.wb_member.specs.declared.calls.Found.{Found}
use Rattle.wb_member.specs.declared.calls.Found.TheVariants.{Nothing, Missing, MayAsk, WasAsked}
use Rattle.wb_commands.specs.Parsing.{script_line_of, arrived_line, heard_line, handed_in}

-- the bytes of a datagram in hexadecimal, with lower-case letters
abbrev pub digits_of : Datagram → List ℕ
digits_of v = encode_lower (spelling v)

-- the line of a datagram that is sent
abbrev pub send_line : Datagram → List ℕ
send_line v = codes "send " ++ (digits_of v ++ codes "\n")

-- a line for each of them, in their order
abbrev pub sends_text : List Datagram → List ℕ
sends_text sent = flat_map send_line sent

-- the line of a look at a page that gave timers to `count` missing drawops
abbrev pub look_line : ℕ → List ℕ
look_line count = codes "look " ++ (decimal count ++ codes "\n")

-- whether it began to ask for a name, and whether it gave up
abbrev pub ask_line : Bool → List ℕ
ask_line begun = if begun then codes "ask 1\n" else codes "ask 0\n"

abbrev pub stop_line : Bool → List ℕ
stop_line asked = if asked then codes "stop 1\n" else codes "stop 0\n"

-- what it finds when it is called
abbrev pub found_text : Found → List ℕ
found_text Nothing = []
found_text (Missing count) = look_line count
found_text (MayAsk begun) = ask_line begun
found_text (WasAsked asked) = stop_line asked

-- what is printed for a call that is not refused
abbrev pub done_text : List Datagram → Found → List ℕ
done_text sent found = sends_text sent ++ found_text found

abbrev pub call_text : Call → Opened → List ℕ
call_text call host = done_text (sent_by_call call host) (found_by call host)

-- ---- laws

-- What one script prints as sent, another takes. After the word `arrive` the digits of a drawop, and after `hear` those of every
-- other datagram, are read as that datagram; after `datagram` those of each are, and so are its words.
pub record IsReadBack (v : Datagram) : Type 0 where
  pub arrives : script_line_of (codes "arrive " ++ digits_of v) ≡ arrived_line v
  pub hears : script_line_of (codes "hear " ++ digits_of v) ≡ heard_line v
  pub by_bytes : script_line_of (codes "datagram " ++ digits_of v) ≡ Ok (handed_in v)
  pub by_words : script_line_of (spelled v) ≡ Ok (handed_in v)

abbrev pub SentIsTaken : Type 0
SentIsTaken = (v : Datagram) → IsDatagram v → IsReadBack v
