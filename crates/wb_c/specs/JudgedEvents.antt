-- The kinds and the bytes of what a judged member gives.
use Rattle.std.specs.Prelude.{ℕ, List, [], ◌++◌, Option, Some, None}
use Rattle.std.specs.Int.{w32, w64, to_be_bytes}
use Rattle.wb_codec.specs.Spelling.{name_bytes, spelling}
use Rattle.wb_judge.specs.declared.origin.Origin.{Origin}
use Rattle.wb_judge.specs.declared.verdict.Warning.{Warning}
use Rattle.wb_judge.specs.declared.verdict.Warning.TheVariants as warnings
use Rattle.wb_judge.specs.declared.verdict.Why.{Why}
use Rattle.wb_judge.specs.declared.verdict.Why.TheVariants as whys
use Rattle.wb_judging.specs.declared.event.Event.{Event}
use Rattle.wb_judging.specs.declared.event.Event.TheVariants.{Became, Dropped, Drew, Fetch, NoDatagram, Record, Send, Warn}
use Rattle.wb_judging.specs.declared.event.Fate.{Fate}
use Rattle.wb_judging.specs.declared.event.Fate.TheVariants as fates
use Rattle.wb_dialog.specs.Texts.{record_text}

-- ---- kinds

-- What became of a drawop has the kinds that it has at a member that is not judged.
abbrev pub fate_kind : Fate → ℕ
fate_kind fates.New = 2
fate_kind fates.Again = 3
fate_kind fates.Clash = 4
fate_kind fates.Left = 5

-- What is not a datagram is dropped too.
abbrev pub kind_of : Event → ℕ
kind_of (Send v) = 1
kind_of (Became fate) = fate_kind fate
kind_of NoDatagram = 12
kind_of (Dropped why) = 12
kind_of (Record line) = 13
kind_of (Drew name) = 14
kind_of (Fetch o lacking) = 15
kind_of (Warn warning) = 16

-- ---- bytes

-- Why a datagram is dropped. The number 1 is for what is not a datagram.
abbrev pub why_number : Why → ℕ
why_number whys.Own = 2
why_number whys.Speaks = 3
why_number whys.Crowd = 4
why_number whys.Mark = 5
why_number whys.Stranger = 6
why_number whys.Flood = 7
why_number whys.Again = 8
why_number whys.Ahead = 9
why_number whys.Full = 10
why_number whys.Share = 11
why_number whys.Pages = 12
why_number whys.Holes = 13

abbrev pub warning_number : Warning → ℕ
warning_number (warnings.Impostor number) = 1
warning_number warnings.ForgedMark = 2
warning_number warnings.Twin = 3
warning_number warnings.NoCell = 4
warning_number warnings.NoShare = 5

-- behind its number that of the member for whom another speaks
abbrev pub warning_bytes : Warning → List ℕ
warning_bytes (warnings.Impostor number) = to_be_bytes w32 1 ++ to_be_bytes w32 number
warning_bytes warnings.ForgedMark = to_be_bytes w32 2
warning_bytes warnings.Twin = to_be_bytes w32 3
warning_bytes warnings.NoCell = to_be_bytes w32 4
warning_bytes warnings.NoShare = to_be_bytes w32 5

abbrev pub owner_bytes : Option ℕ → List ℕ
owner_bytes None = []
owner_bytes (Some owner) = to_be_bytes w64 owner

-- from where a stream is to be taken: the place, how many numbers are missing, and the owner, if the place has one
abbrev pub fetch_bytes : Origin → ℕ → List ℕ
fetch_bytes o lacking = (to_be_bytes w64 o.place ++ to_be_bytes w64 lacking) ++ owner_bytes o.owner

-- A line of the record is a text without its end. Names are spelled as on the network.
abbrev pub bytes_of : Event → List ℕ
bytes_of (Send v) = spelling v
bytes_of (Became fate) = []
bytes_of NoDatagram = to_be_bytes w32 1
bytes_of (Dropped why) = to_be_bytes w32 (why_number why)
bytes_of (Record line) = record_text line
bytes_of (Drew name) = name_bytes name
bytes_of (Fetch o lacking) = fetch_bytes o lacking
bytes_of (Warn warning) = warning_bytes warning
