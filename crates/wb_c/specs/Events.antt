-- What follows from a call by bytes: events, and the kind and the bytes of each.
use Rattle.std.specs.Prelude.{ℕ, List, [], ◌∷◌, ◌++◌, Some, None, map}
use Rattle.std.specs.Int.{w32, to_be_bytes}
use Rattle.wb_names.specs.Arrivals.{Outcome}
use Rattle.wb_names.specs.Arrivals as became
use Rattle.wb_names.specs.declared.gap.Gap.{Gap}
use Rattle.wb_codec.specs.Spelling.{mark_bytes, page_bytes, spelling}
use Rattle.wb_codec.specs.declared.datagram.Datagram.{Datagram}
use Rattle.wb_codec.specs.declared.datagram.Datagram.TheVariants as datagrams
use Rattle.wb_member.specs.Questions.{Told}
use Rattle.wb_member.specs.Questions as told
use Rattle.wb_c.specs.JudgedEvents as judged
use Rattle.wb_c.specs.declared.event.Event.{Event}
use Rattle.wb_c.specs.declared.event.Event.TheVariants.{Judged, Sent, New, Again, Clash, Left, Shown, Missing, Greatest, Page, Next, Painted, Digest}

-- ---- what became of a drawop

abbrev pub outcome_event : Outcome → Event
outcome_event (became.New place) = New
outcome_event (became.Again place) = Again
outcome_event (became.Clash place) = Clash
outcome_event became.Left = Left

-- of the one that came in, if the datagram is one
abbrev pub came_events : Datagram → Outcome → List Event
came_events (datagrams.Draw d) outcome = outcome_event outcome ∷ []
came_events (datagrams.Session sender sent page marks echoes) outcome = []
came_events (datagrams.Request asker name) outcome = []
came_events (datagrams.AskPages asker) outcome = []
came_events (datagrams.PageState sender page marks) outcome = []

-- ---- an answer, item by item

abbrev pub told_events : Told → List Event
told_events (told.canvas text) = Painted text ∷ []
told_events (told.gaps ranges) = map Missing ranges
told_events (told.report marks) = map Greatest marks
told_events (told.pages all) = map Page all
told_events (told.view drawops) = map Shown drawops
told_events (told.known all) = map Page all
told_events (told.next (Some number)) = Next number ∷ []
told_events (told.next None) = []
told_events (told.digest bytes) = Digest bytes ∷ []

-- ---- the kind of an event, and its bytes

abbrev pub kind_of : Event → ℕ
kind_of (Sent v) = 1
kind_of New = 2
kind_of Again = 3
kind_of Clash = 4
kind_of Left = 5
kind_of (Shown d) = 6
kind_of (Missing gap) = 7
kind_of (Greatest mark) = 8
kind_of (Page page) = 9
kind_of (Next number) = 10
kind_of (Painted text) = 11
kind_of (Digest bytes) = 17
kind_of (Judged event) = judged.kind_of event

-- a range: its source, its first number and its last
abbrev pub gap_bytes : Gap → List ℕ
gap_bytes gap = to_be_bytes w32 gap.source ++ to_be_bytes w32 gap.first ++ to_be_bytes w32 gap.last

-- Datagrams and drawops are spelled as on the network, and all numbers are big-endian.
abbrev pub bytes_of : Event → List ℕ
bytes_of (Sent v) = spelling v
bytes_of New = []
bytes_of Again = []
bytes_of Clash = []
bytes_of Left = []
bytes_of (Shown d) = spelling (datagrams.Draw d)
bytes_of (Missing gap) = gap_bytes gap
bytes_of (Greatest mark) = mark_bytes mark
bytes_of (Page page) = page_bytes page
bytes_of (Next number) = to_be_bytes w32 number
bytes_of (Painted text) = text
bytes_of (Digest bytes) = bytes
bytes_of (Judged event) = judged.bytes_of event
