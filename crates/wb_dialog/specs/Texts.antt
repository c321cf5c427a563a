-- What is printed for the events of a call, and for the members and the pages that a driver asks for.
use Rattle.std.specs.Prelude.{ℕ, List, [], ◌∷◌, ◌++◌, ◌+◌, Option, Some, None, codes, flat_map, length}
use Rattle.std.specs.Fmt.{decimal}
use Rattle.std.specs.List.{range_with_len}
use Rattle.wb_names.specs.Values.{DrawopValue, MarkValue, NameValue}
use Rattle.wb_names.specs.declared.name.PageId.{PageId}
use Rattle.wb_names.specs.declared.parts.Target.{Target}
use Rattle.wb_codec.specs.declared.datagram.Datagram.{Datagram}
use Rattle.wb_codec.specs.declared.datagram.Datagram.TheVariants.{Draw, PageState}
use Rattle.wb_display.specs.Canvas.{row_text}
use Rattle.wb_words.specs.Spelling.{spelled}
use Rattle.wb_commands.specs.Answers.{counted_list as counted, drawop_line}
use Rattle.wb_commands.specs.SentLines.{digits_of, send_line}
use Rattle.wb_judge.specs.declared.origin.Origin.{Origin}
use Rattle.wb_judge.specs.declared.others.Other.{Other}
use Rattle.wb_judge.specs.declared.pages.Listed.{Listed}
use Rattle.wb_judge.specs.declared.verdict.Warning.{Warning}
use Rattle.wb_judge.specs.declared.verdict.Warning.TheVariants.{ForgedMark, Impostor, NoCell, NoShare, Twin}
use Rattle.wb_judge.specs.declared.verdict.Why.{Why}
use Rattle.wb_judge.specs.declared.verdict.Why.TheVariants as whys
use Rattle.wb_judging.specs.declared.event.Event.{Event}
use Rattle.wb_judging.specs.declared.event.Event.TheVariants.{Became, Dropped, Drew, Fetch, NoDatagram, Record, Send, Warn}
use Rattle.wb_judging.specs.declared.event.Fate.{Fate}
use Rattle.wb_judging.specs.declared.event.Fate.TheVariants as fates
use Rattle.wb_judging.specs.declared.record.RecordLine.{RecordLine}
use Rattle.wb_judging.specs.declared.since.ShownAt.{ShownAt}
use Rattle.wb_judging.specs.declared.record.RecordLine.TheVariants.{Known, Mark, Owner, Said, Strange, Tick}

-- ---- lines of the record, without their ends

abbrev pub tick_text : ℕ → List ℕ
tick_text now = codes "tick " ++ decimal now

-- what no known origin gave stands in words, and what the user drew too, after a word of its own
abbrev pub strange_text : DrawopValue → List ℕ
strange_text d = spelled (Draw d)

abbrev pub said_text : DrawopValue → List ℕ
said_text d = codes "say " ++ strange_text d

-- what a member gave stands in hexadecimal
abbrev pub known_text : DrawopValue → List ℕ
known_text d = codes "datagram " ++ digits_of (Draw d)

-- a mark stands in the words of a report that has no other
abbrev pub mark_text : ℕ → PageId → MarkValue → List ℕ
mark_text speaker page mark = spelled (PageState speaker page (mark ∷ []))

-- `owner NUMBER PLACE@OWNER`
abbrev pub owner_text : ℕ → ℕ → ℕ → List ℕ
owner_text number place owner = codes "owner " ++ (decimal number ++ (codes " " ++ (decimal place ++ (codes "@" ++ decimal owner))))

abbrev pub record_text : RecordLine → List ℕ
record_text (Tick now) = tick_text now
record_text (Said d) = said_text d
record_text (Known d) = known_text d
record_text (Strange d) = strange_text d
record_text (Mark speaker page mark) = mark_text speaker page mark
record_text (Owner number place owner) = owner_text number place owner

-- ---- events

-- `PLACE`, or `PLACE@OWNER`
abbrev pub owned : ℕ → Option ℕ → List ℕ
owned place None = decimal place
owned place (Some owner) = decimal place ++ (codes "@" ++ decimal owner)

abbrev pub origin_word : Origin → List ℕ
origin_word o = owned o.place o.owner

abbrev pub why_word : Why → List ℕ
why_word whys.Own = codes "own"
why_word whys.Speaks = codes "speaks"
why_word whys.Crowd = codes "crowd"
why_word whys.Mark = codes "mark"
why_word whys.Stranger = codes "stranger"
why_word whys.Flood = codes "flood"
why_word whys.Again = codes "again"
why_word whys.Ahead = codes "ahead"
why_word whys.Full = codes "full"
why_word whys.Share = codes "share"
why_word whys.Pages = codes "pages"
why_word whys.Holes = codes "holes"

abbrev pub fate_word : Fate → List ℕ
fate_word fates.New = codes "new"
fate_word fates.Again = codes "again"
fate_word fates.Clash = codes "clash"
fate_word fates.Left = codes "left"

abbrev pub dropped_line : Why → List ℕ
dropped_line why = codes "dropped " ++ (why_word why ++ codes "\n")

abbrev pub record_line : RecordLine → List ℕ
record_line line = codes "record " ++ (record_text line ++ codes "\n")

abbrev pub drew_line : NameValue → List ℕ
drew_line n = codes "drew " ++ (decimal n.page.creator ++ (codes " " ++ (decimal n.page.number ++ (codes " " ++ (decimal n.source ++ (codes " " ++ (decimal n.seq ++ codes "\n")))))))

abbrev pub became_line : Fate → List ℕ
became_line fate = codes "became " ++ (fate_word fate ++ codes "\n")

abbrev pub fetch_line : Origin → ℕ → List ℕ
fetch_line o lacking = codes "fetch " ++ (origin_word o ++ (codes " " ++ (decimal lacking ++ codes "\n")))

abbrev pub warning_line : Warning → List ℕ
warning_line (Impostor number) = codes "warn speaks " ++ (decimal number ++ codes "\n")
warning_line ForgedMark = codes "warn mark\n"
warning_line Twin = codes "warn twin\n"
warning_line NoCell = codes "warn full\n"
warning_line NoShare = codes "warn share\n"

abbrev pub event_line : Event → List ℕ
event_line NoDatagram = codes "dropped datagram\n"
event_line (Dropped why) = dropped_line why
event_line (Record line) = record_line line
event_line (Drew n) = drew_line n
event_line (Send v) = send_line v
event_line (Became fate) = became_line fate
event_line (Fetch o lacking) = fetch_line o lacking
event_line (Warn warning) = warning_line warning

-- a line for each, in their order
abbrev pub events_text : List Event → List ℕ
events_text events = flat_map event_line events

-- ---- members and pages

abbrev pub moment_word : Option ℕ → List ℕ
moment_word None = codes "-"
moment_word (Some moment) = decimal moment

-- a number that was heard: from where, when it last answered us, and when it was heard last
abbrev pub member_line : Other → List ℕ
member_line m = codes "member " ++ (decimal m.number ++ (codes " " ++ (origin_word m.origin ++ (codes " " ++ (moment_word m.answered ++ (codes " " ++ (decimal m.at ++ codes "\n")))))))

abbrev pub members_text : List Other → List ℕ
members_text members = counted (codes "members ") member_line members

-- a page, and how many of its drawops are held
abbrev pub listed_line : Listed → List ℕ
listed_line p = decimal p.page.creator ++ (codes " " ++ (decimal p.page.number ++ (codes " " ++ (decimal p.count ++ codes "\n"))))

abbrev pub list_text : List Listed → List ℕ
list_text pages = counted (codes "list ") listed_line pages

-- ---- a canvas

-- A row after a mark: no line that closes a block begins so.
abbrev pub painted_row : List DrawopValue → ℕ → ℕ → List ℕ
painted_row shown width y = codes "|" ++ row_text shown width y

-- how many rows, and each
abbrev pub paint_text : List DrawopValue → ℕ → ℕ → List ℕ
paint_text shown width height = codes "paint " ++ (decimal height ++ codes "\n") ++ flat_map (painted_row shown width) (range_with_len 0 height)

-- ---- what a page shows otherwise than it did

-- what may be shown no more, by its source and its number, and what is shown, by its place
abbrev pub hidden_line : Target → List ℕ
hidden_line t = codes "hidden " ++ (decimal t.source ++ (codes " " ++ (decimal t.seq ++ codes "\n")))

abbrev pub shown_line : ShownAt → List ℕ
shown_line p = (codes "shown " ++ (decimal p.place ++ codes " ")) ++ drawop_line p.drawop

-- how many drawops are held, how many lines follow, and these: first what may be shown no more
abbrev pub since_text : ℕ → List Target → List ShownAt → List ℕ
since_text held hidden shown =
    (codes "since " ++ (decimal held ++ (codes " " ++ (decimal (length hidden + length shown) ++ codes "\n")))) ++ (flat_map hidden_line hidden ++ flat_map shown_line shown)

-- ---- what is missing

abbrev pub lacks_line : ℕ → List ℕ
lacks_line count = codes "lacks " ++ (decimal count ++ codes "\n")

-- ---- a datagram in words

-- as `wb words` says it
abbrev pub worded_line : Datagram → List ℕ
worded_line v = codes "words " ++ (spelled v ++ codes "\n")
