-- What is recorded: the moment, and then lines of the record.
use Rattle.std.specs.Prelude.{ℕ, List, [], Option, Some, None, filter, length, map, nat_lt, option_to_list, if◌then◌else◌}
use Rattle.std.specs.List.{list_any}
use Rattle.wb_names.specs.Orders.{same_name}
use Rattle.wb_names.specs.Values.{DrawopValue, MarkValue, NameValue}
use Rattle.wb_names.specs.declared.name.PageId.{PageId}
use Rattle.wb_codec.specs.declared.datagram.Datagram.{Datagram}
use Rattle.wb_codec.specs.declared.datagram.Datagram.TheVariants.{AskPages, Draw, PageState, Request, Session}
use Rattle.wb_judge.specs.Judge.{Judge, owner_of}
use Rattle.wb_judge.specs.Laws.{speaker_in}
use Rattle.wb_judge.specs.Reports.{mark_in}
use Rattle.wb_judge.specs.Strange.{given_by, has_name}
use Rattle.wb_judge.specs.declared.origin.Origin.{Origin}
use Rattle.wb_judge.specs.declared.strange.Given.{Given}
use Rattle.wb_judge.specs.declared.verdict.Why.{Why}
use Rattle.wb_member.specs.Opened.{Opened, last_number}
use Rattle.wb_keeping.specs.Performing.{Keeping}
use Rattle.wb_judging.specs.declared.record.Giver.{Giver}
use Rattle.wb_judging.specs.declared.record.Giver.TheVariants.{Others, Past, User}
use Rattle.wb_judging.specs.declared.record.RecordLine.{RecordLine}
use Rattle.wb_judging.specs.declared.record.RecordLine.TheVariants.{Known, Mark, Owner, Said, Strange}

-- ---- what a board gained

-- Of what others give, that is strange which no known origin gave.
abbrev pub line_of : List Given → DrawopValue → RecordLine
line_of given d = if has_name d.name given then Strange d else Known d

-- What the record gave is recorded already.
abbrev pub gain_lines : Giver → List Given → List DrawopValue → List RecordLine
gain_lines User given gained = map Said gained
gain_lines Others given gained = map (line_of given) gained
gain_lines Past given gained = []

-- ---- what an origin gave that has answered

-- Fewer are strange than before: the origin has answered, and what it gave is strange no more.
abbrev pub freed : Origin → List Given → List Given → List NameValue
freed o before after = if nat_lt (length after) (length before) then given_by o before else []

-- the drawops that have one of these names
abbrev pub named : List NameValue → List DrawopValue → List DrawopValue
named names held = filter (λ d. list_any (λ n. same_name n d.name) names) held

-- They are recorded once more, as a member's.
abbrev pub freed_lines : Origin → List Given → List Given → List DrawopValue → List RecordLine
freed_lines o before after held = map Known (named (freed o before after) held)

-- ---- marks of ours

-- a mark of ours that is above all numbers of ours on its page that are held or were heard of
abbrev pub new_mark : ℕ → PageId → Option MarkValue → Opened → Option RecordLine
new_mark speaker page None host = None
new_mark speaker page (Some mark) host = if nat_lt (last_number page host) mark.high then Some (Mark speaker page mark) else None

abbrev pub new_mark_of : Datagram → Opened → Option RecordLine
new_mark_of (Draw d) host = None
new_mark_of (Session sender sent page marks echoes) host = new_mark sender page (mark_in host.is.number marks) host
new_mark_of (Request asker name) host = None
new_mark_of (AskPages asker) host = None
new_mark_of (PageState sender page marks) host = new_mark sender page (mark_in host.is.number marks) host

-- A member that listens believes it, unless it is dropped.
abbrev pub mark_lines : ℕ → Datagram → Option Why → Keeping → List RecordLine
mark_lines now v None k = if nat_lt now k.policy.ready then option_to_list (new_mark_of v k.host) else []
mark_lines now v (Some why) k = []

-- ---- owners

-- who owns the number of a speaker, if there is one
abbrev pub owner_by : Option ℕ → Judge → Option ℕ
owner_by None j = None
owner_by (Some number) j = owner_of number j

-- the owner of a number that had none before
abbrev pub new_owner : Option ℕ → ℕ → Option ℕ → Option ℕ → Option RecordLine
new_owner None place before after = None
new_owner (Some number) place None None = None
new_owner (Some number) place None (Some owner) = Some (Owner number place owner)
new_owner (Some number) place (Some before) after = None

-- Who speaks in a report owns its number by it, and nobody did before.
abbrev pub owner_lines : Origin → Datagram → Judge → Judge → List RecordLine
owner_lines o v before after = option_to_list (new_owner (speaker_in v) o.place (owner_by (speaker_in v) before) (owner_by (speaker_in v) after))
