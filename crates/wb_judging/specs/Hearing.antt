-- What a judge hears of what its kept member did.
use Rattle.std.specs.Prelude.{ℕ, List, [], ◌∷◌, Option, Some, None, if◌then◌else◌}
use Rattle.wb_names.specs.Values.{NameValue}
use Rattle.wb_codec.specs.declared.datagram.Datagram.{Datagram}
use Rattle.wb_codec.specs.declared.datagram.Datagram.TheVariants.{AskPages, Draw, PageState, Request, Session}
use Rattle.wb_judge.specs.Answers.{reported}
use Rattle.wb_judge.specs.Judge.{Judge, after_recall, after_taking}
use Rattle.wb_judge.specs.Strange.{with_given, without_name}
use Rattle.wb_judge.specs.declared.origin.Origin.{Origin}
use Rattle.wb_judging.specs.Events.{is_new}
use Rattle.wb_judging.specs.declared.event.Fate.{Fate}
use Rattle.wb_judging.specs.declared.record.RecordLine.{RecordLine}
use Rattle.wb_judging.specs.declared.record.RecordLine.TheVariants.{Known, Mark, Owner, Said, Strange, Tick}

-- a report of ours was sent
abbrev pub after_sending : Datagram → Judge → Judge
after_sending (Draw d) j = j
after_sending (Session sender sent page marks echoes) j = record j { own = reported sent j.own }
after_sending (Request asker name) j = j
after_sending (AskPages asker) j = j
after_sending (PageState sender page marks) j = j

abbrev pub after_sends : List Datagram → Judge → Judge
after_sends [] j = j
after_sends (v ∷ sent) j = after_sends sent (after_sending v j)

-- the board took in the drawop that came, if it is new
abbrev pub after_fate : ℕ → Origin → Datagram → Option Fate → Judge → Judge
after_fate now o (Draw d) fate j = if is_new fate then after_taking (record { name = d.name; origin = Some o }) o now j else j
after_fate now o (Session sender sent page marks echoes) fate j = j
after_fate now o (Request asker name) fate j = j
after_fate now o (AskPages asker) fate j = j
after_fate now o (PageState sender page marks) fate j = j

-- The record tells a drawop that is strange, and new here; or one that the user or a member gave, which is strange no more.
abbrev pub with_strange : NameValue → Judge → Judge
with_strange name j = record j { strange = with_given (record { name = name; origin = None }) j.strange }

abbrev pub with_members : NameValue → Judge → Judge
with_members name j = record j { strange = without_name name j.strange }

-- Or it tells who owns a number.
abbrev pub owned_at : ℕ → ℕ → Origin
owned_at place owner = record { place = place; owner = Some owner }

abbrev pub after_recalling : RecordLine → Option Fate → Judge → Judge
after_recalling (Tick past) fate j = j
after_recalling (Said d) fate j = with_members d.name j
after_recalling (Known d) fate j = with_members d.name j
after_recalling (Strange d) fate j = if is_new fate then with_strange d.name j else j
after_recalling (Mark speaker page mark) fate j = j
after_recalling (Owner number place owner) fate j = after_recall number (owned_at place owner) j
