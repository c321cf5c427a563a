-- A judged member keeps its number, and its judge has the number of its board.
use Rattle.std.proofs.Common.{◌≡◌, ◌∙◌, ℕ, Bool, true, false, cond, List, [], ◌∷◌, Option, Some, refl, sym}
use Rattle.wb_names.specs.Values.{NameValue}
use Rattle.wb_codec.specs.declared.datagram.Datagram.{Datagram}
use Rattle.wb_codec.specs.declared.datagram.Datagram.TheVariants.{AskPages, Draw, PageState, Request, Session}
use Rattle.wb_judge.specs.Judge.{Judge}
use Rattle.wb_judge.specs.declared.origin.Origin.{Origin}
use Rattle.wb_member.specs.Lines.{Calls, Line, Says, after_line, after_lines}
use Rattle.wb_member.specs.Opened.{Opened}
use Rattle.wb_member.proofs.KeptBoards.{calls_keep_boards}
use Rattle.wb_keeping.specs.Laws.{KeptLine, doing_of}
use Rattle.wb_keeping.specs.Performing.{Keeping, sees}
use Rattle.wb_judging.specs.Events.{is_new}
use Rattle.wb_judging.specs.Handing.{facts_of, handed, judge_after}
use Rattle.wb_judging.specs.Judged.{Call, CameFrom, Held, Judged, Passed, UserDrew}
use Rattle.wb_judging.specs.Hearing.{after_fate, after_recalling, after_sending, after_sends, with_members, with_strange}
use Rattle.wb_judging.specs.Performing.{after_judged, after_kept_line, fate_by, judging, sent_by_kept_line}
use Rattle.wb_judging.specs.declared.event.Fate.{Fate}
use Rattle.wb_judging.specs.declared.record.RecordLine.{RecordLine}
use Rattle.wb_judging.specs.declared.record.RecordLine.TheVariants.{Known, Mark, Owner, Said, Strange, Tick}
use Rattle.wb_judging.proofs.Fixed.{Fixed, itself, judged, taken, then}
use Rattle.wb_judging.proofs.NewsTold.{news_keeps}

-- ---- the board

number_stays : (line : Line) (host : Opened) → (after_line line host).is.number ≡ host.is.number
number_stays (Calls call) host = (calls_keep_boards call host).number
number_stays (Says (Draw d)) host = refl
number_stays line host = refl

pub number_through : (lines : List Line) (host : Opened) → (after_lines lines host).is.number ≡ host.is.number
number_through [] host = refl
number_through (line ∷ lines) host = number_through lines (after_line line host) ∙ number_stays line host

pub number_kept : (line : KeptLine) (k : Keeping) → (after_kept_line line k).host.is.number ≡ k.host.is.number
unfolding after_kept_line
number_kept line k = number_through (doing_of line (sees k.host) k.policy).lines k.host

-- ---- its judge

pub sending : (v : Datagram) (j : Judge) → Fixed j (after_sending v j)
sending (Draw d) j = itself j
sending (Session sender sent page marks echoes) j = record { me = refl; cells = refl; clock = refl }
sending (Request asker name) j = itself j
sending (AskPages asker) j = itself j
sending (PageState sender page marks) j = itself j

pub sends : (sent : List Datagram) (j : Judge) → Fixed j (after_sends sent j)
sends [] j = itself j
sends (v ∷ sent) j = then (sending v j) (sends sent (after_sending v j))

either : (b : Bool) (j k : Judge) → Fixed j k → Fixed j (cond b k j)
either true j k e = e
either false j k e = itself j

fated : (now : ℕ) (o : Origin) (v : Datagram) (fate : Option Fate) (j : Judge) → Fixed j (after_fate now o v fate j)
fated now o (Draw d) fate j = either (is_new fate) j _ (taken (record { name = d.name; origin = Some o }) o now j)
fated now o (Session sender sent page marks echoes) fate j = itself j
fated now o (Request asker name) fate j = itself j
fated now o (AskPages asker) fate j = itself j
fated now o (PageState sender page marks) fate j = itself j

judged_after : (now : ℕ) (o : Origin) (v : Datagram) (h : Judged) → Fixed h.judge (judge_after now o v h)
unfolding judge_after
judged_after now o v h = judged o v (facts_of now v h.kept) h.judge

-- a datagram that comes changes neither
pub came_fixed : (now : ℕ) (o : Origin) (v : Datagram) (h : Judged) → Fixed h.judge (judging (CameFrom now o v) h)
came_fixed now o v h = then (judged_after now o v h) (fated now o v (fate_by (handed (CameFrom now o v) h) h.kept) (judge_after now o v h))

members_fixed : (name : NameValue) (j : Judge) → Fixed j (with_members name j)
members_fixed name j = record { me = refl; cells = refl; clock = refl }

strange_fixed : (name : NameValue) (j : Judge) → Fixed j (with_strange name j)
strange_fixed name j = record { me = refl; cells = refl; clock = refl }

-- nor does a line of the record
pub recalled_fixed : (line : RecordLine) (fate : Option Fate) (j : Judge) → Fixed j (after_recalling line fate j)
recalled_fixed (Tick past) fate j = itself j
recalled_fixed (Said d) fate j = members_fixed d.name j
recalled_fixed (Known d) fate j = members_fixed d.name j
recalled_fixed (Strange d) fate j = either (is_new fate) j (with_strange d.name j) (strange_fixed d.name j)
recalled_fixed (Mark speaker page mark) fate j = itself j
recalled_fixed (Owner number place owner) fate j = record { me = refl; cells = refl; clock = refl }

pub me_judging : (line : Call) (h : Judged) → (judging line h).me ≡ h.judge.me
me_judging (CameFrom now o v) h = (came_fixed now o v h).me
me_judging (Passed now news) h = (news_keeps now news h.judge).me
me_judging (UserDrew now page op) h = refl
me_judging (Held line) h = (recalled_fixed line (fate_by (handed (Held line) h) h.kept) h.judge).me

pub own_stays : (line : Call) (h : Judged) → h.judge.me ≡ h.kept.host.is.number → (after_judged line h).judge.me ≡ (after_judged line h).kept.host.is.number
own_stays line h own =
    (sends (sent_by_kept_line (handed line h) h.kept) (judging line h)).me ∙ me_judging line h ∙ own ∙ sym (number_kept (handed line h) h.kept)
