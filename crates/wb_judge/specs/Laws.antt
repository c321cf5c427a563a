-- What follows of the judgement, whatever comes in.
use Rattle.std.specs.Prelude.{◌≡◌, ◌⊎◌, ℕ, ◌+◌, ◌-◌, ◌*◌, ◌≤◌, ◌<◌, Bool, true, false, not, ◌&&◌, List, [], ◌∷◌, ◌++◌, Option, Some, None, AllPairs, filter, is_none, is_some, length, nat_eq, if◌then◌else◌}
use Rattle.wb_names.specs.Orders.{same_name}
use Rattle.wb_names.specs.Values.{DrawopValue, NameValue}
use Rattle.wb_names.specs.declared.echo.Echo.{Echo}
use Rattle.wb_codec.specs.declared.datagram.Datagram.{Datagram}
use Rattle.wb_codec.specs.declared.datagram.Datagram.TheVariants.{AskPages, Draw, PageState, Request, Session}
use Rattle.wb_judge.specs.Aliens.{beside, with_alien}
use Rattle.wb_judge.specs.Answers.{answers, reported}
use Rattle.wb_judge.specs.Buckets.{has_room, paid_after}
use Rattle.wb_judge.specs.Days.{DayClock, time_of_day}
use Rattle.wb_judge.specs.Firm.{is_firm_beside, turn_at, turns}
use Rattle.wb_judge.specs.Judge.{Judge, after_leaving, after_recall, after_taking, is_another, is_firm, is_forged, is_full, knows, owner_in, owner_of}
use Rattle.wb_judge.specs.Judging.{after_admitting, after_judging, draws, is_admitted, is_heard, verdict}
use Rattle.wb_judge.specs.Others.{was_answered, has_speaker, is_bound_elsewhere, other_of}
use Rattle.wb_judge.specs.Reports.{echo_to}
use Rattle.wb_judge.specs.Strange.{has_name, is_given_by, is_there, row_of, with_given}
use Rattle.wb_judge.specs.Told.{was_told}
use Rattle.wb_judge.specs.declared.aliens.Alien.{Alien}
use Rattle.wb_judge.specs.declared.facts.Facts.{Facts}
use Rattle.wb_judge.specs.declared.limits.TheConstants.{AHEAD_KNOWN, ASKED_AHEAD, ASKED_PAUSE, MOST_ALIENS, MOST_KNOWN, MOST_OTHERS, MOST_OWN, MOST_TOLD, REPAIRS_AHEAD, REPAIRS_OF_ONE, REPAIR_PAUSE}
use Rattle.wb_judge.specs.declared.origin.Origin.{Origin}
use Rattle.wb_judge.specs.declared.others.Other.{Other}
use Rattle.wb_judge.specs.declared.strange.Given.{Given}
use Rattle.wb_judge.specs.declared.verdict.Why.TheVariants.{Again, Speaks}

-- ---- members

-- the echo of us that a datagram has, if it has one
abbrev pub echo_in : ℕ → Datagram → Option Echo
echo_in me (Session s sent page marks echoes) = echo_to me echoes
echo_in me v = None

-- it echoes a moment at which we reported lately
abbrev pub is_answer : Datagram → ℕ → Judge → Bool
is_answer v now j = answers j.own (echo_in j.me v) now

-- An origin is known after a datagram only if it was before, or the datagram came from there and answered us.
abbrev pub OnlyAnswersMakeKnown : Type 0
OnlyAnswersMakeKnown = (o p : Origin) (v : Datagram) (f : Facts) (j : Judge) (now : ℕ) → knows p now (after_judging o v f j) ≡ true
    → (knows p now j ≡ true) ⊎ (knows p f.at j ≡ true) ⊎ ((o ≡ p) × (is_answer v f.at j ≡ true))

-- A member's drawop is not dropped if it is not ours, is no more than a day ahead, and has a cell; but a copy of what is held is while its name is firm.
abbrev pub AMemberIsNotDropped : Type 0
AMemberIsNotDropped = (o : Origin) (d : DrawopValue) (f : Facts) (j : Judge) → knows o f.at j ≡ true → ¬ (d.name.source ≡ j.me)
    → (f.holds && is_firm d.name f.at j) ≡ false → d.time ≤ time_of_day j.clock f.at + AHEAD_KNOWN → (draws d.op && is_full f.held j) ≡ false → (verdict o (Draw d) f j).why ≡ None

-- who speaks in a report
abbrev pub speaker_in : Datagram → Option ℕ
speaker_in (Session s sent page marks echoes) = Some s
speaker_in (PageState s page marks) = Some s
speaker_in v = None

-- A number that has answered us stays where it speaks: a report from elsewhere that does not answer changes nothing of any number.
abbrev pub NumbersStay : Type 0
NumbersStay = (o : Origin) (number : ℕ) (v : Datagram) (f : Facts) (j : Judge) → speaker_in v ≡ Some number
    → is_bound_elsewhere number o f.at j.others ≡ true → is_answer v f.at j ≡ false → (after_judging o v f j).others ≡ j.others

-- who says by its own word that it speaks
abbrev pub claimant_of : Datagram → Option ℕ
claimant_of (Draw d) = None
claimant_of (Session s sent page marks echoes) = Some s
claimant_of (Request asker name) = Some asker
claimant_of (AskPages asker) = Some asker
claimant_of (PageState s page marks) = Some s

-- Whoever answers keeps its number: what another owner says under it is dropped, also an answer, and moves no number.
abbrev pub OwnersStay : Type 0
OwnersStay = (o : Origin) (number : ℕ) (v : Datagram) (f : Facts) (j : Judge) → claimant_of v ≡ Some number → nat_eq number j.me ≡ false
    → is_another o.owner (owner_in (other_of number j.others)) ≡ true → ((verdict o v f j).why ≡ Some Speaks) × ((after_judging o v f j).others ≡ j.others)

-- And a number is nobody's that was only claimed: whoever owns it may answer.
abbrev pub ClaimsBindNobody : Type 0
ClaimsBindNobody = (o : Origin) (number : ℕ) (x : Other) (j : Judge) → nat_eq number j.me ≡ false → other_of number j.others ≡ Some x → is_none x.answered ≡ true → is_forged number o j ≡ false

-- What a record says: who answered under a number owns it again, unless somebody has answered under it since. The others own what they owned, while there is room.
abbrev pub OwnersAreRecalled : Type 0
OwnersAreRecalled = (number : ℕ) (o : Origin) (j : Judge) → nat_eq number j.me ≡ false → was_answered (other_of number j.others) ≡ false → owner_of number (after_recall number o j) ≡ o.owner

abbrev pub OwnersBeside : Type 0
OwnersBeside = (number other : ℕ) (o : Origin) (j : Judge) → nat_eq number other ≡ false → length j.others < MOST_OTHERS → owner_of other (after_recall number o j) ≡ owner_of other j

-- A datagram that answers nobody, as a replay, shows no twin.
abbrev pub ReplayIsNoTwin : Type 0
ReplayIsNoTwin = (o : Origin) (v : Datagram) (f : Facts) (j : Judge) → is_answer v f.at j ≡ false → (after_judging o v f j).has_twin ≡ j.has_twin

-- A report under our number pushes out none of another origin, and eight at most are remembered.
abbrev pub AliensStay : Type 0
AliensStay = (a : Alien) (aliens : List Alien) → (filter (beside a) (with_alien a aliens) ≡ filter (beside a) aliens) × (length aliens ≤ MOST_ALIENS → length (with_alien a aliens) ≤ MOST_ALIENS)

-- ---- strangers

-- A datagram vouches for nobody: what another origin gave stays strange, and what its own gave, unless it answers.
abbrev pub VouchesForNobody : Type 0
VouchesForNobody = (o : Origin) (v : Datagram) (f : Facts) (j : Judge)
    → filter (λ g. not (is_given_by o g)) (after_judging o v f j).strange.given ≡ filter (λ g. not (is_given_by o g)) j.strange.given

abbrev pub StaysStrange : Type 0
StaysStrange = (o : Origin) (v : Datagram) (f : Facts) (j : Judge) → is_answer v f.at j ≡ false → (after_judging o v f j).strange ≡ j.strange

-- no two have one name
abbrev pub StandOnce : List Given → Type 0
StandOnce given = AllPairs (λ g h. same_name g.name h.name ≡ false) given

abbrev pub NamesCountOnce : Type 0
NamesCountOnce = (g : Given) (j : Judge) → StandOnce j.strange.given → StandOnce (with_given g j.strange).given

-- A stranger hushes no repair of ours, and puts off no request.
abbrev pub StrangersHushNobody : Type 0
StrangersHushNobody = (o : Origin) (d : DrawopValue) (f : Facts) (j : Judge) → knows o f.at j ≡ false → f.holds ≡ true
    → (verdict o (Draw d) f j).why ≡ Some Again

-- What a stranger gives that is new is the next of its source on its page, or an earlier one: it leaves no number missing. But where a member told a
-- number as high, those below it exist.
abbrev pub StrangersLeaveNoHoles : Type 0
StrangersLeaveNoHoles = (o : Origin) (d : DrawopValue) (f : Facts) (j : Judge) → knows o f.at j ≡ false → f.holds ≡ false → (verdict o (Draw d) f j).why ≡ None
    → was_told (row_of d.name) d.name.seq j.told ≡ false → d.name.seq ≤ f.top + 1

-- And only members tell: a datagram of a stranger tells nothing.
abbrev pub OnlyMembersTell : Type 0
OnlyMembersTell = (o : Origin) (v : Datagram) (f : Facts) (j : Judge) → knows o f.at (after_judging o v f j) ≡ false → (after_judging o v f j).told ≡ j.told

-- ---- firm names

-- Of a name that is firm nothing that others send hushes us: no copy of what is held, and no request for what is not.
abbrev pub NobodyHushesFirmNames : Type 0
NobodyHushesFirmNames = (o : Origin) (f : Facts) (j : Judge)
    → ((d : DrawopValue) → f.holds ≡ true → is_firm d.name f.at j ≡ true → (verdict o (Draw d) f j).why ≡ Some Again)
    × ((asker : ℕ) (name : NameValue) → f.holds ≡ false → is_firm name f.at j ≡ true → is_some (verdict o (Request asker name) f j).why ≡ true)

-- Each name has its turn: whenever it is, a name is firm for all of one of the turns from now on, as many as there are.
abbrev pub NamesTakeTurns : Type 0
NamesTakeTurns = (others me : ℕ) (name : NameValue) (now : ℕ)
    → (wait : ℕ) × (wait < turns others) × ((at : ℕ) → turn_at at ≡ turn_at now + wait → is_firm_beside others me name at ≡ true)

-- Beside one other member all names are firm, and there are never more than 125 turns.
abbrev pub TurnsAreFew : Type 0
TurnsAreFew = (others : ℕ) → (turns others ≤ 125) × (others ≤ 1 → turns others ≡ 1)

-- ---- how much is taken

-- moments that rise, from one to another
abbrev pub AreFrom : ℕ → ℕ → List ℕ → Type 0
AreFrom start end [] = start ≤ end
AreFrom start end (now ∷ moments) = (start ≤ now) × AreFrom now end moments

-- how many of what comes at these moments a bucket takes
abbrev pub taken_at : ℕ → ℕ → ℕ → List ℕ → ℕ
taken_at ahead pause paid [] = 0
taken_at ahead pause paid (now ∷ moments) =
    if has_room ahead paid now then 1 + taken_at ahead pause (paid_after pause paid now) moments else taken_at ahead pause paid moments

-- As many at once as are paid for ahead, and then one in each pause.
abbrev pub FewAreTaken : Type 0
FewAreTaken = (ahead pause paid start end : ℕ) (moments : List ℕ) → AreFrom start end moments → taken_at ahead pause paid moments * pause ≤ ahead + pause + (end - start)

-- ---- steps of a judge

-- A datagram comes, and the board takes it in if it is a drawop that is handed in and new; we report; the time of day is set; whoever spoke from an
-- origin is gone; and a record tells a stranger's drawop, and who answered under a number.
pub data Step : Type 0 where
  Comes : (o : Origin) → (v : Datagram) → (f : Facts) → Step
  Reports : (sent : ℕ) → Step
  Tells : (clock : DayClock) → Step
  Leaves : (o : Origin) → Step
  Remembers : (name : NameValue) → Step
  Recalls : (number : ℕ) → (o : Origin) → Step

abbrev pub is_taken : Origin → DrawopValue → Facts → Judge → Bool
is_taken o d f j = is_none (verdict o (Draw d) f j).why && not f.holds

abbrev pub after_datagram : Origin → Datagram → Facts → Judge → Judge
after_datagram o (Draw d) f j =
    if is_taken o d f j then after_taking (record { name = d.name; origin = Some o }) o f.at (after_judging o (Draw d) f j)
    else after_judging o (Draw d) f j
after_datagram o v f j = after_judging o v f j

abbrev pub after_step : Step → Judge → Judge
after_step (Comes o v f) j = after_datagram o v f j
after_step (Reports sent) j = record j { own = reported sent j.own }
after_step (Tells clock) j = record j { clock = clock }
after_step (Leaves o) j = after_leaving o j
after_step (Remembers name) j = record j { strange = with_given (record { name = name; origin = None }) j.strange }
after_step (Recalls number o) j = after_recall number o j

abbrev pub after_steps : List Step → Judge → Judge
after_steps [] j = j
after_steps (s ∷ steps) j = after_steps steps (after_step s j)

-- ---- what is answered

-- the moment at which a datagram comes, if one does
abbrev pub moments_in : Step → List ℕ
moments_in (Comes o v f) = f.at ∷ []
moments_in s = []

abbrev pub moments_of : List Step → List ℕ
moments_of [] = []
moments_of (s ∷ steps) = moments_in s ++ moments_of steps

abbrev pub is_in : Origin → Datagram → Facts → Judge → Bool
is_in o v f j = is_none (verdict o v f j).why

-- a member's request for what is held is handed in
abbrev pub is_repaired_in : Step → Judge → Bool
is_repaired_in (Comes o (Request asker name) f) j = (f.holds && knows o f.at j) && is_in o (Request asker name) f j
is_repaired_in s j = false

-- and a stranger's, or its question for pages
abbrev pub is_asked_in : Step → Judge → Bool
is_asked_in (Comes o (Request asker name) f) j = not (knows o f.at j) && is_in o (Request asker name) f j
is_asked_in (Comes o (AskPages asker) f) j = not (knows o f.at j) && is_in o (AskPages asker) f j
is_asked_in s j = false

-- how many of the steps are such
abbrev pub how_many : (Step → Judge → Bool) → List Step → Judge → ℕ
how_many some [] j = 0
how_many some (s ∷ steps) j = (if some s j then 1 else 0) + how_many some steps (after_step s j)

-- Whatever comes from one moment to another, in whatever order: of members' requests for what is held some are handed in at once, and then one in each pause.
abbrev pub RepairsAreFew : Type 0
RepairsAreFew = (start end : ℕ) (steps : List Step) (j : Judge) → AreFrom start end (moments_of steps)
    → how_many is_repaired_in steps j * REPAIR_PAUSE ≤ REPAIRS_AHEAD + REPAIR_PAUSE + (end - start)

-- And so it is with what strangers request and ask, which takes nothing from members.
abbrev pub StrangersAreFew : Type 0
StrangersAreFew = (start end : ℕ) (steps : List Step) (j : Judge) → AreFrom start end (moments_of steps)
    → how_many is_asked_in steps j * ASKED_PAUSE ≤ ASKED_AHEAD + ASKED_PAUSE + (end - start)

-- While the second half is being used, no two of these in a row are of one member.
abbrev pub RepairsAreShared : Type 0
RepairsAreShared = (o : Origin) (asker : ℕ) (name : NameValue) (f : Facts) (j : Judge) → f.holds ≡ true → knows o f.at j ≡ true
    → is_there o j.served ≡ true → (verdict o (Request asker name) f j).why ≡ None → has_room REPAIRS_OF_ONE j.repairs f.at ≡ true

-- A number that is new is admitted of an origin that has one only if there is room, after it, for one of an origin that has none.
abbrev pub NewcomersHaveRoom : Type 0
NewcomersHaveRoom = (o p : Origin) (number other : ℕ) (answer : Bool) (now : ℕ) (j : Judge) → is_heard o answer (other_of number j.others) ≡ false → has_speaker o j.others ≡ true
    → is_admitted o number answer now j ≡ true → has_speaker p j.others ≡ false → is_admitted p other answer now (after_admitting o number answer now j) ≡ true

-- ---- all that is remembered is bounded
pub record IsBounded (j : Judge) : Type 0 where
  pub own : length j.own ≤ MOST_OWN
  pub known : length j.known ≤ MOST_KNOWN
  pub others : length j.others ≤ MOST_OTHERS
  pub strange : length j.strange.given ≤ j.strange.most
  pub told : length j.told ≤ MOST_TOLD

abbrev pub StateIsBounded : Type 0
StateIsBounded = (steps : List Step) (j : Judge) → IsBounded j → IsBounded (after_steps steps j)

-- the share stays as it was opened
abbrev pub SharesStay : Type 0
SharesStay = (steps : List Step) (j : Judge) → (after_steps steps j).strange.most ≡ j.strange.most

-- No datagram of these origins answers us.
abbrev pub answers_from : (Origin → Bool) → Step → Judge → Bool
answers_from some (Comes o v f) j = some o && is_answer v f.at j
answers_from some s j = false

abbrev pub NeverAnswer : (Origin → Bool) → List Step → Judge → Type 0
NeverAnswer some [] j = Unit {0}
NeverAnswer some (s ∷ steps) j = (answers_from some s j ≡ false) × NeverAnswer some steps (after_step s j)

-- The names of the drawops that were taken in from these origins and did not count yet.
abbrev pub counts : (Origin → Bool) → Origin → DrawopValue → Facts → Judge → Bool
counts some o d f j = (some o && is_taken o d f j) && not (has_name d.name j.strange.given)

abbrev pub new_name : (Origin → Bool) → Origin → Datagram → Facts → Judge → List NameValue
new_name some o (Draw d) f j = if counts some o d f j then d.name ∷ [] else []
new_name some o v f j = []

abbrev pub new_names : (Origin → Bool) → Step → Judge → List NameValue
new_names some (Comes o v f) j = new_name some o v f j
new_names some s j = []

abbrev pub names_from : (Origin → Bool) → List Step → Judge → List NameValue
names_from some [] j = []
names_from some (s ∷ steps) j = new_names some s j ++ names_from some steps (after_step s j)

-- none of these origins is known
abbrev pub AreStrange : (Origin → Bool) → Judge → Type 0
AreStrange some j = (o : Origin) (now : ℕ) → some o ≡ true → knows o now j ≡ false

-- However many origins that are not known give whatever they like, in whatever order, while none of them answers: of all that they give no more
-- is taken in than the share of strangers.
abbrev pub StrangersHaveAShare : Type 0
StrangersHaveAShare = (some : Origin → Bool) (steps : List Step) (j : Judge) → IsBounded j → AreStrange some j → NeverAnswer some steps j
    → length (names_from some steps j) ≤ j.strange.most
