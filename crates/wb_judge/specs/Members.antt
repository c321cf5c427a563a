-- What is handed in of a member, of each kind of datagram, and how it stays a member.
use Rattle.std.specs.Prelude.{◌≡◌, ℕ, ◌+◌, ◌≤◌, Bool, true, false, not, ◌&&◌, List, [], None}
use Rattle.wb_codec.specs.declared.datagram.Datagram.{Datagram}
use Rattle.wb_codec.specs.declared.datagram.Datagram.TheVariants.{AskPages, Draw, PageState, Request, Session}
use Rattle.wb_judge.specs.Days.{time_of_day}
use Rattle.wb_judge.specs.Judge.{Judge, is_firm, is_full, knows}
use Rattle.wb_judge.specs.Judging.{after_judging, draws, is_forged_drawop, is_forged_mark, is_heard, is_repaired, verdict}
use Rattle.wb_judge.specs.Laws.{AreFrom, IsBounded, Step, after_steps, how_many, is_repaired_in, moments_of}
use Rattle.wb_judge.specs.Origins.{same_origin}
use Rattle.wb_judge.specs.Others.{other_of}
use Rattle.wb_judge.specs.Reports.{report_of}
use Rattle.wb_judge.specs.declared.facts.Facts.{Facts}
use Rattle.wb_judge.specs.declared.limits.TheConstants.{AHEAD_KNOWN, REPAIRS_AHEAD, REPAIR_PAUSE, SILENCE}
use Rattle.wb_judge.specs.declared.origin.Origin.{Origin}

-- A number speaks from an origin: a report under it came from there last, and it is not ours.
pub record Speaks (o : Origin) (number : ℕ) (j : Judge) : Type 0 where
  pub another : ¬ (number ≡ j.me)
  pub heard : is_heard o false (other_of number j.others) ≡ true

-- Who sent a datagram by its own word speaks from there. A drawop says nothing of that.
abbrev pub IsSpoken : Origin → Datagram → Judge → Type 0
IsSpoken o (Draw d) j = Unit {0}
IsSpoken o (Session s sent page marks echoes) j = Speaks o s j
IsSpoken o (Request asker name) j = Speaks o asker j
IsSpoken o (AskPages asker) j = Speaks o asker j
IsSpoken o (PageState s page marks) j = Speaks o s j

-- What else is asked of it. A drawop is not forged under our number, is no more than a day ahead, and has a cell. A request for what is held is not one of
-- too many. A report and a page state have no mark of ours that is far above what we hold, while we listen.
abbrev pub IsFit : Origin → Datagram → Facts → Judge → Type 0
IsFit o (Draw d) f j = (is_forged_drawop true d f j ≡ false) × (d.time ≤ time_of_day j.clock f.at + AHEAD_KNOWN) × ((draws d.op && is_full f.held j) ≡ false)
IsFit o (Session s sent page marks echoes) f j = is_forged_mark (report_of j.me s marks echoes) f ≡ false
IsFit o (Request asker name) f j = f.holds ≡ true → is_repaired o f.at j ≡ true
IsFit o (AskPages asker) f j = Unit {0}
IsFit o (PageState s page marks) f j = is_forged_mark (report_of j.me s marks []) f ≡ false

-- It would hush us of a name that is firm: a copy of what is held would end our answer, and a request for what is not held would put off ours.
abbrev pub is_hush : Datagram → Facts → Judge → Bool
is_hush (Draw d) f j = f.holds && is_firm d.name f.at j
is_hush (Session s sent page marks echoes) f j = false
is_hush (Request asker name) f j = not f.holds && is_firm name f.at j
is_hush (AskPages asker) f j = false
is_hush (PageState s page marks) f j = false

-- Of a member nothing else is dropped.
abbrev pub MembersAreHeard : Type 0
MembersAreHeard = (o : Origin) (v : Datagram) (f : Facts) (j : Judge) → knows o f.at j ≡ true → IsSpoken o v j → IsFit o v f j → is_hush v f j ≡ false → (verdict o v f j).why ≡ None

-- A member's request for what is held is not one of too many, if at most 255 of members were handed in since a moment up to which all before are paid for.
abbrev pub RequestsHaveRoom : Type 0
RequestsHaveRoom = (start end : ℕ) (steps : List Step) (o : Origin) (j : Judge) → AreFrom start end (moments_of steps) → j.repairs ≤ end
    → how_many is_repaired_in steps j ≤ 255 → is_repaired o end (after_steps steps j) ≡ true

-- It is paid for within 1.024 seconds, whatever comes.
abbrev pub RequestsArePaidFor : Type 0
RequestsArePaidFor = (start end : ℕ) (steps : List Step) (j : Judge) → AreFrom start end (moments_of steps)
    → j.repairs ≤ start + (REPAIRS_AHEAD + REPAIR_PAUSE) → (after_steps steps j).repairs ≤ end + (REPAIRS_AHEAD + REPAIR_PAUSE)

-- ---- it stays a member

-- What comes from a member makes it known for ten minutes more.
abbrev pub KnownAgain : Type 0
KnownAgain = (o : Origin) (v : Datagram) (f : Facts) (j : Judge) (now : ℕ) → knows o f.at j ≡ true → now ≤ f.at + SILENCE → knows o now (after_judging o v f j) ≡ true

-- And no other origin becomes unknown by it, and no number moves.
abbrev pub KnownBeside : Type 0
KnownBeside = (o p : Origin) (v : Datagram) (f : Facts) (j : Judge) (now : ℕ) → IsBounded j → knows o f.at j ≡ true → same_origin o p ≡ false → knows p now j ≡ true → knows p now (after_judging o v f j) ≡ true

abbrev pub NumbersBeside : Type 0
NumbersBeside = (o p : Origin) (v : Datagram) (f : Facts) (j : Judge) (number : ℕ) → IsBounded j → IsSpoken o v j
    → is_heard p false (other_of number j.others) ≡ true → is_heard p false (other_of number (after_judging o v f j).others) ≡ true
