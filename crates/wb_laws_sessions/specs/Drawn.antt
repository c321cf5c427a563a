-- What is drawn and held in a session, and what it asks of what comes and is drawn.
use Rattle.std.specs.Prelude.{◌≡◌, ◌⊎◌, ℕ, ◌≤◌, List, [], ◌∷◌, Contains}
use Rattle.wb_names.specs.Values.{DrawopValue}
use Rattle.wb_codec.specs.declared.datagram.Datagram.TheVariants.{Draw}
use Rattle.wb_board.specs.Counts.{MAX_CELLS}
use Rattle.wb_recovery.specs.declared.tuning.Tuning.{Tuning}
use Rattle.wb_member.specs.Lines.{Arrives, Says}
use Rattle.wb_laws_machines.specs.Honest.{IsAbove}
use Rattle.wb_laws_machines.specs.Honest as asked
use Rattle.wb_laws_machines.specs.Machines as of
use Rattle.wb_laws_sessions.specs.Members.{Does, Opens, member}
use Rattle.wb_laws_sessions.specs.Sessions.{Step, host_at, sent}

-- all that the member at a place drew, by all runs of its program, the newest first
abbrev pub drawn_at : (ℕ → ℕ) → List Step → ℕ → List DrawopValue
drawn_at = of.drawn_at member

-- some member held it at some step
abbrev pub WasHeld : (ℕ → ℕ) → List Step → DrawopValue → Type 0
WasHeld = of.WasHeld member

-- No board has more cells than one can have. What comes, some member held before. What a member
-- draws has its own number, and a sequence number above all that it drew on the page.
-- Nothing is asked of session messages, page states, requests, moments or constants.
pub record IsHonestStep (numbers : ℕ → ℕ) (older : List Step) (e : Step) : Type 0 where
  pub small : (constants : Tuning) (cells seed : ℕ) → e.event ≡ Opens constants cells seed
      → cells ≤ MAX_CELLS
  pub comes : (d : DrawopValue) → e.event ≡ Does (Arrives d) → WasHeld numbers older d
  pub own : (d : DrawopValue) → e.event ≡ Does (Says (Draw d))
      → (d.name.source ≡ numbers e.place) × (1 ≤ d.name.seq)
  pub new : (d : DrawopValue) → e.event ≡ Does (Says (Draw d))
      → Contains (host_at numbers older e.place).is.held d
      ⊎ IsAbove (drawn_at numbers older e.place) d.name

abbrev pub AreHonest : (ℕ → ℕ) → List Step → Type 0
AreHonest numbers [] = Unit {0}
AreHonest numbers (e ∷ older) = IsHonestStep numbers older e × AreHonest numbers older

-- ---- laws

-- its source drew it, just as it is
abbrev pub WasDrawn : (ℕ → ℕ) → List Step → DrawopValue → Type 0
WasDrawn = of.WasDrawn member

-- Such steps are taken, and keep to what is asked of a machine, of all names. That is less: nothing of
-- what comes or is said and is not taken anew.
abbrev pub StepsAreHonest : Type 0
StepsAreHonest = (numbers : ℕ → ℕ) (steps : List Step) → AreHonest numbers steps
    → of.AreTaken member numbers steps × asked.AreHonest asked.AnyName member numbers steps

-- A drawop that was sent, by its source or as a repair, was held. So what was sent may come.
abbrev pub SentWasHeld : Type 0
SentWasHeld = (numbers : ℕ → ℕ) (steps : List Step) (d : DrawopValue)
    → Contains (sent numbers steps) (Draw d) → WasHeld numbers steps d
