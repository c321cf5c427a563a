-- By when what is lost comes, if keepers keep to stated times.
use Rattle.std.specs.Prelude.{◌≡◌, ◌≢◌, ◌⊎◌, ℕ, ◌+◌, ◌*◌, ◌<◌, ◌≤◌, true, max, List, [], ◌∷◌, ◌++◌, Contains, Some}
use Rattle.wb_names.specs.Values.{NameValue}
use Rattle.wb_codec.specs.declared.datagram.Datagram.TheVariants.{Request}
use Rattle.wb_recovery.specs.declared.timers.AskTimer.{AskTimer}
use Rattle.wb_keeper.specs.Keeper.{GiveUp}
use Rattle.wb_progress.specs.Turns.{At, Terms, quiet_span, settled_by, Turn, Places, timers_there, time_of, Accepts, IsAnswerable, AllHoldBehind, IsOtherOrLacked, KeepTimeBut}

-- ---- spans, in microseconds

-- from a request that is sent to where all hold what it asks for
abbrev pub answering_by : Terms → ℕ
answering_by terms = terms.answering * terms.far + 2 * terms.delivery + terms.late

-- from when a request timer is due to where all hold it
abbrev pub repairing : Terms → ℕ
repairing terms = answering_by terms + terms.late

-- the time from which on requests are answered, and those that are heard were sent late enough
abbrev pub known_from : Terms → ℕ
known_from terms = settled_by terms + terms.delivery + quiet_span terms + 1

-- ---- one name

-- A request for what a live place held, once it is sent late enough, brings it to all, wherever it and other names are given up, if it is not where it
-- is held.
abbrev pub RequestIsAnsweredBut : Type 0
RequestIsAnsweredBut = (places : Places) (terms : Terms) (turns newer older : List (At Turn)) (e : At Turn) (asker : ℕ) (n : NameValue) → KeepTimeBut (IsOtherOrLacked places n) places terms turns → turns ≡ newer ++ e ∷ older
    → settled_by terms < e.time → settled_by terms + quiet_span terms ≤ e.time → Contains e.event.sent (Request asker n) → IsAnswerable places terms turns n → AllHoldBehind places terms turns (e.time + answering_by terms) n

-- A request timer that stands when requests are answered leads to such a request if its name is not given up, while others may be.
abbrev pub TimerLeadsBut : Type 0
TimerLeadsBut = (places : Places) (terms : Terms) (turns newer older : List (At Turn)) (i : ℕ) (n : NameValue) (ask : AskTimer) (due : ℕ) → KeepTimeBut (λ older e m. m ≢ n) places terms turns → turns ≡ newer ++ older → Contains terms.live i → known_from terms ≤ time_of older
    → (timers_there places older i n).ask ≡ Some ask → ask.due + terms.lag i ≤ due → IsAnswerable places terms turns n → AllHoldBehind places terms turns (max (time_of older) due + repairing terms) n

-- a name is given up at a place after a part, while its timer stands as it was
pub record IsGivenUp (places : Places) (turns base : List (At Turn)) (i : ℕ) (n : NameValue) (ask : AskTimer) (by : ℕ) : Type 0 where
  pub front : List (At Turn)
  pub e : At Turn
  pub between : List (At Turn)
  pub split : turns ≡ front ++ e ∷ (between ++ base)
  pub place : e.place ≡ i
  pub now : ℕ
  pub given : Accepts places (between ++ base) e (GiveUp now n true)
  pub stands : (timers_there places (between ++ base) i n).ask ≡ Some ask
  pub soon : e.time ≤ by

-- A request timer leads to such a request, or is given up itself before.
abbrev pub TimerLeadsOrIsGivenUp : Type 0
TimerLeadsOrIsGivenUp = (places : Places) (terms : Terms) (turns newer older : List (At Turn)) (i : ℕ) (n : NameValue) (ask : AskTimer) (due : ℕ) → KeepTimeBut (IsOtherOrLacked places n) places terms turns → turns ≡ newer ++ older → Contains terms.live i → known_from terms ≤ time_of older
    → (timers_there places older i n).ask ≡ Some ask → ask.due + terms.lag i ≤ due → IsAnswerable places terms turns n
    → AllHoldBehind places terms turns (max (time_of older) due + repairing terms) n ⊎ IsGivenUp places turns older i n ask (max (time_of older) due + terms.late)

-- ---- lists

-- nothing stands twice
abbrev pub AreApart : {X : Type 0} → List X → Type 0
AreApart [] = Unit {0}
AreApart (x ∷ xs) = (Contains xs x → ⊥) × AreApart xs
