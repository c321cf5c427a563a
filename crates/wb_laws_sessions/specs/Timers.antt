-- Timers of what a member holds, and of what it does not.
use Rattle.std.specs.Prelude.{◌≡◌, ℕ, List, true, is_some, None}
use Rattle.wb_names.specs.Values.{NameValue}
use Rattle.wb_recovery.specs.Events.{timers_of}
use Rattle.wb_keeper.specs.Keeper.{holds}
use Rattle.wb_member.specs.Opened.{events}
use Rattle.wb_laws_sessions.specs.Sessions.{Step, host_at}

-- No request timer stands for what a member holds, whatever came in.
abbrev pub NoneHeldIsAskedFor : Type 0
NoneHeldIsAskedFor = (numbers : ℕ → ℕ) (steps : List Step) (i : ℕ) (n : NameValue)
    → let host = host_at numbers steps i in
    holds host.is.held n ≡ true → (timers_of host.is.constants (events host) n).ask ≡ None

-- A repair timer stands only for what it holds.
abbrev pub AnswersAreOfHeld : Type 0
AnswersAreOfHeld = (numbers : ℕ → ℕ) (steps : List Step) (i : ℕ) (n : NameValue)
    → let host = host_at numbers steps i in
    is_some (timers_of host.is.constants (events host) n).answer ≡ true → holds host.is.held n ≡ true
