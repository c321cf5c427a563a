-- Whose turn it is, what reports tell, and what becomes of a name that is wanted.
use Rattle.std.specs.Prelude.{◌≡◌, ℕ, Bool, false, true, List, [], ◌∷◌, is_some, ◌||◌}
use Rattle.wb_names.specs.Values.{NameValue}
use Rattle.wb_codec.specs.declared.datagram.Datagram.TheVariants.{Session}
use Rattle.wb_recovery.specs.Events.{timers_of}
use Rattle.wb_recovery.specs.declared.tuning.Tuning.{Tuning}
use Rattle.wb_policy.specs.Choices.{firsts_of, next_turn}
use Rattle.wb_policy.specs.Fairness.{after_reporting, after_turn, marks_reported, page_reported}
use Rattle.wb_policy.specs.Policy.{Policy}
use Rattle.wb_policy.specs.Wanting.{is_paid}
use Rattle.wb_member.specs.Opened.{Opened, events, opened_with, present}
use Rattle.wb_keeping.specs.Kept.{Line, Says, report_echoes, reports, turn, want}
use Rattle.wb_keeping.specs.Performing.{Keeping, after_doing, after_lines, view_of}
use Rattle.wb_keeping.specs.Views.{View, holds, is_asked, is_full, is_known}

-- A turn of a policy is such a turn.
abbrev pub TurnsAreTaken : Type 0
TurnsAreTaken = (see : List Line → View) (p : Policy) → (turn see p).policy.turns ≡ after_turn (see []).held p.turns

-- A report of a policy tells these marks of this page, and echoes these senders; and turns go on behind both.
abbrev pub ReportsTell : Type 0
ReportsTell = (see : List Line → View) (p : Policy)
    → let v = see [] in
    ((reports see p).lines ≡ Says (Session v.me v.now (page_reported v.held p.told) (marks_reported v.held p.told) (report_echoes v p)) ∷ [])
    × ((reports see p).policy.told ≡ after_reporting v.held p.told)
    × ((reports see p).policy.echoed ≡ next_turn (firsts_of (is_known v) p.echoed v.echoes) p.echoed (report_echoes v p))

-- ---- what becomes of a name that is wanted

-- an answer timer stands for the name
abbrev pub is_answering : Opened → NameValue → Bool
is_answering host name = is_some (timers_of host.is.constants (events host) name).answer

-- A member answers for what it holds alone.
abbrev pub AnswersWhatIsHeld : Opened → Type 0
AnswersWhatIsHeld host = (name : NameValue) → is_answering host name ≡ true → holds (view_of host) name ≡ true

-- So it is whatever lines were performed since it was opened.
abbrev pub OnlyHeldIsAnswered : Type 0
OnlyHeldIsAnswered = (constants : Tuning) (number cells seed : ℕ) (lines : List Line) → AnswersWhatIsHeld (after_lines lines (opened_with constants number cells seed))

-- A name that is wanted has a request timer then, unless it is held, the board is full, or there is no credit.
abbrev pub WantedIsAsked : Type 0
WantedIsAsked = (name : NameValue) (anew : Bool) (k : Keeping) → AnswersWhatIsHeld k.host → holds (view_of k.host) name ≡ false → is_full (view_of k.host) ≡ false → is_paid (anew || is_known (view_of k.host) name.source) k.policy.owed (present k.host) ≡ true
    → is_asked (view_of (after_doing (want name anew) k).host) name ≡ true
