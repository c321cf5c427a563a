-- Twins are two members of one number. They see each other by answers under their own number.
use Rattle.std.specs.Prelude.{◌≡◌, ℕ, ◌+◌, ◌≤◌, ◌<◌, true, false, List, [], ◌∷◌, ◌++◌, Some, filter, length, nat_eq}
use Rattle.std.specs.List.{list_any}
use Rattle.wb_names.specs.Values.{MarkValue}
use Rattle.wb_names.specs.declared.echo.Echo.{Echo}
use Rattle.wb_names.specs.declared.name.PageId.{PageId}
use Rattle.wb_codec.specs.declared.datagram.Datagram.TheVariants.{Session}
use Rattle.wb_keeper.specs.declared.keeper.Heard.{Heard}
use Rattle.wb_judge.specs.Aliens.{alien_at, beside}
use Rattle.wb_judge.specs.Judge.{Judge, is_forged}
use Rattle.wb_judge.specs.Laws.{is_answer}
use Rattle.wb_judge.specs.declared.aliens.Alien.{Alien}
use Rattle.wb_judge.specs.declared.limits.TheConstants.{FRESH, MOST_ALIENS}
use Rattle.wb_judge.specs.declared.origin.Origin.{Origin}
use Rattle.wb_judging.specs.Judged.{Judged}
use Rattle.wb_judging.specs.declared.call.Call.{Call}
use Rattle.wb_judging.specs.declared.call.Call.TheVariants.{CameFrom}
use Rattle.wb_judging.specs.Performing.{after_judged}
use Rattle.wb_judged_sessions.specs.Answering.{IsInTime, IsSentAfter}
use Rattle.wb_judged_sessions.specs.Calls.{JudgedCall, Takes}
use Rattle.wb_judged_sessions.specs.Sessions.{At, judged_at}
use Rattle.wb_judged_sessions.specs.Terms.{AreTaken}

-- ---- one member

-- A report under our number is not ours: we reported at no such moment, and nobody else owns the number.
pub record IsOfTwin (o : Origin) (sent : ℕ) (j : Judge) : Type 0 where
  pub other : list_any (nat_eq sent) j.own ≡ false
  pub owned : is_forged j.me o j ≡ false

-- It is remembered beside those of other origins, if they are fewer than eight, and our reports echo them by turns.
abbrev pub TwinsAreRemembered : Type 0
TwinsAreRemembered = (now : ℕ) (o : Origin) (sent : ℕ) (page : PageId) (marks : List MarkValue) (echoes : List Echo) (h : Judged) → IsOfTwin o sent h.judge
    → let a : Alien = record { origin = o; sent = sent; at = now } in length (filter (beside a) h.judge.aliens) < MOST_ALIENS
    → (after_judged (CameFrom now o (Session h.judge.me sent page marks echoes)) h).judge.aliens ≡ filter (beside a) h.judge.aliens ++ a ∷ []

-- If it answers us, we have a twin.
abbrev pub AnswersShowTwins : Type 0
AnswersShowTwins = (now : ℕ) (o : Origin) (sent : ℕ) (page : PageId) (marks : List MarkValue) (echoes : List Echo) (h : Judged) → IsOfTwin o sent h.judge
    → let v = Session h.judge.me sent page marks echoes in
    is_answer v now h.judge ≡ true → (after_judged (CameFrom now o v) h).judge.has_twin ≡ true

-- And we have it until our program starts anew.
abbrev pub TwinsStay : Type 0
TwinsStay = (line : Call) (h : Judged) → h.judge.has_twin ≡ true → (after_judged line h).judge.has_twin ≡ true

-- ---- two members

-- The judge of the member at a place remembers a report under its number that is not its own, and it is the turn of that one at a moment.
abbrev pub RemembersTwin : (ℕ → ℕ) → (place moment : ℕ) → Heard → List (At JudgedCall) → Type 0
RemembersTwin numbers place moment heard calls = (o : Origin) × (alien_at moment (judged_at numbers calls place).judge.aliens ≡ Some (record { origin = o; sent = heard.sent; at = heard.at }))

-- Another member of our number remembers a report of ours, and reports within 256 seconds, at its turn. That comes to us, so we see that we have a twin.
abbrev pub TwinsSee : Type 0
TwinsSee =
    (numbers : ℕ → ℕ) (calls : List (At JudgedCall)) (e : At JudgedCall) (other now moment : ℕ) (o : Origin) (page : PageId) (marks : List MarkValue) (echoes : List Echo) (heard : Heard)
    → let me = numbers e.place in
    let v = Session me moment page marks echoes in
    let h = judged_at numbers calls e.place in
    AreTaken numbers calls → numbers other ≡ me → IsSentAfter (RemembersTwin numbers other moment heard) numbers other calls v → moment ≤ heard.at + FRESH
    → e.event ≡ Takes (CameFrom now o v) → IsInTime heard moment now h.judge → IsOfTwin o moment h.judge
    → (judged_at numbers (e ∷ calls) e.place).judge.has_twin ≡ true
