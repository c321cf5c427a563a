-- One run of a whiteboard, made of what many callers were answered.
use Rattle.std.specs.Prelude.{◌≡◌, ℕ, ◌+◌, ◌*◌, ◌<◌, ◌≤◌, Bool, true, false, ◌&&◌, if◌then◌else◌, nat_eq, nat_le, List, [], ◌∷◌, length, take, map, filter, All, AllPairs, slice_get, Some}
use Rattle.wb_names.specs.Values.{DrawopValue}
use Rattle.wb_board.specs.declared.reply.Reply.TheVariants.{New}
use Rattle.wb_board.specs.Board.{Call, Accept, Answer, Replied, Step, IsAnswer, after_call, IsLegalFrom}

-- a call with its answer, and the point at which it was answered: how many drawops the history had there
pub record Answered : Type 0 where
  pub step : Step
  pub point : ℕ

-- the answer to a drawop that was new
abbrev pub is_new : Answer → Bool
is_new (Replied (New i)) = true
is_new answer = false

-- the history has what was new, at its place
abbrev pub HasNew : List DrawopValue → Call → Answer → Type 0
HasNew history (Accept d) (Replied (New i)) = slice_get history i ≡ Some d
HasNew history call answer = Unit {0}

-- t was answered to a caller before u: the points of a caller never fall, and after a new drawop they have risen
abbrev pub Precedes : Answered → Answered → Type 0
Precedes t u = (t.point ≤ u.point) × (is_new t.step.answer ≡ true → t.point < u.point)

-- one call, answered at a point from k on
pub record IsAnsweredSince (history : List DrawopValue) (k : ℕ) (t : Answered) : Type 0 where
  pub since : k ≤ t.point
  pub within : t.point ≤ length history
  pub answer : IsAnswer (take t.point history) t.step.call t.step.answer
  pub new : HasNew history t.step.call t.step.answer

-- the drawop i was new to this caller
abbrev pub is_new_at : ℕ → Answered → Bool
is_new_at i t = is_new t.step.answer && nat_eq t.point i

-- What all callers were answered since the history had k drawops, the calls of each caller in their order, as when one caller's
-- calls stand after another's. Each drawop from k on was new to exactly one of them.
pub record AreAnsweredSince (history : List DrawopValue) (k : ℕ) (answered : List Answered) : Type 0 where
  pub each : All (IsAnsweredSince history k) answered
  pub once : (i : ℕ) → k ≤ i → i < length history → length (filter (is_new_at i) answered) ≡ 1
  pub ordered : AllPairs (λ t u. t.step.caller ≡ u.step.caller → Precedes t u) answered

-- at each point first what was answered there, and then the new drawop
abbrev pub rank : Answered → ℕ
rank t = 2 * t.point + (if is_new t.step.answer then 1 else 0)

abbrev pub placed : Answered → List Answered → List Answered
placed t [] = t ∷ []
placed t (u ∷ us) = if nat_le (rank t) (rank u) then t ∷ u ∷ us else u ∷ placed t us

-- by rank; what has one rank stays in its order
abbrev pub in_order : List Answered → List Answered
in_order [] = []
in_order (t ∷ answered) = placed t (in_order answered)

abbrev pub run_of : List Answered → List Step
run_of answered = map (λ t. t.step) (in_order answered)

-- the steps of one caller
abbrev pub steps_of : ℕ → List Step → List Step
steps_of caller steps = filter (λ s. nat_eq s.caller caller) steps

-- the history at the end of a run
abbrev pub end_of : List DrawopValue → List Step → List DrawopValue
end_of history [] = history
end_of history (step ∷ steps) = end_of (after_call history step.call step.answer) steps

-- The run is legal from the first k drawops on, ends at the whole history, and has the calls of each caller, each once, in their order.
pub record IsOneRun (history : List DrawopValue) (k : ℕ) (answered : List Answered) (run : List Step) : Type 0 where
  pub legal : IsLegalFrom (take k history) run
  pub end : end_of (take k history) run ≡ history
  pub callers : (caller : ℕ) → steps_of caller run ≡ steps_of caller (map (λ t. t.step) answered)

abbrev pub OneRun : Type 0
OneRun = (history : List DrawopValue) (k : ℕ) (answered : List Answered) → k ≤ length history → AreAnsweredSince history k answered → IsOneRun history k answered (run_of answered)
