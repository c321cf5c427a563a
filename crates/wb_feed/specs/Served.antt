-- What a worker does with the messages that it receives.
use Rattle.std.specs.Prelude.{◌≡◌, ℕ, ◌+◌, ◌≤◌, ◌==◌, Bool, true, false, cond, List, [], ◌∷◌, ◌++◌, slice_get, Some, map, nat_lt}
use Rattle.wb_names.specs.Values.{DrawopValue}
use Rattle.wb_names.specs.Arrivals.{Outcome, New, Again, Clash, Left}
use Rattle.wb_board.specs.Desks.{PassValue}
use Rattle.wb_feed.specs.Accepts.{Entry, Runs}
use Rattle.wb_feed.specs.declared.channel.Message.{Message}
use Rattle.wb_feed.specs.declared.channel.Message.TheVariants.{Take, End}

-- 1 below n, and else 0
abbrev pub once_below : ℕ → ℕ → ℕ
once_below p n = cond (nat_lt p n) 1 0

abbrev pub is_left : Outcome → Bool
is_left (New i) = false
is_left (Again i) = false
is_left (Clash i) = false
is_left Left = true

-- a position, its drawop and the outcome
abbrev pub Spot : Type 0
Spot = ℕ × Entry

abbrev pub entries : List Spot → List Entry
entries ss = map (λ s. s.1) ss

-- the positions that were accepted
abbrev pub accepted_at : List Spot → List ℕ
accepted_at [] = []
accepted_at (s ∷ ss) = cond (is_left s.1.1) [] (s.0 ∷ []) ++ accepted_at ss

-- the arrivals among the messages, and in the log
abbrev pub takes : List Message → List (ℕ × DrawopValue)
takes [] = []
takes (Take p d ∷ ms) = (p, d) ∷ takes ms
takes (End ∷ ms) = takes ms

abbrev pub offered : List Spot → List (ℕ × DrawopValue)
offered ss = map (λ s. (s.0, s.1.0)) ss

-- each of these has at its position just what came there
abbrev pub OffersRight : List DrawopValue → List (ℕ × DrawopValue) → Type 0
OffersRight given [] = Unit {0}
OffersRight given (x ∷ xs) = (slice_get given x.0 ≡ Some x.1) × OffersRight given xs

-- how many of these have the position p
abbrev pub times_offered : ℕ → List (ℕ × DrawopValue) → ℕ
times_offered p [] = 0
times_offered p (x ∷ xs) = cond (x.0 == p) 1 0 + times_offered p xs

-- the positions rise, from low on
abbrev pub Rises : ℕ → List (ℕ × DrawopValue) → Type 0
Rises low [] = Unit {0}
Rises low (x ∷ xs) = (low ≤ x.0) × Rises (x.0 + 1) xs

-- from the desk p to the desk q, one after another, the arrivals that were received
pub record Serves (p : PassValue) (log : List Spot) (got : List Message) (q : PassValue) : Type 0 where
  pub runs : Runs p (entries log) q
  pub offered : offered log ≡ takes got
  pub rises : Rises 0 (takes got)
