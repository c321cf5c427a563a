-- How replies are filed by the places of their arrivals, and counted.
use Rattle.std.specs.Prelude.{◌≡◌, ℕ, ◌+◌, ◌<◌, ◌≤◌, ◌==◌, Bool, cond, List, [], ◌∷◌, length, set, Option, Some, None, map, is_some}
use Rattle.wb_names.specs.Values.{DrawopValue}
use Rattle.wb_names.specs.Arrivals.{Counts, counts_of, Outcome}
use Rattle.wb_board.specs.Desks.{PassValue}
use Rattle.wb_board.specs.Replies.{outcome}
use Rattle.wb_board.specs.declared.reply.Reply.{Reply}
use Rattle.wb_feed.specs.Accepts.{Entry, Runs, drawops, tally}
use Rattle.wb_feed.specs.Served.{once_below}
use Rattle.wb_feed.specs.declared.batch.Batch.{Batch}
use Rattle.wb_feed.specs.Marks.{unmarked, Marks}

-- one outcome more is counted
pub record CountsOne (b : Batch) (o : Outcome) (c : Batch) : Type 0 where
  pub fresh : c.fresh ≡ b.fresh + (counts_of (o ∷ [])).fresh
  pub again : c.again ≡ b.again + (counts_of (o ∷ [])).again
  pub clash : c.clash ≡ b.clash + (counts_of (o ∷ [])).clash
  pub left : c.left ≡ b.left + (counts_of (o ∷ [])).left

-- the places of some replies, and their outcomes
abbrev pub told_at : List (ℕ × Reply) → List ℕ
told_at ts = map (λ t. t.0) ts

abbrev pub told_outcomes : List (ℕ × Reply) → List Outcome
told_outcomes ts = map (λ t. outcome t.1) ts

-- how often the number stands in the list
abbrev pub times : ℕ → List ℕ → ℕ
times p [] = 0
times p (q ∷ qs) = cond (q == p) 1 0 + times p qs

-- the list has numbers below n, each once at most
abbrev pub AreOnce : ℕ → List ℕ → Type 0
AreOnce n places = (p : ℕ) → times p places ≤ once_below p n

-- where a reply is filed, and the outcomes that are filed
abbrev pub filled : List (Option Reply) → List Bool
filled fs = map is_some fs

abbrev pub filed_outcomes : List (Option Reply) → List Outcome
filed_outcomes [] = []
filed_outcomes (None ∷ fs) = filed_outcomes fs
filed_outcomes (Some r ∷ fs) = outcome r ∷ filed_outcomes fs

-- a reply is filed at a place, unless that is past the end
abbrev pub IsPut : List (Option Reply) → ℕ → Reply → List (Option Reply) → Type 0
IsPut fs place r gs = (place < length fs → gs ≡ set fs place (Some r)) × (length fs ≤ place → gs ≡ fs)

-- the replies are filed by their places, below n: all of them, if their places are below n and differ
pub record Files (told : List (ℕ × Reply)) (n : ℕ) (filed : List (Option Reply)) : Type 0 where
  pub long : length filed ≡ n
  pub marks : Marks (told_at told) n (filled filed)
  pub counted : AreOnce n (told_at told) → counts_of (filed_outcomes filed) ≡ counts_of (told_outcomes told)

-- a batch counts these two together
pub record IsTotal (m n : Counts) (b : Batch) : Type 0 where
  pub fresh : b.fresh ≡ m.fresh + n.fresh
  pub again : b.again ≡ m.again + n.again
  pub clash : b.clash ≡ m.clash + n.clash
  pub left : b.left ≡ m.left + n.left

-- the desk p took, in order, the drawops for which no reply is filed, and is q; b counts the replies and what these became
pub record Settles (p : PassValue) (filed : List (Option Reply)) (ds : List DrawopValue) (q : PassValue) (b : Batch) : Type 0 where
  pub log : List Entry
  pub runs : Runs p log q
  pub all : drawops log ≡ unmarked (filled filed) ds
  pub total : IsTotal (counts_of (filed_outcomes filed)) (tally log) b
  pub many : b.fresh + b.again + b.clash + b.left ≡ length ds
