-- What each call by lines does, by what was held before and what is held after it, and which status it gives.
use Rattle.std.specs.Prelude.{◌≡◌, ℕ, List, [], ◌∷◌, length, Bool, true, false, Option, Some, None}
use Rattle.wb_c.specs.declared.room.Room.{Room}
use Rattle.wb_c.specs.Blocks.{HandsOver, Took, fresh}
use Rattle.wb_c.specs.Statuses.{closed, done, memory, not_done, open_already, waits}

-- It is open now, or memory ran out; one that was open is as it was.
abbrev pub Opens : Option Room → Option Room → ℕ → Type 0
Opens None (Some room) status = (status ≡ done) × (room.dialog ≡ fresh) × (room.block.items ≡ []) × (room.events.items ≡ [])
Opens None None status = status ≡ memory
Opens (Some room) new status = (status ≡ open_already) × (new ≡ Some room)

-- whether a block was handed over, as a status
abbrev pub status_of : Bool → ℕ
status_of true = done
status_of false = waits

-- The block that waits is handed over, or there is no room for it. The call answers its size. The host stays, and so do the events that wait.
abbrev pub Fetches : Room → Room → List ℕ → List ℕ → ℕ → ℕ → Type 0
Fetches old new before after size status = (new.dialog ≡ old.dialog) × (new.events ≡ old.events) × (size ≡ length old.block.items)
    × ((whole : Bool) × (status ≡ status_of whole) × HandsOver old.block.items new.block.items before after whole)

-- The call writes nothing, and answers no size.
abbrev pub Nothing : List ℕ → List ℕ → ℕ → Type 0
Nothing before after size = (after ≡ before) × (size ≡ 0)

abbrev pub FetchesFrom : Option Room → Option Room → List ℕ → List ℕ → ℕ → ℕ → Type 0
FetchesFrom None new before after size status = (status ≡ closed) × (new ≡ None) × Nothing before after size
FetchesFrom (Some old) None before after size status = ⊥
FetchesFrom (Some old) (Some new) before after size status = Fetches old new before after size status

-- A line was taken once, and its block was handed over or waits.
abbrev pub Taken : Room → Room → List ℕ → List ℕ → List ℕ → ℕ → ℕ → Type 0
Taken old new line before after size status = (kept : Room) × Took old.dialog kept.dialog line kept.block.items × (kept.events ≡ old.events) × Fetches kept new before after size status

-- While the block of an earlier line waits, the call does nothing, and answers its size.
abbrev pub LineAt : List ℕ → Room → Room → List ℕ → List ℕ → List ℕ → ℕ → ℕ → Type 0
LineAt [] old new line before after size status = Taken old new line before after size status
LineAt (b ∷ rest) old new line before after size status = (status ≡ not_done) × (new ≡ old) × (after ≡ before) × (size ≡ length (b ∷ rest))

-- The same; or memory ran out, and the host is closed.
abbrev pub TakesLine : Option Room → Option Room → List ℕ → List ℕ → List ℕ → ℕ → ℕ → Type 0
TakesLine None new line before after size status = (status ≡ closed) × (new ≡ None) × Nothing before after size
TakesLine (Some old) None line before after size status = (status ≡ memory) × Nothing before after size
TakesLine (Some old) (Some new) line before after size status = LineAt old.block.items old new line before after size status
