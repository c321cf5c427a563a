-- What a clause says of a cursor.
use Rattle.wb_history.specs.Sizes.{row_words, drawop_steps}
use Rattle.std.specs.Prelude.{◌≡◌, ◌⊎◌, ℕ, ◌+◌, ◌*◌, ◌≤◌, List, [], ◌∷◌, ◌++◌, length, Option, Some, None}
use Rattle.wb_names.specs.Values.{DrawopValue}
use Rattle.wb_names.specs.History.{HoldsName, IsAgainAt, IsClashAt}
use Rattle.wb_history.specs.declared.knowledge.Knowledge.{Knowledge}
use Rattle.wb_history.specs.declared.cursor.Cursor.{Cursor}
use Rattle.wb_history.specs.declared.claim.Claim.{Claim}
use Rattle.wb_history.specs.declared.claim.ClaimFault.{ClaimFault}
use Rattle.wb_history.specs.declared.claim.ClaimFault.TheVariants.{NoRow, Memory}
use Rattle.wb_history.specs.declared.claim.Claim.TheVariants.{Added, Present, Clash}
use mathlib.Core.List.{IsPrefix}
use Rattle.wb_history.specs.Lists.{longer}
use Rattle.wb_history.specs.Lawful.{IsConsistent}
use Rattle.wb_history.specs.Seats.{SameSeat}
use Rattle.wb_history.specs.Views.{HasAllRows}

-- the lists are what the seat knows
pub record MatchesSeat (h : Cursor) : Type 0 where
  pub slots : h.seat.me.1 ≡ []
  pub seen : h.seat.me.0.seen ≡ h.seen.items
  pub mine : h.seat.me.0.mine ≡ h.mine.items
  pub free : h.seat.me.0.free ≡ h.free.items
  pub consistent : IsConsistent h.seat.me.0

-- the cursor after it has read these drawops, and has made some more steps. A cursor with all rows reads none
pub record Walked (h : Cursor) (more : List DrawopValue) (extra : ℕ) (h' : Cursor) : Type 0 where
  pub matches : MatchesSeat h'
  pub seat : SameSeat h.seat h'.seat
  pub cells : h'.seat.me.0.cells ≡ h.seat.me.0.cells
  pub mine : h'.mine.items ≡ h.mine.items
  pub free : h'.free.items ≡ h.free.items
  pub seen : h'.seen.items ≡ h.seen.items ++ more
  pub whole : HasAllRows h.seat.me.0 → more ≡ []
  pub made : h'.seat.me.0.made ≡ h.seat.me.0.made + drawop_steps * length more + extra
  pub steps : h'.steps ≡ h.steps + drawop_steps * length more + extra

-- the cursor after it has read one drawop, which stands at this place
abbrev pub ReadsOne : Cursor → ℕ → Cursor → Type 0
ReadsOne h place h' = (d : DrawopValue) × Walked h (d ∷ []) 0 h' × (place ≡ length h.seen.items)

-- the last step found the next cell free
abbrev pub FoundFree : Cursor → Type 0
FoundFree h = (h.seat.me.0.last_word ≡ length h.seen.items) × (h.seat.me.0.last_found ≡ 0) × (h.seat.me.0.stored ≡ [])

-- the cursor after it has read all drawops to the end: the last step found the next cell free, or the history is full
abbrev pub AtEnd : ℕ → Cursor → List DrawopValue → Cursor → Type 0
AtEnd cells h more h' = (Walked h more 1 h' × FoundFree h') ⊎ (Walked h more 0 h' × (length h'.seen.items ≡ cells))

-- the list has the name of d: it has d, or another drawop of that name
abbrev pub TellsNamesake : List DrawopValue → DrawopValue → Claim → Type 0
TellsNamesake l d (Added i) = ⊥
TellsNamesake l d (Present i) = IsAgainAt l d i
TellsNamesake l d (Clash i) = IsClashAt l d i

abbrev pub Sought : ℕ → Cursor → DrawopValue → Cursor → Option Claim → Type 0
Sought cells h d h' None = (more : List DrawopValue) × AtEnd cells h more h' × ¬ HoldsName h'.seen.items d.name
Sought cells h d h' (Some c) = (more : List DrawopValue) × Walked h more 0 h' × TellsNamesake h'.seen.items d c

-- the cursor after it has read these drawops and added d at a place
pub record Won (h : Cursor) (more : List DrawopValue) (d : DrawopValue) (place extra : ℕ) (h' : Cursor) : Type 0 where
  pub matches : MatchesSeat h'
  pub seat : SameSeat h.seat h'.seat
  pub cells : h'.seat.me.0.cells ≡ h.seat.me.0.cells
  pub at : place ≡ length h.seen.items + length more
  pub mine : h'.mine.items ≡ h.mine.items ++ place ∷ []
  pub free : length h.free.items ≡ length h'.free.items + 1
  pub seen : h'.seen.items ≡ (h.seen.items ++ more) ++ d ∷ []
  pub whole : HasAllRows h.seat.me.0 → more ≡ []
  pub made : h'.seat.me.0.made ≡ h.seat.me.0.made + drawop_steps * length more + extra
  pub steps : h'.steps ≡ h.steps + drawop_steps * length more + extra

-- the claim of d was answered: it was added, or a drawop of the history has its name
abbrev pub Answered : Cursor → DrawopValue → ℕ → Cursor → Claim → Type 0
Answered h d extra h' (Added i) = (more : List DrawopValue) × Won h more d i (extra + 1) h'
Answered h d extra h' (Present i) = (more : List DrawopValue) × Walked h more extra h' × TellsNamesake h'.seen.items d (Present i)
Answered h d extra h' (Clash i) = (more : List DrawopValue) × Walked h more extra h' × TellsNamesake h'.seen.items d (Clash i)

-- a claim of d was refused: the pass has no free row and has read to the end, where no drawop has the name; or memory ran out
abbrev pub Refused : ℕ → Cursor → DrawopValue → Cursor → ClaimFault → Type 0
Refused cells h d h' NoRow = (more : List DrawopValue) × AtEnd cells h more h' × ¬ HoldsName h'.seen.items d.name × (h.free.items ≡ [])
Refused cells h d h' Memory = (more : List DrawopValue) × (extra : ℕ) × (extra ≤ row_words + 2) × Walked h more extra h'

-- the cursor after it took in what another seat knows
pub record United (h : Cursor) (w : Knowledge) (h' : Cursor) : Type 0 where
  pub matches : MatchesSeat h'
  pub seat : SameSeat h.seat h'.seat
  pub cells : h'.seat.me.0.cells ≡ h.seat.me.0.cells
  pub seen : h'.seen.items ≡ longer h.seen.items w.seen
  pub first : IsPrefix h.seen.items h'.seen.items
  pub second : IsPrefix w.seen h'.seen.items
  pub mine : h'.mine.items ≡ h.mine.items ++ w.mine
  pub free : h'.free.items ≡ h.free.items ++ w.free
  pub steps : h'.steps ≡ h.steps
