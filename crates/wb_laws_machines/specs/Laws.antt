-- What holds of sessions of each machine that is lawful. All of it is of one page: nothing is asked of
-- what is drawn on another.
use Rattle.std.specs.Prelude.{◌≡◌, ℕ, ◌≤◌, List, [], Contains}
use Rattle.wb_names.specs.Arrivals.{Clash}
use Rattle.wb_names.specs.History.{IsHistory}
use Rattle.wb_names.specs.Values.{DrawopValue}
use Rattle.wb_names.specs.declared.name.PageId.{PageId}
use Rattle.wb_gaps.specs.Answers.{report_of}
use Rattle.wb_member.specs.Opened.{becomes, gaps_at}
use Rattle.wb_laws_machines.specs.Agreement.{Agree}
use Rattle.wb_laws_machines.specs.Honest.{AreApart, AreHonest, IsOn}
use Rattle.wb_laws_machines.specs.Machines.{AreTaken, At, Machine, WasDrawn, WasHeld, drawn_at, member_at, ◌⊑◌}

-- What a member holds, or held before, its source drew, just as it is.
abbrev pub HeldWasDrawn : {S E : Type 0} → Machine S E → Type 0
HeldWasDrawn {S} {E} m = (numbers : ℕ → ℕ) (trace : List (At E)) (page : PageId) (d : DrawopValue)
    → AreHonest (IsOn page) m numbers trace → d.name.page ≡ page
    → WasHeld m numbers trace d → WasDrawn m numbers trace d

-- No two drawops that were drawn have one name.
abbrev pub NamesMeanOne : {S E : Type 0} → Machine S E → Type 0
NamesMeanOne {S} {E} m = (numbers : ℕ → ℕ) (trace : List (At E)) (page : PageId) (d x : DrawopValue)
    → AreApart numbers → AreHonest (IsOn page) m numbers trace → d.name.page ≡ page
    → WasDrawn m numbers trace d → WasDrawn m numbers trace x → d.name ≡ x.name → d ≡ x

-- What the member at a place draws has its number, and a sequence number from 1 on.
abbrev pub NumbersCount : {S E : Type 0} → Machine S E → Type 0
NumbersCount {S} {E} m = (numbers : ℕ → ℕ) (trace : List (At E)) (page : PageId) (i : ℕ) (d : DrawopValue)
    → AreHonest (IsOn page) m numbers trace → d.name.page ≡ page → Contains (drawn_at m numbers trace i) d
    → (d.name.source ≡ numbers i) × (1 ≤ d.name.seq)

-- No name stands twice on a board, whatever comes.
abbrev pub HeldOnce : {S E : Type 0} → Machine S E → Type 0
HeldOnce {S} {E} m = (numbers : ℕ → ℕ) (trace : List (At E)) (i : ℕ)
    → IsHistory (member_at m numbers trace i).is.held

-- A drawop that some member held clashes with nothing that another holds, at whatever moments.
abbrev pub NoneClashes : {S E : Type 0} → Machine S E → Type 0
NoneClashes {S} {E} m =
    (numbers : ℕ → ℕ) (trace older : List (At E)) (i place : ℕ) (page : PageId) (d : DrawopValue)
    → AreApart numbers → AreHonest (IsOn page) m numbers trace → older ⊑ trace → d.name.page ≡ page
    → WasHeld m numbers trace d → becomes d (member_at m numbers older i) ≡ Clash place → ⊥

-- ---- agreement

-- Two members that have one report of a page, and no gaps there, agree: each at a moment of its own,
-- in either order, and whoever started anew between.
abbrev pub ReportsTellAgreement : {S E : Type 0} → Machine S E → Type 0
ReportsTellAgreement {S} {E} m =
    (numbers : ℕ → ℕ) (trace older older' : List (At E)) (i j : ℕ) (page : PageId)
    → AreApart numbers → AreTaken m numbers trace → AreHonest (IsOn page) m numbers trace
    → older ⊑ trace → older' ⊑ trace
    → let one = member_at m numbers older i in
    let other = member_at m numbers older' j in
    report_of one.is.held page ≡ report_of other.is.held page
    → gaps_at page one ≡ [] → gaps_at page other ≡ [] → Agree one other page

-- a member holds all that was drawn on the page
abbrev pub HoldsAllDrawn : {S E : Type 0} → Machine S E → (ℕ → ℕ) → List (At E) → PageId → ℕ → Type 0
HoldsAllDrawn m numbers trace page i =
    (d : DrawopValue) → WasDrawn m numbers trace d → d.name.page ≡ page
    → Contains (member_at m numbers trace i).is.held d

-- Two members that hold all that was drawn on a page agree.
abbrev pub WholeBoardsAgree : {S E : Type 0} → Machine S E → Type 0
WholeBoardsAgree {S} {E} m = (numbers : ℕ → ℕ) (trace : List (At E)) (i j : ℕ) (page : PageId)
    → AreHonest (IsOn page) m numbers trace
    → HoldsAllDrawn m numbers trace page i → HoldsAllDrawn m numbers trace page j
    → Agree (member_at m numbers trace i) (member_at m numbers trace j) page
