-- What is asked of a trace, of the drawops under some names, and what a machine owes.
use Rattle.std.specs.Prelude.{◌≡◌, ◌⊎◌, ℕ, ◌<◌, ◌≤◌, List, [], ◌∷◌, Contains, length}
use Rattle.wb_names.specs.History.{IsHistory}
use Rattle.wb_names.specs.Values.{DrawopValue, NameValue}
use Rattle.wb_names.specs.declared.name.PageId.{PageId}
use Rattle.wb_laws_machines.specs.Machines.{At, Machine, WasHeld, drawn_at, state_at}

-- No two places have one number. A record is locked while a member uses it, a new number is drawn at
-- random, and who hears a twin stops drawing (tests/live/test_units.py: test_record; test_records.py: check_state;
-- test_crowds.py: test_twins; tests/browser/judging.mjs: testTwins).
abbrev pub AreApart : (ℕ → ℕ) → Type 0
AreApart numbers = (i j : ℕ) → numbers i ≡ numbers j → i ≡ j

-- its number is above all that were drawn on its page
abbrev pub IsAbove : List DrawopValue → NameValue → Type 0
IsAbove drawn n = (x : DrawopValue) → Contains drawn x → x.name.page ≡ n.page → x.name.seq < n.seq

-- Of the drawops under some names: each that comes, some member held before; each that is drawn has
-- the number of its place, and a sequence number above all that were drawn there on its page.
-- Nothing is asked of drawops under other names, of session messages, page states, requests, moments
-- or constants.
pub record IsHonestAt {S E : Type 0} (Of : NameValue → Type 0) (m : Machine S E) (numbers : ℕ → ℕ)
    (older : List (At E)) (e : At E) : Type 0 where
  pub comes : (d : DrawopValue) → Of d.name
      → Contains (m.gained e.event (state_at m numbers older e.place)) d → WasHeld m numbers older d
  pub own : (d : DrawopValue) → Of d.name
      → Contains (m.drawn e.event (state_at m numbers older e.place)) d
      → (d.name.source ≡ numbers e.place) × (1 ≤ d.name.seq)
  pub new : (d : DrawopValue) → Of d.name
      → Contains (m.drawn e.event (state_at m numbers older e.place)) d
      → IsAbove (drawn_at m numbers older e.place) d.name

abbrev pub AreHonest : {S E : Type 0} → (NameValue → Type 0) → Machine S E → (ℕ → ℕ) → List (At E) → Type 0
AreHonest Of m numbers [] = Unit {0}
AreHonest Of m numbers (e ∷ older) = IsHonestAt Of m numbers older e × AreHonest Of m numbers older

-- of all names, and of those on a page
abbrev pub AnyName : NameValue → Type 0
AnyName n = Unit {0}

abbrev pub IsOn : PageId → NameValue → Type 0
IsOn page n = n.page ≡ page

-- What a machine owes: it begins with the number and an empty board; and in each event its number stays,
-- what is held more than before came or was drawn, one drawop is drawn at most, no name comes to stand
-- twice, and what is held has cells.
pub record IsLawful {S E : Type 0} (m : Machine S E) : Type 0 where
  pub numbered : (n : ℕ) → (m.member (m.start n)).is.number ≡ n
  pub empty : (n : ℕ) → (m.member (m.start n)).is.held ≡ []
  pub keeps : (e : E) (s : S) → (m.member (m.after e s)).is.number ≡ (m.member s).is.number
  pub brings : (e : E) (s : S) (d : DrawopValue) → Contains (m.member (m.after e s)).is.held d
      → Contains (m.member s).is.held d ⊎ (Contains (m.gained e s) d ⊎ Contains (m.drawn e s) d)
  pub few : (e : E) (s : S) → length (m.drawn e s) ≤ 1
  pub once : (e : E) (s : S) → IsHistory (m.member s).is.held → IsHistory (m.member (m.after e s)).is.held
  pub room : (e : E) (s : S) → length (m.member s).is.held ≤ (m.member s).is.cells
      → length (m.member (m.after e s)).is.held ≤ (m.member (m.after e s)).is.cells
