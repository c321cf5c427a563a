-- Alarms: for each name with a timer, the moment at which it is due.
use Rattle.std.specs.Prelude.{◌≡◌, ℕ, ◌≤◌, Bool, true, false, not, ◌&&◌, List, [], ◌∷◌, Option, Some, None, nat_le, nat_lt, is_some, min, length, if◌then◌else◌}
use Rattle.std.specs.BTreeMap.{get}
use Rattle.std.specs.List.{list_any}
use Rattle.std.specs.Ordering.{eq_by_cmp}
use Rattle.wb_names.specs.Values.{NameValue}
use Rattle.wb_names.specs.Orders.{same_name, name_cmp}
use Rattle.wb_names.specs.Listing.{Lists}
use Rattle.wb_recovery.specs.declared.alarms.Alarms.{Alarms}

-- whether the name is one of these
abbrev pub among : List NameValue → NameValue → Bool
among names n = list_any (eq_by_cmp name_cmp n) names

-- a timer whose moment passes a test
abbrev pub is_due_where : (ℕ → Bool) → Option ℕ → Bool
is_due_where test None = false
is_due_where test (Some e) = test e

-- a timer that is due by this moment
abbrev pub is_until : ℕ → Option ℕ → Bool
is_until now = is_due_where (λ e. nat_le e now)

-- the result for a name is what a test of it gives
abbrev pub Tells : (NameValue → Bool → Type 0) → (NameValue → Bool) → Type 0
Tells told test = (n : NameValue) (b : Bool) → told n b → b ≡ test n

-- the least of all moments, or None where there is none
abbrev pub IsFirst : (NameValue → Option ℕ) → Option ℕ → Type 0
IsFirst dues None = (n : NameValue) → dues n ≡ None
IsFirst dues (Some d) = (n : NameValue) × (dues n ≡ Some d) × ((m : NameValue) (e : ℕ) → dues m ≡ Some e → d ≤ e)

-- a bound is not above a moment, and is after one; there is none where no timer stands
abbrev pub IsUpTo : Option ℕ → ℕ → Type 0
IsUpTo None d = ⊥
IsUpTo (Some bound) d = bound ≤ d

abbrev pub is_after : ℕ → Option ℕ → Bool
is_after now None = true
is_after now (Some bound) = nat_lt now bound

-- there is an alarm for each timer, at its moment, and no other; none is before the moment that is kept as a bound, which
-- is the least moment where it is told to be exact
pub record Keep (dues : NameValue → Option ℕ) (alarms : Alarms) : Type 0 where
  pub each : (n : NameValue) → get name_cmp alarms.dues n ≡ dues n
  pub bound : (n : NameValue) (d : ℕ) → dues n ≡ Some d → IsUpTo alarms.soonest d
  pub exact : alarms.is_exact ≡ true → IsFirst dues alarms.soonest

-- the moments with that of one name changed
abbrev pub with_due : (NameValue → Option ℕ) → NameValue → Option ℕ → NameValue → Option ℕ
with_due dues name due n = if same_name name n then due else dues n

-- a name whose timer is due by this moment, unless it is stopped
abbrev pub due_name : (NameValue → Bool) → ℕ → NameValue → ℕ → Option NameValue
due_name stopped now name due = if not (stopped name) && nat_le due now then Some name else None

-- the least of some moments, and of one more, where there is one
abbrev pub earlier : Option ℕ → ℕ → ℕ
earlier None due = due
earlier (Some first) due = min first due

abbrev pub earliest : Option ℕ → List ℕ → Option ℕ
earliest first [] = first
earliest first (due ∷ dues) = earliest (Some (earlier first due)) dues

-- how many timers there are, and how many are due by this moment
abbrev pub CountsAll : (NameValue → Option ℕ) → ℕ → Type 0
CountsAll dues k = (names : List NameValue) → Lists name_cmp (λ n. is_some (dues n) ≡ true) names → k ≡ length names

abbrev pub CountsUntil : ℕ → (NameValue → Option ℕ) → ℕ → Type 0
CountsUntil now dues k = (names : List NameValue) → Lists name_cmp (λ n. is_until now (dues n) ≡ true) names → k ≡ length names
