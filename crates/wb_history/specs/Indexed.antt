-- A list of drawops with an index of their names.
use Rattle.std.specs.Prelude.{◌≡◌, ℕ, ◌-◌, List, All, map, min, vec_len, vec_capacity}
use mathlib.Core.List.{IsPrefix}
use Rattle.indexmap.specs.IndexSet.{spare}
use Rattle.wb_names.specs.Values.{DrawopValue}
use Rattle.wb_history.specs.declared.seen.Seen.TheInside.{Inside}

-- the drawops in order of place, and how many more can be put in with no memory
pub record SeenValue : Type 0 where
  pub items : List DrawopValue
  pub room : ℕ

abbrev pub seen_of : Inside → SeenValue
seen_of m = record { items = m.list.items; room = min (vec_capacity m.list - vec_len m.list) (spare m.names) }

-- the index has the names in order of place
abbrev pub IsIndexed : Inside → Type 0
IsIndexed m = m.names.keys ≡ map (λ d. d.name) m.list.items

-- each list is a front of the list
abbrev pub AreFronts : List SeenValue → List DrawopValue → Type 0
AreFronts lists whole = All (λ l. IsPrefix l.items whole) lists
