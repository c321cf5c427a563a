-- The marks of two ascending lists, by ascending source and each source once, in the order in which a walk takes them.
use Rattle.std.specs.Prelude.{List, [], ◌∷◌, max, nat_lt, if◌then◌else◌}
use Rattle.wb_names.specs.Values.{MarkValue}

-- of one source, the greater number
abbrev pub greater : MarkValue → MarkValue → MarkValue
greater m n = record { source = m.source; high = max m.high n.high }

-- `joined` goes down the first list, and `joined_at` down the second, at the first mark of the first list
abbrev pub joined_at : MarkValue → List MarkValue → (List MarkValue → List MarkValue) → List MarkValue → List MarkValue
joined_at m ms rest [] = m ∷ ms
joined_at m ms rest (n ∷ ns) =
    if nat_lt m.source n.source then m ∷ rest (n ∷ ns)
    else (if nat_lt n.source m.source then n ∷ joined_at m ms rest ns else greater m n ∷ rest ns)

abbrev pub joined : List MarkValue → List MarkValue → List MarkValue
joined [] ns = ns
joined (m ∷ ms) ns = joined_at m ms (joined ms) ns
