-- What a source gives and a sink takes. The bytes are None where they are not known, and then these say less.
use Rattle.std.specs.Prelude.{◌≡◌, ℕ, ◌<◌, ◌≤◌, List, length, take, Option, Some, None}
use Rattle.std.specs.Io.KnownBytes.{Keeps, Appends, Consumes, IsAtEnd}

-- A pull moves n of the bytes that are left to the front of the buffer: 0 at the end alone. One that fails moves none.
abbrev pub Pulls : Option (List ℕ) → Option (List ℕ) → Option ℕ → List ℕ → Type 0
Pulls old new None buffer = Keeps old new
Pulls old new (Some n) buffer = (n ≤ length buffer) × Consumes old new (take n buffer) × (n ≡ 0 → IsAtEnd new)

-- A push takes n bytes from the front, at least one. One that fails takes none.
abbrev pub Pushes : Option (List ℕ) → Option (List ℕ) → Option ℕ → List ℕ → Type 0
Pushes old new None bytes = Keeps old new
Pushes old new (Some n) bytes = (0 < n) × (n ≤ length bytes) × Appends old new (take n bytes)
