-- Output that waits until it is written.
use Rattle.std.specs.Prelude.{◌≡◌, List, ℕ, ◌++◌, Option}
use Rattle.std.specs.Io.KnownBytes.{Appends}

-- No line is read while more bytes wait than these.
abbrev pub most_waiting : ℕ
most_waiting = 65536

-- Text was added after what waited, and some of it was sent from the front: what the sink has taken since, with what waits now, is what waited before, with the text.
abbrev pub SendsOut : Option (List ℕ) → List ℕ → Option (List ℕ) → List ℕ → List ℕ → Type 0
SendsOut taken waiting taken' waiting' text = (sent : List ℕ) × Appends taken taken' sent × (waiting ++ text ≡ sent ++ waiting')
