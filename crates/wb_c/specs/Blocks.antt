-- The block of a line, and where it is.
use Rattle.std.specs.Prelude.{◌≡◌, ◌≤◌, ◌<◌, ℕ, List, [], ◌++◌, length, drop, Bool, true, false, None}
use Rattle.wb_lines.specs.Input.{InputLine}
use Rattle.wb_lines.specs.Taking.{met}
use Rattle.wb_recovery.specs.declared.tuning.Tuning.{Tuning}
use Rattle.wb_dialog.specs.Kinds.{Response, Standing, after as standing_after, block_of, response_of}
use Rattle.wb_dialog.specs.Doing.{IsAt, DialogValue}

-- the constants that the timers of a host have without others
abbrev pub usual : Tuning
usual = record { c1 = 2; c2 = 2; d1 = 1; d2 = 1 }

-- a dialog with no board and no judge
abbrev pub fresh : DialogValue
fresh = record { tuning = usual; host = None }

-- a line as one of an input in which a line feed ends it
abbrev pub ended : List ℕ → InputLine
ended line = record { bytes = line; ended = true }

-- what a host does for a line: what the definition of its transcript says of one that a line feed ends
abbrev pub reply_to_line : Standing → List ℕ → Response
reply_to_line s line = response_of s (met (ended line))

-- A host took a line once: it is at the host that follows, and the block is that of the definition.
abbrev pub Took : DialogValue → DialogValue → List ℕ → List ℕ → Type 0
Took old new line block = (s : Standing) → IsAt old s → IsAt new (standing_after s (reply_to_line s line)) × (block ≡ block_of (reply_to_line s line))

-- Bytes were written at the front of a buffer; or there is no room for them, and it is as it was.
abbrev pub Writes : List ℕ → List ℕ → List ℕ → Bool → Type 0
Writes bytes before after true = (length bytes ≤ length before) × (after ≡ bytes ++ drop (length bytes) before)
Writes bytes before after false = (length before < length bytes) × (after ≡ before)

-- A block was handed over whole, and nothing waits; or there is no room for it, and it waits as it did.
abbrev pub Leaves : List ℕ → List ℕ → Bool → Type 0
Leaves block left true = left ≡ []
Leaves block left false = left ≡ block

abbrev pub HandsOver : List ℕ → List ℕ → List ℕ → List ℕ → Bool → Type 0
HandsOver block left before after whole = Writes block before after whole × Leaves block left whole
