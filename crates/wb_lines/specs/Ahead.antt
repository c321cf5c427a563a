-- What a reader of lines has pulled and not used yet.
use Rattle.std.specs.Prelude.{◌≡◌, ◌≢◌, ◌≤◌, ◌<◌, ◌+◌, ◌-◌, ◌^◌, ℕ, List, [], ◌∷◌, ◌++◌, length, Bool, true, false, Option, Result, Ok, Err}
use Rattle.std.specs.Io.KnownBytes.{Consumes, IsAtEnd}
use Rattle.wb_lines.specs.declared.line_reader.Pulled.{Pulled}
use Rattle.wb_lines.specs.declared.line_reader.Pulled.TheVariants.{Byte, End, Failed, Unwritten}
use Rattle.wb_lines.specs.declared.line_reader.Found.{Found}
use Rattle.wb_lines.specs.declared.line_reader.Found.TheVariants as founds
use Rattle.wb_lines.specs.Input.{most_bytes}

-- The bytes, and whether the end of the source was met.
pub record Ahead : Type 0 where
  pub bytes : List ℕ
  pub ended : Bool

-- Some bytes were pulled: none after the end, which stays the end, and a source that failed has no end.
pub record ReadsAhead (old new : Ahead) (left left' : Option (List ℕ)) (failed failed' : Bool) (given : List ℕ) : Type 0 where
  pub consumes : Consumes left left' given
  pub none_after_end : old.ended ≡ true → given ≡ []
  pub end_stays : old.ended ≡ true → new.ended ≡ true
  pub at_end : (old.ended ≡ true → IsAtEnd left) → new.ended ≡ true → IsAtEnd left'
  pub working_at_end : (old.ended ≡ true → failed ≡ false) → new.ended ≡ true → failed' ≡ false

-- What the next byte is, with the bytes that were pulled for it. If writing failed, nothing is known.
abbrev pub GivesByte : Ahead → Ahead → List ℕ → Bool → Pulled → Type 0
GivesByte old new given failed (Byte b) = old.bytes ++ given ≡ b ∷ new.bytes
GivesByte old new given failed End = (old.bytes ++ given ≡ []) × (new.bytes ≡ []) × (new.ended ≡ true)
GivesByte old new given failed Failed = (old.bytes ++ given ≡ []) × (new.ended ≡ false) × (failed ≡ true)
GivesByte old new given failed Unwritten = Unit {0}

-- No line feed is among the bytes.
abbrev pub NoLineFeed : List ℕ → Type 0
NoLineFeed [] = Unit {0}
NoLineFeed (b ∷ bytes) = (b ≢ 10) × NoLineFeed bytes

-- Bytes without a line feed were moved from the front of what is at hand to the end of a line, which has one byte too many at most.
pub record TakesRun (old new : Ahead) (line line' : List ℕ) : Type 0 where
  pub run : List ℕ
  pub from : old.bytes ≡ run ++ new.bytes
  pub onto : line' ≡ line ++ run
  pub no_line_feed : NoLineFeed run
  pub short : length line' ≤ most_bytes + 1

-- `count` bytes without a line feed were passed over, at the front of what is at hand.
pub record PassesRun (old new : Ahead) (count : ℕ) : Type 0 where
  pub run : List ℕ
  pub from : old.bytes ≡ run ++ new.bytes
  pub no_line_feed : NoLineFeed run
  pub counted : length run ≡ count

-- A line that isn't too long.
pub record IsLine (line : List ℕ) : Type 0 where
  pub no_line_feed : NoLineFeed line
  pub short : length line ≤ most_bytes

-- What the next line is, with the bytes that were pulled for it. A line is too long as soon as one byte is too many.
abbrev pub GivesLine : Ahead → Ahead → List ℕ → Bool → List ℕ → Found → Type 0
GivesLine old new given failed line founds.Whole = IsLine line × (old.bytes ++ given ≡ line ++ 10 ∷ new.bytes)
GivesLine old new given failed line founds.Last = IsLine line × (old.bytes ++ given ≡ line) × (line ≢ []) × (new.bytes ≡ []) × (new.ended ≡ true)
GivesLine old new given failed line founds.End = (old.bytes ++ given ≡ []) × (new.bytes ≡ []) × (new.ended ≡ true)
GivesLine old new given failed line founds.Failed = IsLine line × (old.bytes ++ given ≡ line) × (new.ended ≡ false) × (failed ≡ true)
GivesLine old new given failed line founds.TooLong = NoLineFeed line × (length line ≡ most_bytes + 1) × (old.bytes ++ given ≡ line ++ new.bytes)
GivesLine old new given failed line founds.Unwritten = Unit {0}

-- The same, unless memory runs out: then nothing is known of the line.
abbrev pub MayGiveLine : {E : Type 0} → Ahead → Ahead → List ℕ → Bool → List ℕ → Result Found E → Type 0
MayGiveLine old new given failed line (Ok found) = GivesLine old new given failed line found
MayGiveLine old new given failed line (Err e) = Unit {0}

-- The rest of a line that is too long was passed over, with the bytes that were pulled for it; or some of it was.
abbrev pub PassesOver : Ahead → Ahead → List ℕ → Bool → List ℕ → Found → Type 0
PassesOver old new given failed rest founds.Whole = NoLineFeed rest × (length rest < 2 ^ 64 - 1) × (old.bytes ++ given ≡ rest ++ 10 ∷ new.bytes)
PassesOver old new given failed rest founds.Last = NoLineFeed rest × (length rest < 2 ^ 64 - 1) × (old.bytes ++ given ≡ rest) × (new.bytes ≡ []) × (new.ended ≡ true)
PassesOver old new given failed rest founds.End = ⊥
PassesOver old new given failed rest founds.Failed = NoLineFeed rest × (length rest < 2 ^ 64 - 1) × (old.bytes ++ given ≡ rest) × (new.ended ≡ false) × (failed ≡ true)
PassesOver old new given failed rest founds.TooLong = NoLineFeed rest × (length rest ≡ 2 ^ 64 - 1) × (old.bytes ++ given ≡ rest ++ new.bytes)
PassesOver old new given failed rest founds.Unwritten = Unit {0}
