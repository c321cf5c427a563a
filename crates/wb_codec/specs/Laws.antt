-- Laws of datagrams as bytes, and of drawops as records.
use Rattle.std.specs.Prelude.{◌≡◌, ℕ, ◌<◌, List, ◌∷◌, ◌++◌, length, take, All, Ok, Err}
use Rattle.wb_names.specs.Values.{DrawopValue}
use Rattle.wb_codec.specs.declared.datagram.Datagram.{Datagram}
use Rattle.wb_codec.specs.declared.fault.ReadFault.TheVariants.{Short, Trailing}
use Rattle.wb_codec.specs.Ranges.{IsDatagram, IsDrawop}
use Rattle.wb_codec.specs.Spelling.{spelling}
use Rattle.wb_codec.specs.Reading.{reading}
use Rattle.wb_codec.specs.Grammar.{Spells}
use Rattle.wb_codec.specs.Rows.{row}

-- two datagrams have two spellings
abbrev pub OneDatagram : Type 0
OneDatagram = (v w : Datagram) → IsDatagram v → IsDatagram w → spelling v ≡ spelling w → v ≡ w

-- what was spelled is read
abbrev pub ReadsSpellings : Type 0
ReadsSpellings = (v : Datagram) → IsDatagram v → reading (spelling v) ≡ Ok v

-- what is read was spelled so
abbrev pub SpellsReadings : Type 0
SpellsReadings = (bytes : List ℕ) (v : Datagram) → All (λ b. b < 256) bytes → reading bytes ≡ Ok v → Spells bytes v

-- the first bytes of a spelling, if not all of them
abbrev pub PrefixesAreShort : Type 0
PrefixesAreShort = (v : Datagram) (n : ℕ) → IsDatagram v → n < length (spelling v) → reading (take n (spelling v)) ≡ Err Short

-- a spelling, and bytes behind it
abbrev pub LongerAreTrailing : Type 0
LongerAreTrailing = (v : Datagram) (b : ℕ) (rest : List ℕ) → IsDatagram v → reading (spelling v ++ b ∷ rest) ≡ Err Trailing

-- two drawops have two records
abbrev pub OneDrawop : Type 0
OneDrawop = (d e : DrawopValue) → IsDrawop d → IsDrawop e → row d ≡ row e → d ≡ e
