-- The lines that say datagrams.
use Rattle.std.specs.Prelude.{◌≡◌, ℕ, List}
use Rattle.wb_codec.specs.declared.datagram.Datagram.{Datagram}
use Rattle.wb_codec.specs.Ranges.{IsDatagram}
use Rattle.wb_words.specs.Spelling.{spelled}

-- the line is the spelling of this datagram, all of whose fields are in range; there is only one
abbrev pub Says : List ℕ → Datagram → Type 0
Says line v = IsDatagram v × (line ≡ spelled v)
