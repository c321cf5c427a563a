-- Laws of the readable form.
use Rattle.std.specs.Prelude.{◌≡◌, Ok}
use Rattle.wb_codec.specs.declared.datagram.Datagram.{Datagram}
use Rattle.wb_codec.specs.Ranges.{IsDatagram}
use Rattle.wb_words.specs.Spelling.{spelled}
use Rattle.wb_words.specs.Reading.{reading}

-- the line of a datagram says it
abbrev pub WordsAreRead : Type 0
WordsAreRead = (v : Datagram) → IsDatagram v → reading (spelled v) ≡ Ok v

-- one line, one datagram
abbrev pub OneLine : Type 0
OneLine = (v w : Datagram) → IsDatagram v → IsDatagram w → spelled v ≡ spelled w → v ≡ w
