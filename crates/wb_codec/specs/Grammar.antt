-- The bytes that are datagrams, and what is wrong with others.
use Rattle.std.specs.Prelude.{◌≡◌, ℕ, List, Err}
use Rattle.wb_codec.specs.declared.datagram.Datagram.{Datagram}
use Rattle.wb_codec.specs.declared.datagram.Datagram.TheVariants.{Session, PageState}
use Rattle.wb_codec.specs.declared.fault.ReadFault.{ReadFault}
use Rattle.wb_codec.specs.declared.fault.ReadFault.TheVariants.{Memory}
use Rattle.wb_codec.specs.Ranges.{IsDatagram}
use Rattle.wb_codec.specs.Spelling.{spelling}
use Rattle.wb_codec.specs.Reading.{reading}

-- the bytes spell this datagram, all of whose fields are in range; there is only one
abbrev pub Spells : List ℕ → Datagram → Type 0
Spells bytes v = IsDatagram v × (bytes ≡ spelling v)

-- a datagram with lists, which alone take memory
abbrev pub HasLists : Datagram → Type 0
HasLists (Session sender sent page marks echoes) = Unit {0}
HasLists (PageState sender page marks) = Unit {0}
HasLists v = ⊥

-- the first check that fails; an allocation can fail only for the bytes of a datagram with lists
abbrev pub IsFaultOf : List ℕ → ReadFault → Type 0
IsFaultOf bytes Memory = (v : Datagram) × Spells bytes v × HasLists v
IsFaultOf bytes fault = reading bytes ≡ Err fault
