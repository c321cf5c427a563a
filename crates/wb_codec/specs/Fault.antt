-- The numbers of the faults of a datagram's bytes.
use Rattle.std.specs.Prelude.{ℕ}
use Rattle.wb_codec.specs.declared.fault.ReadFault.{ReadFault}
use Rattle.wb_codec.specs.declared.fault.ReadFault.TheVariants.{Short, Magic, Version, Kind, Trailing, Length, OpKind, Field, Order, Memory}

abbrev pub read_code : ReadFault → ℕ
read_code Short = 1
read_code Magic = 2
read_code Version = 3
read_code Kind = 4
read_code Trailing = 5
read_code Length = 6
read_code OpKind = 7
read_code (Field fault) = 8
read_code Order = 9
read_code Memory = 10
