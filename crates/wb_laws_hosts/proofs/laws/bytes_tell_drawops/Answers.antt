use Rattle.wb_laws_hosts.proofs.Bytes.{bytes_tell_drawops}
use Rattle.wb_laws_hosts.proofs.DriverLines.{lines_carry_bytes}
use Rattle.wb_laws_hosts.proofs.laws.bytes_tell_drawops.Goals as goal

pub returns : goal.returns
returns c = record { bytes = lines_carry_bytes; one = bytes_tell_drawops }
