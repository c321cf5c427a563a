use Rattle.std.proofs.Common.{take}
use Rattle.sha2.specs.Hashers.{Holds256}
use Rattle.wb_digest.specs.Digest.{hashed_text}
use Rattle.wb_digest.proofs.hashing.page_digest.Given as goal

abbrev pub invariant-loop-drawop : goal.invariant-loop-drawop
invariant-loop-drawop l = Holds256 l.hasher (hashed_text (take l.drawop-index l.drawop-items))
