use Rattle.std.proofs.Common.{◌≡◌, ◌+◌, ◌≤◌, length, take}
use Rattle.wb_history.proofs.seen.Seen.extend_to.Given as goal

abbrev pub invariant-loop-place : goal.invariant-loop-place
invariant-loop-place l = (l.self.items ≡ take l.place l.longer) × (length l.longer ≤ l.place + l.self.room)
