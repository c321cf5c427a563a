-- A judged member: a kept member with a judge in front of it; and what happens to it.
use Rattle.std.specs.Prelude.{ℕ}
use Rattle.wb_judge.specs.Judge.{Judge}
use Rattle.wb_member.specs.Opened.{present}
use Rattle.wb_keeping.specs.Performing.{Keeping}
pub use Rattle.wb_judging.specs.declared.call.Call.{Call}
pub use Rattle.wb_judging.specs.declared.call.Call.TheVariants.{CameFrom, Held, Passed, UserDrew}
use Rattle.wb_judging.specs.declared.record.Giver.{Giver}
use Rattle.wb_judging.specs.declared.record.Giver.TheVariants.{Others, Past, User}

pub record Judged : Type 0 where
  pub kept : Keeping
  pub judge : Judge

-- who gives what the board gains
abbrev pub giver_of : Call → Giver
giver_of (UserDrew now page op) = User
giver_of (Held line) = Past
giver_of call = Others

abbrev pub moment_of : Call → Judged → ℕ
moment_of (CameFrom now o v) h = now
moment_of (Passed now news) h = now
moment_of (UserDrew now page op) h = now
moment_of (Held line) h = present h.kept.host
