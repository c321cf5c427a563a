use Rattle.std.proofs.Common.{◌≡◌, ◌++◌, drop, map}
use Rattle.wb_keeping.specs.Kept.{state_of}
use Rattle.wb_keeping.specs.Performing.{IsKeptAt, Keeping, view_of}
use Rattle.wb_keeping.proofs.kept_member.KeptMember.tells_pages.Given as goal

abbrev pub invariant-loop-page : goal.invariant-loop-page
invariant-loop-page l = (l.self ≡ l.fn.self) × ((k : Keeping) → IsKeptAt l.fn.self k → l.sent.items ++ map (state_of (view_of k.host)) (drop l.page-index l.pages) ≡ l.fn.sent.items ++ map (state_of (view_of k.host)) l.pages)
