-- What digests tell in sessions of hosts.
use Rattle.std.specs.Prelude.{◌≡◌, ℕ, List, []}
use Rattle.wb_names.specs.declared.name.PageId.{PageId}
use Rattle.wb_gaps.specs.Answers.{report_of}
use Rattle.wb_member.specs.Opened.{gaps_at}
use Rattle.wb_digest.specs.Digest.{IsDigest}
use Rattle.wb_laws_machines.specs.Honest.{AreApart}
use Rattle.wb_laws_machines.specs.Machines.{AreTaken, At, member_at, ◌⊑◌}
use Rattle.wb_host_sessions.specs.Hosts.{HostEvent, hosts}
use Rattle.wb_host_sessions.specs.Sessions.{KeepTo}

-- Two hosts, of whatever kinds, that have one report of a page and no gaps there have one digest of it. So if
-- their digests differ, the session did not keep to its terms: something of the page was forged, two drew
-- under one number, or a record was lost.
abbrev pub HostsHaveOneDigest : Type 0
HostsHaveOneDigest =
    (numbers : ℕ → ℕ) (trace older older' : List (At HostEvent)) (i j : ℕ) (page : PageId) (digest again : List ℕ)
    → AreApart numbers → AreTaken hosts numbers trace → KeepTo page numbers trace
    → older ⊑ trace → older' ⊑ trace
    → let one = member_at hosts numbers older i in
    let other = member_at hosts numbers older' j in
    report_of one.is.held page ≡ report_of other.is.held page
    → gaps_at page one ≡ [] → gaps_at page other ≡ []
    → IsDigest one.is.held page digest → IsDigest other.is.held page again → digest ≡ again
