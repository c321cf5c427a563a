-- Sessions of hosts of all kinds: what is asked of them, and what holds.
use Rattle.std.specs.Prelude.{◌≡◌, ℕ, ◌≤◌, List, [], ◌∷◌, Contains}
use Rattle.wb_names.specs.Values.{DrawopValue}
use Rattle.wb_names.specs.declared.name.PageId.{PageId}
use Rattle.wb_codec.specs.declared.datagram.Datagram.{Datagram}
use Rattle.wb_codec.specs.declared.datagram.Datagram.TheVariants.{Draw}
use Rattle.wb_gaps.specs.Answers.{report_of}
use Rattle.wb_member.specs.Opened.{Opened, gaps_at, last_number}
use Rattle.wb_laws_machines.specs.Agreement.{Agree}
use Rattle.wb_laws_sessions.specs.Members.{Deed, member}
use Rattle.wb_laws_machines.specs.Honest.{AreApart, AreHonest, IsAbove, IsOn}
use Rattle.wb_host_sessions.specs.Hosts.{Drives, AnyHost, HostEvent, Judges, Keeps, Sets, driven_in, hosts, judged_state, kept_state}
use Rattle.wb_judged_sessions.specs.Judged.{judged}
use Rattle.wb_host_sessions.specs.Members.{hosts_map}
use Rattle.wb_laws_kept.specs.Kept.{kept}
use Rattle.wb_laws_machines.specs.Machines.{AreTaken, At, WasDrawn, WasHeld, drawn_at, member_at, sent, state_at, ◌⊑◌}
use Rattle.wb_laws_machines.specs.Maps.{HasSame, below}

-- The last number of its own that a member knows on a page is as great as each that its place drew there.
abbrev pub PlaceKnowsItsOwn : PageId → (ℕ → ℕ) → List (At HostEvent) → ℕ → Opened → Type 0
PlaceKnowsItsOwn page numbers older i host =
    (x : DrawopValue) → Contains (drawn_at hosts numbers older i) x → x.name.page ≡ page
    → x.name.seq ≤ last_number page host

-- A driver draws under the number of its place, and above all that was drawn there. A
-- self-managing host, judged or not, counts by itself: when it draws it knows its own numbers, by its
-- record (tests/live/test_keeping.py: test_draw, test_unwritten) or by listening (check_listening there).
abbrev pub DrawsAnew : PageId → (ℕ → ℕ) → List (At HostEvent) → ℕ → HostEvent → AnyHost → Type 0
DrawsAnew page numbers older i (Drives deed) x =
    (d : DrawopValue) → d.name.page ≡ page → Contains (member.drawn deed (driven_in x)) d
    → (d.name.source ≡ numbers i) × (1 ≤ d.name.seq) × IsAbove (drawn_at hosts numbers older i) d.name
DrawsAnew page numbers older i (Keeps call) x =
    (d : DrawopValue) → d.name.page ≡ page → Contains (kept.drawn call (kept_state x)) d
    → PlaceKnowsItsOwn page numbers older i (kept_state x).host
DrawsAnew page numbers older i (Judges call) x =
    (d : DrawopValue) → d.name.page ≡ page → Contains (judged.drawn call (judged_state x)) d
    → PlaceKnowsItsOwn page numbers older i (judged_state x).kept.host
DrawsAnew page numbers older i (Sets rate listen seed) x = Unit {0}

-- Of one page: each drawop that a host takes in, some host held before, and each is drawn as said above.
-- Members send, hand on and record only what they hold (tests/live/test_keeping.py: check_old;
-- tests/live/test_joins.py: check_join). Under a key nobody else can speak; without one it is asked of
-- people. Nothing is asked of other pages (tests/sessions/test_sessions.py: test_kinds).
pub record KeepsTo (page : PageId) (numbers : ℕ → ℕ) (older : List (At HostEvent))
    (e : At HostEvent) : Type 0 where
  pub comes : (d : DrawopValue) → d.name.page ≡ page
      → Contains (hosts.gained e.event (state_at hosts numbers older e.place)) d
      → WasHeld hosts numbers older d
  pub draws : DrawsAnew page numbers older e.place e.event (state_at hosts numbers older e.place)

abbrev pub KeepTo : PageId → (ℕ → ℕ) → List (At HostEvent) → Type 0
KeepTo page numbers [] = Unit {0}
KeepTo page numbers (e ∷ older) = KeepsTo page numbers older e × KeepTo page numbers older

-- ---- laws

-- Two hosts, of whatever kinds, that have one report of a page and no gaps there agree: each at a moment
-- of its own, in either order.
abbrev pub ReportsTell : (ℕ → ℕ) → List (At HostEvent) → PageId → Type 0
ReportsTell numbers trace page =
    (older older' : List (At HostEvent)) (i j : ℕ) → older ⊑ trace → older' ⊑ trace
    → let one = member_at hosts numbers older i in
    let other = member_at hosts numbers older' j in
    report_of one.is.held page ≡ report_of other.is.held page
    → gaps_at page one ≡ [] → gaps_at page other ≡ [] → Agree one other page

abbrev pub HostsAgree : Type 0
HostsAgree = (numbers : ℕ → ℕ) (trace : List (At HostEvent)) (page : PageId)
    → AreApart numbers → AreTaken hosts numbers trace → KeepTo page numbers trace
    → ReportsTell numbers trace page

-- What hosts do that keep to these terms is what is asked of each machine.
abbrev pub HostsAreHonest : Type 0
HostsAreHonest = (page : PageId) (numbers : ℕ → ℕ) (trace : List (At HostEvent))
    → KeepTo page numbers trace → AreHonest (IsOn page) hosts numbers trace

-- A drawop that a host sends, of its user or as a repair, its source drew, just as it is.
abbrev pub SentWasDrawn : Type 0
SentWasDrawn = (numbers : ℕ → ℕ) (trace : List (At HostEvent)) (page : PageId) (d : DrawopValue)
    → AreTaken hosts numbers trace → AreHonest (IsOn page) hosts numbers trace → d.name.page ≡ page
    → Contains (sent hosts numbers trace) (Draw d) → WasDrawn hosts numbers trace d

-- A session of hosts is one of members: at each place is the same member, which draws the same, and
-- what says the same is sent; all of it is taken; what some host held some member held; and what keeps
-- to the terms of a page keeps to them.
pub record AreMembers (numbers : ℕ → ℕ) (trace : List (At HostEvent)) (low : List (At Deed)) : Type 0 where
  pub taken : AreTaken member numbers low
  pub same : (i : ℕ) → member_at member numbers low i ≡ member_at hosts numbers trace i
  pub drawn : (i : ℕ) → drawn_at member numbers low i ≡ drawn_at hosts numbers trace i
  pub sent : (v : Datagram) → Contains (sent hosts numbers trace) v → HasSame (sent member numbers low) v
  pub held : (d : DrawopValue) → WasHeld hosts numbers trace d → WasHeld member numbers low d
  pub honest : (page : PageId) → AreHonest (IsOn page) hosts numbers trace
      → AreHonest (IsOn page) member numbers low

abbrev pub HostsAreMembers : Type 0
HostsAreMembers = (numbers : ℕ → ℕ) (trace : List (At HostEvent)) → AreTaken hosts numbers trace
    → AreMembers numbers trace (below hosts hosts_map numbers trace)
