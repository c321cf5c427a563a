-- Sessions of members, whoever drives them: traces of members as a machine. These are its words.
use Rattle.std.specs.Prelude.{ℕ, List}
use Rattle.wb_codec.specs.declared.datagram.Datagram.{Datagram}
use Rattle.wb_member.specs.Opened.{Opened}
use Rattle.wb_laws_machines.specs.Machines as of
use Rattle.wb_laws_sessions.specs.Members.{Deed, member}

abbrev pub Step : Type 0
Step = of.At Deed

-- the member at a place after some steps; `numbers` has the number of each place, for ever
abbrev pub host_at : (ℕ → ℕ) → List Step → ℕ → Opened
host_at = of.state_at member

-- all that anyone sent
abbrev pub sent : (ℕ → ℕ) → List Step → List Datagram
sent = of.sent member

-- ---- several deeds of one member, one after the other

abbrev pub after_deeds : List Deed → Opened → Opened
after_deeds = of.after_all member

abbrev pub sent_by_deeds : List Deed → Opened → List Datagram
sent_by_deeds = of.sent_by_all member

-- as steps: the newest is the first
abbrev pub steps_then : ℕ → ℕ → List Deed → List Step → List Step
steps_then = of.happen
