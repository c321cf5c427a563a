-- What hosts of any kind do as members.
use Rattle.std.specs.Prelude.{List, [], ◌∷◌, ◌++◌}
use Rattle.wb_member.specs.Opened.{Opened}
use Rattle.wb_laws_machines.specs.Maps.{Map, both}
use Rattle.wb_laws_sessions.specs.Members.{Deed, Opens}
use Rattle.wb_laws_kept.specs.Kept.{kept, kept_map}
use Rattle.wb_host_sessions.specs.Hosts.{Drives, Driven, AnyHost, HostEvent, JudgedHost, Judges, Keeps, Kept, Sets, judged_state, kept_state, member_of}
use Rattle.wb_judged_sessions.specs.Calls.{JudgedCall}
use Rattle.wb_judged_sessions.specs.Judged.{judged_map}
use Rattle.wb_judging.specs.Judged.{Judged as JudgedState}

-- what judged members do as members: through calls of self-managing members
abbrev pub judged_member_map : Map JudgedState JudgedCall Opened Deed
judged_member_map = both kept judged_map kept_map

-- If a program of another kind starts, the board of the one before is gone.
abbrev pub ends : Deed
ends = Opens (record { c1 = 2; c2 = 2; d1 = 1; d2 = 1 }) 0 0

abbrev pub driven_turn : AnyHost → List Deed
driven_turn (Driven host) = []
driven_turn (Kept k) = ends ∷ []
driven_turn (JudgedHost h) = ends ∷ []

abbrev pub kept_turn : AnyHost → List Deed
kept_turn (Driven host) = ends ∷ []
kept_turn (Kept k) = []
kept_turn (JudgedHost h) = ends ∷ []

abbrev pub judged_turn : AnyHost → List Deed
judged_turn (Driven host) = ends ∷ []
judged_turn (Kept k) = ends ∷ []
judged_turn (JudgedHost h) = []

-- and then it does what its kind does
abbrev pub host_deeds : HostEvent → AnyHost → List Deed
host_deeds (Drives deed) x = driven_turn x ++ deed ∷ []
host_deeds (Keeps call) x = kept_turn x ++ kept_map.events call (kept_state x)
host_deeds (Judges call) x = judged_turn x ++ judged_member_map.events call (judged_state x)
host_deeds (Sets rate listen seed) x = []

abbrev pub IsSoundHost : AnyHost → Type 0
IsSoundHost (Driven host) = Unit {0}
IsSoundHost (Kept k) = Unit {0}
IsSoundHost (JudgedHost h) = judged_member_map.IsSound h

abbrev pub hosts_map : Map AnyHost HostEvent Opened Deed
hosts_map = record { state = member_of; events = host_deeds; IsSound = IsSoundHost }
