-- Hosts: driven, self-managing, or judged. At a place a program of one kind may follow one of
-- another kind: then it begins with nothing but the number.
use Rattle.std.specs.Prelude.{ℕ, [], None}
use Rattle.wb_keeping.specs.Performing.{Keeping}
use Rattle.wb_judging.specs.Judged.{Judged as JudgedState}
use Rattle.wb_member.specs.Opened.{Opened, present}
use Rattle.wb_policy.specs.Policy.{begun}
use Rattle.wb_laws_sessions.specs.Members.{Deed, unopened, member}
use Rattle.wb_judged_sessions.specs.Calls.{JudgedCall, unstarted}
use Rattle.wb_judged_sessions.specs.Judged.{judged}
use Rattle.wb_laws_kept.specs.Kept.{kept, unkept}
use Rattle.wb_laws_machines.specs.Machines.{Machine}
use Rattle.wb_laws_kept.specs.Calls.{Call as KeptCall}

pub data AnyHost : Type 0 where
  Driven : Opened → AnyHost
  Kept : Keeping → AnyHost
  JudgedHost : JudgedState → AnyHost

pub data HostEvent : Type 0 where
  Drives : (deed : Deed) → HostEvent
  Keeps : (call : KeptCall) → HostEvent
  Judges : (call : JudgedCall) → HostEvent
  Sets : (rate listen seed : ℕ) → HostEvent

abbrev pub member_of : AnyHost → Opened
member_of (Driven host) = host
member_of (Kept k) = k.host
member_of (JudgedHost h) = h.kept.host

-- the state of a kind: that of the host, or that of its number before its program started
abbrev pub driven_in : AnyHost → Opened
driven_in (Driven host) = host
driven_in (Kept k) = unopened k.host.is.number
driven_in (JudgedHost h) = unopened h.kept.host.is.number

abbrev pub kept_state : AnyHost → Keeping
kept_state (Driven host) = unkept host.is.number
kept_state (Kept k) = k
kept_state (JudgedHost h) = unkept h.kept.host.is.number

abbrev pub judged_state : AnyHost → JudgedState
judged_state (Driven host) = unstarted host.is.number
judged_state (Kept k) = unstarted k.host.is.number
judged_state (JudgedHost h) = h

-- A driven host is set to be self-managing from now on, with the board that it has.
abbrev pub set_to_keep : ℕ → ℕ → ℕ → AnyHost → AnyHost
set_to_keep rate listen seed (Driven host) = Kept (record { host = host; policy = begun (present host) rate listen seed })
set_to_keep rate listen seed (Kept k) = Kept k
set_to_keep rate listen seed (JudgedHost h) = JudgedHost h

abbrev pub after_event : HostEvent → AnyHost → AnyHost
after_event (Drives deed) x = Driven (member.after deed (driven_in x))
after_event (Keeps call) x = Kept (kept.after call (kept_state x))
after_event (Judges call) x = JudgedHost (judged.after call (judged_state x))
after_event (Sets rate listen seed) x = set_to_keep rate listen seed x

-- what a machine has of an event, at the state of the event's kind
abbrev pub of_event : {R : Type 0} → R → (Deed → Opened → R) → (KeptCall → Keeping → R) → (JudgedCall → JudgedState → R) → HostEvent → AnyHost → R
of_event none one other third (Drives deed) x = one deed (driven_in x)
of_event none one other third (Keeps call) x = other call (kept_state x)
of_event none one other third (Judges call) x = third call (judged_state x)
of_event none one other third (Sets rate listen seed) x = none

abbrev pub is_event_taken : HostEvent → AnyHost → Type 0
is_event_taken (Drives deed) x = member.IsTaken deed (driven_in x)
is_event_taken (Keeps call) x = kept.IsTaken call (kept_state x)
is_event_taken (Judges call) x = judged.IsTaken call (judged_state x)
is_event_taken (Sets rate listen seed) x = Unit {0}

abbrev pub hosts : Machine AnyHost HostEvent
hosts = record {
  start = λ n. Driven (unopened n);
  member = member_of;
  after = after_event;
  sends = of_event [] member.sends kept.sends judged.sends;
  drawn = of_event [] member.drawn kept.drawn judged.drawn;
  gained = of_event [] member.gained kept.gained judged.gained;
  moment = of_event None member.moment kept.moment judged.moment;
  IsTaken = is_event_taken;
}
