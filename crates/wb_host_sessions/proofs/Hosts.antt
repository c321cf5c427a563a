-- Hosts of all kinds keep the laws of machines.
use Rattle.std.proofs.Common.{ℕ, ◌≡◌, ◌⊎◌, ◌≤◌, List, [], ◌∙◌, ap, arith, inl, inr, length, refl, subst, sym, ⊎_elim}
use Rattle.std.specs.Prelude.{Contains}
use Rattle.wb_names.specs.History.{IsHistory}
use Rattle.wb_names.specs.Values.{DrawopValue}
use Rattle.wb_names.proofs.Listings.{Contains-none}
use Rattle.wb_member.specs.Opened.{Opened}
use Rattle.wb_laws_machines.specs.Honest.{IsLawful}
use Rattle.wb_host_sessions.specs.Hosts.{Drives, Driven, AnyHost, HostEvent, JudgedHost, Judges, Keeps, Kept, Sets, set_to_keep, after_event, driven_in, hosts, judged_state, kept_state, member_of}
use Rattle.wb_judged_sessions.specs.Judged.{judged}
use Rattle.wb_laws_kept.specs.Kept.{kept}
use Rattle.wb_laws_machines.specs.Machines.{Machine}
use Rattle.wb_laws_sessions.specs.Members.{member}
use Rattle.wb_judged_sessions.proofs.Judged.{judged_is_lawful}
use Rattle.wb_laws_kept.proofs.Kept.{kept_is_lawful}
use Rattle.wb_laws_sessions.proofs.Members.{member_is_lawful}

-- ---- one event of a machine, at a state that is a host's, or begins with its number

abbrev pub IsOrBegins : {S E : Type 0} → Machine S E → S → Opened → Type 0
IsOrBegins m s host = (m.member s ≡ host) ⊎ (s ≡ m.start host.is.number)

module _ {S E : Type 0} (m : Machine S E) (lawful : IsLawful m) (e : E) (s : S) (host : Opened) (is : IsOrBegins m s host) where
  begins_empty : s ≡ m.start host.is.number → (m.member s).is.held ≡ []
  begins_empty b = ap (λ (t : S). (m.member t).is.held) b ∙ lawful.empty host.is.number

  pub keeps_there : (m.member (m.after e s)).is.number ≡ host.is.number
  keeps_there = lawful.keeps e s ∙ ⊎_elim
      (λ (same : m.member s ≡ host). ap (λ (h : Opened). h.is.number) same)
      (λ (b : s ≡ m.start host.is.number). ap (λ (t : S). (m.member t).is.number) b ∙ lawful.numbered host.is.number) is

  was_there : (d : DrawopValue) → Contains (m.member s).is.held d → Contains host.is.held d
  was_there d c = ⊎_elim
      (λ (same : m.member s ≡ host). subst (λ (h : Opened). Contains h.is.held d) same c)
      (λ (b : s ≡ m.start host.is.number). absurd (Contains-none d (subst (λ (ds : List DrawopValue). Contains ds d) (begins_empty b) c))) is

  pub brings_there : (d : DrawopValue) → Contains (m.member (m.after e s)).is.held d → Contains host.is.held d ⊎ (Contains (m.gained e s) d ⊎ Contains (m.drawn e s) d)
  brings_there d c = ⊎_elim
      (λ (was : Contains (m.member s).is.held d). inl (was_there d was))
      (λ (comes : Contains (m.gained e s) d ⊎ Contains (m.drawn e s) d). inr comes)
      (lawful.brings e s d c)

  pub once_there : IsHistory host.is.held → IsHistory (m.member (m.after e s)).is.held
  once_there once = lawful.once e s (⊎_elim
      (λ (same : m.member s ≡ host). subst (λ (h : Opened). IsHistory h.is.held) (sym same) once)
      (λ (b : s ≡ m.start host.is.number). subst IsHistory (sym (begins_empty b)) (λ j k d jk lt. absurd (omega arith))) is)

  pub room_there : length host.is.held ≤ host.is.cells → length (m.member (m.after e s)).is.held ≤ (m.member (m.after e s)).is.cells
  room_there room = lawful.room e s (⊎_elim
      (λ (same : m.member s ≡ host). subst (λ (h : Opened). length h.is.held ≤ h.is.cells) (sym same) room)
      (λ (b : s ≡ m.start host.is.number). subst (λ (ds : List DrawopValue). length ds ≤ (m.member s).is.cells) (sym (begins_empty b)) (omega arith)) is)

-- ---- hosts

driven_is : (x : AnyHost) → IsOrBegins member (driven_in x) (member_of x)
driven_is (Driven host) = inl refl
driven_is (Kept k) = inr refl
driven_is (JudgedHost h) = inr refl

kept_is : (x : AnyHost) → IsOrBegins kept (kept_state x) (member_of x)
kept_is (Driven host) = inr refl
kept_is (Kept k) = inl refl
kept_is (JudgedHost h) = inr refl

judged_is : (x : AnyHost) → IsOrBegins judged (judged_state x) (member_of x)
judged_is (Driven host) = inr refl
judged_is (Kept k) = inr refl
judged_is (JudgedHost h) = inl refl

pub same_member : (rate listen seed : ℕ) (x : AnyHost) → member_of (set_to_keep rate listen seed x) ≡ member_of x
same_member rate listen seed (Driven host) = refl
same_member rate listen seed (Kept k) = refl
same_member rate listen seed (JudgedHost h) = refl

keeps : (e : HostEvent) (x : AnyHost) → (member_of (after_event e x)).is.number ≡ (member_of x).is.number
keeps (Drives deed) x = keeps_there member member_is_lawful deed (driven_in x) (member_of x) (driven_is x)
keeps (Keeps call) x = keeps_there kept kept_is_lawful call (kept_state x) (member_of x) (kept_is x)
keeps (Judges call) x = keeps_there judged judged_is_lawful call (judged_state x) (member_of x) (judged_is x)
keeps (Sets rate listen seed) x = ap (λ (h : Opened). h.is.number) (same_member rate listen seed x)

abbrev Comes : HostEvent → AnyHost → DrawopValue → Type 0
Comes e x d = Contains (member_of x).is.held d ⊎ (Contains (hosts.gained e x) d ⊎ Contains (hosts.drawn e x) d)

brings : (e : HostEvent) (x : AnyHost) (d : DrawopValue) → Contains (member_of (after_event e x)).is.held d → Comes e x d
brings (Drives deed) x = brings_there member member_is_lawful deed (driven_in x) (member_of x) (driven_is x)
brings (Keeps call) x = brings_there kept kept_is_lawful call (kept_state x) (member_of x) (kept_is x)
brings (Judges call) x = brings_there judged judged_is_lawful call (judged_state x) (member_of x) (judged_is x)
brings (Sets rate listen seed) x = λ d c. inl (subst (λ (h : Opened). Contains h.is.held d) (same_member rate listen seed x) c)

few : (e : HostEvent) (x : AnyHost) → length (hosts.drawn e x) ≤ 1
few (Drives deed) x = member_is_lawful.few deed (driven_in x)
few (Keeps call) x = kept_is_lawful.few call (kept_state x)
few (Judges call) x = judged_is_lawful.few call (judged_state x)
few (Sets rate listen seed) x = omega arith

once : (e : HostEvent) (x : AnyHost) → IsHistory (member_of x).is.held → IsHistory (member_of (after_event e x)).is.held
once (Drives deed) x = once_there member member_is_lawful deed (driven_in x) (member_of x) (driven_is x)
once (Keeps call) x = once_there kept kept_is_lawful call (kept_state x) (member_of x) (kept_is x)
once (Judges call) x = once_there judged judged_is_lawful call (judged_state x) (member_of x) (judged_is x)
once (Sets rate listen seed) x = λ is. subst (λ (h : Opened). IsHistory h.is.held) (sym (same_member rate listen seed x)) is

room : (e : HostEvent) (x : AnyHost) → length (member_of x).is.held ≤ (member_of x).is.cells → length (member_of (after_event e x)).is.held ≤ (member_of (after_event e x)).is.cells
room (Drives deed) x = room_there member member_is_lawful deed (driven_in x) (member_of x) (driven_is x)
room (Keeps call) x = room_there kept kept_is_lawful call (kept_state x) (member_of x) (kept_is x)
room (Judges call) x = room_there judged judged_is_lawful call (judged_state x) (member_of x) (judged_is x)
room (Sets rate listen seed) x = λ is. subst (λ (h : Opened). length h.is.held ≤ h.is.cells) (sym (same_member rate listen seed x)) is

pub hosts_are_lawful : IsLawful hosts
hosts_are_lawful = record {
  numbered = λ n. refl;
  empty = λ n. refl;
  keeps = keeps;
  brings = brings;
  few = few;
  once = once;
  room = room;
}
