-- What hosts of any kind do, members do.
use Rattle.std.proofs.Common.{◌≡◌, List, [], ◌∷◌, ◌++◌, ◌∙◌, ap, append-nil, arith, refl, subst, sym}
use Rattle.std.specs.Prelude.{Contains}
use Rattle.std.proofs.lemmas.List.Elements.{Contains-append_left, Contains-append_right}
use Rattle.wb_names.specs.Values.{DrawopValue}
use Rattle.wb_codec.specs.declared.datagram.Datagram.{Datagram}
use Rattle.wb_member.specs.Opened.{Opened}
use Rattle.wb_laws_sessions.specs.Members.{Deed, member}
use Rattle.wb_host_sessions.specs.Hosts.{Drives, Driven, AnyHost, HostEvent, JudgedHost, Judges, Keeps, Kept, Sets, after_event, driven_in, hosts, is_event_taken, judged_state, kept_state, member_of}
use Rattle.wb_judged_sessions.specs.Judged.{judged}
use Rattle.wb_host_sessions.specs.Members.{IsSoundHost, host_deeds, driven_turn, ends, hosts_map, judged_member_map, judged_turn, kept_turn}
use Rattle.wb_laws_machines.specs.Machines.{AreAllTaken, Machine, after_all, drawn_by_all, gained_by_all, sent_by_all}
use Rattle.wb_laws_machines.specs.Maps.{HasSame, IsMap, Map}
use Rattle.wb_laws_machines.proofs.Composed.{after_both, both_taken, drawn_by_both, both_map, gained_by_both, sent_by_both}
use Rattle.wb_host_sessions.proofs.Hosts.{same_member as same_set}
use Rattle.wb_names.proofs.Listings.{Contains-none}
use Rattle.wb_judged_sessions.proofs.Judged.{judged_is_map}
use Rattle.wb_laws_kept.proofs.Kept.{kept_is_map}

-- ---- a member is over itself

abbrev same_map : Map Opened Deed Opened Deed
same_map = record { state = λ host. host; events = λ deed host. deed ∷ []; IsSound = λ host. Unit {0} }

same_member : IsMap member member same_map
same_member = record {
  member = λ host. refl;
  starts = λ n. refl;
  goes = λ deed host. refl;
  draws = λ deed host. refl;
  gains = λ deed host d c. subst (λ (ds : List DrawopValue). Contains ds d) (append-nil (member.gained deed host)) c;
  sound = λ n. tt;
  stays = λ deed host is. tt;
  takes = λ deed host is taken. (taken, tt);
  says = λ deed host is taken v c. (v, Contains-append_left (member.sends deed host) [] v c, refl);
}

judged_does : IsMap judged member judged_member_map
judged_does = both_map judged_is_map kept_is_map

-- ---- a program of one kind after one of another: the board of the one before is gone

-- these deeds turn a member into another one, and do nothing else
record Turns (turn : List Deed) (host next : Opened) : Type 0 where
  goes : after_all member turn host ≡ next
  draws : drawn_by_all member turn host ≡ []
  gains : gained_by_all member turn host ≡ []
  takes : AreAllTaken member turn host

as_is : (host : Opened) → Turns [] host host
as_is host = record { goes = refl; draws = refl; gains = refl; takes = tt }

anew : (host : Opened) → Turns (ends ∷ []) host (member.start host.is.number)
anew host = record { goes = refl; draws = refl; gains = refl; takes = (omega arith, tt) }

driven_turns : (x : AnyHost) → Turns (driven_turn x) (member_of x) (driven_in x)
driven_turns (Driven host) = as_is host
driven_turns (Kept k) = anew k.host
driven_turns (JudgedHost h) = anew h.kept.host

kept_turns : (x : AnyHost) → Turns (kept_turn x) (member_of x) (kept_state x).host
kept_turns (Driven host) = anew host
kept_turns (Kept k) = as_is k.host
kept_turns (JudgedHost h) = anew h.kept.host

judged_turns : (x : AnyHost) → Turns (judged_turn x) (member_of x) (judged_state x).kept.host
judged_turns (Driven host) = anew host
judged_turns (Kept k) = anew k.host
judged_turns (JudgedHost h) = as_is h.kept.host

-- ---- an event after such a turn

module _ {S E : Type 0} {m : Machine S E} {via : Map S E Opened Deed} (o : IsMap m member via) (turn : List Deed) (host : Opened) (s : S) (t : Turns turn host (via.state s)) (e : E) where
  turn_goes : after_all member (turn ++ via.events e s) host ≡ m.member (m.after e s)
  turn_goes = after_both member turn (via.events e s) host ∙ ap (after_all member (via.events e s)) t.goes ∙ o.goes e s ∙ o.member (m.after e s)

  turn_draws : drawn_by_all member (turn ++ via.events e s) host ≡ m.drawn e s
  turn_draws =
      drawn_by_both member turn (via.events e s) host
      ∙ ap (λ (ds : List DrawopValue). drawn_by_all member (via.events e s) (after_all member turn host) ++ ds) t.draws
      ∙ append-nil (drawn_by_all member (via.events e s) (after_all member turn host))
      ∙ ap (drawn_by_all member (via.events e s)) t.goes
      ∙ o.draws e s

  turn_gains : (d : DrawopValue) → Contains (gained_by_all member (turn ++ via.events e s) host) d → Contains (m.gained e s) d
  turn_gains d c = o.gains e s d (subst (λ (ds : List DrawopValue). Contains ds d)
      (gained_by_both member turn (via.events e s) host
      ∙ ap (λ (ds : List DrawopValue). ds ++ gained_by_all member (via.events e s) (after_all member turn host)) t.gains
      ∙ ap (gained_by_all member (via.events e s)) t.goes) c)

  turn_takes : via.IsSound s → m.IsTaken e s → AreAllTaken member (turn ++ via.events e s) host
  turn_takes is taken = both_taken member turn (via.events e s) host t.takes (subst (AreAllTaken member (via.events e s)) (sym t.goes) (o.takes e s is taken))

  turn_says : via.IsSound s → m.IsTaken e s → (v : Datagram) → Contains (m.sends e s) v → HasSame (sent_by_all member (turn ++ via.events e s) host) v
  turn_says is taken v c =
      let w = o.says e s is taken v c in (
        w.0,
        subst (λ (vs : List Datagram). Contains vs w.0) (sym (sent_by_both member turn (via.events e s) host))
            (Contains-append_right (sent_by_all member turn host) (sent_by_all member (via.events e s) (after_all member turn host)) w.0
            (subst (λ (h : Opened). Contains (sent_by_all member (via.events e s) h) w.0) (sym t.goes) w.1)),
        w.2,
      )

-- ---- hosts

sound_in : (x : AnyHost) → IsSoundHost x → judged_member_map.IsSound (judged_state x)
sound_in (Driven host) is = judged_does.sound host.is.number
sound_in (Kept k) is = judged_does.sound k.host.is.number
sound_in (JudgedHost h) is = is

goes : (e : HostEvent) (x : AnyHost) → after_all member (host_deeds e x) (member_of x) ≡ member_of (after_event e x)
goes (Drives deed) x = turn_goes same_member (driven_turn x) (member_of x) (driven_in x) (driven_turns x) deed
goes (Keeps call) x = turn_goes kept_is_map (kept_turn x) (member_of x) (kept_state x) (kept_turns x) call
goes (Judges call) x = turn_goes judged_does (judged_turn x) (member_of x) (judged_state x) (judged_turns x) call
goes (Sets rate listen seed) x = sym (same_set rate listen seed x)

draws : (e : HostEvent) (x : AnyHost) → drawn_by_all member (host_deeds e x) (member_of x) ≡ hosts.drawn e x
draws (Drives deed) x = turn_draws same_member (driven_turn x) (member_of x) (driven_in x) (driven_turns x) deed
draws (Keeps call) x = turn_draws kept_is_map (kept_turn x) (member_of x) (kept_state x) (kept_turns x) call
draws (Judges call) x = turn_draws judged_does (judged_turn x) (member_of x) (judged_state x) (judged_turns x) call
draws (Sets rate listen seed) x = refl

gains : (e : HostEvent) (x : AnyHost) (d : DrawopValue) → Contains (gained_by_all member (host_deeds e x) (member_of x)) d → Contains (hosts.gained e x) d
gains (Drives deed) x = turn_gains same_member (driven_turn x) (member_of x) (driven_in x) (driven_turns x) deed
gains (Keeps call) x = turn_gains kept_is_map (kept_turn x) (member_of x) (kept_state x) (kept_turns x) call
gains (Judges call) x = turn_gains judged_does (judged_turn x) (member_of x) (judged_state x) (judged_turns x) call
gains (Sets rate listen seed) x = λ d c. c

stays : (e : HostEvent) (x : AnyHost) → IsSoundHost x → IsSoundHost (after_event e x)
stays (Drives deed) x is = tt
stays (Keeps call) x is = tt
stays (Judges call) x is = judged_does.stays call (judged_state x) (sound_in x is)
stays (Sets rate listen seed) (Driven host) is = tt
stays (Sets rate listen seed) (Kept k) is = tt
stays (Sets rate listen seed) (JudgedHost h) is = is

takes : (e : HostEvent) (x : AnyHost) → IsSoundHost x → is_event_taken e x → AreAllTaken member (host_deeds e x) (member_of x)
takes (Drives deed) x is = turn_takes same_member (driven_turn x) (member_of x) (driven_in x) (driven_turns x) deed tt
takes (Keeps call) x is = turn_takes kept_is_map (kept_turn x) (member_of x) (kept_state x) (kept_turns x) call tt
takes (Judges call) x is = turn_takes judged_does (judged_turn x) (member_of x) (judged_state x) (judged_turns x) call (sound_in x is)
takes (Sets rate listen seed) x is = λ taken. tt

says : (e : HostEvent) (x : AnyHost) → IsSoundHost x → is_event_taken e x → (v : Datagram) → Contains (hosts.sends e x) v → HasSame (sent_by_all member (host_deeds e x) (member_of x)) v
says (Drives deed) x is = turn_says same_member (driven_turn x) (member_of x) (driven_in x) (driven_turns x) deed tt
says (Keeps call) x is = turn_says kept_is_map (kept_turn x) (member_of x) (kept_state x) (kept_turns x) call tt
says (Judges call) x is = turn_says judged_does (judged_turn x) (member_of x) (judged_state x) (judged_turns x) call (sound_in x is)
says (Sets rate listen seed) x is = λ taken v c. absurd (Contains-none v c)

pub hosts_do : IsMap hosts member hosts_map
hosts_do = record {
  member = λ x. refl;
  starts = λ n. refl;
  goes = goes;
  draws = draws;
  gains = gains;
  sound = λ n. tt;
  stays = stays;
  takes = takes;
  says = says;
}
