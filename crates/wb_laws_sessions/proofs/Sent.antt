-- What is sent was held.
use Rattle.std.proofs.Common.{◌⊎◌, [], ◌∷◌, inl, inr, subst, sym, ⊎_elim}
use Rattle.std.specs.Prelude.{Contains}
use Rattle.std.proofs.lemmas.List.Elements.{Contains-append_cases}
use Rattle.wb_names.specs.Arrivals.{outcome_of}
use Rattle.wb_names.specs.Values.{DrawopValue}
use Rattle.wb_names.proofs.Listings.{Contains-none}
use Rattle.wb_codec.specs.declared.datagram.Datagram.TheVariants.{Draw}
use Rattle.wb_member.specs.Calls.{sent_by_call}
use Rattle.wb_member.specs.Lines.{Calls, Says}
use Rattle.wb_member.specs.Members.{Member, Act, Draws, sends}
use Rattle.wb_member.specs.Opened.{Opened}
use Rattle.wb_member.specs.declared.calls.Call.{Call}
use Rattle.wb_laws_sessions.specs.Drawn.{SentWasHeld}
use Rattle.wb_laws_sessions.specs.Sessions.{host_at, sent}
use Rattle.wb_laws_sessions.specs.Members.{after_deed, Deed, Does, member, sent_by_deed}
use Rattle.wb_laws_sessions.proofs.Acts.{IsDrawing, draws_sent}
use Rattle.wb_laws_sessions.proofs.CallActs.{IsCareful, call_acts}
use Rattle.wb_laws_machines.proofs.Outcomes.{found}
use Rattle.wb_laws_sessions.proofs.Sending.{one_of, said_held, there}
use Rattle.wb_laws_machines.proofs.Traces.{held_later}
use Rattle.wb_laws_machines.specs.Machines.{whole, part}

-- an act that draws nothing sends only drawops that are held
act_sends : (act : Act) (m : Member) → IsCareful act m → (d : DrawopValue) → Contains (sends act m) (Draw d) → Contains m.held d
act_sends (Draws page time op) m careful d c = absurd careful
act_sends act m careful d c = ⊎_elim (λ (held : Contains m.held d). held) (λ (drawn : IsDrawing act m d). absurd drawn) (draws_sent act m d c)

-- so does a call
pub call_sends : (call : Call) (host : Opened) (d : DrawopValue) → Contains (sent_by_call call host) (Draw d) → Contains host.is.held d
call_sends call host = call_acts (λ m next sent. (d : DrawopValue) → Contains sent (Draw d) → Contains m.held d) act_sends (λ m d c. absurd (Contains-none (Draw d) c)) call host

-- it was held before, or is then
abbrev pub IsHeldBy : Deed → Opened → DrawopValue → Type 0
IsHeldBy deed host d = Contains host.is.held d ⊎ Contains (after_deed deed host).is.held d

pub deed_sends : (deed : Deed) (host : Opened) (d : DrawopValue) → Contains (sent_by_deed deed host) (Draw d) → IsHeldBy deed host d
deed_sends (Does (Says (Draw x))) host d c = inr (said_held host.is.held x d (outcome_of host.is.cells host.is.held x) (found host.is.cells 0 host.is.held x) c)
deed_sends (Does (Says v)) host d c = let e = one_of _ _ c in absurd cc
deed_sends (Does (Calls call)) host d c = inl (call_sends call host d c)
deed_sends deed host d c = absurd (Contains-none (Draw d) c)

pub sent_was_held : SentWasHeld
sent_was_held numbers [] d c = absurd (Contains-none (Draw d) c)
sent_was_held numbers (e ∷ older) d c = ⊎_elim
    (λ (now : Contains (sent_by_deed e.event (host_at numbers older e.place)) (Draw d)). ⊎_elim
    (λ (was : Contains (host_at numbers older e.place).is.held d). record { older = older; behind = part whole; place = e.place; held = was })
    (λ (is : Contains (after_deed e.event (host_at numbers older e.place)).is.held d).
    record { older = e ∷ older; behind = whole; place = e.place; held = subst (λ (h : Opened). Contains h.is.held d) (sym (there numbers e older)) is })
    (deed_sends e.event (host_at numbers older e.place) d now))
    (λ (before : Contains (sent numbers older) (Draw d)). let w = sent_was_held numbers older d before in
    held_later member numbers d (part whole) w)
    (Contains-append_cases (sent_by_deed e.event (host_at numbers older e.place)) (sent numbers older) (Draw d) c)
