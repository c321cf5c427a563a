-- Sessions of hosts of all kinds.
use Rattle.std.proofs.Common.{◌≡◌, ℕ, ◌≤◌, List, [], ◌∷◌, ◌∙◌, ap, arith, refl, subst, sym}
use Rattle.std.specs.Prelude.{◌+◌, Contains}
use Rattle.wb_names.specs.Values.{DrawopValue}
use Rattle.wb_names.specs.declared.name.PageId.{PageId}
use Rattle.wb_names.proofs.Listings.{Contains-none}
use Rattle.wb_codec.specs.declared.datagram.Datagram.{Datagram}
use Rattle.wb_codec.specs.declared.datagram.Datagram.TheVariants.{AskPages, Draw, PageState, Request, Session}
use Rattle.wb_keeping.specs.Kept.{drawing}
use Rattle.wb_keeping.specs.Laws.{Added, Came, Ticked, Tuned}
use Rattle.wb_keeping.specs.Performing.{Keeping, view_of}
use Rattle.wb_judging.specs.Handing.{handed}
use Rattle.wb_judging.specs.Judged.{Judged as JudgedState}
use Rattle.wb_member.specs.Opened.{Opened, becomes, last_number, ticked}
use Rattle.wb_judged_sessions.specs.Calls.{JudgedCall, plain_line, Starts, Takes, Tunes}
use Rattle.wb_laws_machines.specs.Honest.{IsAbove, IsOn}
use Rattle.wb_host_sessions.specs.Hosts.{Drives, Driven, AnyHost, HostEvent, JudgedHost, Judges, Keeps, Kept, Sets, hosts, judged_state, kept_state, member_of}
use Rattle.wb_judged_sessions.specs.Judged.{judged}
use Rattle.wb_laws_kept.specs.Kept.{kept}
use Rattle.wb_laws_machines.specs.Machines.{At, drawn_at, sent, state_at}
use Rattle.wb_laws_machines.specs.Maps.{SaySame, below}
use Rattle.wb_host_sessions.specs.Sessions.{DrawsAnew, HostsAgree, HostsAreHonest, HostsAreMembers, PlaceKnowsItsOwn, SentWasDrawn}
use Rattle.wb_laws_machines.proofs.Drawn.{each_was_drawn, number_at}
use Rattle.wb_laws_machines.proofs.Honest.{honest_below}
use Rattle.wb_host_sessions.proofs.Hosts.{hosts_are_lawful}
use Rattle.wb_judged_sessions.proofs.Judged.{line_draws}
use Rattle.wb_laws_sessions.proofs.Drawn.{new_is}
use Rattle.wb_laws_machines.proofs.Agreeing.{reports_tell_agreement}
use Rattle.wb_laws_sessions.specs.Members.{member}
use Rattle.wb_laws_sessions.proofs.Members.{member_is_lawful, members_are_small}
use Rattle.wb_laws_sessions.proofs.Sent.{sent_was_held}
use Rattle.wb_host_sessions.specs.Members.{hosts_map}
use Rattle.wb_laws_machines.proofs.Mapped.{drawn_below, held_below, member_below, sent_below, small_above, taken_below}
use Rattle.wb_host_sessions.proofs.Members.{hosts_do}
use Rattle.wb_laws_kept.specs.Calls.{Begins, Call as KeptCall, Handed}

-- ---- a self-managing host counts on

-- it has the number of the member, and is the next after what that knows
abbrev IsNextOf : Opened → DrawopValue → Type 0
IsNextOf host d = (d.name.source ≡ host.is.number) × (d.name.seq ≡ last_number d.name.page host + 1)

kept_counts : (call : KeptCall) (k : Keeping) (d : DrawopValue) → Contains (kept.drawn call k) d → IsNextOf k.host d
kept_counts (Begins o given) k d c = absurd (Contains-none d c)
kept_counts (Handed (Came now v)) k d c = absurd (Contains-none d c)
kept_counts (Handed (Ticked now)) k d c = absurd (Contains-none d c)
kept_counts (Handed (Tuned constants)) k d c = absurd (Contains-none d c)
kept_counts (Handed (Added now page told op)) k d c =
    let its : DrawopValue = drawing (view_of (ticked now k.host)) page told op in
    subst (IsNextOf k.host) (new_is its d (becomes its (ticked now k.host)) c) (refl, refl)

judged_counts : (call : JudgedCall) (h : JudgedState) (d : DrawopValue) → Contains (judged.drawn call h) d → IsNextOf h.kept.host d
judged_counts (Starts start given) h d c = absurd (Contains-none d c)
judged_counts (Takes line) h d c = kept_counts (Handed (plain_line (handed line h))) h.kept d (subst (λ (ds : List DrawopValue). Contains ds d) (sym (line_draws line h)) c)
judged_counts (Tunes constants) h d c = absurd (Contains-none d c)

pub kept_number : (x : AnyHost) → (kept_state x).host.is.number ≡ (member_of x).is.number
kept_number (Driven host) = refl
kept_number (Kept k) = refl
kept_number (JudgedHost h) = refl

pub judged_number : (x : AnyHost) → (judged_state x).kept.host.is.number ≡ (member_of x).is.number
judged_number (Driven host) = refl
judged_number (Kept k) = refl
judged_number (JudgedHost h) = refl

-- ---- what is asked of hosts is what is asked of machines

module _ (page : PageId) (numbers : ℕ → ℕ) (older : List (At HostEvent)) (i : ℕ) where
  abbrev x : AnyHost
  x = state_at hosts numbers older i

  abbrev Good : DrawopValue → Type 0
  Good d = (d.name.source ≡ numbers i) × (1 ≤ d.name.seq) × IsAbove (drawn_at hosts numbers older i) d.name

  next_good : (host : Opened) (d : DrawopValue) → host.is.number ≡ (member_of x).is.number → d.name.page ≡ page → IsNextOf host d → PlaceKnowsItsOwn page numbers older i host → Good d
  next_good host d same here next knows = (
    next.0 ∙ same ∙ number_at hosts numbers hosts_are_lawful older i,
    (let e : d.name.seq ≡ last_number d.name.page host + 1 = next.1 in omega (arith, e)),
    λ y c on.
        let le : y.name.seq ≤ last_number page host = knows y c (on ∙ here) in
        let e : d.name.seq ≡ last_number page host + 1 = next.1 ∙ ap (λ (p : PageId). last_number p host + 1) here in
        omega (arith, le, e),
  )

  all_good : (e : HostEvent) → DrawsAnew page numbers older i e x → (d : DrawopValue) → d.name.page ≡ page → Contains (hosts.drawn e x) d → Good d
  all_good (Drives deed) anew d here c = anew d here c
  all_good (Keeps call) anew d here c = next_good (kept_state x).host d (kept_number x) here (kept_counts call (kept_state x) d c) (anew d here c)
  all_good (Judges call) anew d here c = next_good (judged_state x).kept.host d (judged_number x) here (judged_counts call (judged_state x) d c) (anew d here c)
  all_good (Sets rate listen seed) anew d here c = absurd (Contains-none d c)

pub hosts_are_honest : HostsAreHonest
hosts_are_honest page numbers [] keep = tt
hosts_are_honest page numbers (e ∷ older) keep =
    let good : (d : DrawopValue) → d.name.page ≡ page → Contains (hosts.drawn e.event (state_at hosts numbers older e.place)) d → Good page numbers older e.place d =
    all_good page numbers older e.place e.event keep.0.draws in (
      record {
        comes = keep.0.comes;
        own = λ d here c. let g = good d here c in (g.0, g.1);
        new = λ d here c. (good d here c).2;
      },
      hosts_are_honest page numbers older keep.1,
    )

-- ---- laws

pub hosts_agree : HostsAgree
hosts_agree numbers trace page apart taken keep older older' i j before before' same none nothing =
    reports_tell_agreement hosts hosts_are_lawful (small_above hosts_do members_are_small) numbers trace older older' i j page apart taken (hosts_are_honest page numbers trace keep) before before' same none nothing

-- what says the same as a drawop is that drawop
same_draw : (v : Datagram) (d : DrawopValue) → SaySame v (Draw d) → v ≡ Draw d
same_draw (Draw x) d e = e
same_draw (Session sender sent page marks echoes) d e = absurd cc
same_draw (Request asker name) d e = absurd cc
same_draw (AskPages asker) d e = absurd cc
same_draw (PageState sender page marks) d e = absurd cc

pub sent_was_drawn : SentWasDrawn
sent_was_drawn numbers trace page d taken honest here c =
    let low = below hosts hosts_map numbers trace in
    let same = sent_below hosts_do numbers trace taken (Draw d) c in
    let was = sent_was_held numbers low d (subst (Contains (sent member numbers low)) (same_draw same.0 d same.2) same.1) in
    let drawn = each_was_drawn member numbers (IsOn page) member_is_lawful low (honest_below hosts_do hosts_are_lawful numbers (IsOn page) trace honest)
    was.older was.behind was.place d here was.held in
    (drawn.0, drawn.1, subst (λ (ds : List DrawopValue). Contains ds d) (drawn_below hosts_do numbers trace drawn.0) drawn.2)

pub hosts_are_members : HostsAreMembers
hosts_are_members numbers trace taken = record {
  taken = taken_below hosts_do numbers trace taken;
  same = member_below hosts_do numbers trace;
  drawn = drawn_below hosts_do numbers trace;
  sent = sent_below hosts_do numbers trace taken;
  held = held_below hosts_do numbers trace;
  honest = λ page honest. honest_below hosts_do hosts_are_lawful numbers (IsOn page) trace honest;
}
