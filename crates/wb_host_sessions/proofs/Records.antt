-- Hosts whose programs start with their files, or with other records that are whole, know their own numbers.
use Rattle.std.proofs.Common.{◌≡◌, ◌⊎◌, ℕ, ◌+◌, ◌≤◌, Bool, true, false, cond, List, [], ◌∷◌, ◌++◌, ◌∙◌, ap, arith, eqb-true, inl, inr, map, refl, subst, sym, ⊎_elim}
use Rattle.std.specs.Prelude.{Contains, nat_eq, nat_lt}
use Rattle.std.proofs.lemmas.Bool.Decides.{nat_tests}
use Rattle.std.proofs.lemmas.List.Elements.{Contains-append_cases}
use Rattle.wb_names.specs.Arrivals.{New, Again, Clash, Left, history_after, outcome_from}
use Rattle.wb_names.specs.History.{highest}
use Rattle.wb_names.specs.Orders.{same_name}
use Rattle.wb_names.specs.Same.{same_drawop}
use Rattle.wb_names.specs.Values.{DrawopValue}
use Rattle.wb_names.specs.declared.name.PageId.{PageId}
use Rattle.wb_names.proofs.Listings.{Contains-none}
use Rattle.wb_codec.specs.declared.datagram.Datagram.{Datagram}
use Rattle.wb_codec.specs.declared.datagram.Datagram.TheVariants.{AskPages, Draw, PageState, Request, Session}
use Rattle.wb_member.specs.Lines.{Line, after_line, ticks_at}
use Rattle.wb_member.specs.Opened.{Opened, opened_with, present, ticked}
use Rattle.wb_keeping.specs.Kept.{came, drawing}
use Rattle.wb_keeping.specs.Laws.{Added, Came, KeptLine, Ticked, Tuned, after_kept, doing_of}
use Rattle.wb_keeping.specs.Performing.{Keeping, after_doing, sees, view_of}
use Rattle.wb_judging.specs.Handing.{handed}
use Rattle.wb_judging.specs.Judged.{Judged as JudgedState}
use Rattle.wb_judging.specs.Laws.{drawops_of}
use Rattle.wb_judging.specs.Performing.{after_kept_line}
use Rattle.wb_judging.specs.declared.record.RecordLine.{RecordLine}
use Rattle.wb_judging.proofs.Boards.{held_drawn, held_heard, takes_kept}
use Rattle.wb_judging.proofs.Histories.{after_both}
use Rattle.wb_laws_machines.specs.Honest.{AreHonest, IsOn}
use Rattle.wb_laws_machines.specs.Machines.{At, drawn_at, drawn_by_all, state_at}
use Rattle.wb_laws_machines.specs.Machines as machines
use Rattle.wb_laws_machines.proofs.Drawn.{number_at, numbers_count}
use Rattle.wb_laws_machines.proofs.Names.{at_most_highest}
use Rattle.wb_laws_sessions.specs.Members.{Does, member, new_where}
use Rattle.wb_laws_sessions.proofs.Deeds.{deed_draws}
use Rattle.wb_laws_kept.specs.Kept.{kept}
use Rattle.wb_laws_kept.specs.Openings.{Opening, opened}
use Rattle.wb_laws_kept.proofs.Honest.{moments_given}
use Rattle.wb_laws_kept.proofs.Kept.{kept_is_map}
use Rattle.wb_laws_kept.proofs.Replaying.{lines_stay, none}
use Rattle.wb_laws_kept.proofs.Restarting.{line_grows}
use Rattle.wb_judged_sessions.specs.Judged.{judged}
use Rattle.wb_judged_sessions.specs.Calls.{JudgedCall, plain_line, Start, Starts, Takes, Tunes}
use Rattle.wb_judged_sessions.proofs.Judged.{judged_is_map, line_draws}
use Rattle.wb_judged_sessions.proofs.Records.{IsFile, call_files, start_cells, start_held}
use Rattle.wb_host_sessions.specs.Hosts.{AnyHost, Driven, Drives, HostEvent, JudgedHost, Judges, Keeps, Kept, Sets, after_event, hosts, judged_state, kept_state, member_of}
use Rattle.wb_host_sessions.specs.Records.{BoardsAreFiles, KeepRecords, KeepsRecords, RecordedHostsAgree, RecordsTell, StartsWhole, file_after, file_at}
use Rattle.wb_host_sessions.specs.Sessions.{DrawsAnew, KeepTo, PlaceKnowsItsOwn}
use Rattle.wb_host_sessions.proofs.Hosts.{hosts_are_lawful}
use Rattle.wb_host_sessions.proofs.Sessions.{hosts_agree, hosts_are_honest, judged_number, kept_number}
use Rattle.wb_laws_kept.specs.Calls.{Begins, Call as KeptCall, drawops_in, Handed}

-- ---- one line of a self-managing host

lines_hold : (lines : List Line) (host : Opened) (d : DrawopValue) → Contains host.is.held d ⊎ Contains (drawn_by_all member (map Does lines) host) d
    → Contains (machines.after_all member (map Does lines) host).is.held d
lines_hold [] host d a = ⊎_elim (λ (was : Contains host.is.held d). was) (λ (now : Contains [] d). absurd (Contains-none d now)) a
lines_hold (line ∷ lines) host d a =
    let next = after_line line host in
    let then = drawn_by_all member (map Does lines) next in
    lines_hold lines next d (⊎_elim
    (λ (was : Contains host.is.held d). inl (line_grows line host d was))
    (λ (drawn : Contains (then ++ member.drawn (Does line) host) d). ⊎_elim
    (λ (later : Contains then d). inr later)
    (λ (now : Contains (member.drawn (Does line) host) d). inl (deed_draws (Does line) host d now).held)
    (Contains-append_cases then (member.drawn (Does line) host) d drawn))
    a)

line_holds : (line : KeptLine) (k : Keeping) (d : DrawopValue) → Contains k.host.is.held d ⊎ Contains (kept.drawn (Handed line) k) d → Contains (kept.after (Handed line) k).host.is.held d
line_holds line k d a =
    subst (λ (h : Opened). Contains h.is.held d) (kept_is_map.goes (Handed line) k)
    (lines_hold (doing_of line (sees k.host) k.policy).lines k.host d (⊎_elim
    (λ (was : Contains k.host.is.held d). inl was)
    (λ (now : Contains (kept.drawn (Handed line) k) d). inr (subst (λ (ds : List DrawopValue). Contains ds d) (sym (kept_is_map.draws (Handed line) k)) now))
    a))

line_cells : (line : KeptLine) (k : Keeping) → (kept.after (Handed line) k).host.is.cells ≡ k.host.is.cells
unfolding after_kept_line
line_cells line k = (takes_kept line k).cells

-- ---- a record of a self-managing host

abbrev Replays : (now : ℕ) (given : List Datagram) (k : Keeping) → Type 0
Replays now given k =
    ((after_kept (map (Came now) given) k).host.is.held ≡ history_after k.host.is.cells k.host.is.held (drawops_in given))
    × ((after_kept (map (Came now) given) k).host.is.cells ≡ k.host.is.cells)

one_replays : (now : ℕ) (v : Datagram) (given : List Datagram) (k : Keeping) (ds : List DrawopValue) → (after_kept_line (Came now v) k).host.is.held ≡ history_after k.host.is.cells k.host.is.held ds
    → drawops_in (v ∷ given) ≡ ds ++ drawops_in given → Replays now given (after_doing (came now v) k) → Replays now (v ∷ given) k
unfolding after_kept_line
one_replays now v given k ds held same rest =
    let next = after_doing (came now v) k in
    let cells = line_cells (Came now v) k in (
      rest.0
          ∙ ap (λ (n : ℕ). history_after n next.host.is.held (drawops_in given)) cells
          ∙ ap (λ (h : List DrawopValue). history_after k.host.is.cells h (drawops_in given)) held
          ∙ sym (after_both k.host.is.cells k.host.is.held ds (drawops_in given))
          ∙ ap (λ (es : List DrawopValue). history_after k.host.is.cells k.host.is.held es) (sym same),
      rest.1 ∙ cells,
    )

replays : (now : ℕ) (given : List Datagram) (k : Keeping) → Replays now given k
replays now [] k = (refl, refl)
replays now (Draw d ∷ given) k = one_replays now (Draw d) given k (d ∷ []) (held_drawn now d k) refl (replays now given (after_doing (came now (Draw d)) k))
replays now (Session sender sent page marks echoes ∷ given) k = let v = Session sender sent page marks echoes in one_replays now v given k [] (held_heard now v k (λ d e. cc)) refl (replays now given (after_doing (came now v) k))
replays now (Request asker name ∷ given) k = let v = Request asker name in one_replays now v given k [] (held_heard now v k (λ d e. cc)) refl (replays now given (after_doing (came now v) k))
replays now (AskPages asker ∷ given) k = let v = AskPages asker in one_replays now v given k [] (held_heard now v k (λ d e. cc)) refl (replays now given (after_doing (came now v) k))
replays now (PageState sender page marks ∷ given) k = let v = PageState sender page marks in one_replays now v given k [] (held_heard now v k (λ d e. cc)) refl (replays now given (after_doing (came now v) k))

begins_with : (o : Opening) (given : List Datagram) (k : Keeping) → (kept.after (Begins o given) k).host.is.held ≡ history_after o.cells [] (drawops_in given)
begins_with o given k =
    let number = k.host.is.number in
    let first = opened number o in
    let s = lines_stay (ticks_at o.moments) (opened_with o.constants number o.cells o.seed) (moments_given none o.moments) in
    (replays (present first.host) given first).0
    ∙ ap (λ (cells : ℕ). history_after cells first.host.is.held (drawops_in given)) s.cells
    ∙ ap (λ (held : List DrawopValue). history_after o.cells held (drawops_in given)) s.held

-- ---- a board without cells draws nothing

none_new : (i : ℕ) (h : List DrawopValue) (d x : DrawopValue) → Contains (new_where d (outcome_from 0 i h d)) x → ⊥
none_new i [] d x c = by (nat_lt i 0) refl c where
  by : (b : Bool) → nat_lt i 0 ≡ b → Contains (new_where d (cond b (New i) Left)) x → ⊥
  by true is c = absurd (grind (arith, nat_tests, is))
  by false is c = Contains-none x c
none_new i (y ∷ h) d x c = by (same_name y.name d.name) (same_drawop y d) (none_new (i + 1) h d x) c where
  by : (b c : Bool) → (Contains (new_where d (outcome_from 0 (i + 1) h d)) x → ⊥) → Contains (new_where d (cond b (cond c (Again i) (Clash i)) (outcome_from 0 (i + 1) h d))) x → ⊥
  by true true rest c = Contains-none x c
  by true false rest c = Contains-none x c
  by false b rest c = rest c

none_drawn : (call : KeptCall) (k : Keeping) → k.host.is.cells ≡ 0 → (d : DrawopValue) → Contains (kept.drawn call k) d → ⊥
none_drawn (Begins o given) k without d c = Contains-none d c
none_drawn (Handed (Came now v)) k without d c = Contains-none d c
none_drawn (Handed (Ticked now)) k without d c = Contains-none d c
none_drawn (Handed (Tuned constants)) k without d c = Contains-none d c
none_drawn (Handed (Added now page told op)) k without d c =
    let its = drawing (view_of (ticked now k.host)) page told op in
    none_new 0 k.host.is.held its d (subst (λ (cells : ℕ). Contains (new_where its (outcome_from cells 0 k.host.is.held its)) d) without c)

-- ---- hosts that count by themselves hold their own

module _ (page : PageId) where
  -- A host holds these, of the page, or it has no cells: then it has not started.
  abbrev Owns : List DrawopValue → Opened → Type 0
  Owns drawn host = ((d : DrawopValue) → Contains drawn d → d.name.page ≡ page → Contains host.is.held d) ⊎ (host.is.cells ≡ 0)

  abbrev OwnsIts : List DrawopValue → AnyHost → Type 0
  OwnsIts drawn (Driven host) = Unit {0}
  OwnsIts drawn (Kept k) = Owns drawn k.host
  OwnsIts drawn (JudgedHost h) = Owns drawn h.kept.host

  kept_owns : (drawn : List DrawopValue) (x : AnyHost) → OwnsIts drawn x → Owns drawn (kept_state x).host
  kept_owns drawn (Driven host) own = inr refl
  kept_owns drawn (Kept k) own = own
  kept_owns drawn (JudgedHost h) own = inr refl

  judged_owns : (drawn : List DrawopValue) (x : AnyHost) → OwnsIts drawn x → Owns drawn (judged_state x).kept.host
  judged_owns drawn (Driven host) own = inr refl
  judged_owns drawn (Kept k) own = inr refl
  judged_owns drawn (JudgedHost h) own = own

  line_owns : (drawn : List DrawopValue) (line : KeptLine) (k : Keeping) → Owns drawn k.host → Owns (kept.drawn (Handed line) k ++ drawn) (kept.after (Handed line) k).host
  line_owns drawn line k own = ⊎_elim
      (λ (all : (d : DrawopValue) → Contains drawn d → d.name.page ≡ page → Contains k.host.is.held d). inl (λ d c here. line_holds line k d (⊎_elim
      (λ (now : Contains (kept.drawn (Handed line) k) d). inr now)
      (λ (before : Contains drawn d). inl (all d before here))
      (Contains-append_cases (kept.drawn (Handed line) k) drawn d c))))
      (λ (without : k.host.is.cells ≡ 0). inr (line_cells line k ∙ without))
      own

  takes_owns : (drawn : List DrawopValue) (line : _) (h : JudgedState) → Owns drawn h.kept.host → Owns (judged.drawn (Takes line) h ++ drawn) (judged.after (Takes line) h).kept.host
  takes_owns drawn line h own =
      subst (λ (k : Keeping). Owns (judged.drawn (Takes line) h ++ drawn) k.host) (judged_is_map.goes (Takes line) h)
      (subst (λ (ds : List DrawopValue). Owns (ds ++ drawn) (kept.after (Handed (plain_line (handed line h))) h.kept).host) (line_draws line h)
      (line_owns drawn (plain_line (handed line h)) h.kept own))

  file_owns : (drawn : List DrawopValue) (file given : List RecordLine) (start : Start) (h : JudgedState) → IsFile h file → drawops_of given ≡ drawops_of file → start.opening.cells ≡ h.kept.host.is.cells
      → Owns drawn h.kept.host → Owns drawn (judged.after (Starts start given) h).kept.host
  file_owns drawn file given start h is same cells own =
      let number = h.kept.host.is.number in
      let held : h.kept.host.is.held ≡ (judged.after (Starts start given) h).kept.host.is.held =
      is
      ∙ ap (λ (ds : List DrawopValue). history_after h.kept.host.is.cells [] ds) (sym same)
      ∙ ap (λ (n : ℕ). history_after n [] (drawops_of given)) (sym cells)
      ∙ sym (start_held number start given) in
      ⊎_elim
      (λ (all : (d : DrawopValue) → Contains drawn d → d.name.page ≡ page → Contains h.kept.host.is.held d). inl (λ d c here. subst (λ (ds : List DrawopValue). Contains ds d) held (all d c here)))
      (λ (without : h.kept.host.is.cells ≡ 0). inr (start_cells number start given ∙ cells ∙ without))
      own

  module _ (numbers : ℕ → ℕ) (older : List (At HostEvent)) (i : ℕ) where
    abbrev own : List DrawopValue
    own = drawn_at hosts numbers older i

    event_owns : (e : HostEvent) (x : AnyHost) → StartsWhole page numbers older i e x → IsFile (judged_state x) (file_at numbers older i) → OwnsIts own x → OwnsIts (hosts.drawn e x ++ own) (after_event e x)
    event_owns (Drives deed) x starts is has = tt
    event_owns (Keeps (Begins o given)) x starts is has = inl (λ d c here. subst (λ (ds : List DrawopValue). Contains ds d) (sym (begins_with o given (kept_state x))) (starts d c here))
    event_owns (Keeps (Handed line)) x starts is has = line_owns own line (kept_state x) (kept_owns own x has)
    event_owns (Judges (Starts start given)) x starts is has = ⊎_elim
        (λ (its : (drawops_of given ≡ drawops_of (file_at numbers older i)) × (start.opening.cells ≡ (judged_state x).kept.host.is.cells)).
        file_owns own (file_at numbers older i) given start (judged_state x) is its.0 its.1 (judged_owns own x has))
        (λ (all : (d : DrawopValue) → Contains own d → d.name.page ≡ page → Contains (history_after start.opening.cells [] (drawops_of given)) d).
        inl (λ d c here. subst (λ (ds : List DrawopValue). Contains ds d) (sym (start_held (judged_state x).kept.host.is.number start given)) (all d c here)))
        starts
    event_owns (Judges (Takes line)) x starts is has = takes_owns own line (judged_state x) (judged_owns own x has)
    event_owns (Judges (Tunes constants)) x starts is has = line_owns own (Tuned constants) (judged_state x).kept (judged_owns own x has)
    event_owns (Sets rate listen seed) (Driven host) starts is has = inl starts
    event_owns (Sets rate listen seed) (Kept k) starts is has = has
    event_owns (Sets rate listen seed) (JudgedHost h) starts is has = has

    -- so it knows its numbers when it draws
    knows : AreHonest (IsOn page) hosts numbers older → (host : Opened) → host.is.number ≡ numbers i → ((d : DrawopValue) → Contains own d → d.name.page ≡ page → Contains host.is.held d)
        → PlaceKnowsItsOwn page numbers older i host
    knows honest host number all d c here =
        let top : d.name.seq ≤ highest d.name.page d.name.source host.is.held = at_most_highest host.is.held d (all d c here) in
        let source : d.name.source ≡ host.is.number = (numbers_count hosts numbers (IsOn page) hosts_are_lawful older honest i d here c).0 ∙ sym number in
        let le : d.name.seq ≤ highest page host.is.number host.is.held =
        subst (λ (s : ℕ). d.name.seq ≤ highest page s host.is.held) source (subst (λ (p : PageId). d.name.seq ≤ highest p d.name.source host.is.held) here top) in
        omega (arith, le)

    kept_anew : AreHonest (IsOn page) hosts numbers older → (call : KeptCall) (k : Keeping) → k.host.is.number ≡ numbers i → Owns own k.host
        → (d : DrawopValue) → Contains (kept.drawn call k) d → PlaceKnowsItsOwn page numbers older i k.host
    kept_anew honest call k number has d c = ⊎_elim
        (λ (all : (d : DrawopValue) → Contains own d → d.name.page ≡ page → Contains k.host.is.held d). knows honest k.host number all)
        (λ (without : k.host.is.cells ≡ 0). absurd (none_drawn call k without d c))
        has

    judged_anew : AreHonest (IsOn page) hosts numbers older → (call : JudgedCall) (h : JudgedState) → h.kept.host.is.number ≡ numbers i → Owns own h.kept.host
        → (d : DrawopValue) → Contains (judged.drawn call h) d → PlaceKnowsItsOwn page numbers older i h.kept.host
    judged_anew honest (Starts start given) h number has d c = absurd (Contains-none d c)
    judged_anew honest (Takes line) h number has d c =
        kept_anew honest (Handed (plain_line (handed line h))) h.kept number has d (subst (λ (ds : List DrawopValue). Contains ds d) (sym (line_draws line h)) c)
    judged_anew honest (Tunes constants) h number has d c = absurd (Contains-none d c)

    anew : AreHonest (IsOn page) hosts numbers older → (e : HostEvent) (x : AnyHost) → (member_of x).is.number ≡ numbers i → StartsWhole page numbers older i e x → OwnsIts own x → DrawsAnew page numbers older i e x
    anew honest (Drives deed) x number starts has = starts
    anew honest (Keeps call) x number starts has = λ d here c. kept_anew honest call (kept_state x) (kept_number x ∙ number) (kept_owns own x has) d c
    anew honest (Judges call) x number starts has = λ d here c. judged_anew honest call (judged_state x) (judged_number x ∙ number) (judged_owns own x has) d c
    anew honest (Sets rate listen seed) x number starts has = tt

-- ---- files

event_files : (e : HostEvent) (x : AnyHost) (file : List RecordLine) → IsFile (judged_state x) file → IsFile (judged_state (after_event e x)) (file_after e x file)
event_files (Drives deed) x file is = refl
event_files (Keeps call) x file is = refl
event_files (Judges call) x file is = call_files call (judged_state x) file is
event_files (Sets rate listen seed) (Driven host) file is = is
event_files (Sets rate listen seed) (Kept k) file is = is
event_files (Sets rate listen seed) (JudgedHost h) file is = is

pub boards_are_files : BoardsAreFiles
boards_are_files numbers [] i = refl
boards_are_files numbers (e ∷ older) i = by (nat_eq e.place i) (boards_are_files numbers older i) where
  x : AnyHost
  x = state_at hosts numbers older i

  file : List RecordLine
  file = file_at numbers older i

  by : (b : Bool) → IsFile (judged_state x) file → IsFile (judged_state (cond b (after_event e.event x) x)) (cond b (file_after e.event x file) file)
  by true is = event_files e.event x file is
  by false is = is

-- ---- all of it

record Are (page : PageId) (numbers : ℕ → ℕ) (trace : List (At HostEvent)) : Type 0 where
  keep : KeepTo page numbers trace
  own : (i : ℕ) → OwnsIts page (drawn_at hosts numbers trace i) (state_at hosts numbers trace i)

module _ (page : PageId) (numbers : ℕ → ℕ) where
  one_more : (e : At HostEvent) (older : List (At HostEvent)) → KeepsRecords page numbers older e → Are page numbers older → Are page numbers (e ∷ older)
  one_more e older keep rest = record {
    keep = (
      record {
        comes = keep.comes;
        draws = anew page numbers older e.place (hosts_are_honest page numbers older rest.keep) e.event (x e.place) (number_at hosts numbers hosts_are_lawful older e.place) keep.starts (rest.own e.place);
      },
      rest.keep,
    );
    own = λ i. by i (nat_eq e.place i) refl;
  } where
    x : ℕ → AnyHost
    x i = state_at hosts numbers older i

    drawn : ℕ → List DrawopValue
    drawn i = drawn_at hosts numbers older i

    by : (i : ℕ) (b : Bool) → nat_eq e.place i ≡ b → OwnsIts page (cond b (hosts.drawn e.event (x i) ++ drawn i) (drawn i)) (cond b (after_event e.event (x i)) (x i))
    by i true is = subst (λ (j : ℕ). OwnsIts page (hosts.drawn e.event (x j) ++ drawn j) (after_event e.event (x j))) (eqb-true e.place i is)
        (event_owns page numbers older e.place e.event (x e.place) keep.starts (boards_are_files numbers older e.place) (rest.own e.place))
    by i false is = rest.own i

  all_are : (trace : List (At HostEvent)) → KeepRecords page numbers trace → Are page numbers trace
  all_are [] keep = record { keep = tt; own = λ i. tt }
  all_are (e ∷ older) keep = one_more e older keep.0 (all_are older keep.1)

pub records_tell : RecordsTell
records_tell page numbers trace keep = (all_are page numbers trace keep).keep

pub recorded_hosts_agree : RecordedHostsAgree
recorded_hosts_agree numbers trace page apart taken keep = hosts_agree numbers trace page apart taken (records_tell page numbers trace keep)
