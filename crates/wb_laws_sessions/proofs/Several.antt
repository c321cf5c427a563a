-- Several deeds of one member, one after the other, as steps of a session.
use Rattle.std.proofs.Common.{◌≡◌, ◌⊎◌, ◌<◌, ℕ, Bool, cond, List, [], ◌∷◌, ◌++◌, ◌∙◌, ap, append_assoc, arith, inl, inr, map, refl, subst, sym, ⊎_elim}
use Rattle.std.specs.Prelude.{Contains, nat_eq}
use Rattle.std.proofs.lemmas.List.Elements.{Contains-append_left, Contains-append_right}
use Rattle.wb_names.specs.Arrivals.{Outcome, New, Again, Clash, Left}
use Rattle.wb_names.specs.Values.{DrawopValue, NameValue}
use Rattle.wb_names.proofs.Listings.{Contains-cases, Contains-here, Contains-none, Contains-there}
use Rattle.wb_codec.specs.declared.datagram.Datagram.{Datagram}
use Rattle.wb_codec.specs.declared.datagram.Datagram.TheVariants.{Draw}
use Rattle.wb_member.specs.Lines.{Line, after_line, after_lines, said_where, sent_by_line, sent_by_lines, Arrives, Says}
use Rattle.wb_member.specs.Opened.{Opened, becomes}
use Rattle.wb_laws_sessions.specs.Drawn.{AreHonest, WasHeld, drawn_at}
use Rattle.wb_laws_sessions.specs.Members.{member, drawn_by, new_where, Deed, Does, after_deed, sent_by_deed}
use Rattle.wb_laws_machines.specs.Honest.{IsAbove, AreApart}
use Rattle.wb_laws_sessions.specs.Sessions.{Step, after_deeds, host_at, sent, sent_by_deeds, steps_then}
use Rattle.wb_laws_machines.proofs.Drawn as of
use Rattle.wb_laws_machines.proofs.Mapped.{happen_sent, happen_state}
use Rattle.wb_laws_sessions.proofs.Members.{member_is_lawful}
use Rattle.wb_laws_sessions.proofs.Deeds.{deed_draws}
use Rattle.wb_laws_sessions.proofs.Drawn.{drawn_cases, names_mean_one, once_held_was_drawn}
use Rattle.wb_laws_machines.proofs.Outcomes.{Found, found}
use Rattle.wb_laws_sessions.proofs.Sending.{there}
use Rattle.wb_laws_machines.proofs.Traces.{split_behind}
use Rattle.wb_laws_machines.specs.Machines.{whole}

-- ---- lines as deeds

pub after_performed : (lines : List Line) (host : Opened) → after_deeds (map Does lines) host ≡ after_lines lines host
after_performed [] host = refl
after_performed (line ∷ lines) host = after_performed lines (after_line line host)

pub sent_performed : (lines : List Line) (host : Opened) → sent_by_deeds (map Does lines) host ≡ sent_by_lines lines host
sent_performed [] host = refl
sent_performed (line ∷ lines) host =
    ap (λ (more : List Datagram). sent_by_line line host ++ more) (sent_performed lines (after_line line host))

-- ---- the member there

module _ (numbers : ℕ → ℕ) where
  -- the member at a place after deeds of the one at a place
  pub after_all : (time place : ℕ) (deeds : List Deed) (older : List Step) (i : ℕ) (b : Bool) → nat_eq place i ≡ b → host_at numbers (steps_then time place deeds older) i ≡ cond b (after_deeds deeds (host_at numbers older i)) (host_at numbers older i)
  after_all time place = happen_state member numbers time place

  -- a member has the number of its place
  pub number_at : (steps : List Step) (i : ℕ) → (host_at numbers steps i).is.number ≡ numbers i
  number_at = of.number_at member numbers member_is_lawful

-- ---- a part of the steps

pub then_split : (time place : ℕ) (deeds : List Deed) (older : List Step) → (front : List Step) × (steps_then time place deeds older ≡ front ++ older)
then_split time place [] older = ([], refl)
then_split time place (deed ∷ deeds) older =
    let s : Step = record { time = time; place = place; event = deed } in
    let rest = then_split time place deeds (s ∷ older) in
    (rest.0 ++ s ∷ [], rest.1 ∙ sym (append_assoc rest.0 (s ∷ []) older))

-- ---- what is sent

module _ (numbers : ℕ → ℕ) (time place : ℕ) where
  abbrev at : Deed → Step
  at deed = record { time = time; place = place; event = deed }

  -- what deeds send is sent by their steps
  pub sent_then : (deeds : List Deed) (older : List Step) (v : Datagram) → Contains (sent_by_deeds deeds (host_at numbers older place)) v → Contains (sent numbers (steps_then time place deeds older)) v
  sent_then = happen_sent member numbers time place

  -- ---- what is drawn

  new_sent : (d x : DrawopValue) (o : Outcome) → Contains (new_where d o) x → Contains (said_where d o) (Draw d)
  new_sent d x (New i) c = Contains-here (Draw d) []
  new_sent d x (Again i) c = absurd (Contains-none x c)
  new_sent d x (Clash i) c = absurd (Contains-none x c)
  new_sent d x Left c = absurd (Contains-none x c)

  -- what is drawn by a deed is said and sent by it
  drawn_sent : (deed : Deed) (host : Opened) (d : DrawopValue) → Contains (drawn_by deed host) d → Contains (sent_by_deed deed host) (Draw d)
  drawn_sent deed host d c =
      let said = (deed_draws deed host d c).said in
      subst (λ (x : Deed). Contains (sent_by_deed x host) (Draw d)) (sym said)
      (new_sent d d (becomes d host) (subst (λ (x : Deed). Contains (drawn_by x host) d) said c))

  pub record DrawnThen (deeds : List Deed) (older : List Step) (k : ℕ) (d : DrawopValue) : Type 0 where
    pub here : place ≡ k
    pub said : Contains deeds (Does (Says (Draw d)))
    pub sent : Contains (sent_by_deeds deeds (host_at numbers older place)) (Draw d)

  -- it was drawn by one of the deeds, or before
  pub drawn_then : (deeds : List Deed) (older : List Step) (k : ℕ) (d : DrawopValue) → Contains (drawn_at numbers (steps_then time place deeds older) k) d → DrawnThen deeds older k d ⊎ Contains (drawn_at numbers older k) d
  drawn_then [] older k d c = inr c
  drawn_then (deed ∷ deeds) older k d c =
      let host : Opened = host_at numbers older place in
      ⊎_elim
      (λ (late : DrawnThen deeds (at deed ∷ older) k d). inl (record {
        here = late.here;
        said = Contains-there deed (Does (Says (Draw d))) deeds late.said;
        sent = Contains-append_right (sent_by_deed deed host) (sent_by_deeds deeds (after_deed deed host)) (Draw d) (subst (λ (h : Opened). Contains (sent_by_deeds deeds h) (Draw d)) (there numbers (at deed) older) late.sent);
      }))
      (λ (before : Contains (drawn_at numbers (at deed ∷ older) k) d). ⊎_elim
      (λ (now : (place ≡ k) × Contains (drawn_by deed (host_at numbers older k)) d).
      let c = subst (λ (j : ℕ). Contains (drawn_by deed (host_at numbers older j)) d) (sym now.0) now.1 in
      inl (record {
        here = now.0;
        said = subst (λ (x : Deed). Contains (deed ∷ deeds) x) (deed_draws deed host d c).said (Contains-here deed deeds);
        sent = Contains-append_left (sent_by_deed deed host) (sent_by_deeds deeds (after_deed deed host)) (Draw d) (drawn_sent deed host d c);
      }))
      (λ (was : Contains (drawn_at numbers older k) d). inr was)
      (drawn_cases numbers (at deed) older k d before))
      (drawn_then deeds (at deed ∷ older) k d c)

  -- ---- what is honest

  older_honest : (deeds : List Deed) (older : List Step) → AreHonest numbers (steps_then time place deeds older) → AreHonest numbers older
  older_honest [] older honest = honest
  older_honest (deed ∷ deeds) older honest = (older_honest deeds (at deed ∷ older) honest).1

  -- the steps before one of the deeds
  record PartOf (deed : Deed) (deeds : List Deed) (older : List Step) : Type 0 where
    part : List Step
    front : List Step
    more : List Step
    split : part ≡ front ++ older
    rest : steps_then time place deeds older ≡ more ++ part
    honest : AreHonest numbers (steps_then time place deeds older) → AreHonest numbers (at deed ∷ part)

  part_of : (deed : Deed) (deeds : List Deed) (older : List Step) → Contains deeds deed → PartOf deed deeds older
  part_of deed [] older c = absurd (Contains-none deed c)
  part_of deed (x ∷ deeds) older c = ⊎_elim
      (λ (now : x ≡ deed).
      let split = then_split time place deeds (at x ∷ older) in
      record {
        part = older;
        front = [];
        more = split.0 ++ at x ∷ [];
        split = refl;
        rest = split.1 ∙ sym (append_assoc split.0 (at x ∷ []) older);
        honest = λ honest. subst (λ (y : Deed). AreHonest numbers (at y ∷ older)) now (older_honest deeds (at x ∷ older) honest);
      })
      (λ (later : Contains deeds deed).
      let p = part_of deed deeds (at x ∷ older) later in
      record { part = p.part; front = p.front ++ at x ∷ []; more = p.more; split = p.split ∙ sym (append_assoc p.front (at x ∷ []) older); rest = p.rest; honest = p.honest })
      (Contains-cases x deed deeds c)

  module _ (deeds : List Deed) (older : List Step) (apart : AreApart numbers) (honest : AreHonest numbers (steps_then time place deeds older)) where
    abbrev host : Opened
    host = host_at numbers older place

    abbrev Clashes : DrawopValue → Type 0
    Clashes d = (x : DrawopValue) × Contains host.is.held x × (x.name ≡ d.name) × (x ≡ d → ⊥)

    clash_of : (d : DrawopValue) (k : ℕ) → becomes d host ≡ Clash k → Clashes d
    clash_of d k e = subst (Found host.is.held d) e (found host.is.cells 0 host.is.held d)

    -- what was held before one of the deeds clashes with nothing that is held
    held_none : (d : DrawopValue) (deed : Deed) (p : PartOf deed deeds older) → WasHeld numbers p.part d → Clashes d → ⊥
    held_none d deed p was clash =
        let before : AreHonest numbers p.part = (p.honest honest).1 in
        clash.3 (names_mean_one numbers p.part apart before clash.0 d
        (once_held_was_drawn numbers p.part before clash.0 (record { older = older; behind = split_behind p.front older p.split; place = place; held = clash.1 }))
        (once_held_was_drawn numbers p.part before d was) clash.2)

    pub arrival_never_clashes : (d : DrawopValue) (k : ℕ) → Contains deeds (Does (Arrives d)) → becomes d host ≡ Clash k → ⊥
    arrival_never_clashes d k c e = let p = part_of (Does (Arrives d)) deeds older c in
        held_none d (Does (Arrives d)) p ((p.honest honest).0.comes d refl) (clash_of d k e)

    -- a number above all that it drew is none that was drawn
    above_none : (d : DrawopValue) (part front : List Step) → part ≡ front ++ older → AreHonest numbers part → d.name.source ≡ numbers place → IsAbove (drawn_at numbers part place) d.name → Clashes d → ⊥
    above_none d part front split before own above clash =
        let x : DrawopValue = clash.0 in
        let was = once_held_was_drawn numbers part before x (record { older = older; behind = split_behind front older split; place = place; held = clash.1 }) in
        let here : was.0 ≡ place = apart was.0 place (was.1 ∙ ap (λ (n : NameValue). n.source) clash.2 ∙ own) in
        let lt : x.name.seq < d.name.seq = above x (subst (λ (j : ℕ). Contains (drawn_at numbers part j) x) here was.2) (ap (λ (n : NameValue). n.page) clash.2) in
        let eq : x.name.seq ≡ d.name.seq = ap (λ (n : NameValue). n.seq) clash.2 in
        omega (arith, lt, eq)

    pub drawing_never_clashes : (d : DrawopValue) (k : ℕ) → Contains deeds (Does (Says (Draw d))) → becomes d host ≡ Clash k → ⊥
    drawing_never_clashes d k c e =
        let says : Deed = Does (Says (Draw d)) in
        let p = part_of says deeds older c in
        let is = p.honest honest in
        ⊎_elim
        (λ (was : Contains (host_at numbers p.part place).is.held d). held_none d says p (record { older = p.part; behind = whole; place = place; held = was }) (clash_of d k e))
        (λ (above : IsAbove (drawn_at numbers p.part place) d.name). above_none d p.part p.front p.split is.1 (is.0.own d refl).0 above (clash_of d k e))
        (is.0.new d refl)
