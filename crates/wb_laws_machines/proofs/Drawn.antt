-- Nothing is invented: what is held was drawn, and each name means one drawop.
use Rattle.std.proofs.Common.{◌≡◌, ◌⊎◌, ℕ, ◌<◌, ◌≤◌, Bool, true, false, cond, List, [], ◌∷◌, ◌++◌, ◌∙◌, ap, arith, eqb-true, inl, inr, length, refl, subst, sym, ⊎_elim}
use Rattle.std.specs.Prelude.{Contains, nat_eq}
use Rattle.std.proofs.lemmas.List.Elements.{Contains-append_cases, Contains-append_left, Contains-append_right}
use Rattle.wb_names.specs.History.{IsHistory}
use Rattle.wb_names.specs.Values.{DrawopValue, NameValue}
use Rattle.wb_names.proofs.Listings.{Contains-cases, Contains-none}
use Rattle.wb_laws_machines.specs.Honest.{AreApart, AreHonest, IsHonestAt, IsLawful}
use Rattle.wb_laws_machines.specs.Machines.{At, Machine, WasDrawn, drawn_at, member_at, state_at, ◌⊑◌, whole, part}

-- a list of one at most
only_one : (ds : List DrawopValue) (d x : DrawopValue) → length ds ≤ 1 → Contains ds d → Contains ds x → d ≡ x
only_one [] d x few c f = absurd (Contains-none d c)
only_one (y ∷ []) d x few c f = sym (one y d c) ∙ one y x f where
  one : (a b : DrawopValue) → Contains (a ∷ []) b → a ≡ b
  one a b g = ⊎_elim (λ (e : a ≡ b). e) (λ (h : Contains [] b). absurd (Contains-none b h)) (Contains-cases a b [] g)
only_one (y ∷ (z ∷ ds)) d x few c f = absurd (omega (arith, few))

module _ {S E : Type 0} (m : Machine S E) (numbers : ℕ → ℕ) where
  abbrev Held : List (At E) → ℕ → DrawopValue → Type 0
  Held trace i d = Contains (member_at m numbers trace i).is.held d

  -- ---- what was drawn at a place

  abbrev drawn_now : At E → List (At E) → ℕ → List DrawopValue
  drawn_now e older i = m.drawn e.event (state_at m numbers older i)

  pub drawn_cases : (e : At E) (older : List (At E)) (i : ℕ) (d : DrawopValue) → Contains (drawn_at m numbers (e ∷ older) i) d → ((e.place ≡ i) × Contains (drawn_now e older i) d) ⊎ Contains (drawn_at m numbers older i) d
  drawn_cases e older i d c = by (nat_eq e.place i) refl c where
    by : (b : Bool) → nat_eq e.place i ≡ b → Contains (cond b (drawn_now e older i ++ drawn_at m numbers older i) (drawn_at m numbers older i)) d → ((e.place ≡ i) × Contains (drawn_now e older i) d) ⊎ Contains (drawn_at m numbers older i) d
    by true is c = ⊎_elim
        (λ (now : Contains (drawn_now e older i) d). inl (eqb-true e.place i is, now))
        (λ (before : Contains (drawn_at m numbers older i) d). inr before)
        (Contains-append_cases (drawn_now e older i) (drawn_at m numbers older i) d c)
    by false is c = inr c

  drawn_later : (e : At E) (older : List (At E)) (i : ℕ) (d : DrawopValue) → Contains (drawn_at m numbers older i) d → Contains (drawn_at m numbers (e ∷ older) i) d
  drawn_later e older i d c = by (nat_eq e.place i) where
    by : (b : Bool) → Contains (cond b (drawn_now e older i ++ drawn_at m numbers older i) (drawn_at m numbers older i)) d
    by true = Contains-append_right (drawn_now e older i) (drawn_at m numbers older i) d c
    by false = c

  drawn_here : (e : At E) (older : List (At E)) (i : ℕ) (d : DrawopValue) → nat_eq e.place i ≡ true → Contains (drawn_now e older i) d → Contains (drawn_at m numbers (e ∷ older) i) d
  drawn_here e older i d is c =
      subst (λ (b : Bool). Contains (cond b (drawn_now e older i ++ drawn_at m numbers older i) (drawn_at m numbers older i)) d) (sym is)
      (Contains-append_left (drawn_now e older i) (drawn_at m numbers older i) d c)

  later : (e : At E) (older : List (At E)) (d : DrawopValue) → WasDrawn m numbers older d → WasDrawn m numbers (e ∷ older) d
  later e older d (k, own, c) = (k, own, drawn_later e older k d c)

  pub was_drawn_later : {older trace : List (At E)} (d : DrawopValue) → older ⊑ trace → WasDrawn m numbers older d → WasDrawn m numbers trace d
  was_drawn_later d whole w = w
  was_drawn_later d (part {newer = newer} {e = e} behind) w = later e newer d (was_drawn_later d behind w)

  -- ---- numbers, of the names that are spoken of

  module _ (Of : NameValue → Type 0) (lawful : IsLawful m) where
    pub numbers_count : (trace : List (At E)) → AreHonest Of m numbers trace → (i : ℕ) (d : DrawopValue) → Of d.name → Contains (drawn_at m numbers trace i) d → (d.name.source ≡ numbers i) × (1 ≤ d.name.seq)
    numbers_count [] honest i d of c = absurd (Contains-none d c)
    numbers_count (e ∷ older) honest i d of c = ⊎_elim
        (λ (now : (e.place ≡ i) × Contains (drawn_now e older i) d).
        let own = honest.0.own d of (subst (λ (j : ℕ). Contains (drawn_now e older j) d) (sym now.0) now.1) in
        (own.0 ∙ ap numbers now.0, own.1))
        (λ (before : Contains (drawn_at m numbers older i) d). numbers_count older honest.1 i d of before)
        (drawn_cases e older i d c)

    -- what is drawn now has another name than what was drawn there before
    above : (e : At E) (older : List (At E)) → IsHonestAt Of m numbers older e → (i : ℕ) (d x : DrawopValue) → Of d.name → e.place ≡ i → Contains (drawn_now e older i) d → Contains (drawn_at m numbers older i) x → x.name ≡ d.name → ⊥
    above e older honest i d x of is c before same =
        let lt : x.name.seq < d.name.seq = honest.new d of (subst (λ (j : ℕ). Contains (drawn_now e older j) d) (sym is) c) x
        (subst (λ (j : ℕ). Contains (drawn_at m numbers older j) x) (sym is) before) (ap (λ (n : NameValue). n.page) same) in
        let eq : x.name.seq ≡ d.name.seq = ap (λ (n : NameValue). n.seq) same in
        omega (arith, lt, eq)

    pub drawn_once : (trace : List (At E)) → AreHonest Of m numbers trace → (i : ℕ) (d x : DrawopValue) → Of d.name → Contains (drawn_at m numbers trace i) d → Contains (drawn_at m numbers trace i) x → d.name ≡ x.name → d ≡ x
    drawn_once [] honest i d x of c f same = absurd (Contains-none d c)
    drawn_once (e ∷ older) honest i d x of c f same = ⊎_elim
        (λ (now : (e.place ≡ i) × Contains (drawn_now e older i) d). ⊎_elim
        (λ (now' : (e.place ≡ i) × Contains (drawn_now e older i) x). only_one (drawn_now e older i) d x (lawful.few e.event (state_at m numbers older i)) now.1 now'.1)
        (λ (before : Contains (drawn_at m numbers older i) x). absurd (above e older honest.0 i d x of now.0 now.1 before (sym same)))
        (drawn_cases e older i x f))
        (λ (before : Contains (drawn_at m numbers older i) d). ⊎_elim
        (λ (now' : (e.place ≡ i) × Contains (drawn_now e older i) x). absurd (above e older honest.0 i x d (subst Of same of) now'.0 now'.1 before same))
        (λ (before' : Contains (drawn_at m numbers older i) x). drawn_once older honest.1 i d x of before before' same)
        (drawn_cases e older i x f))
        (drawn_cases e older i d c)

    -- ---- what was held was drawn

    abbrev EachWasDrawn : List (At E) → Type 0
    EachWasDrawn trace = (older : List (At E)) → older ⊑ trace → (i : ℕ) (d : DrawopValue) → Of d.name → Held older i d → WasDrawn m numbers trace d

    now_drawn : (e : At E) (older : List (At E)) → IsHonestAt Of m numbers older e → EachWasDrawn older → (i : ℕ) (d : DrawopValue) → Of d.name → Held (e ∷ older) i d → WasDrawn m numbers (e ∷ older) d
    now_drawn e older honest rest i d of c = by (nat_eq e.place i) refl c where
      before : Held older i d → WasDrawn m numbers (e ∷ older) d
      before was = later e older d (rest older whole i d of was)

      by : (b : Bool) → nat_eq e.place i ≡ b → Contains (m.member (cond b (m.after e.event (state_at m numbers older i)) (state_at m numbers older i))).is.held d → WasDrawn m numbers (e ∷ older) d
      by false is c = before c
      by true is c = let here : e.place ≡ i = eqb-true e.place i is in ⊎_elim
          (λ (was : Held older i d). before was)
          (λ (comes : Contains (m.gained e.event (state_at m numbers older i)) d ⊎ Contains (drawn_now e older i) d). ⊎_elim
          (λ (gains : Contains (m.gained e.event (state_at m numbers older i)) d).
          let w = honest.comes d of (subst (λ (j : ℕ). Contains (m.gained e.event (state_at m numbers older j)) d) (sym here) gains) in
          later e older d (rest w.older w.behind w.place d of w.held))
          (λ (draws : Contains (drawn_now e older i) d).
          let own = honest.own d of (subst (λ (j : ℕ). Contains (drawn_now e older j) d) (sym here) draws) in
          (i, sym (own.0 ∙ ap numbers here), drawn_here e older i d is draws))
          comes)
          (lawful.brings e.event (state_at m numbers older i) d c)

    pub each_was_drawn : (trace : List (At E)) → AreHonest Of m numbers trace → EachWasDrawn trace
    each_was_drawn [] honest older whole i d of c = absurd (Contains-none d (subst (λ (h : List DrawopValue). Contains h d) (lawful.empty (numbers i)) c))
    each_was_drawn (e ∷ rest) honest older whole i d of c = now_drawn e rest honest.0 (each_was_drawn rest honest.1) i d of c
    each_was_drawn (e ∷ rest) honest older (part behind) i d of c = later e rest d (each_was_drawn rest honest.1 older behind i d of c)

    pub names_mean_one : AreApart numbers → (trace : List (At E)) → AreHonest Of m numbers trace → (d x : DrawopValue) → Of d.name → WasDrawn m numbers trace d → WasDrawn m numbers trace x → d.name ≡ x.name → d ≡ x
    names_mean_one apart trace honest d x of (k, own, c) (l, own', f) same =
        let one : k ≡ l = apart k l (own ∙ ap (λ (n : NameValue). n.source) same ∙ sym own') in
        drawn_once trace honest l d x of (subst (λ (j : ℕ). Contains (drawn_at m numbers trace j) d) one c) f same

  -- ---- what is always so

  module _ (lawful : IsLawful m) where
    pub held_once_at : (trace : List (At E)) (i : ℕ) → IsHistory (member_at m numbers trace i).is.held
    held_once_at [] i = subst IsHistory (sym (lawful.empty (numbers i))) (λ j k d jk lt. absurd (omega arith))
    held_once_at (e ∷ older) i = by (held_once_at older i) (nat_eq e.place i) where
      by : IsHistory (member_at m numbers older i).is.held → (b : Bool) → IsHistory (m.member (cond b (m.after e.event (state_at m numbers older i)) (state_at m numbers older i))).is.held
      by once true = lawful.once e.event (state_at m numbers older i) once
      by once false = once

    pub has_room_at : (trace : List (At E)) (i : ℕ) → length (member_at m numbers trace i).is.held ≤ (member_at m numbers trace i).is.cells
    has_room_at [] i = subst (λ (h : List DrawopValue). length h ≤ (m.member (m.start (numbers i))).is.cells) (sym (lawful.empty (numbers i))) (omega arith)
    has_room_at (e ∷ older) i = by (has_room_at older i) (nat_eq e.place i) where
      by : length (member_at m numbers older i).is.held ≤ (member_at m numbers older i).is.cells → (b : Bool)
          → length (m.member (cond b (m.after e.event (state_at m numbers older i)) (state_at m numbers older i))).is.held ≤ (m.member (cond b (m.after e.event (state_at m numbers older i)) (state_at m numbers older i))).is.cells
      by room true = lawful.room e.event (state_at m numbers older i) room
      by room false = room

    pub number_at : (trace : List (At E)) (i : ℕ) → (member_at m numbers trace i).is.number ≡ numbers i
    number_at [] i = lawful.numbered (numbers i)
    number_at (e ∷ older) i = by (number_at older i) (nat_eq e.place i) where
      by : (member_at m numbers older i).is.number ≡ numbers i → (b : Bool) → (m.member (cond b (m.after e.event (state_at m numbers older i)) (state_at m numbers older i))).is.number ≡ numbers i
      by rest true = lawful.keeps e.event (state_at m numbers older i) ∙ rest
      by rest false = rest
