-- What is honest above is honest below.
use Rattle.std.proofs.Common.{◌≡◌, ℕ, ◌≤◌, List, [], ◌∷◌, ◌++◌, ◌∙◌, ap, arith, length, length-append, subst, sym, ⊎_elim}
use Rattle.std.specs.Prelude.{Contains}
use Rattle.std.proofs.lemmas.List.Elements.{Contains-append_left, Contains-append_right}
use Rattle.wb_names.specs.Values.{DrawopValue, NameValue}
use Rattle.wb_names.proofs.Listings.{Contains-none}
use Rattle.wb_laws_machines.specs.Honest.{AreHonest, IsAbove, IsHonestAt, IsLawful}
use Rattle.wb_laws_machines.specs.Machines.{At, Machine, WasHeld, drawn_at, drawn_by_all, gained_by_all, happen, state_at, ◌⊑◌, whole, part}
use Rattle.wb_laws_machines.specs.Maps.{IsMap, Map, below}
use Rattle.wb_laws_machines.proofs.Drawn.{drawn_cases}
use Rattle.wb_laws_machines.proofs.Mapped.{drawn_below, held_below, state_below}
use Rattle.wb_laws_machines.proofs.Traces.{behind_both, held_later, there}

some_long : (xs : List DrawopValue) (d : DrawopValue) → Contains xs d → 1 ≤ length xs
some_long [] d c = absurd (Contains-none d c)
some_long (x ∷ xs) d c = omega arith

not_two : (xs ys : List DrawopValue) (d x : DrawopValue) → length (xs ++ ys) ≤ 1 → Contains xs d → Contains ys x → ⊥
not_two xs ys d x few c f =
    let a = some_long xs d c in
    let b = some_long ys x f in
    omega (arith, length-append xs ys, few, a, b)

module _ {T F : Type 0} (low : Machine T F) (numbers : ℕ → ℕ) (Of : NameValue → Type 0) (time place : ℕ) (base : List (At F)) where
  abbrev at : F → At F
  at f = record { time = time; place = place; event = f }

  -- what is asked of several events after some
  record Good (events : List F) (older : List (At F)) : Type 0 where
    comes : (d : DrawopValue) → Of d.name → Contains (gained_by_all low events (state_at low numbers older place)) d → WasHeld low numbers base d
    own : (d : DrawopValue) → Of d.name → Contains (drawn_by_all low events (state_at low numbers older place)) d → (d.name.source ≡ numbers place) × (1 ≤ d.name.seq)
    new : (d : DrawopValue) → Of d.name → Contains (drawn_by_all low events (state_at low numbers older place)) d → IsAbove (drawn_at low numbers older place) d.name
    few : length (drawn_by_all low events (state_at low numbers older place)) ≤ 1

  good_honest : (events : List F) (older : List (At F)) → base ⊑ older → AreHonest Of low numbers older → Good events older → AreHonest Of low numbers (happen time place events older)
  good_honest [] older behind honest good = honest
  good_honest (f ∷ events) older behind honest good =
      let t : T = state_at low numbers older place in
      let next : T = low.after f t in
      let is : state_at low numbers (at f ∷ older) place ≡ next = there low numbers (at f) older in
      let now : IsHonestAt Of low numbers older (at f) = record {
        comes = λ d of c. held_later low numbers d behind (good.comes d of (Contains-append_left (low.gained f t) (gained_by_all low events next) d c));
        own = λ d of c. good.own d of (Contains-append_right (drawn_by_all low events next) (low.drawn f t) d c);
        new = λ d of c. good.new d of (Contains-append_right (drawn_by_all low events next) (low.drawn f t) d c);
      } in
      good_honest events (at f ∷ older) (behind_both behind (part whole)) (now, honest) (record {
        comes = λ d of c. good.comes d of (Contains-append_right (low.gained f t) (gained_by_all low events next) d (subst (λ (s : T). Contains (gained_by_all low events s) d) is c));
        own = λ d of c. good.own d of (Contains-append_left (drawn_by_all low events next) (low.drawn f t) d (subst (λ (s : T). Contains (drawn_by_all low events s) d) is c));
        new = λ d of c x cx on.
            let here : Contains (drawn_by_all low events next) d = subst (λ (s : T). Contains (drawn_by_all low events s) d) is c in
            ⊎_elim
            (λ (now' : (place ≡ place) × Contains (low.drawn f t) x). absurd (not_two (drawn_by_all low events next) (low.drawn f t) d x good.few here now'.1))
            (λ (before : Contains (drawn_at low numbers older place) x). good.new d of (Contains-append_left (drawn_by_all low events next) (low.drawn f t) d here) x before on)
            (drawn_cases low numbers (at f) older place x cx);
        few = subst (λ (s : T). length (drawn_by_all low events s) ≤ 1) (sym is)
            (let le : length (drawn_by_all low events next ++ low.drawn f t) ≤ 1 = good.few in omega (arith, length-append (drawn_by_all low events next) (low.drawn f t), le));
      })

module _ {S E T F : Type 0} {up : Machine S E} {low : Machine T F} {via : Map S E T F} (o : IsMap up low via) (lawful : IsLawful up) (numbers : ℕ → ℕ) (Of : NameValue → Type 0) where
  pub honest_below : (trace : List (At E)) → AreHonest Of up numbers trace → AreHonest Of low numbers (below up via numbers trace)
  honest_below [] honest = tt
  honest_below (e ∷ older) honest =
      let s : S = state_at up numbers older e.place in
      let is : state_at low numbers (below up via numbers older) e.place ≡ via.state s = state_below o numbers older e.place in
      let draws : drawn_by_all low (via.events e.event s) (state_at low numbers (below up via numbers older) e.place) ≡ up.drawn e.event s =
      ap (drawn_by_all low (via.events e.event s)) is ∙ o.draws e.event s in
      good_honest low numbers Of e.time e.place (below up via numbers older) (via.events e.event s) (below up via numbers older) whole (honest_below older honest.1) (record {
        comes = λ d of c. held_below o numbers older d (honest.0.comes d of (o.gains e.event s d (subst (λ (t : T). Contains (gained_by_all low (via.events e.event s) t) d) is c)));
        own = λ d of c. honest.0.own d of (subst (λ (ds : List DrawopValue). Contains ds d) draws c);
        new = λ d of c. subst (λ (ds : List DrawopValue). IsAbove ds d.name) (sym (drawn_below o numbers older e.place)) (honest.0.new d of (subst (λ (ds : List DrawopValue). Contains ds d) draws c));
        few = subst (λ (ds : List DrawopValue). length ds ≤ 1) (sym draws) (lawful.few e.event s);
      })

-- ---- of other names

-- what is honest of some names is honest of fewer
pub honest_of : {S E : Type 0} (m : Machine S E) (numbers : ℕ → ℕ) (Of Less : NameValue → Type 0) → ((n : NameValue) → Less n → Of n) → (trace : List (At E)) → AreHonest Of m numbers trace → AreHonest Less m numbers trace
honest_of m numbers Of Less of [] honest = tt
honest_of m numbers Of Less of (e ∷ older) honest = (
  record {
    comes = λ d less c. honest.0.comes d (of d.name less) c;
    own = λ d less c. honest.0.own d (of d.name less) c;
    new = λ d less c. honest.0.new d (of d.name less) c;
  },
  honest_of m numbers Of Less of older honest.1,
)
