-- Whoever has answered is echoed, and everybody else has his turn.
use Rattle.std.proofs.Common.{◌≡◌, ℕ, ◌+◌, ◌<◌, ◌≤◌, Bool, true, false, cond, List, [], ◌∷◌, ◌∙◌, ap, arith, length, refl, subst, sym, true≢false, inl, inr, ⊎_elim}
use Rattle.std.specs.Prelude.{◌⊎◌, ◌&&◌, ◌||◌, Contains, nat_eq, nat_lt, not}
use Rattle.std.specs.List.{count_by}
use Rattle.std.proofs.lemmas.Bool.{eq-eqb, lt-ltb, ltb-true}
use Rattle.std.proofs.lemmas.Bool.Decides.{nat_tests}
use Rattle.wb_names.specs.declared.echo.Echo.{Echo}
use Rattle.wb_names.proofs.Listings.{Contains-cases, Contains-filter, Contains-from_filter, Contains-here, Contains-none, Contains-there}
use Rattle.wb_policy.specs.Choices.{echoed, firsts_of, have_answered, is_among, is_here, is_sooner, next_turn, rank_of, soonest}
use Rattle.wb_policy.specs.Laws.{AnswersAreEchoed, IsOnTheWay, TurnsReachEach}
use Rattle.wb_policy.proofs.Lasts.{past}
use Rattle.wb_policy.proofs.Latest.{AreOthers, IsIn, counts, few, is_later, itself, many, others_from, still_others, trans}

-- ---- counting

grows_in : (p q : Echo → Bool) (es : List Echo) → ((e : Echo) → IsIn e es → p e ≡ true → q e ≡ true) → many p es ≤ many q es
grows_in p q [] more = omega arith
grows_in p q (e ∷ es) more = by (p e) (q e) refl refl (grows_in p q es (λ x c. more x (inr c))) where
  by : (a b : Bool) → p e ≡ a → q e ≡ b → many p es ≤ many q es → cond a (1 + many p es) (many p es) ≤ cond b (1 + many q es) (many q es)
  by true true f g rest = omega (arith, rest)
  by true false f g rest = absurd (true≢false (sym (more e (inl refl) f) ∙ g))
  by false true f g rest = omega (arith, rest)
  by false false f g rest = rest

either_many : (p q : Echo → Bool) (es : List Echo) → many (λ e. p e || q e) es ≤ many p es + many q es
either_many p q [] = omega arith
either_many p q (e ∷ es) = by (p e) (q e) (either_many p q es) where
  by : (a b : Bool) → many (λ x. p x || q x) es ≤ many p es + many q es → cond (a || b) (1 + many (λ x. p x || q x) es) (many (λ x. p x || q x) es) ≤ cond a (1 + many p es) (many p es) + cond b (1 + many q es) (many q es)
  by true true rest = omega (arith, rest)
  by true false rest = omega (arith, rest)
  by false true rest = omega (arith, rest)
  by false false rest = omega (arith, rest)

none_of : (p : Echo → Bool) (es : List Echo) → ((e : Echo) → IsIn e es → p e ≡ false) → many p es ≡ 0
none_of p [] fails = refl
none_of p (e ∷ es) fails = ap (λ (b : Bool). cond b (1 + many p es) (many p es)) (fails e (inl refl)) ∙ none_of p es (λ x c. fails x (inr c))

differs : (a b : ℕ) → (b ≡ a → ⊥) → nat_eq a b ≡ false
differs a b ne = grind (arith, nat_tests)

same_number : (a b : ℕ) → nat_eq a b ≡ true → b ≡ a
same_number a b e = grind (arith, nat_tests)

-- of one source there is one at most
one_at_most : (s : ℕ) (es : List Echo) → AreOthers es → many (λ e. nat_eq s e.source) es ≤ 1
one_at_most s [] others = omega arith
one_at_most s (e ∷ es) others = by (nat_eq s e.source) refl (one_at_most s es others.1) where
  rest : ℕ
  rest = many (λ x. nat_eq s x.source) es

  by : (b : Bool) → nat_eq s e.source ≡ b → rest ≤ 1 → cond b (1 + rest) rest ≤ 1
  by true is le =
      let none : rest ≡ 0 = none_of (λ x. nat_eq s x.source) es (λ x c. differs s x.source (λ same. others.0 x c (same ∙ sym (same_number s e.source is)))) in
      omega (arith, none)
  by false is le = le

-- so no more are among some than these are
among_few : (firsts es : List Echo) → AreOthers es → many (is_among firsts) es ≤ length firsts
among_few [] es others = let none = none_of (is_among []) es (λ e c. refl) in omega (arith, none)
among_few (f ∷ firsts) es others =
    let one = one_at_most f.source es others in
    let rest = among_few firsts es others in
    let both = either_many (λ e. nat_eq f.source e.source) (is_among firsts) es in
    let same : many (is_among (f ∷ firsts)) es ≡ many (λ e. nat_eq f.source e.source || is_among firsts e) es = refl in
    omega (arith, one, rest, both, same)

-- ---- one of some

is_in : (e : Echo) (es : List Echo) → Contains es e → IsIn e es
is_in e [] c = absurd (Contains-none e c)
is_in e (x ∷ es) c = ⊎_elim (λ (same : x ≡ e). inl same) (λ (later : Contains es e). inr (is_in e es later)) (Contains-cases x e es c)

contains : (e : Echo) (es : List Echo) → IsIn e es → Contains es e
contains e [] c = absurd c
contains e (x ∷ es) (inl same) = subst (λ (y : Echo). Contains (x ∷ es) y) same (Contains-here x es)
contains e (x ∷ es) (inr later) = Contains-there x e es (contains e es later)

is_one : (e : Echo) (firsts : List Echo) → IsIn e firsts → is_among firsts e ≡ true
is_one e [] c = absurd c
is_one e (f ∷ firsts) (inl same) = ap (λ (b : Bool). b || is_among firsts e) (eq-eqb f.source e.source (ap (λ (x : Echo). x.source) same))
is_one e (f ∷ firsts) (inr later) = by (nat_eq f.source e.source) (is_one e firsts later) where
  by : (b : Bool) → is_among firsts e ≡ true → (b || is_among firsts e) ≡ true
  by true is = refl
  by false is = is

-- each of few has its turn
pub all_of_few : (firsts : List Echo) (from most : ℕ) (es : List Echo) (e : Echo) → length es ≤ most → Contains es e → Contains (soonest firsts from most es) e
all_of_few firsts from most es e short c =
    Contains-filter (λ (f : Echo). nat_lt (count_by (λ (g : Echo). is_sooner firsts from g f) es) most) es e c (lt-ltb (count_by (λ (g : Echo). is_sooner firsts from g e) es) most below) where
      no_more : (p : Echo → Bool) (es : List Echo) → many p es ≤ length es
      no_more p [] = omega arith
      no_more p (x ∷ es) = by (p x) (no_more p es) where
        by : (b : Bool) → many p es ≤ length es → cond b (1 + many p es) (many p es) ≤ length (x ∷ es)
        by true le = omega (arith, le)
        by false le = omega (arith, le)

      but_one : (p : Echo → Bool) (es : List Echo) → IsIn e es → p e ≡ false → many p es < length es
      but_one p [] c fails = absurd c
      but_one p (x ∷ es) (inl is) fails = let le = no_more p es in let same : many p (x ∷ es) ≡ many p es = ap (λ (b : Bool). cond b (1 + many p es) (many p es)) (ap p is ∙ fails) in omega (arith, le, same)
      but_one p (x ∷ es) (inr later) fails = by (p x) (but_one p es later fails) where
        by : (b : Bool) → many p es < length es → cond b (1 + many p es) (many p es) < length (x ∷ es)
        by true lt = omega (arith, lt)
        by false lt = omega (arith, lt)

      below : count_by (λ (g : Echo). is_sooner firsts from g e) es < most
      below =
          let lt = but_one (λ g. is_sooner firsts from g e) es (is_in e es c) (itself firsts from e) in
          let same = counts (λ g. is_sooner firsts from g e) es in
          omega (arith, lt, same, short)

-- ---- ranks

abbrev rank_by : Bool → Bool → Bool → ℕ
rank_by among here above = let round = cond above 0 1 in cond among round (cond here (2 + round) (4 + round))

low : (b : Bool) (x y : Bool) → rank_by true x b ≤ 1
low true x y = omega arith
low false x y = omega arith

high : (b : Bool) (x : Bool) → 2 ≤ rank_by false x b
high true true = omega arith
high true false = omega arith
high false true = omega arith
high false false = omega arith

middle : (b : Bool) → rank_by false true b ≤ 3
middle true = omega arith
middle false = omega arith

far : (b : Bool) → 4 ≤ rank_by false false b
far true = omega arith
far false = omega arith

no_sooner : (a b x y : ℕ) → b < a → (nat_lt a b || (nat_eq a b && nat_lt x y)) ≡ true → ⊥
no_sooner a b x y lt e = grind (arith, nat_tests)

not_above : (from s : ℕ) → nat_lt from s ≡ false → s ≤ from
not_above from s e = grind (arith, nat_tests)

module _ (firsts : List Echo) (from : ℕ) where
  ranked : (e : Echo) → rank_of firsts from e ≡ rank_by (is_among firsts e) (is_here e) (nat_lt from e.source)
  ranked e = refl

  ranked_as : (e : Echo) (among here : Bool) → is_among firsts e ≡ among → is_here e ≡ here → rank_of firsts from e ≡ rank_by among here (nat_lt from e.source)
  ranked_as e among here a h = ranked e ∙ (λ i. rank_by (a i) (h i) (nat_lt from e.source))

  not_sooner : (e f : Echo) → rank_of firsts from f < rank_of firsts from e → is_sooner firsts from e f ≡ true → ⊥
  not_sooner e f lt is = no_sooner (rank_of firsts from e) (rank_of firsts from f) e.source f.source lt (sym (is_later firsts from e f) ∙ is)

  -- what comes before one of the first is one of them
  sooner_among : (e x : Echo) → is_among firsts e ≡ true → is_sooner firsts from x e ≡ true → is_among firsts x ≡ true
  sooner_among e x first is = by (is_among firsts x) refl where
    by : (b : Bool) → is_among firsts x ≡ b → b ≡ true
    by true a = refl
    by false a = absurd (not_sooner x e (above (ranked_as e true (is_here e) first refl) (ranked_as x false (is_here x) a refl)) is) where
      above : rank_of firsts from e ≡ rank_by true (is_here e) (nat_lt from e.source) → rank_of firsts from x ≡ rank_by false (is_here x) (nat_lt from x.source) → rank_of firsts from e < rank_of firsts from x
      above one other = let l = low (nat_lt from e.source) (is_here e) true in let h = high (nat_lt from x.source) (is_here x) in omega (arith, one, other, l, h)

  abbrev is_other : Echo → Bool
  is_other e = is_here e && not (is_among firsts e)

  -- one that is here, and not among the first
  record IsOther (e : Echo) : Type 0 where
    here : is_here e ≡ true
    apart : is_among firsts e ≡ false

  other_parts : (e : Echo) → is_other e ≡ true → IsOther e
  other_parts e is = by (is_here e) (is_among firsts e) refl refl is where
    by : (a b : Bool) → is_here e ≡ a → is_among firsts e ≡ b → (a && not b) ≡ true → IsOther e
    by true false a b is = record { here = a; apart = b }
    by true true a b is = absurd (true≢false (sym is))
    by false b a c is = absurd (true≢false (sym is))

  other_from : (e : Echo) → is_here e ≡ true → is_among firsts e ≡ false → is_other e ≡ true
  other_from e here apart = λ i. here i && not (apart i)

  -- what comes before such a one is one of the first or such a one
  sooner_other : (e x : Echo) → is_other e ≡ true → is_sooner firsts from x e ≡ true → (is_among firsts x ≡ true) ⊎ (is_other x ≡ true)
  sooner_other e x other is = by (is_among firsts x) (is_here x) refl refl where
    o : IsOther e
    o = other_parts e other

    by : (a b : Bool) → is_among firsts x ≡ a → is_here x ≡ b → (a ≡ true) ⊎ (is_other x ≡ true)
    by true b a h = inl refl
    by false true a h = inr (other_from x h a)
    by false false a h = absurd (not_sooner x e (above (ranked_as e false true o.apart o.here) (ranked_as x false false a h)) is) where
      above : rank_of firsts from e ≡ rank_by false true (nat_lt from e.source) → rank_of firsts from x ≡ rank_by false false (nat_lt from x.source) → rank_of firsts from e < rank_of firsts from x
      above one other = let l = middle (nat_lt from e.source) in let h = far (nat_lt from x.source) in omega (arith, one, other, l, h)

  -- ---- the one whose turn comes first

  record HasSoonest (es : List Echo) : Type 0 where
    first : Echo
    among : IsIn first es
    other : is_other first ≡ true
    none : (x : Echo) → IsIn x es → is_other x ≡ true → is_sooner firsts from x first ≡ false

  abbrev HasNone : List Echo → Type 0
  HasNone es = (x : Echo) → IsIn x es → is_other x ≡ true → ⊥

  soonest_step : (e : Echo) (es : List Echo) → (b : Bool) → is_other e ≡ b → HasNone es ⊎ HasSoonest es → HasNone (e ∷ es) ⊎ HasSoonest (e ∷ es)
  soonest_step e es false fails (inl none) = inl each where
    each : HasNone (e ∷ es)
    each x (inl same) is = true≢false (sym is ∙ ap is_other (sym same) ∙ fails)
    each x (inr later) is = none x later is
  soonest_step e es true counts_it (inl none) = inr (record { first = e; among = inl refl; other = counts_it; none = each }) where
    each : (x : Echo) → IsIn x (e ∷ es) → is_other x ≡ true → is_sooner firsts from x e ≡ false
    each x (inl same) is = subst (λ (y : Echo). is_sooner firsts from y e ≡ false) same (itself firsts from e)
    each x (inr later) is = absurd (none x later is)
  soonest_step e es false fails (inr g) = inr (record { first = g.first; among = inr g.among; other = g.other; none = each }) where
    each : (x : Echo) → IsIn x (e ∷ es) → is_other x ≡ true → is_sooner firsts from x g.first ≡ false
    each x (inl same) is = absurd (true≢false (sym is ∙ ap is_other (sym same) ∙ fails))
    each x (inr later) is = g.none x later is
  soonest_step e es true counts_it (inr g) = inr (by (is_sooner firsts from e g.first) refl) where
    by : (b : Bool) → is_sooner firsts from e g.first ≡ b → HasSoonest (e ∷ es)
    by true l = record { first = e; among = inl refl; other = counts_it; none = each } where
      through : (x : Echo) (b : Bool) → is_sooner firsts from x e ≡ b → is_sooner firsts from x g.first ≡ false → b ≡ false
      through x true is not = absurd (true≢false (sym (trans firsts from x e g.first is l) ∙ not))
      through x false is not = refl

      each : (x : Echo) → IsIn x (e ∷ es) → is_other x ≡ true → is_sooner firsts from x e ≡ false
      each x (inl same) is = subst (λ (y : Echo). is_sooner firsts from y e ≡ false) same (itself firsts from e)
      each x (inr later) is = through x (is_sooner firsts from x e) refl (g.none x later is)
    by false l = record { first = g.first; among = inr g.among; other = g.other; none = each } where
      each : (x : Echo) → IsIn x (e ∷ es) → is_other x ≡ true → is_sooner firsts from x g.first ≡ false
      each x (inl same) is = subst (λ (y : Echo). is_sooner firsts from y g.first ≡ false) same l
      each x (inr later) is = g.none x later is

  soonest_of : (es : List Echo) → HasNone es ⊎ HasSoonest es
  soonest_of [] = inl (λ x c is. c)
  soonest_of (e ∷ es) = soonest_step e es (is_other e) refl (soonest_of es)

  -- ---- where turns go on

  record IsTurnOf (es : List Echo) (turn : ℕ) : Type 0 where
    one : Echo
    among : IsIn one es
    other : is_other one ≡ true
    is : turn ≡ one.source

  later_turn : (e : Echo) (es : List Echo) (turn : ℕ) → IsTurnOf es turn → IsTurnOf (e ∷ es) turn
  later_turn e es turn t = record { one = t.one; among = inr t.among; other = t.other; is = t.is }

  turn_or : (es : List Echo) (at : ℕ) → (next_turn firsts at es ≡ at) ⊎ IsTurnOf es (next_turn firsts at es)
  turn_or [] at = inl refl
  turn_or (e ∷ es) at = by (is_other e) refl (turn_or es) where
    by : (b : Bool) → is_other e ≡ b → ((at : ℕ) → (next_turn firsts at es ≡ at) ⊎ IsTurnOf es (next_turn firsts at es))
        → (next_turn firsts (cond b e.source at) es ≡ at) ⊎ IsTurnOf (e ∷ es) (next_turn firsts (cond b e.source at) es)
    by true is rest = inr (⊎_elim
        (λ (same : next_turn firsts e.source es ≡ e.source). record { one = e; among = inl refl; other = is; is = same })
        (λ (t : IsTurnOf es (next_turn firsts e.source es)). later_turn e es _ t)
        (rest e.source))
    by false is rest = ⊎_elim
        (λ (same : next_turn firsts at es ≡ at). inl same)
        (λ (t : IsTurnOf es (next_turn firsts at es)). inr (later_turn e es _ t))
        (rest at)

  turn_of : (es : List Echo) (at : ℕ) (m : Echo) → IsIn m es → is_other m ≡ true → IsTurnOf es (next_turn firsts at es)
  turn_of [] at m c other = absurd c
  turn_of (e ∷ es) at m (inl same) other =
      subst (λ (b : Bool). IsTurnOf (e ∷ es) (next_turn firsts (cond b e.source at) es)) (sym (ap is_other same ∙ other)) (⊎_elim
      (λ (is : next_turn firsts e.source es ≡ e.source). record { one = e; among = inl refl; other = ap is_other same ∙ other; is = is })
      (λ (t : IsTurnOf es (next_turn firsts e.source es)). later_turn e es _ t)
      (turn_or es e.source))
  turn_of (e ∷ es) at m (inr later) other = later_turn e es _ (turn_of es (cond (is_other e) e.source at) m later other)

  -- of two of those, the one whose turn comes first lies before the other on the way round
  on_the_way : (c e : Echo) → is_other c ≡ true → is_other e ≡ true → is_sooner firsts from c e ≡ true → IsOnTheWay from e.source c.source
  on_the_way c e one other is = by (nat_lt from c.source) (nat_lt from e.source) refl refl (sym (λ i. nat_lt (rank_c i) (rank_e i) || (nat_eq (rank_c i) (rank_e i) && nat_lt c.source e.source)) ∙ sym (is_later firsts from c e) ∙ is) where
    a : IsOther c
    a = other_parts c one

    b : IsOther e
    b = other_parts e other

    rank_c : rank_of firsts from c ≡ rank_by false true (nat_lt from c.source)
    rank_c = ranked_as c false true a.apart a.here

    rank_e : rank_of firsts from e ≡ rank_by false true (nat_lt from e.source)
    rank_e = ranked_as e false true b.apart b.here

    by : (x y : Bool) → nat_lt from c.source ≡ x → nat_lt from e.source ≡ y → (nat_lt (rank_by false true x) (rank_by false true y) || (nat_eq (rank_by false true x) (rank_by false true y) && nat_lt c.source e.source)) ≡ true
        → IsOnTheWay from e.source c.source
    by true true up ahead lt = inl (ltb-true _ _ up, ltb-true _ _ lt)
    by true false up below lt = inr (not_above from e.source below, inl (ltb-true _ _ up))
    by false true down ahead lt = absurd (true≢false (sym lt))
    by false false down below lt = inr (not_above from e.source below, inr (ltb-true _ _ lt))

-- ---- the laws

module _ (known : ℕ → Bool) (from : ℕ) (es : List Echo) (others : AreOthers es) where
  abbrev firsts : List Echo
  firsts = firsts_of known from es

  abbrev before : Echo → ℕ
  before e = count_by (λ f. is_sooner firsts from f e) es

  firsts_few : many (is_among firsts) es ≤ 24
  firsts_few =
      let le = among_few firsts es others in
      let short = few [] from 24 (have_answered known es) (still_others (λ e. known e.source && is_here e) es others) in
      omega (arith, le, short)

  echoed_if : (e : Echo) → Contains es e → before e < 32 → Contains (echoed known from es) e
  echoed_if e c lt = Contains-filter (λ (f : Echo). nat_lt (before f) 32) es e c (lt-ltb (before e) 32 lt)

  few_before : (e : Echo) → ((x : Echo) → IsIn x es → is_sooner firsts from x e ≡ true → is_among firsts x ≡ true) → before e < 32
  few_before e only =
      let more = grows_in (λ f. is_sooner firsts from f e) (is_among firsts) es only in
      let same = counts (λ f. is_sooner firsts from f e) es in
      let short = firsts_few in
      omega (arith, more, same, short)

  first_echoed : (e : Echo) → Contains es e → is_among firsts e ≡ true → Contains (echoed known from es) e
  first_echoed e c first = echoed_if e c (few_before e (λ x there is. sooner_among firsts from e x first is))

  -- another that is here is echoed, whenever one is
  other_echoed : (e : Echo) → IsIn e es → is_other firsts from e ≡ true → (m : Echo) × IsIn m (echoed known from es) × (is_other firsts from m ≡ true)
  other_echoed e c other = ⊎_elim
      (λ (none : HasNone firsts from es). absurd (none e c other))
      (λ (g : HasSoonest firsts from es). (
        g.first,
        is_in g.first (echoed known from es) (echoed_if g.first (contains g.first es g.among) (few_before g.first (λ x there is.
            ⊎_elim (λ (a : is_among firsts x ≡ true). a) (λ (o : is_other firsts from x ≡ true). absurd (true≢false (sym is ∙ g.none x there o))) (sooner_other firsts from g.first x g.other is)))),
        g.other,
      ))
      (soonest_of firsts from es)

  sooner_than : (c e : Echo) → Contains (echoed known from es) c → nat_lt (before e) 32 ≡ false → is_sooner firsts from c e ≡ true
  sooner_than c e within without = by (is_sooner firsts from c e) refl where
    lt : before c < 32
    lt = ltb-true _ _ (Contains-from_filter (λ (f : Echo). nat_lt (before f) 32) es c within).1

    beyond : (n : ℕ) → n < 32 → nat_lt n 32 ≡ false → ⊥
    beyond n lt e = grind (arith, nat_tests)

    by : (b : Bool) → is_sooner firsts from c e ≡ b → b ≡ true
    by true is = refl
    by false is = absurd (beyond (before e) (
        let more = grows_in (λ f. is_sooner firsts from f e) (λ f. is_sooner firsts from f c) es (λ x there sooner. past firsts from x e c sooner is) in
        let one = counts (λ f. is_sooner firsts from f e) es in
        let other = counts (λ f. is_sooner firsts from f c) es in
        let below = lt in
        omega (arith, more, one, other, below)) without)

  reached : (e : Echo) → Contains es e → is_here e ≡ true → Contains (echoed known from es) e ⊎ IsOnTheWay from e.source (next_turn firsts from (echoed known from es))
  reached e c here = by (is_among firsts e) (nat_lt (before e) 32) refl refl where
    by : (a b : Bool) → is_among firsts e ≡ a → nat_lt (before e) 32 ≡ b → Contains (echoed known from es) e ⊎ IsOnTheWay from e.source (next_turn firsts from (echoed known from es))
    by true b first chosen = inl (first_echoed e c first)
    by false true apart chosen = inl (echoed_if e c (ltb-true _ _ chosen))
    by false false apart left =
        let other = other_from firsts from e here apart in
        let m = other_echoed e (is_in e es c) other in
        let t = turn_of firsts from (echoed known from es) from m.0 m.1 m.2 in
        inr (subst (IsOnTheWay from e.source) (sym t.is) (on_the_way firsts from t.one e t.other other (sooner_than t.one e (contains t.one (echoed known from es) t.among) left)))

pub answers_are_echoed : AnswersAreEchoed
answers_are_echoed known from es e lawful short c =
    let others = others_from es lawful.ascending in
    let first = all_of_few [] from 24 (have_answered known es) e short c in
    first_echoed known from es others e (Contains-from_filter (λ (x : Echo). known x.source && is_here x) es e c).0 (is_one e (firsts_of known from es) (is_in e (firsts_of known from es) first))

pub turns_reach_each : TurnsReachEach
turns_reach_each known from es e lawful c here = reached known from es (others_from es lawful.ascending) e c here
