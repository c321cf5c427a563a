-- At most `most` senders have their turn.
use Rattle.std.proofs.Common.{◌≡◌, ℕ, suc, ◌+◌, ◌<◌, ◌≤◌, Bool, true, false, cond, List, [], ◌∷◌, ◌∙◌, ap, arith, filter, get_or, length, refl, sym, true≢false, inl, inr}
use Rattle.std.specs.Prelude.{◌⊎◌, ◌&&◌, ◌||◌, AllPairs, nat_eq, nat_lt}
use Rattle.std.specs.List.{count_by}
use Rattle.std.specs.Ordering.{is_lt, nat_cmp, ordering_then}
use Rattle.std.proofs.lemmas.Bool.{ltb-true}
use Rattle.std.proofs.lemmas.Bool.Decides.{nat_tests}
use Rattle.std.proofs.lemmas.Grind.{common_steps}
use Rattle.std.proofs.lemmas.List.{length-take}
use Rattle.std.proofs.lemmas.List.Recursion.{is_count_by}
use Rattle.wb_names.specs.Values.{MarkValue}
use Rattle.wb_names.specs.declared.echo.Echo.{Echo}
use Rattle.wb_policy.specs.Choices.{firsts_of, is_sooner, rank_of, soonest}
use Rattle.wb_policy.specs.Laws.{ReportsAreSmall, SlicesAreShort}
use Rattle.wb_policy.specs.Reports.{is_untold}

-- ---- whose turn comes sooner

later : (a b c d : ℕ) → is_lt (ordering_then (nat_cmp a b) (nat_cmp c d)) ≡ (nat_lt a b || (nat_eq a b && nat_lt c d))
later a b c d = grind (arith, common_steps, nat_tests)

ordered : (a b c x y z : ℕ) → (nat_lt a b || (nat_eq a b && nat_lt x y)) ≡ true → (nat_lt b c || (nat_eq b c && nat_lt y z)) ≡ true → (nat_lt a c || (nat_eq a c && nat_lt x z)) ≡ true
ordered a b c x y z e f = grind (arith, nat_tests)

one_way : (a b x y : ℕ) → (x ≡ y → ⊥) → (nat_lt a b || (nat_eq a b && nat_lt x y)) ≡ false → (nat_lt b a || (nat_eq b a && nat_lt y x)) ≡ true
one_way a b x y ne e = grind (arith, nat_tests)

module _ (firsts : List Echo) (from : ℕ) where
  abbrev rank : Echo → ℕ
  rank = rank_of firsts from

  pub is_later : (e f : Echo) → is_sooner firsts from e f ≡ (nat_lt (rank e) (rank f) || (nat_eq (rank e) (rank f) && nat_lt e.source f.source))
  is_later e f = later (rank e) (rank f) e.source f.source

  pub itself : (e : Echo) → is_sooner firsts from e e ≡ false
  itself e = is_later e e ∙ grind (arith, nat_tests)

  pub trans : (e f g : Echo) → is_sooner firsts from e f ≡ true → is_sooner firsts from f g ≡ true → is_sooner firsts from e g ≡ true
  trans e f g one other = is_later e g ∙ ordered (rank e) (rank f) (rank g) e.source f.source g.source (sym (is_later e f) ∙ one) (sym (is_later f g) ∙ other)

  other_way : (e f : Echo) → (e.source ≡ f.source → ⊥) → is_sooner firsts from e f ≡ false → is_sooner firsts from f e ≡ true
  other_way e f ne not_later = is_later f e ∙ one_way (rank e) (rank f) e.source f.source ne (sym (is_later e f) ∙ not_later)

-- ---- how many

abbrev pub many : (Echo → Bool) → List Echo → ℕ
many p [] = 0
many p (e ∷ es) = cond (p e) (1 + many p es) (many p es)

pub counts : (p : Echo → Bool) (es : List Echo) → many p es ≡ count_by p es
counts p es = is_count_by (many p) p refl (λ e es. refl) es

abbrev pub IsIn : Echo → List Echo → Type 0
IsIn x [] = ⊥
IsIn x (e ∷ es) = (e ≡ x) ⊎ IsIn x es

abbrev pub AreOthers : List Echo → Type 0
AreOthers [] = Unit {0}
AreOthers (e ∷ es) = ((x : Echo) → IsIn x es → x.source ≡ e.source → ⊥) × AreOthers es

pub grows : (p q : Echo → Bool) → ((e : Echo) → p e ≡ true → q e ≡ true) → (es : List Echo) → many p es ≤ many q es
grows p q more [] = omega arith
grows p q more (e ∷ es) = by (p e) (q e) refl refl (grows p q more es) where
  by : (a b : Bool) → p e ≡ a → q e ≡ b → many p es ≤ many q es → cond a (1 + many p es) (many p es) ≤ cond b (1 + many q es) (many q es)
  by true true f g rest = omega arith
  by true false f g rest = absurd (true≢false (sym (more e f) ∙ g))
  by false true f g rest = omega arith
  by false false f g rest = rest

grows_by : (p q : Echo → Bool) → ((e : Echo) → p e ≡ true → q e ≡ true) → (x : Echo) → p x ≡ false → q x ≡ true → (es : List Echo) → IsIn x es → many p es + 1 ≤ many q es
grows_by p q more x fails passes_it [] here = absurd here
grows_by p q more x fails passes_it (e ∷ es) here = by (p e) (q e) refl refl here (grows p q more es) (grows_by p q more x fails passes_it es) where
  by : (a b : Bool) → p e ≡ a → q e ≡ b → (e ≡ x) ⊎ IsIn x es → many p es ≤ many q es → (IsIn x es → many p es + 1 ≤ many q es) → cond a (1 + many p es) (many p es) + 1 ≤ cond b (1 + many q es) (many q es)
  by true false f g there all rest = absurd (true≢false (sym (more e f) ∙ g))
  by true true f g (inl same) all rest = absurd (true≢false (sym f ∙ ap p same ∙ fails))
  by true true f g (inr there) all rest = let r = rest there in omega (arith, r)
  by false true f g there all rest = omega (arith, all)
  by false false f g (inl same) all rest = absurd (true≢false (sym passes_it ∙ sym (ap q same) ∙ g))
  by false false f g (inr there) all rest = rest there

module _ (firsts : List Echo) (from : ℕ) where
  record HasLast (es : List Echo) : Type 0 where
    last : Echo
    among : IsIn last es
    count : length es ≤ many (λ e. is_sooner firsts from e last) es + 1

  last_step : (e f : Echo) (es : List Echo) → ((x : Echo) → IsIn x (f ∷ es) → x.source ≡ e.source → ⊥) → (g : HasLast (f ∷ es)) → (b : Bool) → is_sooner firsts from e g.last ≡ b → HasLast (e ∷ f ∷ es)
  last_step e f es others g true l = record {
    last = g.last;
    among = inr g.among;
    count = let c = g.count in let all : many (λ x. is_sooner firsts from x g.last) (e ∷ f ∷ es) ≡ 1 + many (λ x. is_sooner firsts from x g.last) (f ∷ es) = ap (λ (b : Bool). cond b (1 + many (λ x. is_sooner firsts from x g.last) (f ∷ es)) (many (λ x. is_sooner firsts from x g.last) (f ∷ es))) l in omega (arith, c, all);
  }
  last_step e f es others g false l = record {
    last = e;
    among = inl refl;
    count =
        let before = other_way firsts from e g.last (λ same. others g.last g.among (sym same)) l in
        let more = grows_by (λ x. is_sooner firsts from x g.last) (λ x. is_sooner firsts from x e) (λ x h. trans firsts from x g.last e h before) g.last (itself firsts from g.last) before (f ∷ es) g.among in
        let none : many (λ x. is_sooner firsts from x e) (e ∷ f ∷ es) ≡ many (λ x. is_sooner firsts from x e) (f ∷ es) = ap (λ (b : Bool). cond b (1 + many (λ x. is_sooner firsts from x e) (f ∷ es)) (many (λ x. is_sooner firsts from x e) (f ∷ es))) (itself firsts from e) in
        let c = g.count in
        omega (arith, c, more, none);
  }

  last_of : (e : Echo) (es : List Echo) → AreOthers (e ∷ es) → HasLast (e ∷ es)
  last_of e [] others = record { last = e; among = inl refl; count = omega arith }
  last_of e (f ∷ es) others = let g = last_of f es others.1 in last_step e f es others.0 g (is_sooner firsts from e g.last) refl

-- ---- those that pass a test

module _ (test : Echo → Bool) where
  pub passes : (x : Echo) (es : List Echo) → IsIn x (filter test es) → IsIn x es × (test x ≡ true)
  passes x [] here = absurd here
  passes x (e ∷ es) here = by (test e) refl here (passes x es) where
    by : (b : Bool) → test e ≡ b → IsIn x (cond b (e ∷ filter test es) (filter test es)) → (IsIn x (filter test es) → IsIn x es × (test x ≡ true)) → ((e ≡ x) ⊎ IsIn x es) × (test x ≡ true)
    by true t (inl same) rest = (inl same, sym (ap test same) ∙ t)
    by true t (inr there) rest = (inr (rest there).0, (rest there).1)
    by false f there rest = (inr (rest there).0, (rest there).1)

  fewer : (p : Echo → Bool) (es : List Echo) → many p (filter test es) ≤ many p es
  fewer p [] = omega arith
  fewer p (e ∷ es) = by (test e) (p e) refl (fewer p es) where
    by : (a b : Bool) → p e ≡ b → many p (filter test es) ≤ many p es → many p (cond a (e ∷ filter test es) (filter test es)) ≤ cond b (1 + many p es) (many p es)
    by true true t rest = let here : many p (e ∷ filter test es) ≡ 1 + many p (filter test es) = ap (λ (b : Bool). cond b (1 + many p (filter test es)) (many p (filter test es))) t in omega (arith, here, rest)
    by true false t rest = let here : many p (e ∷ filter test es) ≡ many p (filter test es) = ap (λ (b : Bool). cond b (1 + many p (filter test es)) (many p (filter test es))) t in omega (arith, here, rest)
    by false true t rest = omega (arith, rest)
    by false false t rest = rest

  pub still_others : (es : List Echo) → AreOthers es → AreOthers (filter test es)
  still_others [] others = tt
  still_others (e ∷ es) others = by (test e) (still_others es others.1) where
    by : (b : Bool) → AreOthers (filter test es) → AreOthers (cond b (e ∷ filter test es) (filter test es))
    by true rest = ((λ x here same. others.0 x (passes x es here).0 same), rest)
    by false rest = rest

-- ---- senders ascend

at_place : (x : Echo) (es : List Echo) (d : Echo) → IsIn x es → (k : ℕ) × (k < length es) × (get_or es k d ≡ x)
at_place x [] d here = absurd here
at_place x (e ∷ es) d (inl same) = (0, omega arith, same)
at_place x (e ∷ es) d (inr there) = let p = at_place x es d there in let lt = p.1 in (suc p.0, omega (arith, lt), p.2)

pub others_from : (es : List Echo) → AllPairs (λ (a b : Echo). a.source < b.source) es → AreOthers es
others_from [] rise = tt
others_from (e ∷ es) rise = (
  (λ x here same. let p = at_place x es e here in let lt = p.1 in let up = rise 0 (suc p.0) e (omega arith) (omega (arith, lt)) in let is : (get_or es p.0 e).source ≡ e.source = ap (λ (y : Echo). y.source) p.2 ∙ same in omega (arith, up, is)),
  others_from es (λ i j d lt within. rise (suc i) (suc j) d (omega (arith, lt)) (omega (arith, within))),
)

-- ---- the laws

pub few : (firsts : List Echo) (from most : ℕ) (es : List Echo) → AreOthers es → length (soonest firsts from most es) ≤ most
few firsts from most es others = by (filter test es) (still_others test es others) (λ x here. (passes test x es here).1) (λ p. fewer test p es) where
  test : Echo → Bool
  test e = nat_lt (count_by (λ f. is_sooner firsts from f e) es) most

  by : (some : List Echo) → AreOthers some → ((x : Echo) → IsIn x some → test x ≡ true) → ((p : Echo → Bool) → many p some ≤ many p es) → length some ≤ most
  by [] apart pass within = omega arith
  by (e ∷ some) apart pass within =
      let g = last_of firsts from e some apart in
      let c = g.count in
      let lt = ltb-true _ _ (pass g.last g.among) in
      let same = counts (λ f. is_sooner firsts from f g.last) es in
      let w = within (λ f. is_sooner firsts from f g.last) in
      omega (arith, c, lt, same, w)

pub slices_are_short : SlicesAreShort
slices_are_short told marks = let few = length-take 64 (filter (λ (m : MarkValue). is_untold told m.source) marks) in omega arith

pub reports_are_small : ReportsAreSmall
reports_are_small told marks known from echoes lawful =
    let a = slices_are_short told marks in
    let b = few (firsts_of known from echoes) from 32 echoes (others_from echoes lawful.ascending) in
    omega (arith, a, b)
