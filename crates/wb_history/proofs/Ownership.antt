-- A split and a join keep the rule.
use Rattle.std.proofs.lemmas.Grind.{common_steps}
use Rattle.std.proofs.Common.{◌≡◌, ◌≢◌, ◌⊎◌, ℕ, zero, suc, ◌+◌, ◌-◌, ◌≤◌, eqb, Bool, cond, List, [], ◌∷◌, length, get_or, set, drop, refl, sym, ap, ◌∙◌, subst, inl, inr, ⊎_elim, arith, length-append, length-set, eq-eqb, ne_eqb}
use mathlib.Core.Logic.{dite}
use mathlib.Core.Option.{some, some-injective}
use native.Mathlib.Decide.{ℕ_discrete}
use lib.ListN.{get_elem?}
use Rattle.std.proofs.lemmas.Bool.{cases_lt, cond_below, cond_above}
use Rattle.atomic_table.specs.Table.{Splits, Joins}
use Rattle.atomic_table.proofs.Lists.{at_set}
use Rattle.wb_history.specs.declared.knowledge.Knowledge.{Knowledge}
use Rattle.wb_names.specs.Values.{DrawopValue}
use mathlib.Core.List.{IsPrefix}
use Rattle.wb_history.specs.Lists.{longer, shorter}
use Rattle.std.proofs.lemmas.List.Elements.{Contains-append_left, Contains-append_right}
use Rattle.wb_history.specs.Views.{left_part, right_part, united, spent}
use Rattle.wb_history.specs.Lawful.{Knows, Lawful}
use Rattle.wb_history.proofs.Rows.{nothing_remembered, seats, owns_still, owns_nothing}
use Rattle.wb_history.proofs.Lists.{at-lt, at_nothing, at_append, at_end, at_take, at_drop, once_nothing, once_append, once_take, once_drop, starts-le, at_read}

-- the rows of a list go to another pass
given : List ℕ → ℕ → (ℕ → ℕ) → ℕ → ℕ
given [] new owner r = owner r
given (x ∷ xs) new owner r = cond (eqb r x) new (given xs new owner r)

given_cases : (xs : List ℕ) (new : ℕ) (owner : ℕ → ℕ) (r : ℕ) → (((i : ℕ) × (get_elem? xs i ≡ some r)) × (given xs new owner r ≡ new)) ⊎ (((i : ℕ) → get_elem? xs i ≡ some r → ⊥) × (given xs new owner r ≡ owner r))
unfolding given
given_cases [] new owner r = inr ((λ i e. at_nothing i r e), refl)
given_cases (x ∷ xs) new owner r = dite (ℕ_discrete r x)
    (λ is. inl ((0, ap some (sym is)), ap (λ (b : Bool). cond b new (given xs new owner r)) (eq-eqb r x is)))
    (λ other. let step = ap (λ (b : Bool). cond b new (given xs new owner r)) (ne_eqb r x other) in
    ⊎_elim (λ t. inl ((suc t.0.0, t.0.1), step ∙ t.1)) (λ t. inr (not_here t.0 other, step ∙ t.1)) (given_cases xs new owner r))
  where
    not_here : ((i : ℕ) → get_elem? xs i ≡ some r → ⊥) → r ≢ x → (i : ℕ) → get_elem? (x ∷ xs) i ≡ some r → ⊥
    not_here off other zero e = other (sym (some-injective x r e))
    not_here off other (suc i) e = off i e

pub splits : (cells id n : ℕ) (v : Knowledge) → Splits (Lawful cells) id v (left_part n v) (right_part n v)
splits cells id n v s r at =
    let known = r.each_pass id v at in
    let keep = length v.free - n in
    let gone = drop keep v.free in
    let new = length s.views in
    let owner' = given gone new r.owner in
    let is_gone : (i q : ℕ) → get_elem? gone i ≡ some q → get_elem? v.free (keep + i) ≡ some q = λ i q h. at_drop keep v.free i q h in
    let not_published : (i q : ℕ) → get_elem? gone i ≡ some q → (p : ℕ) → get_elem? r.rows p ≡ some q → ⊥ = λ i q h p e. (known.free_is (keep + i) q (is_gone i q h)).2 p e in
    let row_same : (p q : ℕ) → get_elem? r.rows p ≡ some q → owner' q ≡ r.owner q = λ p q e. ⊎_elim (λ t. absurd (not_published t.0.0 q t.0.1 p e)) (λ t. t.1) (given_cases gone new r.owner q) in
    let gone_own : (i q : ℕ) → get_elem? gone i ≡ some q → r.owner q ≡ id = λ i q h. (known.free_is (keep + i) q (is_gone i q h)).1 in
    let wide : length (set s.views id (left_part n v)) ≡ new = length-set s.views id (left_part n v) in
    let left : Knows cells s.words r.log r.rows owner' id (left_part n v) = record {
      sees = known.sees;
      owns = record {
        free_is = λ i q e. let t = at_take keep v.free i q e in let f = known.free_is i q t.1 in let lt = t.0 in
            (f.0, ⊎_elim (λ g. let same = known.free_once i (keep + g.0.0) q t.1 (at_drop keep v.free g.0.0 q g.0.1) in absurd (omega arith)) (λ g. g.1 ∙ f.1) (given_cases gone new r.owner q), f.2);
        free_once = once_take keep v.free known.free_once;
        mine_is = λ i p e. let f = known.mine_is i p e in (f.0, λ q h. row_same p q h ∙ f.1 q h);
        mine_once = known.mine_once;
        mine_all = λ p q e owned. known.mine_all p q e (sym (row_same p q e) ∙ owned);
      };
      remembers = nothing_remembered _ _ _ _ _;
    } in
    let right : Knows cells s.words r.log r.rows owner' new (right_part n v) = record {
      sees = record { sized = known.sized; begins = known.begins; joined_begins = (r.log, refl) };
      owns = record {
        free_is = λ i q e. let f = known.free_is (keep + i) q (at_drop keep v.free i q e) in (f.0, ⊎_elim (λ g. g.1) (λ g. absurd (g.0 i e)) (given_cases gone new r.owner q), f.2);
        free_once = once_drop keep v.free known.free_once;
        mine_is = λ i p e. absurd (at_nothing i p e);
        mine_once = once_nothing;
        mine_all = λ p q e owned. let a = r.seated q in let b = sym (row_same p q e) ∙ owned in absurd (omega arith);
      };
      remembers = nothing_remembered _ _ _ _ _;
    } in
    let others : (j : ℕ) (u : Knowledge) → j ≢ id → Knows cells s.words r.log r.rows r.owner j u → Knows cells s.words r.log r.rows owner' j u = λ j u other k. record {
      sees = k.sees;
      owns = owns_still cells r.rows r.owner owner' j (length u.seen) u.free u.mine
          (λ q own. ⊎_elim (λ g. absurd (other (sym own ∙ gone_own g.0.0 q g.0.1))) (λ g. g.1 ∙ own) (given_cases gone new r.owner q)) (λ p q e owned. sym (row_same p q e) ∙ owned) k.owns;
      remembers = k.remembers;
    } in record {
      log = r.log;
      rows = r.rows;
      owner = owner';
      history = r.history;
      seated = λ q. let a = r.seated q in let l = length-append (set s.views id (left_part n v)) (right_part n v ∷ []) in
          ⊎_elim (λ g. let e = g.1 in omega arith) (λ g. let e = g.1 in omega arith) (given_cases gone new r.owner q);
      each_pass = λ j u e. ⊎_elim (seats (Knows cells s.words r.log r.rows owner') s.views id (left_part n v) left (λ j u ne at. others j u ne (r.each_pass j u at)) j u)
          (λ t. subst (λ (x : ℕ × Knowledge). Knows cells s.words r.log r.rows owner' x.0 x.1) (λ i. (sym (t.0 ∙ wide) i, t.1 i)) right)
          (at_end (set s.views id (left_part n v)) (right_part n v) j u e);
    }

pub longer_cases : {A : Type 0} (xs ys : List A) → ((longer xs ys ≡ xs) × (length ys ≤ length xs)) ⊎ ((longer xs ys ≡ ys) × (length xs ≤ length ys))
longer_cases xs ys = grind (arith, common_steps, cond_below, cond_above, cases_lt)

pub shorter_of : {A : Type 0} (P : List A → Type 0) (xs ys : List A) → P xs → P ys → P (shorter xs ys)
shorter_of P xs ys p q = grind (arith, common_steps, cond_below, cond_above, cases_lt)

-- the rows of one pass go to another
moved : ℕ → ℕ → (ℕ → ℕ) → ℕ → ℕ
moved from to owner r = cond (eqb (owner r) from) to (owner r)

moved_cases : (from to : ℕ) (owner : ℕ → ℕ) (r : ℕ) → ((owner r ≡ from) × (moved from to owner r ≡ to)) ⊎ ((owner r ≢ from) × (moved from to owner r ≡ owner r))
unfolding moved
moved_cases from to owner r = grind (arith, common_steps, eq-eqb, ne_eqb)

pub joins : (cells id : ℕ) (v : Knowledge) (other : ℕ) (w : Knowledge) → Joins (Lawful cells) id v other w (united v w) spent
joins cells id v other w s r at apart at_other =
    let both = united v w in
    let known = r.each_pass id v at in
    let at_w : get_elem? s.views other ≡ some w = ⊎_elim (λ (t : (other ≡ id) × (both ≡ w)). absurd (apart t.0)) (λ (t : (other ≢ id) × (get_elem? s.views other ≡ some w)). t.1) (at_set s.views id other both w at_other) in
    let known_w = r.each_pass other w at_w in
    let owner' = moved other id r.owner in
    let cases = moved_cases other id r.owner in
    let few_v = starts-le r.log v.seen known.begins in
    let few_w = starts-le r.log w.seen known_w.begins in
    let long = r.long in
    let more_v : length v.seen ≤ length (longer v.seen w.seen) = ⊎_elim (λ t. let e = ap length t.0 in omega arith) (λ t. let e = ap length t.0 in let l = t.1 in omega arith) (longer_cases v.seen w.seen) in
    let more_w : length w.seen ≤ length (longer v.seen w.seen) = ⊎_elim (λ t. let e = ap length t.0 in let l = t.1 in omega arith) (λ t. let e = ap length t.0 in omega arith) (longer_cases v.seen w.seen) in
    let now_own : (q : ℕ) → r.owner q ≡ id → owner' q ≡ id = λ q own. ⊎_elim (λ t. t.1) (λ t. t.1 ∙ own) (cases q) in
    let now_own' : (q : ℕ) → r.owner q ≡ other → owner' q ≡ id = λ q own. ⊎_elim (λ t. t.1) (λ t. absurd (t.0 own)) (cases q) in
    let mine : Knows cells s.words r.log r.rows owner' id both = record {
      sees = record {
        sized = known.sized;
        begins = ⊎_elim (λ t. subst (λ (l : List DrawopValue). IsPrefix l r.log) (sym t.0) known.begins) (λ t. subst (λ (l : List DrawopValue). IsPrefix l r.log) (sym t.0) known_w.begins) (longer_cases v.seen w.seen);
        joined_begins = shorter_of (λ (l : List DrawopValue). IsPrefix l r.log) v.seen w.seen known.begins known_w.begins;
      };
      owns = record {
        free_is = λ i q e. ⊎_elim (λ h. let f = known.free_is i q h in (f.0, now_own q f.1, f.2)) (λ t. let f = known_w.free_is t.0 q t.2 in (f.0, now_own' q f.1, f.2)) (at_append v.free w.free i q e);
        free_once = once_append v.free w.free known.free_once known_w.free_once (λ i k q x y. apart (sym (known_w.free_is k q y).1 ∙ (known.free_is i q x).1));
        mine_is = λ i p e. ⊎_elim (λ h. let f = known.mine_is i p h in let l = f.0 in ((omega arith), λ q x. now_own q (f.1 q x)))
            (λ t. let f = known_w.mine_is t.0 p t.2 in let l = f.0 in ((omega arith), λ q x. now_own' q (f.1 q x))) (at_append v.mine w.mine i p e);
        mine_once = once_append v.mine w.mine known.mine_once known_w.mine_once (λ i k p x y.
            let f = known.mine_is i p x in let g = known_w.mine_is k p y in let l = f.0 in let here = at_read r.rows p 0 (omega arith) in apart (sym (g.1 (get_or r.rows p 0) here) ∙ f.1 (get_or r.rows p 0) here));
        mine_all = λ p q e owned. ⊎_elim (λ t. Contains-append_right v.mine w.mine p (known_w.mine_all p q e t.0)) (λ t. Contains-append_left v.mine w.mine p (known.mine_all p q e (sym t.1 ∙ owned))) (cases q);
      };
      remembers = nothing_remembered _ _ _ _ _;
    } in
    let gone : Knows cells s.words r.log r.rows owner' other spent = record {
      sees = record { sized = λ h. absurd (omega arith); begins = (r.log, refl); joined_begins = (r.log, refl) };
      owns = owns_nothing cells r.rows owner' other 0 (λ p q e owned. ⊎_elim (λ t. apart (sym owned ∙ t.1)) (λ t. t.0 (sym t.1 ∙ owned)) (cases q));
      remembers = nothing_remembered _ _ _ _ _;
    } in
    let others : (j : ℕ) (u : Knowledge) → j ≢ id → j ≢ other → Knows cells s.words r.log r.rows r.owner j u → Knows cells s.words r.log r.rows owner' j u = λ j u ne ne' k. record {
      sees = k.sees;
      owns = owns_still cells r.rows r.owner owner' j (length u.seen) u.free u.mine
          (λ q own. ⊎_elim (λ t. absurd (ne' (sym own ∙ t.0))) (λ t. t.1 ∙ own) (cases q)) (λ p q e owned. ⊎_elim (λ t. absurd (ne (sym owned ∙ t.1))) (λ t. sym t.1 ∙ owned) (cases q)) k.owns;
      remembers = k.remembers;
    } in record {
      log = r.log;
      rows = r.rows;
      owner = owner';
      history = r.history;
      seated = λ q. let a = r.seated q in let in_list = at-lt s.views id v at in let l = length-set s.views id both in let l' = length-set (set s.views id both) other spent in
          ⊎_elim (λ t. let e = t.1 in omega arith) (λ t. let e = t.1 in omega arith) (cases q);
      each_pass = seats (Knows cells s.words r.log r.rows owner') (set s.views id both) other spent gone (λ j u ne at. ⊎_elim
          (λ (x : (j ≡ id) × (both ≡ u)). subst (λ (y : ℕ × Knowledge). Knows cells s.words r.log r.rows owner' y.0 y.1) (λ i. (sym x.0 i, x.1 i)) mine)
          (λ (x : (j ≢ id) × (get_elem? s.views j ≡ some u)). others j u x.0 ne (r.each_pass j u x.1)) (at_set s.views id j both u at));
    }
