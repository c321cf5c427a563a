-- What stands in a map once a value was put at a key, and once it was put back.
use Rattle.std.proofs.Common.{◌≡◌, ℕ, Bool, true, false, cond, Option, Some, None, List, [], ◌∷◌, length, refl, ap, ◌∙◌, sym, arith, eqb-true}
use Rattle.std.specs.Prelude.{IsSome, is_some, is_err, OnErr, OnOk, Result, Ok, Err}
use Rattle.wb_keeper.specs.Keeping.{KeeperValue}
use Rattle.wb_keeper.specs.declared.keeper.Heard.{Heard}
use Rattle.wb_names.proofs.Orders.{nat_ties}
use Rattle.std.specs.Ordering.{nat_cmp, is_eq, match_ordering}
use Rattle.std.specs.BTreeMap.{is_at, insert_entry}
use Rattle.std.specs.Map.{keys_of, lookup, remove_entry}
use Rattle.std.specs.declared.cmp.Ordering.{Ordering}
use Rattle.std.specs.declared.cmp.Ordering.TheVariants.{Less, Equal, Greater}
use Rattle.wb_gaps.proofs.Starts.{nat_itself}
use Rattle.wb_keeper.specs.TakingIn.{restored}

cond_twice : {X : Type 0} (b : Bool) (x y z : X) → cond b x z ≡ cond b x (cond b y z)
cond_twice true x y z = refl
cond_twice false x y z = refl

cond_swap : {X : Type 0} (a b : Bool) (x y z : X) → (a ≡ true → b ≡ true → ⊥) → cond a x (cond b y z) ≡ cond b y (cond a x z)
cond_swap true true x y z apart = absurd (apart refl refl)
cond_swap true false x y z apart = refl
cond_swap false true x y z apart = refl
cond_swap false false x y z apart = refl

module _ {K X : Type 0} (cmp : K → K → Ordering) (one : (a b : K) → is_eq (cmp a b) ≡ true → a ≡ b) (here : (a : K) → cmp a a ≡ Equal) (k : K) (v : X) where
  -- what is found once v was put at k
  pub lookup_put : (q : K) (es : List (K × X)) → lookup (is_at (cmp q)) (insert_entry cmp es k v) ≡ cond (is_at (cmp q) k) (Some v) (lookup (is_at (cmp q)) es)
  lookup_put q [] = refl
  lookup_put q (e ∷ es) = step (lookup_put q es) (cmp k e.0) refl where
    step : lookup (is_at (cmp q)) (insert_entry cmp es k v) ≡ cond (is_at (cmp q) k) (Some v) (lookup (is_at (cmp q)) es) → (o : Ordering) → cmp k e.0 ≡ o → lookup (is_at (cmp q)) (match_ordering o ((k, v) ∷ e ∷ es) ((e.0, v) ∷ es) (e ∷ insert_entry cmp es k v)) ≡ cond (is_at (cmp q) k) (Some v) (cond (is_at (cmp q) e.0) (Some e.1) (lookup (is_at (cmp q)) es))
    step rest Less f = refl
    step rest Equal f = cond_twice (is_at (cmp q) e.0) (Some v) (Some e.1) (lookup (is_at (cmp q)) es) ∙ ap (λ (j : K). cond (is_at (cmp q) j) (Some v) (cond (is_at (cmp q) e.0) (Some e.1) (lookup (is_at (cmp q)) es))) (sym (one k e.0 (ap is_eq f)))
    step rest Greater f = ap (λ (r : Option X). cond (is_at (cmp q) e.0) (Some e.1) r) rest
        ∙ cond_swap (is_at (cmp q) e.0) (is_at (cmp q) k) (Some e.1) (Some v) (lookup (is_at (cmp q)) es) (λ a b. let c : cmp k e.0 ≡ Equal = ap (cmp k) (sym (one q e.0 a) ∙ one q k b) ∙ here k in cc)

  -- and taken out again, if nothing stood there
  pub remove_put : (es : List (K × X)) → lookup (is_at (cmp k)) es ≡ None → remove_entry (is_at (cmp k)) (insert_entry cmp es k v) ≡ es
  remove_put [] none = ap (λ (o : Ordering). cond (is_eq o) [] ((k, v) ∷ [])) (here k)
  remove_put (e ∷ es) none = step (remove_put es) (cmp k e.0) refl where
    step : (lookup (is_at (cmp k)) es ≡ None → remove_entry (is_at (cmp k)) (insert_entry cmp es k v) ≡ es) → (o : Ordering) → cmp k e.0 ≡ o → remove_entry (is_at (cmp k)) (match_ordering o ((k, v) ∷ e ∷ es) ((e.0, v) ∷ es) (e ∷ insert_entry cmp es k v)) ≡ e ∷ es
    step more Less f = ap (λ (o : Ordering). cond (is_eq o) (e ∷ es) ((k, v) ∷ remove_entry (is_at (cmp k)) (e ∷ es))) (here k)
    step more Equal f = let g : Some e.1 ≡ None = ap (λ (o : Ordering). cond (is_eq o) (Some e.1) (lookup (is_at (cmp k)) es)) (sym f) ∙ none in cc
    step more Greater f =
        let rest : lookup (is_at (cmp k)) es ≡ None = ap (λ (o : Ordering). cond (is_eq o) (Some e.1) (lookup (is_at (cmp k)) es)) (sym f) ∙ none in
        ap (λ (o : Ordering). cond (is_eq o) (insert_entry cmp es k v) (e ∷ remove_entry (is_at (cmp k)) (insert_entry cmp es k v))) f ∙ ap (λ (xs : List (K × X)). e ∷ xs) (more rest)

  -- and what stood there put back
  pub put_back : (w : X) (es : List (K × X)) → keys_of (insert_entry cmp es k v) ≡ keys_of es → lookup (is_at (cmp k)) es ≡ Some w → insert_entry cmp (insert_entry cmp es k v) k w ≡ es
  put_back w [] keys found = cc
  put_back w (e ∷ es) keys found = step (put_back w es) (cmp k e.0) refl keys where
    step : (keys_of (insert_entry cmp es k v) ≡ keys_of es → lookup (is_at (cmp k)) es ≡ Some w → insert_entry cmp (insert_entry cmp es k v) k w ≡ es) → (o : Ordering) → cmp k e.0 ≡ o → keys_of (match_ordering o ((k, v) ∷ e ∷ es) ((e.0, v) ∷ es) (e ∷ insert_entry cmp es k v)) ≡ e.0 ∷ keys_of es
        → insert_entry cmp (match_ordering o ((k, v) ∷ e ∷ es) ((e.0, v) ∷ es) (e ∷ insert_entry cmp es k v)) k w ≡ e ∷ es
    step more Less f same = let n = ap length same in absurd (omega arith)
    step more Equal f same =
        let g : Some e.1 ≡ Some w = ap (λ (o : Ordering). cond (is_eq o) (Some e.1) (lookup (is_at (cmp k)) es)) (sym f) ∙ found in
        let is : e.1 ≡ w = cc in
        ap (λ (o : Ordering). match_ordering o ((k, w) ∷ (e.0, v) ∷ es) ((e.0, w) ∷ es) ((e.0, v) ∷ insert_entry cmp es k w)) f ∙ ap (λ (x : X). (e.0, x) ∷ es) (sym is)
    step more Greater f same =
        let rest : lookup (is_at (cmp k)) es ≡ Some w = ap (λ (o : Ordering). cond (is_eq o) (Some e.1) (lookup (is_at (cmp k)) es)) (sym f) ∙ found in
        let tail : keys_of (insert_entry cmp es k v) ≡ keys_of es = cc in
        ap (λ (o : Ordering). match_ordering o ((k, w) ∷ e ∷ insert_entry cmp es k v) ((e.0, w) ∷ insert_entry cmp es k v) (e ∷ insert_entry cmp (insert_entry cmp es k v) k w)) f ∙ ap (λ (xs : List (K × X)). e ∷ xs) (more tail rest)

-- what was put at a key of a map by number is put back
module _ (one : (a b : ℕ) → is_eq (nat_cmp a b) ≡ true → a ≡ b) (here : (a : ℕ) → nat_cmp a a ≡ Equal) where
  restored_at : {X : Type 0} (k : ℕ) (v : X) (before : Option X) (es : List (ℕ × X)) → before ≡ lookup (is_at (nat_cmp k)) es → ((w : X) → before ≡ Some w → keys_of (insert_entry nat_cmp es k v) ≡ keys_of es) → restored k before (insert_entry nat_cmp es k v) ≡ es
  restored_at k v None es is keys = remove_put nat_cmp one here k v es (sym is)
  restored_at k v (Some w) es is keys = put_back nat_cmp one here k v w es (keys w refl) (sym is)

pub nat_one : (a b : ℕ) → is_eq (nat_cmp a b) ≡ true → a ≡ b
nat_one a b e = eqb-true a b (nat_ties a b ∙ e)

pub put_back_at : {X : Type 0} (k : ℕ) (v : X) (before : Option X) (es : List (ℕ × X)) → before ≡ lookup (is_at (nat_cmp k)) es → (IsSome before → keys_of (insert_entry nat_cmp es k v) ≡ keys_of es) → restored k before (insert_entry nat_cmp es k v) ≡ es
put_back_at {X} k v before es is keys = restored_at nat_one nat_itself k v before es is (λ w e. keys (ap is_some e))

pub on_is_err : {X E : Type 0} (r : Result X E) (P : Type 0) → is_err r ≡ true → OnErr r P → P
on_is_err (Ok x) P e p = cc
on_is_err (Err x) P e p = p

-- what was put into the heard session messages, or the delays, of a keeper is put back
module _ (i2 i0 : KeeperValue) (sender : ℕ) where
  pub heard_again : (h : Heard) (before : Option Heard) (put back : List (ℕ × Heard)) → i2 ≡ record i0 { heard = put } → put ≡ insert_entry nat_cmp i0.heard sender h → before ≡ lookup (is_at (nat_cmp sender)) i0.heard → (IsSome before → keys_of put ≡ keys_of i0.heard) → back ≡ restored sender before i2.heard → back ≡ i0.heard
  heard_again h before put back same is found keys restores =
      restores ∙ ap (λ (v : KeeperValue). restored sender before v.heard) same ∙ ap (restored sender before) is ∙ put_back_at sender h before i0.heard found (λ some. sym (ap keys_of is) ∙ keys some)

  pub keeper_again : (now : KeeperValue) (put back : List (ℕ × Heard)) → i2 ≡ record i0 { heard = put } → i0 ≡ now → back ≡ i0.heard → record i2 { heard = back } ≡ now
  keeper_again now put back same is again = ap (λ (v : KeeperValue). record v { heard = back }) same ∙ ap (λ (hs : List (ℕ × Heard)). record i0 { heard = hs }) again ∙ is

  pub delays_again : (d : ℕ) (before : Option ℕ) (put back : List (ℕ × ℕ)) → i2 ≡ record i0 { delays = put } → put ≡ insert_entry nat_cmp i0.delays sender d → before ≡ lookup (is_at (nat_cmp sender)) i0.delays → (IsSome before → keys_of put ≡ keys_of i0.delays) → back ≡ restored sender before i2.delays → back ≡ i0.delays
  delays_again d before put back same is found keys restores =
      restores ∙ ap (λ (v : KeeperValue). restored sender before v.delays) same ∙ ap (restored sender before) is ∙ put_back_at sender d before i0.delays found (λ some. sym (ap keys_of is) ∙ keys some)

  pub keeper_delays_again : (now : KeeperValue) (put back : List (ℕ × ℕ)) → i2 ≡ record i0 { delays = put } → i0 ≡ now → back ≡ i0.delays → record i2 { delays = back } ≡ now
  keeper_delays_again now put back same is again = ap (λ (v : KeeperValue). record v { delays = back }) same ∙ ap (λ (ds : List (ℕ × ℕ)). record i0 { delays = ds }) again ∙ is

pub on_ok_so : {X E : Type 0} (r : Result X E) (P Q : Type 0) → (P → Q) → OnOk r P → OnOk r Q
on_ok_so (Ok x) P Q f p = f p
on_ok_so (Err x) P Q f p = p

pub on_ok_both : {X E : Type 0} (r : Result X E) (P Q S : Type 0) → (P → Q → S) → OnOk r P → OnOk r Q → OnOk r S
on_ok_both (Ok x) P Q S f p q = f p q
on_ok_both (Err x) P Q S f p q = p
