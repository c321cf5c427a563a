-- Lists of entries, read one after another.
use Rattle.std.proofs.Common.{◌≡◌, ℕ, suc, ◌+◌, ◌-◌, ◌<◌, ◌≤◌, true, List, [], ◌∷◌, ◌++◌, Option, Some, None, Result, Ok, Err, refl, sym, ap, subst, ◌∙◌, append_assoc, arith}
use Rattle.std.specs.Prelude.{All, AllPairs}
use Rattle.std.specs.Result.{is_ok}
use Rattle.std.proofs.lemmas.Bool.{ltb-true}
use Rattle.std.proofs.lemmas.List.Elements.{All-push}
use Rattle.std.proofs.lemmas.List.Quantifiers.{all_pairs_push}
use Rattle.std.proofs.lemmas.List.{append-nil}
use Rattle.wb_names.specs.Ascending.{is_above}
use Rattle.wb_codec.specs.declared.fault.ReadFault.{ReadFault}
use Rattle.wb_codec.specs.Reading.{◌>>=◌, list_at}
use Rattle.wb_codec.specs.Checked.{listed}

-- these entries before those that are still to be read
abbrev pub onto : {X : Type 0} → List X → Result (List X × List ℕ) ReadFault → Result (List X × List ℕ) ReadFault
onto xs r = r >>= λ read. Ok (xs ++ read.0, read.1)

pub onto_none : {X : Type 0} (r : Result (List X × List ℕ) ReadFault) → r ≡ onto [] r
onto_none (Ok (xs, rest)) = refl
onto_none (Err fault) = refl

onto_onto : {X : Type 0} (xs ys : List X) (r : Result (List X × List ℕ) ReadFault) → onto xs (onto ys r) ≡ onto (xs ++ ys) r
onto_onto xs ys (Ok (zs, rest)) = ap (λ (l : List _). Ok (l, rest)) (sym (append_assoc xs ys zs))
onto_onto xs ys (Err fault) = refl

module _ {X : Type 0} (entry_at : Option ℕ → List ℕ → Result (X × List ℕ) ReadFault) (source : X → ℕ) where
  -- what is left to read of n entries, of which k are read
  pub record HasRead (n : ℕ) (bytes : List ℕ) (k : ℕ) (before : Option ℕ) (rest : List ℕ) (xs : List X) : Type 0 where
    pub so_far : list_at entry_at source n None bytes ≡ onto xs (list_at entry_at source (n - k) before rest)

  pub read_none : (n : ℕ) (bytes : List ℕ) → HasRead n bytes 0 None bytes []
  read_none n bytes = let same : n - 0 ≡ n = omega arith in record { so_far = onto_none (list_at entry_at source n None bytes) ∙ ap (λ (m : ℕ). onto [] (list_at entry_at source m None bytes)) (sym same) }

  step : (n : ℕ) (before : Option ℕ) (rest after : List ℕ) (x : X) → entry_at before rest ≡ Ok (x, after) → list_at entry_at source (suc n) before rest ≡ onto (x ∷ []) (list_at entry_at source n (Some (source x)) after)
  unfolding list_at
  step n before rest after x e = rw e refl

  stop : (n : ℕ) (before : Option ℕ) (rest : List ℕ) (fault : ReadFault) → entry_at before rest ≡ Err fault → list_at entry_at source (suc n) before rest ≡ Err fault
  unfolding list_at
  stop n before rest fault e = rw e refl

  pub read_more : (n : ℕ) (bytes : List ℕ) (k : ℕ) (before : Option ℕ) (rest after : List ℕ) (xs : List X) (x : X) (ys : List X) (s : ℕ) → HasRead n bytes k before rest xs → k < n → entry_at before rest ≡ Ok (x, after) → ys ≡ xs ++ x ∷ [] → s ≡ source x → HasRead n bytes (k + 1) (Some s) after ys
  read_more n bytes k before rest after xs x ys s h lt e pushed is =
      let left : n - k ≡ suc (n - (k + 1)) = omega arith in
      let read : HasRead n bytes (k + 1) (Some (source x)) after (xs ++ x ∷ []) = record { so_far = h.so_far ∙ ap (λ (m : ℕ). onto xs (list_at entry_at source m before rest)) left ∙ ap (onto xs) (step (n - (k + 1)) before rest after x e) ∙ onto_onto xs (x ∷ []) (list_at entry_at source (n - (k + 1)) (Some (source x)) after) } in
      subst (λ (zs : List X). HasRead n bytes (k + 1) (Some s) after zs) (sym pushed) (subst (λ (t : ℕ). HasRead n bytes (k + 1) (Some t) after (xs ++ x ∷ [])) (sym is) read)

  pub read_stops : (n : ℕ) (bytes : List ℕ) (k : ℕ) (before : Option ℕ) (rest : List ℕ) (xs : List X) (fault : ReadFault) → HasRead n bytes k before rest xs → k < n → entry_at before rest ≡ Err fault → list_at entry_at source n None bytes ≡ Err fault
  read_stops n bytes k before rest xs fault h lt e =
      let left : n - k ≡ suc (n - (k + 1)) = omega arith in
      h.so_far ∙ ap (λ (m : ℕ). onto xs (list_at entry_at source m before rest)) left ∙ ap (onto xs) (stop (n - (k + 1)) before rest fault e)

  none_left : (before : Option ℕ) (rest : List ℕ) → list_at entry_at source 0 before rest ≡ Ok ([], rest)
  unfolding list_at
  none_left before rest = refl

  pub read_all : (n : ℕ) (bytes : List ℕ) (k : ℕ) (before : Option ℕ) (rest : List ℕ) (xs : List X) → HasRead n bytes k before rest xs → n ≤ k → list_at entry_at source n None bytes ≡ Ok (xs, rest)
  read_all n bytes k before rest xs h le =
      let left : n - k ≡ 0 = omega arith in
      h.so_far ∙ ap (λ (m : ℕ). onto xs (list_at entry_at source m before rest)) left ∙ ap (onto xs) (none_left before rest) ∙ ap (λ (l : List X). Ok (l, rest)) (append-nil xs)

  -- what is read is what is listed
  pub read_listed : (n : ℕ) (bytes rest : List ℕ) (xs : List X) → list_at entry_at source n None bytes ≡ Ok (xs, rest) → list_at entry_at source n None bytes ≡ Ok (listed (list_at entry_at source n None bytes), rest)
  read_listed n bytes rest xs e = e ∙ ap (λ (l : List X). Ok (l, rest)) (sym (ap listed e))

-- entries that passed every check pass them again
pub never_stops : {X : Type 0} (r : Result (List X × List ℕ) ReadFault) (fault : ReadFault) → is_ok r ≡ true → r ≡ Err fault → ⊥
never_stops (Ok p) fault ok e = cc
never_stops (Err f) fault ok e = cc

-- ---- the order of entries

module _ {X : Type 0} (source : X → ℕ) (IsPositive : X → Type 0) where
  -- these entries ascend, and the last one's source, if there is one, is this
  pub record Ascends (before : Option ℕ) (xs : List X) : Type 0 where
    pub ascending : AllPairs (λ a b. source a < source b) xs
    pub positive : All IsPositive xs
    pub below : (s : ℕ) → is_above before s ≡ true → All (λ a. source a < s) xs

  pub ascends_more : (before : Option ℕ) (xs : List X) (x : X) (ys : List X) (s : ℕ) → Ascends before xs → is_above before (source x) ≡ true → IsPositive x → ys ≡ xs ++ x ∷ [] → s ≡ source x → Ascends (Some s) ys
  ascends_more before xs x ys s a up p pushed is =
      let under : All (λ a. source a < source x) xs = a.below (source x) up in
      let more : Ascends (Some (source x)) (xs ++ x ∷ []) = record {
        ascending = all_pairs_push (λ (a b : X). source a < source b) xs x a.ascending under;
        positive = All-push IsPositive xs x a.positive p;
        below = λ t above. let lt = ltb-true (source x) t above in All-push (λ (a : X). source a < t) xs x (λ k d h. let l = under k d h in omega arith) lt;
      } in
      subst (λ (zs : List X). Ascends (Some s) zs) (sym pushed) (subst (λ (t : ℕ). Ascends (Some t) (xs ++ x ∷ [])) (sym is) more)
