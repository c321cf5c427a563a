-- The time of a drawing, found drawop by drawop.
use Rattle.std.proofs.Common.{◌≡◌, ℕ, ◌+◌, ◌-◌, ◌^◌, Bool, true, false, cond, List, [], ◌∷◌, ◌++◌, ◌∙◌, ap, append-nil, arith, refl, sym}
use Rattle.std.specs.Prelude.{filter, map, max, min}
use Rattle.std.proofs.lemmas.List.{map-append}
use Rattle.std.proofs.lemmas.List.Elements.{filter-append}
use Rattle.wb_names.specs.Values.{DrawopValue}
use Rattle.wb_names.specs.declared.name.PageId.{PageId}
use Rattle.wb_keeping.specs.Drawings.{after_all, drawing_time, is_near, later}

after_all-more : (times : List ℕ) (time : ℕ) → after_all (times ++ time ∷ []) ≡ max (after_all times) (time + 1)
after_all-more [] time = omega arith
after_all-more (t ∷ times) time = let rest = after_all-more times time in omega arith

bound : (latest time all last at : ℕ) → latest ≡ min (max time all) (2 ^ 64 - 1) → last ≡ max all (at + 1) → max latest (min (at + 1) (2 ^ 64 - 1)) ≡ min (max time last) (2 ^ 64 - 1)
bound latest time all last at is more = omega arith

module _ (page : PageId) (time : ℕ) where
  abbrev near : List DrawopValue → List DrawopValue
  near list = filter (is_near page time) list

  -- a drawop near it
  one_near : (list : List DrawopValue) (d : DrawopValue) (latest : ℕ) → is_near page time d ≡ true → latest ≡ drawing_time list page time → max latest (min (d.time + 1) (2 ^ 64 - 1)) ≡ drawing_time (list ++ d ∷ []) page time
  one_near list d latest here is =
      let kept : near (list ++ d ∷ []) ≡ near list ++ d ∷ [] = filter-append (is_near page time) list (d ∷ []) ∙ ap (λ (b : Bool). near list ++ cond b (d ∷ []) []) here in
      let times : map (λ (e : DrawopValue). e.time) (near (list ++ d ∷ [])) ≡ map (λ (e : DrawopValue). e.time) (near list) ++ d.time ∷ [] = ap (map (λ (e : DrawopValue). e.time)) kept ∙ map-append (λ (e : DrawopValue). e.time) (near list) (d ∷ []) in
      let last : after_all (map (λ (e : DrawopValue). e.time) (near (list ++ d ∷ []))) ≡ max (after_all (map (λ (e : DrawopValue). e.time) (near list))) (d.time + 1) = ap after_all times ∙ after_all-more (map (λ (e : DrawopValue). e.time) (near list)) d.time in
      bound _ _ _ _ _ is last

  -- any other
  one_far : (list : List DrawopValue) (d : DrawopValue) (latest : ℕ) → is_near page time d ≡ false → latest ≡ drawing_time list page time → latest ≡ drawing_time (list ++ d ∷ []) page time
  one_far list d latest far is =
      let kept : near (list ++ d ∷ []) ≡ near list = filter-append (is_near page time) list (d ∷ []) ∙ ap (λ (b : Bool). near list ++ cond b (d ∷ []) []) far ∙ append-nil _ in
      is ∙ sym (ap (λ (ds : List DrawopValue). min (max time (after_all (map (λ (e : DrawopValue). e.time) ds))) (2 ^ 64 - 1)) kept)

  -- one drawop more
  pub one_more : (list : List DrawopValue) (d : DrawopValue) (latest : ℕ) → latest ≡ drawing_time list page time → later page time latest d ≡ drawing_time (list ++ d ∷ []) page time
  one_more list d latest is = elim (is_near page time d) as (λ b. is_near page time d ≡ b → cond b (max latest (min (d.time + 1) (2 ^ 64 - 1))) latest ≡ drawing_time (list ++ d ∷ []) page time) [
    | true ↦ λ here. one_near list d latest here is
    | false ↦ λ far. one_far list d latest far is
  ] refl
