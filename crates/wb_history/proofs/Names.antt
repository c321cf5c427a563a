-- The index of names tells the places of drawops.
use Rattle.std.proofs.lemmas.Grind.{common_steps}
use Rattle.std.proofs.Common.{◌≡◌, ℕ, ◌<◌, ◌≤◌, Bool, true, false, List, [], ◌∷◌, ◌++◌, map, length, get_or, sym, ap, ◌∙◌, subst, arith, Option}
use Rattle.std.specs.Prelude.{MatchOption, nat_eq, ◌&&◌, if◌then◌else◌}
use Rattle.std.specs.List.{position, position_or_len, list_any}
use Rattle.std.proofs.lemmas.Bool.{false_from_ne_true, cases_lt, cond_below, cond_above}
use Rattle.std.proofs.lemmas.Bool.Decides.{nat_tests}
use Rattle.std.proofs.lemmas.List.{map-append, length-map}
use Rattle.std.proofs.lemmas.List.Sums.{passes_at_first, fails_before_first}
use Rattle.std.proofs.lemmas.List.Folds.{list_any_none}
use Rattle.indexmap.specs.IndexSet.{insert_key}
use mathlib.Core.Option.{some}
use lib.ListN.{get_elem?}
use Rattle.atomic_table.proofs.Lists.{at_map}
use Rattle.wb_names.specs.Values.{NameValue, DrawopValue}
use Rattle.wb_names.specs.Orders.{same_page}
use Rattle.wb_names.proofs.Orders.{same_name-is}
use Rattle.wb_names.specs.History.{HoldsName}
use Rattle.wb_history.proofs.Lists.{at-lt, at_same, at_some, at_read}
use Rattle.wb_history.proofs.Words.{drawop_named, named_at}

abbrev names : List DrawopValue → List NameValue
names l = map (λ d. d.name) l

-- the test that names derive
abbrev pub alike : NameValue → NameValue → Bool
alike m n = nat_eq m.source n.source && (same_page m.page n.page && nat_eq m.seq n.seq)

alike_here : (n : NameValue) → alike n n ≡ true
alike_here n = grind (arith, nat_tests)

alike_same : (a b c : Bool) → (a && (b && c)) ≡ true → ((a && b) && c) ≡ true
alike_same true b c e = e
alike_same false b c e = cc

alike-is : (m n : NameValue) → alike m n ≡ true → m ≡ n
alike-is m n e = grind (arith, common_steps, same_name-is, alike_same)

apart : true ≡ false → ⊥
apart e = cc

abbrev Found : List DrawopValue → NameValue → ℕ → Type 0
Found l n i = (i < length l) × (d : DrawopValue) × (get_elem? l i ≡ some d) × (d.name ≡ n)

module _ (n : NameValue) (l : List DrawopValue) where
  abbrev first : ℕ
  first = position_or_len (alike n) (names l)

  found : first < length (names l) → Found l n first
  found h =
      let long = length-map l (λ d. d.name) in
      let m = at_some l first (omega arith) in
      let there = at_map (λ (d : DrawopValue). d.name) l first m.0 m.1 in
      let read = at_read (names l) first n h in
      let is = alike-is n (get_or (names l) first n) (passes_at_first (alike n) (names l) n h) in
      ((omega arith), m.0, m.1, at_same (names l) first m.0.name (get_or (names l) first n) there read ∙ sym is)

  lacks : length (names l) ≤ first → HoldsName l n → ⊥
  lacks h held =
      let t = named_at l n held in
      let p = t.0 in
      let d = t.1 in
      let there = at_map (λ (e : DrawopValue). e.name) l p d t.2 in
      let inside = at-lt (names l) p d.name there in
      let read = at_read (names l) p n inside in
      let is = at_same (names l) p d.name (get_or (names l) p n) there read in
      let fails = fails_before_first (alike n) (names l) p n (omega arith) in
      apart (sym (subst (λ (m : NameValue). alike n m ≡ true) (sym t.3 ∙ is) (alike_here n)) ∙ fails)

  pub place_found : (keys : List NameValue) (r : Option ℕ) → keys ≡ names l → r ≡ position (alike n) keys → MatchOption r (HoldsName l n → ⊥) (Found l n)
  place_found keys r indexed is = grind (arith, common_steps, cond_below, found, cond_above, lacks, cases_lt)

-- a new name goes to the end of the index
pub put_name : (l l' : List DrawopValue) (d : DrawopValue) (keys keys' : List NameValue) → (HoldsName l d.name → ⊥) → keys ≡ names l → l' ≡ l ++ d ∷ [] → keys' ≡ insert_key alike keys d.name → keys' ≡ names l'
put_name l l' d keys keys' absent indexed put inserted =
    let none : list_any (alike d.name) (names l) ≡ false = list_any_none (alike d.name) (names l) (λ k e h. differs k e h) in
    inserted ∙ (ap (λ (ks : List NameValue). insert_key alike ks d.name) indexed
    ∙ (ap (λ (b : Bool). if b then names l else (names l ++ d.name ∷ [])) none ∙ (sym (map-append (λ (e : DrawopValue). e.name) l (d ∷ [])) ∙ sym (ap names put))))
  where
    differs : (k : ℕ) (e : NameValue) → k < length (names l) → alike d.name (get_or (names l) k e) ≡ false
    differs k e h = false_from_ne_true (alike d.name (get_or (names l) k e)) (λ same.
        let long = length-map l (λ e. e.name) in
        let m = at_some l k (omega arith) in
        let there = at_map (λ (f : DrawopValue). f.name) l k m.0 m.1 in
        absurd (absent (drawop_named l d.name k m.0 m.1 (at_same (names l) k m.0.name (get_or (names l) k e) there (at_read (names l) k e h) ∙ sym (alike-is d.name (get_or (names l) k e) same)))))
