-- An index of the names of a list, into which its names go one after another.
use Rattle.std.proofs.lemmas.Grind.{common_steps}
use Rattle.std.proofs.Common.{◌≡◌, ℕ, ◌<◌, ◌+◌, length, take, map, List, [], ◌∷◌, ◌++◌, get_or, refl, ap, ◌∙◌, sym, subst, arith}
use Rattle.std.specs.Prelude.{Bool, true, false, ◌&&◌, ◌||◌, nat_eq, not}
use Rattle.std.specs.List.{list_any}
use Rattle.std.proofs.lemmas.Bool.{not-true, not-false}
use Rattle.std.proofs.lemmas.Bool.Decides.{nat_tests}
use Rattle.std.proofs.lemmas.List.{take_more}
use Rattle.indexmap.specs.IndexSet.{insert_key}
use Rattle.wb_names.specs.Values.{NameValue, DrawopValue}
use Rattle.wb_names.specs.History.{IsHistory}
use Rattle.wb_names.specs.Orders.{same_page, same_name}
use Rattle.wb_display.specs.Layer.{holds_name}
use Rattle.wb_display.proofs.Layers.{names_more, named_twice}

-- the test that names derive
abbrev pub alike : NameValue → NameValue → Bool
alike m n = nat_eq m.source n.source && (same_page m.page n.page && nat_eq m.seq n.seq)

alike_same : (m n : NameValue) → alike m n ≡ same_name n m
alike_same m n = grind (arith, nat_tests)

abbrev pub names_of : List DrawopValue → List NameValue
names_of list = map (λ d. d.name) list

-- the index has a name exactly where a drawop of the list has it
known_name : (list : List DrawopValue) (n : NameValue) → list_any (alike n) (names_of list) ≡ holds_name list n
known_name [] n = refl
known_name (d ∷ ds) n = ap (λ (b : Bool). b || list_any (alike n) (names_of ds)) (alike_same n d.name) ∙ ap (λ (b : Bool). same_name d.name n || b) (known_name ds n)

-- `added` tells whether the index, which has the names before place i, did not have the one at place i
module _ (list : List DrawopValue) (i : ℕ) (d : DrawopValue) (n : NameValue) (keys : List NameValue) (added : Bool) (inside : i < length list) (here : d ≡ get_or list i d) (named : n ≡ d.name) (index : keys ≡ names_of (take i list)) (told : added ≡ not (list_any (alike n) keys)) where
  known_before : list_any (alike n) keys ≡ holds_name (take i list) d.name
  known_before = ap (list_any (alike n)) index ∙ known_name (take i list) n ∙ ap (holds_name (take i list)) named

  next : take (i + 1) list ≡ take i list ++ d ∷ []
  next = take_more list i d inside ∙ ap (λ (x : DrawopValue). take i list ++ x ∷ []) (sym here)

  pub stands_once : added ≡ true → IsHistory (take i list) → IsHistory (take (i + 1) list)
  stands_once new once = subst IsHistory (sym next) (names_more (take i list) d once (sym known_before ∙ not-true _ (sym told ∙ new)))

  pub index_more : added ≡ true → (keys' : List NameValue) → keys' ≡ insert_key alike keys n → keys' ≡ names_of (take (i + 1) list)
  index_more new keys' inserted = grind (arith, common_steps)

  pub stands_twice : added ≡ false → IsHistory list → ⊥
  stands_twice had names = named_twice list i d inside (sym here) (sym known_before ∙ not-false _ (sym told ∙ had)) names
