-- What a pass knows while it reads or stores a row.
use Rattle.std.proofs.lemmas.Grind.{common_steps}
use Rattle.wb_history.specs.Sizes.{row_words}
use Rattle.std.proofs.Common.{◌≡◌, ◌≢◌, ℕ, ◌+◌, ◌-◌, ◌≤◌, List, [], ◌∷◌, ◌++◌, length, take, set, refl, sym, ap, ◌∙◌, arith, length-set, length-take-le}
use Rattle.std.proofs.lemmas.List.{take_more_set}
use mathlib.Core.Option.{some}
use lib.ListN.{get_elem?}
use Rattle.wb_history.specs.declared.knowledge.Knowledge.{Knowledge}
use Rattle.wb_names.specs.Values.{DrawopValue}
use Rattle.wb_codec.specs.Rows.{row}
use Rattle.wb_history.specs.Lawful.{Owns, Remembers}
use Rattle.wb_history.specs.Views.{after_drawop, IsRead}
use Rattle.atomic_table.proofs.Lists.{at_set}
use Rattle.wb_history.proofs.Lists.{at_nothing, once_nothing}

take_all : (xs : List ℕ) → take (length xs) xs ≡ xs
take_all [] = refl
take_all (x ∷ xs) = λ i. x ∷ take_all xs i

-- inside no call nothing is remembered
pub nothing_remembered : (cells : ℕ) (words rows : List ℕ) (seen : ℕ) (free : List ℕ) → Remembers cells words rows seen free 0 [] []
nothing_remembered cells words rows seen free = grind (arith, common_steps)

-- what is so of the pass that took a step, and of all others, is so of all
pub seats : (P : ℕ → Knowledge → Type 0) (vs : List Knowledge) (me : ℕ) (w : Knowledge) → P me w → ((j : ℕ) (u : Knowledge) → j ≢ me → get_elem? vs j ≡ some u → P j u)
    → (j : ℕ) (u : Knowledge) → get_elem? (set vs me w) j ≡ some u → P j u
seats P vs me w mine others j u e = grind (arith, common_steps, at_set)

-- what a pass owns, where its own rows stay its own and it gains none that a cell names
pub owns_still : (cells : ℕ) (rows : List ℕ) (owner owner' : ℕ → ℕ) (j seen : ℕ) (free mine : List ℕ) → ((q : ℕ) → owner q ≡ j → owner' q ≡ j) → ((p q : ℕ) → get_elem? rows p ≡ some q → owner' q ≡ j → owner q ≡ j)
    → Owns cells rows owner j seen free mine → Owns cells rows owner' j seen free mine
owns_still cells rows owner owner' j seen free mine keeps gains o = record {
  free_is = λ i q e. let f = o.free_is i q e in (f.0, keeps q f.1, f.2);
  free_once = o.free_once;
  mine_is = λ i p e. let f = o.mine_is i p e in (f.0, λ q x. keeps q (f.1 q x));
  mine_once = o.mine_once;
  mine_all = λ p q e owned. o.mine_all p q e (gains p q e owned);
}

-- a pass owns nothing, where no row that a cell names is its own
pub owns_nothing : (cells : ℕ) (rows : List ℕ) (owner : ℕ → ℕ) (j seen : ℕ) → ((p q : ℕ) → get_elem? rows p ≡ some q → owner q ≡ j → ⊥) → Owns cells rows owner j seen [] []
owns_nothing cells rows owner j seen none = grind (arith, common_steps, at_nothing, once_nothing)

-- the view w after these words were read
pub record ReadSo (v : Knowledge) (words : List ℕ) (w : Knowledge) : Type 0 where
  pub cells : w.cells ≡ v.cells
  pub seen : w.seen ≡ v.seen
  pub mine : w.mine ≡ v.mine
  pub free : w.free ≡ v.free
  pub stored : w.stored ≡ v.stored
  pub looking : w.looking ≡ v.looking
  pub read : w.read ≡ words
  pub made : w.made ≡ v.made + length words

pub last_free : (free free' : List ℕ) (r : ℕ) → free' ≡ free → get_elem? free (length free - 1) ≡ some r → get_elem? free' (length free' - 1) ≡ some r
last_free free free' r same at = grind (arith, common_steps)

pub length-some : (l words : List ℕ) (i : ℕ) → l ≡ take i words → i ≤ length words → length l ≡ i
length-some l words i e h = ap length e ∙ length-take-le i words h

-- the last word was read, and the words are the record of d
pub read_row_is : (w : Knowledge) (words : List ℕ) (found : ℕ) (d : DrawopValue) (i : ℕ) → i + 1 ≡ row_words → length words ≡ row_words → w.read ≡ take i words → row d ≡ w.read ++ found ∷ [] → row d ≡ set words (row_words - 1) found
read_row_is w words found d i last long is e =
    let back : i ≡ row_words - 1 = omega arith in
    let all : take (i + 1) (set words i found) ≡ set words i found = ap (λ n. take n (set words i found)) (last ∙ sym (length-set words i found ∙ long)) ∙ take_all (set words i found) in
    e ∙ (ap (λ (l : List ℕ). l ++ found ∷ []) is ∙ (sym (take_more_set words i found (omega arith)) ∙ (all ∙ ap (λ n. set words n found) back)))

pub read_all : (v w w' : Knowledge) (word found : ℕ) (words : List ℕ) (i : ℕ) (d : DrawopValue) → i + 1 ≡ row_words → length words ≡ row_words → ReadSo v (take i words) w → w' ≡ after_drawop w d word found → IsRead v d w'
read_all v w w' word found words i d i_is long s e = grind (arith, common_steps)
