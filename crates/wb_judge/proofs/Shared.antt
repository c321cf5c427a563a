-- The share of strangers.
use Rattle.std.proofs.Common.{◌≡◌, ◌⊎◌, ◌∙◌, ◌≤◌, ◌<◌, ◌+◌, ℕ, Bool, true, false, cond, List, [], ◌∷◌, ◌++◌, Option, None, ap, arith, filter, get_or, inl, inr, length, refl, sym, true≢false}
use Rattle.std.proofs.lemmas.Bool.Decides.{nat_tests}
use Rattle.std.proofs.lemmas.List.{length-append}
use Rattle.std.proofs.lemmas.List.Folds.{list_any_at}
use Rattle.std.proofs.lemmas.List.Quantifiers.{all_pairs_push}
use Rattle.std.specs.Prelude.{Some, ◌&&◌, nat_lt, not}
use Rattle.wb_names.specs.Orders.{same_name}
use Rattle.wb_names.specs.Values.{NameValue}
use Rattle.wb_judge.specs.Judging.{after_coming, after_judging}
use Rattle.wb_judge.specs.Laws.{NamesCountOnce, StandOnce, StaysStrange, VouchesForNobody, is_answer, speaker_in}
use Rattle.wb_judge.specs.Shares.{Shares}
use Rattle.wb_judge.specs.Strange.{has_name, is_given_by, is_there, with_given, with_one, without_origin}
use Rattle.wb_judge.specs.declared.origin.Origin.{Origin}
use Rattle.wb_judge.specs.declared.strange.Given.{Given}
use Rattle.wb_judge.proofs.Outcome.{Heard, Same, outcome}
use Rattle.wb_judge.proofs.Sameness.{same_origins}
use Rattle.wb_judge.proofs.Sizes.{filter_length}

-- what is filtered twice
twice : {X : Type 0} (p : X → Bool) (xs : List X) → filter p (filter p xs) ≡ filter p xs
twice p [] = refl
twice {X} p (x ∷ xs) = by (p x) refl (twice p xs) where
  kept : (b : Bool) → p x ≡ b → b ≡ true → filter p (filter p xs) ≡ filter p xs → cond (p x) (x ∷ filter p (filter p xs)) (filter p (filter p xs)) ≡ x ∷ filter p xs
  kept b is e more = ap (λ c. cond c (x ∷ filter p (filter p xs)) (filter p (filter p xs))) (is ∙ e) ∙ ap (λ ys. x ∷ ys) more

  by : (b : Bool) → p x ≡ b → filter p (filter p xs) ≡ filter p xs → filter p (cond b (x ∷ filter p xs) (filter p xs)) ≡ cond b (x ∷ filter p xs) (filter p xs)
  by true is more = kept true is refl more
  by false is more = more

taken_out : (o : Origin) (answer : Bool) (s : Shares) → filter (λ g. not (is_given_by o g)) (cond answer (without_origin o s) s).given ≡ filter (λ g. not (is_given_by o g)) s.given
unfolding without_origin
taken_out o true s = twice (λ (g : Given). not (is_given_by o g)) s.given
taken_out o false s = refl

pub vouches_for_nobody : VouchesForNobody
vouches_for_nobody o v f j = by (outcome o v f (after_coming o f.at j)) where
  by : Same (after_coming o f.at j) (after_judging o v f j) ⊎ Heard o (speaker_in v) (is_answer v f.at j) f.at (after_coming o f.at j) (after_judging o v f j)
      → filter (λ g. not (is_given_by o g)) (after_judging o v f j).strange.given ≡ filter (λ g. not (is_given_by o g)) j.strange.given
  by (inl s) = ap (λ (t : Shares). filter (λ g. not (is_given_by o g)) t.given) s.strange
  by (inr h) = ap (λ (t : Shares). filter (λ g. not (is_given_by o g)) t.given) h.strange ∙ taken_out o (is_answer v f.at j) j.strange

pub stays_strange : StaysStrange
stays_strange o v f j absent = by (outcome o v f (after_coming o f.at j)) where
  by : Same (after_coming o f.at j) (after_judging o v f j) ⊎ Heard o (speaker_in v) (is_answer v f.at j) f.at (after_coming o f.at j) (after_judging o v f j) → (after_judging o v f j).strange ≡ j.strange
  by (inl s) = s.strange
  by (inr h) = h.strange ∙ ap (λ b. cond b (without_origin o j.strange) j.strange) absent

-- ---- a name counts once

other_name : (name : NameValue) (given : List Given) → has_name name given ≡ false → (k : ℕ) (d : Given) → k < length given → same_name (get_or given k d).name name ≡ false
other_name name given absent k d within = by (same_name (get_or given k d).name name) refl where
  by : (b : Bool) → same_name (get_or given k d).name name ≡ b → b ≡ false
  by true is = absurd (true≢false (sym (list_any_at (λ (g : Given). same_name g.name name) given k d within is) ∙ absent))
  by false is = refl

pub names_count_once : NamesCountOnce
unfolding with_given
names_count_once g j once = by (has_name g.name j.strange.given) refl where
  more : (b : Bool) → has_name g.name j.strange.given ≡ false → StandOnce (cond b (j.strange.given ++ g ∷ []) j.strange.given)
  more true absent = all_pairs_push (λ a b. same_name a.name b.name ≡ false) j.strange.given g once (other_name g.name j.strange.given absent)
  more false absent = once

  by : (b : Bool) → has_name g.name j.strange.given ≡ b → StandOnce (cond b j.strange (record j.strange { given = with_one j.strange.most g j.strange.given })).given
  by true is = once
  by false is = more (nat_lt (length j.strange.given) j.strange.most) is

-- ---- how much is taken in

-- how many of these origins' drawops count
abbrev pub is_by : (Origin → Bool) → Option Origin → Bool
is_by some None = false
is_by some (Some o) = some o

abbrev pub of_some : (Origin → Bool) → Given → Bool
of_some some g = is_by some g.origin

abbrev pub count_of : (Origin → Bool) → Shares → ℕ
count_of some s = length (filter (of_some some) s.given)

pub few_count : (some : Origin → Bool) (s : Shares) → count_of some s ≤ length s.given
few_count some s = filter_length (of_some some) s.given

filter_last : {X : Type 0} (p : X → Bool) (xs : List X) (x : X) → filter p (xs ++ x ∷ []) ≡ filter p xs ++ cond (p x) (x ∷ []) []
filter_last p [] x = refl
filter_last {X} p (y ∷ ys) x = by (p y) (filter_last p ys x) where
  by : (b : Bool) → filter p (ys ++ x ∷ []) ≡ filter p ys ++ cond (p x) (x ∷ []) [] → cond b (y ∷ filter p (ys ++ x ∷ [])) (filter p (ys ++ x ∷ [])) ≡ cond b (y ∷ filter p ys) (filter p ys) ++ cond (p x) (x ∷ []) []
  by true more = ap (λ zs. y ∷ zs) more
  by false more = more

last_count : (some : Origin → Bool) (g : Given) (xs : List Given) → length (filter (of_some some) (xs ++ g ∷ [])) ≡ length (filter (of_some some) xs) + cond (of_some some g) 1 0
last_count some g xs = ap length (filter_last (of_some some) xs g) ∙ length-append (filter (of_some some) xs) (cond (of_some some g) (g ∷ []) []) ∙ ap (λ n. length (filter (of_some some) xs) + n) (by (of_some some g)) where
  by : (b : Bool) → length (cond b (g ∷ []) []) ≡ cond b 1 0
  by true = refl
  by false = refl

-- one more is held, or was held already
pub count_grows : (some : Origin → Bool) (g : Given) (s : Shares) → count_of some s ≤ count_of some (with_given g s)
unfolding with_given
count_grows some g s = by (has_name g.name s.given) where
  more : (b : Bool) → length (filter (of_some some) s.given) ≤ length (filter (of_some some) (cond b (s.given ++ g ∷ []) s.given))
  more true = omega (arith, last_count some g s.given)
  more false = omega arith

  by : (b : Bool) → count_of some s ≤ count_of some (cond b s (record s { given = with_one s.most g s.given }))
  by true = omega arith
  by false = more (nat_lt (length s.given) s.most)

-- a name that is new, of one of these origins, and for which there is room
pub one_more_counts : (some : Origin → Bool) (g : Given) (s : Shares) → of_some some g ≡ true → has_name g.name s.given ≡ false → length s.given < s.most → count_of some (with_given g s) ≡ count_of some s + 1
unfolding with_given
one_more_counts some g s one new room = by (has_name g.name s.given) (nat_lt (length s.given) s.most) new (grind (arith, nat_tests)) where
  by : (b c : Bool) → b ≡ false → c ≡ true → length (filter (of_some some) (cond b s (record s { given = cond c (s.given ++ g ∷ []) s.given })).given) ≡ count_of some s + 1
  by true c e f = absurd (true≢false e)
  by false false e f = absurd (true≢false (sym f))
  by false true e f = last_count some g s.given ∙ ap (λ b. length (filter (of_some some) s.given) + cond b 1 0) one

-- An origin that is none of these answers: what these gave stays.
others_stay : (some : Origin → Bool) (o : Origin) → some o ≡ false → (g : Given) → is_given_by o g ≡ true → of_some some g ≡ false
others_stay some o none g given = by g.origin given where
  by : (from : Option Origin) → is_there o from ≡ true → is_by some from ≡ false
  by None e = refl
  by (Some p) e = ap some (same_origins p o e) ∙ none

filter_without : {X : Type 0} (p q : X → Bool) → ((x : X) → q x ≡ true → p x ≡ false) → (xs : List X) → filter p (filter (λ x. not (q x)) xs) ≡ filter p xs
filter_without p q apart [] = refl
filter_without {X} p q apart (x ∷ xs) = by (q x) (p x) refl refl (filter_without p q apart xs) where
  by : (b c : Bool) → q x ≡ b → p x ≡ c → filter p (filter (λ x. not (q x)) xs) ≡ filter p xs → filter p (cond (not b) (x ∷ filter (λ x. not (q x)) xs) (filter (λ x. not (q x)) xs)) ≡ cond c (x ∷ filter p xs) (filter p xs)
  by true true e f more = absurd (true≢false (sym f ∙ apart x e))
  by true false e f more = more
  by false c e f more = ap (λ b. cond b (x ∷ filter p (filter (λ x. not (q x)) xs)) (filter p (filter (λ x. not (q x)) xs))) f ∙ ap (λ ys. cond c (x ∷ ys) ys) more

pub stays_counted : (some : Origin → Bool) (o : Origin) (answer : Bool) (s : Shares) → (some o && answer) ≡ false → count_of some (cond answer (without_origin o s) s) ≡ count_of some s
unfolding without_origin
stays_counted some o false s silent = refl
stays_counted some o true s silent = ap length (filter_without (of_some some) (is_given_by o) (others_stay some o (left_of (some o) silent)) s.given) where
  left_of : (b : Bool) → (b && true) ≡ false → b ≡ false
  left_of true e = absurd (true≢false e)
  left_of false e = refl
