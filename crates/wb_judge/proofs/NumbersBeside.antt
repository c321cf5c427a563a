-- While members speak, the numbers that were heard stay where they speak.
use Rattle.std.proofs.Common.{◌≡◌, ◌∙◌, ◌≤◌, ◌<◌, ℕ, Bool, true, false, cond, List, [], ◌∷◌, ◌++◌, ap, arith, filter, length, refl, subst, sym, true≢false, ⊎_elim}
use Rattle.std.specs.Prelude.{◌||◌, Option, IfSome, None, Some, nat_eq, nat_lt, not}
use Rattle.std.specs.Option.{option_or}
use Rattle.std.specs.List.{find, list_any, remove}
use Rattle.std.proofs.lemmas.Bool.{eqb-true}
use Rattle.std.proofs.lemmas.Bool.Decides.{nat_tests}
use Rattle.std.proofs.lemmas.List.Folds.{find-append}
use Rattle.wb_codec.specs.declared.datagram.Datagram.{Datagram}
use Rattle.wb_codec.specs.declared.datagram.Datagram.TheVariants.{AskPages, Draw, PageState, Request, Session}
use Rattle.wb_judge.specs.Judge.{Judge}
use Rattle.wb_judge.specs.Judging.{after_coming, after_judging, is_heard}
use Rattle.wb_judge.specs.Laws.{is_answer, speaker_in}
use Rattle.wb_judge.specs.Members.{IsSpoken, NumbersBeside}
use Rattle.wb_judge.specs.Origins.{same_origin}
use Rattle.wb_judge.specs.Others.{first_to_go, other_of, other_with, with_place_for, without}
use Rattle.wb_judge.specs.declared.limits.TheConstants.{MOST_OTHERS}
use Rattle.wb_judge.specs.declared.origin.Origin.{Origin}
use Rattle.wb_judge.specs.declared.others.Other.{Other}
use Rattle.wb_judge.proofs.MembersStay.{fewer}
use Rattle.wb_judge.proofs.Outcome.{Heard, Same, outcome}
use Rattle.wb_judge.proofs.Sameness.{same_origins}

abbrev has : ℕ → Other → Bool
has n x = nat_eq x.number n

-- who is looked for stays, if others go
pub find_kept : {X : Type 0} (q p : X → Bool) → ((x : X) → q x ≡ true → p x ≡ true) → (xs : List X) → find q (filter p xs) ≡ find q xs
find_kept q p so [] = refl
find_kept {X} q p so (x ∷ xs) = by (p x) refl (q x) refl (find_kept q p so xs) where
  by : (b : Bool) → p x ≡ b → (c : Bool) → q x ≡ c → find q (filter p xs) ≡ find q xs → find q (cond b (x ∷ filter p xs) (filter p xs)) ≡ cond c (Some x) (find q xs)
  by true is true at rest = ap (λ (d : Bool). cond d (Some x) (find q (filter p xs))) at
  by true is false at rest = ap (λ (d : Bool). cond d (Some x) (find q (filter p xs))) at ∙ rest
  by false is true at rest = absurd (true≢false (sym (so x at) ∙ is))
  by false is false at rest = rest

find_gone : {X : Type 0} (q p : X → Bool) → ((x : X) → q x ≡ true → p x ≡ false) → (xs : List X) → find q (filter p xs) ≡ None
find_gone q p so [] = refl
find_gone {X} q p so (x ∷ xs) = by (p x) refl (q x) refl (find_gone q p so xs) where
  by : (b : Bool) → p x ≡ b → (c : Bool) → q x ≡ c → find q (filter p xs) ≡ None → find q (cond b (x ∷ filter p xs) (filter p xs)) ≡ None
  by true is true at rest = absurd (true≢false (sym is ∙ so x at))
  by true is false at rest = ap (λ (d : Bool). cond d (Some x) (find q (filter p xs))) at ∙ rest
  by false is c at rest = rest

-- there was one to take out
some_found : {X : Type 0} (q : X → Bool) (xs : List X) → (find q xs ≡ None → ⊥) → list_any (λ x. not (not (q x))) xs ≡ true
some_found q [] some = absurd (some refl)
some_found {X} q (x ∷ xs) some = by (q x) some (some_found q xs) where
  by : (b : Bool) → (cond b (Some x) (find q xs) ≡ None → ⊥) → ((find q xs ≡ None → ⊥) → list_any (λ x. not (not (q x))) xs ≡ true) → (not (not b) || list_any (λ x. not (not (q x))) xs) ≡ true
  by true some rest = refl
  by false some rest = rest some

heard_found : (o : Origin) (x : Option Other) → is_heard o false x ≡ true → x ≡ None → ⊥
heard_found o x e none = true≢false (sym e ∙ ap (is_heard o false) none)

-- ---- one more is heard

-- it has a place, as its number had
place_there : (o : Origin) (s : ℕ) (others : List Other) → length others ≤ MOST_OTHERS → is_heard o false (other_of s others) ≡ true → with_place_for (without s others) ≡ without s others
place_there o s others few e = ap (λ (b : Bool). cond b (without s others) (remove (without s others) (first_to_go (without s others)))) (room (fewer (λ (x : Other). not (has s x)) others (some_found (has s) others (heard_found o (other_of s others) e)))) where
  room : length (without s others) < length others → nat_lt (length (without s others)) MOST_OTHERS ≡ true
  room less = grind (arith, nat_tests)

-- who is looked for is the one that is heard, or another as before
pub found_after : (n : ℕ) (x : Other) (others : List Other) → find (has n) (without x.number others ++ x ∷ []) ≡ cond (has n x) (Some x) (other_of n others)
found_after n x others = find-append (has n) (without x.number others) (x ∷ []) ∙ by (nat_eq x.number n) refl where
  is_other : nat_eq x.number n ≡ false → (y : Other) → has n y ≡ true → not (nat_eq y.number x.number) ≡ true
  is_other apart y at = grind (arith, nat_tests)

  is_it : nat_eq x.number n ≡ true → (y : Other) → has n y ≡ true → not (nat_eq y.number x.number) ≡ false
  is_it same y at = grind (arith, nat_tests)

  as_before : (found : Option Other) → option_or found None ≡ found
  as_before None = refl
  as_before (Some y) = refl

  by : (b : Bool) → nat_eq x.number n ≡ b → option_or (find (has n) (without x.number others)) (cond b (Some x) None) ≡ cond b (Some x) (other_of n others)
  by true is = ap (λ (found : Option Other). option_or found (Some x)) (find_gone (has n) (λ (y : Other). not (nat_eq y.number x.number)) (is_it is) others)
  by false is = as_before (find (has n) (without x.number others)) ∙ find_kept (has n) (λ (y : Other). not (nat_eq y.number x.number)) (is_other is) others

-- two origins from which one number was heard are one
one_origin : (o p : Origin) (x : Option Other) → is_heard o false x ≡ true → is_heard p false x ≡ true → o ≡ p
one_origin o p None e f = absurd (true≢false (sym e))
one_origin o p (Some x) e f = sym (same_origins x.origin o e) ∙ same_origins x.origin p f

heard_still : (o p : Origin) (n : ℕ) (x : Other) (others : List Other) → length others ≤ MOST_OTHERS → same_origin x.origin o ≡ true → is_heard o false (other_of x.number others) ≡ true
    → is_heard p false (other_of n others) ≡ true → is_heard p false (other_of n (other_with x others)) ≡ true
unfolding other_with
heard_still o p n x others few there speaks e =
    ap (λ (xs : List Other). is_heard p false (find (has n) (xs ++ x ∷ []))) (place_there o x.number others few speaks)
    ∙ ap (is_heard p false) (found_after n x others) ∙ by (nat_eq x.number n) refl where
      by : (b : Bool) → nat_eq x.number n ≡ b → is_heard p false (cond b (Some x) (other_of n others)) ≡ true
      by true is =
          let same = one_origin o p (other_of n others) (subst (λ (m : ℕ). is_heard o false (other_of m others) ≡ true) (eqb-true x.number n is) speaks) e in
          subst (λ (q : Origin). same_origin x.origin q ≡ true) same there
      by false is = e

speaks_so : (o : Origin) (v : Datagram) (j : Judge) (number : ℕ) → IsSpoken o v j → speaker_in v ≡ Some number → is_heard o false (other_of number j.others) ≡ true
speaks_so o (Draw d) j number spoken is = absurd cc
speaks_so o (Session s sent page marks echoes) j number spoken is = subst (λ (n : Option ℕ). IfSome n (λ m. is_heard o false (other_of m j.others) ≡ true)) is spoken.heard
speaks_so o (Request asker name) j number spoken is = absurd cc
speaks_so o (AskPages asker) j number spoken is = absurd cc
speaks_so o (PageState s page marks) j number spoken is = subst (λ (n : Option ℕ). IfSome n (λ m. is_heard o false (other_of m j.others) ≡ true)) is spoken.heard

pub numbers_beside : NumbersBeside
numbers_beside o p v f j number bounded spoken e = ⊎_elim
    (λ (s : Same (after_coming o f.at j) (after_judging o v f j)). ap (λ (xs : List Other). is_heard p false (other_of number xs)) s.others ∙ e)
    (λ (h : Heard o (speaker_in v) (is_answer v f.at j) f.at (after_coming o f.at j) (after_judging o v f j)).
    ap (λ (xs : List Other). is_heard p false (other_of number xs)) h.others.1
    ∙ heard_still o p number h.others.0 j.others bounded.others h.others.2 (speaks_so o v j h.others.0.number spoken h.others.3) e)
    (outcome o v f (after_coming o f.at j))
