-- While members speak, they stay known, and their numbers stay where they speak.
use Rattle.std.proofs.Common.{◌≡◌, ◌∙◌, ◌≤◌, ◌<◌, ◌+◌, ◌-◌, ℕ, Bool, true, false, cond, List, [], ◌∷◌, ◌++◌, ap, arith, drop, filter, length, refl, sym, true≢false, ⊎_elim}
use Rattle.std.specs.Prelude.{◌&&◌, ◌||◌, nat_le, nat_lt, not}
use Rattle.std.specs.List.{list_any}
use Rattle.std.proofs.lemmas.Bool.{and_from, and_parts}
use Rattle.std.proofs.lemmas.Bool.Decides.{nat_tests}
use Rattle.std.proofs.lemmas.List.Folds.{list_any-append}
use Rattle.std.proofs.lemmas.Map.Views.{any-filter_same}
use Rattle.wb_judge.specs.Judging.{after_coming, after_judging}
use Rattle.wb_judge.specs.Known.{is_known, known_from, left, renewed}
use Rattle.wb_judge.specs.Laws.{is_answer, speaker_in}
use Rattle.wb_judge.specs.Lists.{joined}
use Rattle.wb_judge.specs.Members.{KnownAgain, KnownBeside}
use Rattle.wb_judge.specs.Origins.{same_origin}
use Rattle.wb_judge.specs.declared.known.KnownOrigin.{KnownOrigin}
use Rattle.wb_judge.specs.declared.limits.TheConstants.{MOST_KNOWN, SILENCE}
use Rattle.wb_judge.specs.declared.origin.Origin.{Origin}
use Rattle.wb_judge.proofs.Anywhere.{any_last}
use Rattle.wb_judge.proofs.Bounds.{few_from}
use Rattle.wb_judge.proofs.Outcome.{Heard, Same, outcome}
use Rattle.wb_judge.proofs.Sameness.{same_itself, same_origins}
use Rattle.wb_judge.proofs.Sizes.{filter_length}

-- ---- entries that stay

-- one that is taken out leaves fewer
pub fewer : {X : Type 0} (p : X → Bool) (xs : List X) → list_any (λ x. not (p x)) xs ≡ true → length (filter p xs) < length xs
fewer p [] e = absurd (true≢false (sym e))
fewer {X} p (x ∷ xs) e = by (p x) e (fewer p xs) where
  by : (b : Bool) → (not b || list_any (λ x. not (p x)) xs) ≡ true → (list_any (λ x. not (p x)) xs ≡ true → length (filter p xs) < length xs) → length (cond b (x ∷ filter p xs) (filter p xs)) < length (x ∷ xs)
  by true f rest = let less = rest f in omega (arith, less)
  by false f rest = let less = filter_length p xs in omega (arith, less)

-- where there is a place, one more drives none out
beside_one : {X : Type 0} (q : X → Bool) (most : ℕ) (x : X) (xs : List X) → nat_lt (length xs) most ≡ true → list_any q xs ≡ true → list_any q (joined most x xs) ≡ true
beside_one {X} q most x xs room is =
    ap (λ (b : Bool). list_any q (cond b xs (drop 1 xs) ++ x ∷ [])) room ∙ list_any-append q xs (x ∷ []) ∙ ap (λ (b : Bool). b || (q x || false)) is

-- ---- origins that are known

again_at : (o : Origin) (at now : ℕ) (known : List KnownOrigin) → now ≤ at + SILENCE → is_known o now (known_from o at known) ≡ true
unfolding is_known known_from
again_at o at now known soon =
    any_last (λ (k : KnownOrigin). same_origin k.origin o && nat_le (now - k.at) SILENCE) MOST_KNOWN (record { origin = o; at = at }) (left o known)
    (and_from (same_origin o o) (nat_le (now - at) SILENCE) (same_itself o) (grind (arith, nat_tests)))

again_renewed : (o : Origin) (at now : ℕ) (known : List KnownOrigin) → is_known o at known ≡ true → now ≤ at + SILENCE → is_known o now (renewed o at known) ≡ true
again_renewed o at now known e soon = ap (λ (b : Bool). is_known o now (cond b (known_from o at known) known)) e ∙ again_at o at now known soon

again_heard : (answer : Bool) (o : Origin) (at now : ℕ) (known : List KnownOrigin) → is_known o at known ≡ true → now ≤ at + SILENCE
    → is_known o now (cond answer (known_from o at (renewed o at known)) (renewed o at known)) ≡ true
again_heard true o at now known e soon = again_at o at now (renewed o at known) soon
again_heard false o at now known e soon = again_renewed o at now known e soon

pub known_again : KnownAgain
known_again o v f j now known soon = ⊎_elim
    (λ (s : Same (after_coming o f.at j) (after_judging o v f j)). ap (is_known o now) s.known ∙ again_renewed o f.at now j.known known soon)
    (λ (h : Heard o (speaker_in v) (is_answer v f.at j) f.at (after_coming o f.at j) (after_judging o v f j)). ap (is_known o now) h.known ∙ again_heard (is_answer v f.at j) o f.at now j.known known soon)
    (outcome o v f (after_coming o f.at j))

-- ---- beside another

abbrev is_of : Origin → ℕ → KnownOrigin → Bool
is_of o now k = same_origin k.origin o && nat_le (now - k.at) SILENCE

some_from : (o : Origin) (now : ℕ) (known : List KnownOrigin) → list_any (is_of o now) known ≡ true → list_any (λ (k : KnownOrigin). not (not (same_origin k.origin o))) known ≡ true
some_from o now [] e = e
some_from o now (k ∷ known) e = by (same_origin k.origin o) (nat_le (now - k.at) SILENCE) e (some_from o now known) where
  by : (a b : Bool) → ((a && b) || list_any (is_of o now) known) ≡ true → (list_any (is_of o now) known ≡ true → list_any (λ (k : KnownOrigin). not (not (same_origin k.origin o))) known ≡ true)
      → (not (not a) || list_any (λ (k : KnownOrigin). not (not (same_origin k.origin o))) known) ≡ true
  by true b f rest = refl
  by false b f rest = rest f

-- it has a place without driving another out
beside_from : (o p : Origin) (at now : ℕ) (known : List KnownOrigin) → length known ≤ MOST_KNOWN → is_known o at known ≡ true → same_origin o p ≡ false → is_known p now known ≡ true → is_known p now (known_from o at known) ≡ true
unfolding is_known known_from
beside_from o p at now known few e other is =
    beside_one (is_of p now) MOST_KNOWN (record { origin = o; at = at }) (left o known) room stays where
      room : nat_lt (length (left o known)) MOST_KNOWN ≡ true
      room = let less = fewer (λ (k : KnownOrigin). not (same_origin k.origin o)) known (some_from o at known e) in grind (arith, nat_tests)

      apart : (k : KnownOrigin) → is_of p now k ≡ true → not (same_origin k.origin o) ≡ true
      apart k at_p = by (same_origin k.origin o) refl where
        there : k.origin ≡ p
        there = same_origins k.origin p (and_parts (same_origin k.origin p) _ at_p).0

        by : (b : Bool) → same_origin k.origin o ≡ b → not b ≡ true
        by true from_o = absurd (true≢false (sym (same_itself o) ∙ ap (same_origin o) (sym (same_origins k.origin o from_o) ∙ there) ∙ other))
        by false from_o = refl

      stays : list_any (is_of p now) (left o known) ≡ true
      stays = any-filter_same (is_of p now) (λ (k : KnownOrigin). not (same_origin k.origin o)) true apart known ∙ is

beside_heard : (answer : Bool) (o p : Origin) (at now : ℕ) (known : List KnownOrigin) → length known ≤ MOST_KNOWN → is_known o at known ≡ true → same_origin o p ≡ false → is_known p now known ≡ true
    → is_known p now (cond answer (known_from o at (cond (is_known o at known) (known_from o at known) known)) (cond (is_known o at known) (known_from o at known) known)) ≡ true
beside_heard answer o p at now known few e other is = rw e (by answer) where
  once : is_known p now (known_from o at known) ≡ true
  once = beside_from o p at now known few e other is

  by : (b : Bool) → is_known p now (cond b (known_from o at (known_from o at known)) (known_from o at known)) ≡ true
  by true = beside_from o p at now (known_from o at known) (few_from o at known few) (again_at o at at known (omega arith)) other once
  by false = once

pub known_beside : KnownBeside
known_beside o p v f j now bounded known other is = ⊎_elim
    (λ (s : Same (after_coming o f.at j) (after_judging o v f j)). ap (is_known p now) s.known ∙ beside_heard false o p f.at now j.known bounded.known known other is)
    (λ (h : Heard o (speaker_in v) (is_answer v f.at j) f.at (after_coming o f.at j) (after_judging o v f j)). ap (is_known p now) h.known ∙ beside_heard (is_answer v f.at j) o p f.at now j.known bounded.known known other is)
    (outcome o v f (after_coming o f.at j))
