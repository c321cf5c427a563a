-- Whom a judge knows it knows after each datagram, whoever sends it, if it has room and nobody else answers under that number.
use Rattle.std.proofs.Common.{◌≡◌, ◌∙◌, ◌≤◌, ◌<◌, ◌+◌, ◌-◌, ℕ, Bool, true, false, cond, List, [], ◌∷◌, ◌++◌, ap, arith, drop, length, refl, subst, sym, true≢false, ⊎_elim}
use Rattle.std.specs.Prelude.{◌&&◌, ◌||◌, nat_le, nat_lt, not}
use Rattle.std.specs.List.{list_any}
use Rattle.std.proofs.lemmas.Bool.{and_from, and_parts, le-leb, leb-true, or_left, or_right}
use Rattle.std.proofs.lemmas.Bool.Decides.{nat_tests}
use Rattle.std.proofs.lemmas.List.Folds.{list_any-append}
use Rattle.std.proofs.lemmas.Map.Views.{any-filter_same}
use Rattle.wb_codec.specs.declared.datagram.Datagram.{Datagram}
use Rattle.wb_judge.specs.Judge.{Judge, knows}
use Rattle.wb_judge.specs.Judging.{after_coming, after_judging}
use Rattle.wb_judge.specs.Known.{is_known, known_from, left, renewed}
use Rattle.wb_judge.specs.Laws.{is_answer, speaker_in}
use Rattle.wb_judge.specs.Origins.{same_origin}
use Rattle.wb_judge.specs.declared.facts.Facts.{Facts}
use Rattle.wb_judge.specs.declared.known.KnownOrigin.{KnownOrigin}
use Rattle.wb_judge.specs.declared.limits.TheConstants.{MOST_KNOWN, SILENCE}
use Rattle.wb_judge.specs.declared.origin.Origin.{Origin}
use Rattle.wb_judge.proofs.Anywhere.{any_last}
use Rattle.wb_judge.proofs.MembersStay.{fewer}
use Rattle.wb_judge.proofs.Outcome.{Heard, Same, outcome}
use Rattle.wb_judge.proofs.Sameness.{same_itself, same_origins}
use Rattle.wb_judge.proofs.Sizes.{filter_length, joined_length}
use Rattle.wb_judged_sessions.specs.Knowing.{is_known_since}

-- ---- origins

abbrev is_of : Origin → ℕ → KnownOrigin → Bool
is_of o at k = same_origin k.origin o && nat_le at k.at

-- what came from there now is later than that moment
pub from_there : (o : Origin) (at now : ℕ) (known : List KnownOrigin) → at ≤ now → is_known_since o at (known_from o now known) ≡ true
unfolding known_from
from_there o at now known le = any_last (is_of o at) MOST_KNOWN (record { origin = o; at = now }) (left o known) (and_from (same_origin o o) (nat_le at now) (same_itself o) (le-leb at now le))

-- what comes from elsewhere drives nobody out, where there is a place
from_elsewhere : (o p : Origin) (at now : ℕ) (known : List KnownOrigin) → length (left p known) < MOST_KNOWN → same_origin p o ≡ false → is_known_since o at known ≡ true → is_known_since o at (known_from p now known) ≡ true
unfolding known_from
from_elsewhere o p at now known room other is =
    ap (λ (b : Bool). list_any (is_of o at) (cond b (left p known) (drop 1 (left p known)) ++ record { origin = p; at = now } ∷ [])) place
    ∙ list_any-append (is_of o at) (left p known) (record { origin = p; at = now } ∷ [])
    ∙ ap (λ (b : Bool). b || (is_of o at (record { origin = p; at = now }) || false)) (any-filter_same (is_of o at) (λ (k : KnownOrigin). not (same_origin k.origin p)) true apart known ∙ is) where
      place : nat_lt (length (left p known)) MOST_KNOWN ≡ true
      place = grind (arith, nat_tests)

      apart : (k : KnownOrigin) → is_of o at k ≡ true → not (same_origin k.origin p) ≡ true
      apart k of = by (same_origin k.origin p) refl where
        there : k.origin ≡ o
        there = same_origins k.origin o (and_parts (same_origin k.origin o) _ of).0

        by : (b : Bool) → same_origin k.origin p ≡ b → not b ≡ true
        by true from_p = absurd (true≢false (sym (same_itself o) ∙ ap (λ (q : Origin). same_origin q o) (sym there ∙ same_origins k.origin p from_p) ∙ other))
        by false from_p = refl

comes_from : (o p : Origin) (at now : ℕ) (known : List KnownOrigin) → length (left p known) < MOST_KNOWN → at ≤ now → is_known_since o at known ≡ true → is_known_since o at (known_from p now known) ≡ true
comes_from o p at now known room le is = by (same_origin p o) refl where
  by : (b : Bool) → same_origin p o ≡ b → is_known_since o at (known_from p now known) ≡ true
  by true same = subst (λ (q : Origin). is_known_since o at (known_from q now known) ≡ true) (sym (same_origins p o same)) (from_there o at now known le)
  by false other = from_elsewhere o p at now known room other is

left_length : (p : Origin) (known : List KnownOrigin) → length (left p known) ≤ length known
left_length p known = filter_length (λ (k : KnownOrigin). not (same_origin k.origin p)) known

-- what has just come from there has a place again
again_room : (p : Origin) (now : ℕ) (known : List KnownOrigin) → length known < MOST_KNOWN → length (left p (known_from p now known)) < MOST_KNOWN
unfolding known_from
again_room p now known room =
    let ks = known_from p now known in
    let there : list_any (λ (k : KnownOrigin). not (not (same_origin k.origin p))) ks ≡ true =
    any_last (λ (k : KnownOrigin). not (not (same_origin k.origin p))) MOST_KNOWN (record { origin = p; at = now }) (left p known) (ap (λ (b : Bool). not (not b)) (same_itself p)) in
    let less = fewer (λ (k : KnownOrigin). not (same_origin k.origin p)) ks there in
    let few = joined_length MOST_KNOWN (record { origin = p; at = now }) (left p known) (omega arith) (omega (arith, left_length p known, room)) in
    omega (arith, less, few)

-- it is known still after it, whether that is renewed, and whether it answers
known_then : (renews answer : Bool) (o p : Origin) (at now : ℕ) (known : List KnownOrigin) → length known < MOST_KNOWN → at ≤ now → is_known_since o at known ≡ true
    → let once = cond renews (known_from p now known) known in is_known_since o at (cond answer (known_from p now once) once) ≡ true
known_then true true o p at now known room le is = comes_from o p at now (known_from p now known) (again_room p now known room) le (comes_from o p at now known (omega (arith, room, left_length p known)) le is)
known_then true false o p at now known room le is = comes_from o p at now known (omega (arith, room, left_length p known)) le is
known_then false true o p at now known room le is = comes_from o p at now known (omega (arith, room, left_length p known)) le is
known_then false false o p at now known room le is = is

pub known_still : (o p : Origin) (v : Datagram) (f : Facts) (j : Judge) (at : ℕ) → length j.known < MOST_KNOWN → at ≤ f.at → is_known_since o at j.known ≡ true → is_known_since o at (after_judging p v f j).known ≡ true
known_still o p v f j at room le is = ⊎_elim
    (λ (s : Same (after_coming p f.at j) (after_judging p v f j)). ap (is_known_since o at) s.known ∙ known_then (is_known p f.at j.known) false o p at f.at j.known room le is)
    (λ (h : Heard p (speaker_in v) (is_answer v f.at j) f.at (after_coming p f.at j) (after_judging p v f j)).
    ap (is_known_since o at) h.known ∙ known_then (is_known p f.at j.known) (is_answer v f.at j) o p at f.at j.known room le is)
    (outcome p v f (after_coming p f.at j))

-- and what comes from a known origin makes it known since now
pub known_now : (o : Origin) (v : Datagram) (f : Facts) (j : Judge) → knows o f.at j ≡ true → is_known_since o f.at (after_judging o v f j).known ≡ true
known_now o v f j known = ⊎_elim
    (λ (s : Same (after_coming o f.at j) (after_judging o v f j)). ap (is_known_since o f.at) s.known ∙ once)
    (λ (h : Heard o (speaker_in v) (is_answer v f.at j) f.at (after_coming o f.at j) (after_judging o v f j)). ap (is_known_since o f.at) h.known ∙ by (is_answer v f.at j))
    (outcome o v f (after_coming o f.at j)) where
      once : is_known_since o f.at (renewed o f.at j.known) ≡ true
      once = ap (λ (b : Bool). is_known_since o f.at (cond b (known_from o f.at j.known) j.known)) known ∙ from_there o f.at f.at j.known (omega arith)

      by : (b : Bool) → is_known_since o f.at (cond b (known_from o f.at (renewed o f.at j.known)) (renewed o f.at j.known)) ≡ true
      by true = from_there o f.at f.at (renewed o f.at j.known) (omega arith)
      by false = once

-- a known origin is known for ten minutes
pub knows_for : (o : Origin) (at now : ℕ) (j : Judge) → now ≤ at + SILENCE → is_known_since o at j.known ≡ true → knows o now j ≡ true
unfolding is_known
knows_for o at now j soon is = by j.known is where
  later : (k : KnownOrigin) → is_of o at k ≡ true → (same_origin k.origin o && nat_le (now - k.at) SILENCE) ≡ true
  later k e =
      let parts = and_parts (same_origin k.origin o) (nat_le at k.at) e in
      let le = leb-true at k.at parts.1 in
      and_from (same_origin k.origin o) (nat_le (now - k.at) SILENCE) parts.0 (le-leb (now - k.at) SILENCE (omega (arith, le, soon)))

  by : (known : List KnownOrigin) → list_any (is_of o at) known ≡ true → list_any (λ (k : KnownOrigin). same_origin k.origin o && nat_le (now - k.at) SILENCE) known ≡ true
  by [] e = e
  by (k ∷ known) e = choose (is_of o at k) refl e (by known) where
    choose : (b : Bool) → is_of o at k ≡ b → (b || list_any (is_of o at) known) ≡ true → (list_any (is_of o at) known ≡ true → list_any (λ (k : KnownOrigin). same_origin k.origin o && nat_le (now - k.at) SILENCE) known ≡ true)
        → ((same_origin k.origin o && nat_le (now - k.at) SILENCE) || list_any (λ (k : KnownOrigin). same_origin k.origin o && nat_le (now - k.at) SILENCE) known) ≡ true
    choose true of e rest = or_left (same_origin k.origin o && nat_le (now - k.at) SILENCE) _ (later k of)
    choose false of e rest = or_right (same_origin k.origin o && nat_le (now - k.at) SILENCE) _ (rest e)
