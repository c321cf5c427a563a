-- All that a judge remembers is bounded.
use Rattle.std.proofs.Common.{◌≡◌, ◌⊎◌, ◌∙◌, ◌≤◌, ◌<◌, ℕ, Bool, true, false, cond, List, [], ◌∷◌, ◌++◌, None, ap, arith, inl, inr, length, refl, subst, sym}
use Rattle.std.proofs.lemmas.Bool.Decides.{nat_tests}
use Rattle.std.proofs.lemmas.List.Edits.{length-remove}
use Rattle.std.proofs.lemmas.List.{length-append}
use Rattle.std.specs.List.{position, position_or_len, remove}
use Rattle.std.specs.Prelude.{Option, Some, is_none, nat_eq, nat_lt, not, unwrap_or}
use Rattle.wb_names.specs.Values.{DrawopValue}
use Rattle.wb_codec.specs.declared.datagram.Datagram.{Datagram}
use Rattle.wb_codec.specs.declared.datagram.Datagram.TheVariants.{AskPages, Draw, PageState, Request, Session}
use Rattle.wb_judge.specs.Judge.{Judge, after_recall, after_taking, knows}
use Rattle.wb_judge.specs.Judging.{after_coming, after_judging, after_of}
use Rattle.wb_judge.specs.Known.{is_known, known_from, left}
use Rattle.wb_judge.specs.Laws.{Comes, IsBounded, Leaves, Recalls, Remembers, Reports, SharesStay, StateIsBounded, Step, Tells, after_datagram, after_step, after_steps, is_answer, is_taken, speaker_in}
use Rattle.wb_judge.specs.Origins.{same_origin}
use Rattle.wb_judge.specs.Others.{answered_once, first_to_go, other_of, other_with, recalled, was_answered, with_place_for, without}
use Rattle.wb_judge.specs.Shares.{Shares}
use Rattle.wb_judge.specs.Strange.{has_name, is_given_by, with_given, without_origin}
use Rattle.wb_judge.specs.declared.facts.Facts.{Facts}
use Rattle.wb_judge.specs.declared.known.KnownOrigin.{KnownOrigin}
use Rattle.wb_judge.specs.declared.limits.TheConstants.{MOST_KNOWN, MOST_OTHERS, MOST_OWN, MOST_TOLD}
use Rattle.wb_judge.specs.declared.origin.Origin.{Origin}
use Rattle.wb_judge.specs.declared.others.Other.{Other}
use Rattle.wb_judge.specs.declared.strange.Given.{Given}
use Rattle.wb_judge.specs.declared.told.ToldMark.{ToldMark}
use Rattle.wb_judge.proofs.Outcome.{Heard, Same, outcome}
use Rattle.wb_judge.proofs.Sizes.{filter_length, joined_length}
use Rattle.wb_judge.proofs.Telling.{few_told, told_stays}

-- ---- origins that are known

pub few_from : (o : Origin) (now : ℕ) (known : List KnownOrigin) → length known ≤ MOST_KNOWN → length (known_from o now known) ≤ MOST_KNOWN
unfolding known_from
few_from o now known few = joined_length MOST_KNOWN (record { origin = o; at = now }) (left o known) (omega arith) (omega (arith, filter_length (λ (k : KnownOrigin). not (same_origin k.origin o)) known))

few_known : (b : Bool) (o : Origin) (now : ℕ) (known : List KnownOrigin) → length known ≤ MOST_KNOWN → length (cond b (known_from o now known) known) ≤ MOST_KNOWN
few_known true o now known few = few_from o now known few
few_known false o now known few = few

-- ---- numbers that were heard

within : {X : Type 0} (p : X → Bool) (xs : List X) → 0 < length xs → unwrap_or (position p xs) 0 < length xs
within {X} p xs some = by (nat_lt (position_or_len p xs) (length xs)) refl where
  by : (b : Bool) → nat_lt (position_or_len p xs) (length xs) ≡ b → unwrap_or (cond b (Some (position_or_len p xs)) None) 0 < length xs
  by true is = grind (arith, nat_tests)
  by false is = some

few_with : (x : Other) (others : List Other) → length others ≤ MOST_OTHERS → length (other_with x others) ≤ MOST_OTHERS
unfolding other_with
few_with x others few = by (without x.number others) (omega (arith, filter_length (λ (y : Other). not (nat_eq y.number x.number)) others)) where
  choose : (b : Bool) (ys : List Other) → nat_lt (length ys) MOST_OTHERS ≡ b → length ys ≤ MOST_OTHERS → length (cond b ys (remove ys (first_to_go ys)) ++ x ∷ []) ≤ MOST_OTHERS
  choose true ys is fewer = let room : length ys < MOST_OTHERS = grind (arith, nat_tests) in omega (arith, room, length-append ys (x ∷ []))
  choose false ys is fewer =
      let full : MOST_OTHERS ≤ length ys = grind (arith, nat_tests) in
      let gone = length-remove ys (first_to_go ys) (within (λ (y : Other). is_none y.answered) ys (omega (arith, full))) in
      omega (arith, gone, length-append (remove ys (first_to_go ys)) (x ∷ []))

  by : (ys : List Other) → length ys ≤ MOST_OTHERS → length (with_place_for ys ++ x ∷ []) ≤ MOST_OTHERS
  by ys fewer = choose (nat_lt (length ys) MOST_OTHERS) ys refl fewer

few_recalled : (number : ℕ) (o : Origin) (j : Judge) → length j.others ≤ MOST_OTHERS → length (after_recall number o j).others ≤ MOST_OTHERS
unfolding recalled
few_recalled number o j few = by (nat_eq number j.me) (was_answered (other_of number j.others)) where
  by : (b c : Bool) → length (cond b j.others (cond c j.others (other_with (answered_once number o) j.others))) ≤ MOST_OTHERS
  by true c = few
  by false true = few
  by false false = few_with (answered_once number o) j.others few

-- ---- the share of strangers

record Fits (s t : Shares) : Type 0 where
  most : t.most ≡ s.most
  few : length s.given ≤ s.most → length t.given ≤ s.most

fits_with : (g : Given) (s : Shares) → Fits s (with_given g s)
unfolding with_given
fits_with g s = by (has_name g.name s.given) (nat_lt (length s.given) s.most) refl where
  by : (b c : Bool) → nat_lt (length s.given) s.most ≡ c → Fits s (cond b s (record s { given = cond c (s.given ++ g ∷ []) s.given }))
  by true c is = record { most = refl; few = λ few. few }
  by false true is = record { most = refl; few = λ few. let room : length s.given < s.most = grind (arith, nat_tests) in omega (arith, room, length-append s.given (g ∷ [])) }
  by false false is = record { most = refl; few = λ few. few }

fits_without : (b : Bool) (o : Origin) (s : Shares) → Fits s (cond b (without_origin o s) s)
unfolding without_origin
fits_without true o s = record { most = refl; few = λ few. omega (arith, filter_length (λ (g : Given). not (is_given_by o g)) s.given) }
fits_without false o s = record { most = refl; few = λ few. few }

-- ---- steps

-- what one step leaves
record Leads (j k : Judge) : Type 0 where
  bounded : IsBounded j → IsBounded k
  most : k.strange.most ≡ j.strange.most

whole : (j : Judge) → Leads j j
whole j = record { bounded = λ b. b; most = refl }

then : (i j k : Judge) → Leads i j → Leads j k → Leads i k
then i j k one other = record { bounded = λ b. other.bounded (one.bounded b); most = other.most ∙ one.most }

came : (o : Origin) (at : ℕ) (j : Judge) → Leads j (after_coming o at j)
came o at j = record { bounded = λ b. record { own = b.own; known = few_known (is_known o at j.known) o at j.known b.known; others = b.others; strange = b.strange; told = b.told }; most = refl }

from_same : (j k : Judge) → Same j k → (length j.told ≤ MOST_TOLD → length k.told ≤ MOST_TOLD) → Leads j k
from_same j k s few = record {
  bounded = λ b. record {
    own = subst (λ (xs : List ℕ). length xs ≤ MOST_OWN) (sym s.own) b.own;
    known = subst (λ (xs : List KnownOrigin). length xs ≤ MOST_KNOWN) (sym s.known) b.known;
    others = subst (λ (xs : List Other). length xs ≤ MOST_OTHERS) (sym s.others) b.others;
    strange = subst (λ (t : Shares). length t.given ≤ t.most) (sym s.strange) b.strange;
    told = few b.told;
  };
  most = ap (λ (t : Shares). t.most) s.strange;
}

fits_bounded : (s t u : Shares) → u ≡ t → Fits s t → length s.given ≤ s.most → length u.given ≤ u.most
fits_bounded s t u e fit few = subst (λ (w : Shares). length w.given ≤ w.most) (sym e) (subst (λ n. length t.given ≤ n) (sym fit.most) (fit.few few))

from_heard : (o : Origin) (number : Option ℕ) (answer : Bool) (now : ℕ) (j k : Judge) → Heard o number answer now j k → (length j.told ≤ MOST_TOLD → length k.told ≤ MOST_TOLD) → Leads j k
from_heard o number answer now j k h few = record {
  bounded = λ b. record {
    own = subst (λ (xs : List ℕ). length xs ≤ MOST_OWN) (sym h.own) b.own;
    known = subst (λ (xs : List KnownOrigin). length xs ≤ MOST_KNOWN) (sym h.known) (few_known answer o now j.known b.known);
    others = subst (λ (xs : List Other). length xs ≤ MOST_OTHERS) (sym h.others.1) (few_with h.others.0 j.others b.others);
    strange = fits_bounded j.strange _ k.strange h.strange (fits_without answer o j.strange) b.strange;
    told = few b.told;
  };
  most = ap (λ (t : Shares). t.most) h.strange ∙ (fits_without answer o j.strange).most;
}

judged : (o : Origin) (v : Datagram) (f : Facts) (j : Judge) → Leads j (after_judging o v f j)
judged o v f j = then j (after_coming o f.at j) (after_judging o v f j) (came o f.at j) (by (outcome o v f (after_coming o f.at j))) where
  marks : length j.told ≤ MOST_TOLD → length (after_judging o v f j).told ≤ MOST_TOLD
  marks few = let k = after_of o v f (after_coming o f.at j) in few_told (knows o f.at k) v k.told (subst (λ (told : List ToldMark). length told ≤ MOST_TOLD) (sym (told_stays o v f (after_coming o f.at j))) few)

  by : Same (after_coming o f.at j) (after_judging o v f j) ⊎ Heard o (speaker_in v) (is_answer v f.at j) f.at (after_coming o f.at j) (after_judging o v f j) → Leads (after_coming o f.at j) (after_judging o v f j)
  by (inl s) = from_same (after_coming o f.at j) (after_judging o v f j) s marks
  by (inr h) = from_heard o (speaker_in v) (is_answer v f.at j) f.at (after_coming o f.at j) (after_judging o v f j) h marks

given : (g : Given) (j : Judge) → Leads j (record j { strange = with_given g j.strange })
given g j = record {
  bounded = λ b. record { own = b.own; known = b.known; others = b.others; strange = fits_bounded j.strange (with_given g j.strange) (with_given g j.strange) refl (fits_with g j.strange) b.strange; told = b.told };
  most = (fits_with g j.strange).most;
}

taken : (g : Given) (o : Origin) (now : ℕ) (j : Judge) → Leads j (after_taking g o now j)
taken g o now j = by (knows o now j) where
  by : (b : Bool) → Leads j (cond b j (record j { strange = with_given g j.strange }))
  by true = whole j
  by false = given g j

drawn : (o : Origin) (d : DrawopValue) (f : Facts) (j : Judge) → Leads j (after_datagram o (Draw d) f j)
drawn o d f j = by (is_taken o d f j) where
  by : (b : Bool) → Leads j (cond b (after_taking (record { name = d.name; origin = Some o }) o f.at (after_judging o (Draw d) f j)) (after_judging o (Draw d) f j))
  by true = then j (after_judging o (Draw d) f j) _ (judged o (Draw d) f j) (taken (record { name = d.name; origin = Some o }) o f.at (after_judging o (Draw d) f j))
  by false = judged o (Draw d) f j

step : (s : Step) (j : Judge) → Leads j (after_step s j)
step (Comes o (Draw d) f) j = drawn o d f j
step (Comes o (Session s sent page marks echoes) f) j = judged o (Session s sent page marks echoes) f j
step (Comes o (PageState s page marks) f) j = judged o (PageState s page marks) f j
step (Comes o (Request asker name) f) j = judged o (Request asker name) f j
step (Comes o (AskPages asker) f) j = judged o (AskPages asker) f j
step (Reports sent) j = record { bounded = λ b. record { own = joined_length MOST_OWN sent j.own (omega arith) b.own; known = b.known; others = b.others; strange = b.strange; told = b.told }; most = refl }
step (Tells clock) j = record { bounded = λ b. record { own = b.own; known = b.known; others = b.others; strange = b.strange; told = b.told }; most = refl }
step (Leaves o) j = record {
  bounded = λ b. record {
    own = b.own;
    known = omega (arith, b.known, filter_length (λ (k : KnownOrigin). not (same_origin k.origin o)) j.known);
    others = omega (arith, b.others, filter_length (λ (x : Other). not (same_origin x.origin o)) j.others);
    strange = b.strange;
    told = b.told;
  };
  most = refl;
}
step (Remembers name) j = given (record { name = name; origin = None }) j
step (Recalls number o) j = record { bounded = λ b. record { own = b.own; known = b.known; others = few_recalled number o j b.others; strange = b.strange; told = b.told }; most = refl }

all_steps : (steps : List Step) (j : Judge) → Leads j (after_steps steps j)
all_steps [] j = whole j
all_steps (s ∷ steps) j = then j (after_step s j) (after_steps steps (after_step s j)) (step s j) (all_steps steps (after_step s j))

pub state_is_bounded : StateIsBounded
state_is_bounded steps j b = (all_steps steps j).bounded b

pub shares_stay : SharesStay
shares_stay steps j = (all_steps steps j).most
