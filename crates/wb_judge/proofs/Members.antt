-- Who is known, and what becomes of what a member gives.
use Rattle.std.proofs.Common.{◌≡◌, ◌⊎◌, ◌∙◌, ◌≤◌, ◌+◌, ◌-◌, ℕ, Bool, true, false, cond, List, None, ap, arith, inl, inr, refl, subst, sym, true≢false}
use Rattle.std.proofs.lemmas.Bool.{and_from, and_parts, eqb-true}
use Rattle.std.proofs.lemmas.Bool.Decides.{nat_tests}
use Rattle.std.specs.Prelude.{◌&&◌, ◌||◌, nat_eq, nat_le, nat_lt, not}
use Rattle.wb_names.specs.Values.{DrawopValue}
use Rattle.wb_codec.specs.declared.datagram.Datagram.TheVariants.{Draw}
use Rattle.std.specs.List.{list_any}
use Rattle.wb_judge.specs.Days.{time_of_day}
use Rattle.wb_judge.specs.Judge.{Judge, is_firm, is_full, knows}
use Rattle.wb_judge.specs.Judging.{after_coming, after_judging, draws, drawop_verdict, is_ahead, is_forged_drawop, verdict}
use Rattle.wb_judge.specs.Known.{is_known, known_from, left, renewed}
use Rattle.wb_judge.specs.Laws.{AMemberIsNotDropped, OnlyAnswersMakeKnown, StrangersHushNobody, is_answer, speaker_in}
use Rattle.wb_judge.specs.Origins.{same_origin}
use Rattle.wb_judge.specs.declared.facts.Facts.{Facts}
use Rattle.wb_judge.specs.declared.known.KnownOrigin.{KnownOrigin}
use Rattle.wb_judge.specs.Verdicts.{dropped, taken, warned}
use Rattle.wb_names.specs.declared.name.TheConstants.{FIRST_FORGED}
use Rattle.wb_judge.specs.declared.limits.TheConstants.{AHEAD_KNOWN, MOST_KNOWN, SILENCE}
use Rattle.wb_judge.specs.declared.origin.Origin.{Origin}
use Rattle.wb_judge.specs.declared.verdict.Verdict.{Verdict}
use Rattle.wb_judge.specs.declared.verdict.Warning.TheVariants.{NoCell}
use Rattle.wb_judge.specs.declared.verdict.Why.TheVariants.{Again, Ahead, Full, Own}
use Rattle.wb_judge.proofs.Anywhere.{any_filter, any_joined, any_last}
use Rattle.wb_judge.proofs.Outcome.{Heard, Same, outcome}
use Rattle.wb_judge.proofs.Sameness.{same_itself, same_origins}

-- ---- who is known

from_known : (o p : Origin) (at now : ℕ) (known : List KnownOrigin) → is_known p now (known_from o at known) ≡ true → (is_known p now known ≡ true) ⊎ (o ≡ p)
unfolding is_known known_from
from_known o p at now known e =
    let q : KnownOrigin → Bool = λ k. same_origin k.origin p && nat_le (now - k.at) SILENCE in
    by (any_joined q MOST_KNOWN (record { origin = o; at = at }) (left o known) e) where
      by : (list_any (λ (k : KnownOrigin). same_origin k.origin p && nat_le (now - k.at) SILENCE) (left o known) ≡ true) ⊎ ((same_origin o p && nat_le (now - at) SILENCE) ≡ true) → (is_known p now known ≡ true) ⊎ (o ≡ p)
      by (inl f) = inl (any_filter (λ (k : KnownOrigin). same_origin k.origin p && nat_le (now - k.at) SILENCE) (λ (k : KnownOrigin). not (same_origin k.origin o)) known f)
      by (inr f) = inr (same_origins o p (and_parts (same_origin o p) _ f).0)

from_renewed : (o p : Origin) (at now : ℕ) (known : List KnownOrigin) → is_known p now (renewed o at known) ≡ true → (is_known p now known ≡ true) ⊎ (is_known p at known ≡ true)
from_renewed o p at now known e = by (is_known o at known) refl e where
  by : (b : Bool) → is_known o at known ≡ b → is_known p now (cond b (known_from o at known) known) ≡ true → (is_known p now known ≡ true) ⊎ (is_known p at known ≡ true)
  by true is f = again (from_known o p at now known f) where
    again : (is_known p now known ≡ true) ⊎ (o ≡ p) → (is_known p now known ≡ true) ⊎ (is_known p at known ≡ true)
    again (inl g) = inl g
    again (inr g) = inr (subst (λ (q : Origin). is_known q at known ≡ true) g is)
  by false is f = inl f

-- what came from there makes it known, at once
known_at_once : (o : Origin) (at : ℕ) (known : List KnownOrigin) → is_known o at (known_from o at known) ≡ true
unfolding is_known known_from
known_at_once o at known =
    any_last (λ (k : KnownOrigin). same_origin k.origin o && nat_le (at - k.at) SILENCE) MOST_KNOWN (record { origin = o; at = at }) (left o known)
    (and_from (same_origin o o) (nat_le (at - at) SILENCE) (same_itself o) (grind (arith, nat_tests)))

pub stays_known : (o : Origin) (at : ℕ) (known : List KnownOrigin) → is_known o at known ≡ true → is_known o at (renewed o at known) ≡ true
stays_known o at known e = by (is_known o at known) e where
  by : (b : Bool) → b ≡ true → is_known o at (cond b (known_from o at known) known) ≡ true
  by true f = known_at_once o at known
  by false f = absurd (true≢false (sym f))

pub stays_unknown : (o : Origin) (at : ℕ) (known : List KnownOrigin) → is_known o at known ≡ false → is_known o at (renewed o at known) ≡ false
stays_unknown o at known e = by (is_known o at known) refl e where
  by : (b : Bool) → is_known o at known ≡ b → b ≡ false → is_known o at (cond b (known_from o at known) known) ≡ false
  by true is f = absurd (true≢false f)
  by false is f = is

pub only_answers_make_known : OnlyAnswersMakeKnown
only_answers_make_known o p v f j now e = by (outcome o v f (after_coming o f.at j)) where
  came : is_known p now (renewed o f.at j.known) ≡ true → (knows p now j ≡ true) ⊎ (knows p f.at j ≡ true) ⊎ ((o ≡ p) × (is_answer v f.at j ≡ true))
  came g = more (from_renewed o p f.at now j.known g) where
    more : (is_known p now j.known ≡ true) ⊎ (is_known p f.at j.known ≡ true) → (knows p now j ≡ true) ⊎ (knows p f.at j ≡ true) ⊎ ((o ≡ p) × (is_answer v f.at j ≡ true))
    more (inl h) = inl h
    more (inr h) = inr (inl h)

  heard : (b : Bool) → is_answer v f.at j ≡ b → is_known p now (cond b (known_from o f.at (renewed o f.at j.known)) (renewed o f.at j.known)) ≡ true → (knows p now j ≡ true) ⊎ (knows p f.at j ≡ true) ⊎ ((o ≡ p) × (is_answer v f.at j ≡ true))
  heard true is g = more (from_known o p f.at now (renewed o f.at j.known) g) where
    more : (is_known p now (renewed o f.at j.known) ≡ true) ⊎ (o ≡ p) → (knows p now j ≡ true) ⊎ (knows p f.at j ≡ true) ⊎ ((o ≡ p) × (is_answer v f.at j ≡ true))
    more (inl h) = came h
    more (inr h) = inr (inr (h, is))
  heard false is g = came g

  by : Same (after_coming o f.at j) (after_judging o v f j) ⊎ Heard o (speaker_in v) (is_answer v f.at j) f.at (after_coming o f.at j) (after_judging o v f j) → (knows p now j ≡ true) ⊎ (knows p f.at j ≡ true) ⊎ ((o ≡ p) × (is_answer v f.at j ≡ true))
  by (inl s) = came (sym (ap (is_known p now) s.known) ∙ e)
  by (inr h) = heard (is_answer v f.at j) refl (sym (ap (is_known p now) h.known) ∙ e)

-- ---- what a member gives

pub forged_no : (known : Bool) (d : DrawopValue) (f : Facts) (j : Judge) → ¬ (d.name.source ≡ j.me) → is_forged_drawop known d f j ≡ false
unfolding is_forged_drawop
forged_no known d f j other = by (nat_eq d.name.source j.me) refl where
  by : (b : Bool) → nat_eq d.name.source j.me ≡ b → (b && (nat_le FIRST_FORGED d.name.seq || (f.above || (f.listens || not known)))) ≡ false
  by true is = absurd (other (eqb-true d.name.source j.me is))
  by false is = refl

-- by our number alone
same_forged : (d : DrawopValue) (f : Facts) (i j : Judge) → i.me ≡ j.me → is_forged_drawop true d f j ≡ false → is_forged_drawop true d f i ≡ false
unfolding is_forged_drawop
same_forged d f i j me e = rw me e

ahead_no : (time now : ℕ) (j : Judge) → time ≤ time_of_day j.clock now + AHEAD_KNOWN → is_ahead true time now j ≡ false
unfolding is_ahead
ahead_no time now j soon = grind (arith, nat_tests)

-- the verdict on what a member gives
ruled : (holds firm forged ahead full : Bool) → Verdict
ruled holds firm forged ahead full = cond holds (cond (not firm) taken (dropped Again)) (cond forged (dropped Own) (cond ahead (dropped Ahead) (cond full (warned Full NoCell) taken)))

let_in : (holds firm forged ahead full : Bool) → (holds && firm) ≡ false → forged ≡ false → ahead ≡ false → full ≡ false → (ruled holds firm forged ahead full).why ≡ None
unfolding ruled
let_in true true forged ahead full d e g h = absurd (true≢false d)
let_in true false forged ahead full d e g h = refl
let_in false firm true ahead full d e g h = absurd (true≢false e)
let_in false firm false true full d e g h = absurd (true≢false g)
let_in false firm false false true d e g h = absurd (true≢false h)
let_in false firm false false false d e g h = refl

member_at : (o : Origin) (d : DrawopValue) (f : Facts) (j : Judge) → knows o f.at j ≡ true
    → drawop_verdict o d f j ≡ ruled f.holds (is_firm d.name f.at j) (is_forged_drawop true d f j) (is_ahead true d.time f.at j) (is_full f.held j && (draws d.op || false))
unfolding drawop_verdict ruled
member_at o d f j e = rw e refl

pub member_given : (o : Origin) (d : DrawopValue) (f : Facts) (j : Judge) → knows o f.at j ≡ true → is_forged_drawop true d f j ≡ false → d.time ≤ time_of_day j.clock f.at + AHEAD_KNOWN
    → (draws d.op && is_full f.held j) ≡ false → (f.holds && is_firm d.name f.at j) ≡ false → (verdict o (Draw d) f j).why ≡ None
member_given o d f j known forged soon room copied =
    let i = after_coming o f.at j in
    let stays : knows o f.at i ≡ true = stays_known o f.at j.known known in
    ap (λ (v : Verdict). v.why) (member_at o d f i stays)
    ∙ let_in f.holds (is_firm d.name f.at i) _ _ (is_full f.held i && (draws d.op || false)) copied (same_forged d f i j refl forged) (ahead_no d.time f.at i soon) (swapped (draws d.op) (is_full f.held j) room) where
      swapped : (a b : Bool) → (a && b) ≡ false → (b && (a || false)) ≡ false
      swapped true true e = e
      swapped true false e = refl
      swapped false true e = refl
      swapped false false e = refl

pub a_member_is_not_dropped : AMemberIsNotDropped
a_member_is_not_dropped o d f j known other copied soon room = member_given o d f j known (forged_no true d f j other) soon room copied

hushed : (o : Origin) (d : DrawopValue) (f : Facts) (j : Judge) → knows o f.at j ≡ false → f.holds ≡ true → drawop_verdict o d f j ≡ dropped Again
unfolding drawop_verdict
hushed o d f j e h = rw (h, e) refl

pub strangers_hush_nobody : StrangersHushNobody
strangers_hush_nobody o d f j unknown holds = ap (λ (v : Verdict). v.why) (hushed o d f (after_coming o f.at j) (stays_unknown o f.at j.known unknown) holds)
