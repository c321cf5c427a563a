-- Firm names: each has its turns, and nobody hushes it.
use Rattle.std.proofs.Common.{◌≡◌, ◌∙◌, ◌≤◌, ◌<◌, ◌+◌, ◌-◌, ◌%◌, ℕ, Bool, true, false, cond, None, ap, arith, refl, sym, true≢false}
use Rattle.std.proofs.Math.Nat.{add-mod-mod, min-le_right, mod-add-mod, mod-lt, mod_self}
use Rattle.std.proofs.lemmas.Bool.{eq-eqb}
use Rattle.std.specs.Prelude.{◌&&◌, is_some, nat_eq, not}
use Rattle.wb_names.specs.Values.{DrawopValue, NameValue}
use Rattle.wb_judge.specs.Buckets.{has_room}
use Rattle.wb_judge.specs.Firm.{is_firm_beside, turn_at, turns}
use Rattle.wb_judge.specs.Judge.{Judge, is_firm, is_forged, knows}
use Rattle.wb_judge.specs.Judging.{after_coming, drawop_verdict, held_verdict, is_repaired, missed_verdict, request_verdict}
use Rattle.wb_judge.specs.Laws.{NamesTakeTurns, NobodyHushesFirmNames, RepairsAreShared, TurnsAreFew}
use Rattle.wb_judge.specs.Strange.{is_there}
use Rattle.wb_judge.specs.Verdicts.{dropped, taken, warned}
use Rattle.wb_judge.specs.declared.facts.Facts.{Facts}
use Rattle.wb_judge.specs.declared.limits.TheConstants.{MOST_SHARING, REPAIRS_AHEAD, REPAIRS_OF_ONE}
use Rattle.wb_judge.specs.declared.origin.Origin.{Origin}
use Rattle.wb_judge.specs.declared.verdict.Verdict.{Verdict}
use Rattle.wb_judge.specs.declared.verdict.Warning.TheVariants.{Impostor}
use Rattle.wb_judge.specs.declared.verdict.Why.TheVariants.{Again, Flood, Own, Speaks, Stranger}
use Rattle.wb_judge.proofs.Members.{stays_known}

-- ---- turns

some_turns : (others : ℕ) → 0 < turns others
some_turns others = omega arith

-- what is left of the turns, and then none is left
left_over : (sum count : ℕ) → 0 < count → (sum + (count - sum % count) % count) % count ≡ 0
left_over sum count some =
    let whole : sum % count + (count - sum % count) ≡ count = omega (arith, mod-lt sum some) in
    add-mod-mod sum (count - sum % count) count ∙ sym (mod-add-mod sum count (count - sum % count)) ∙ ap (λ n. n % count) whole ∙ mod_self count

pub names_take_turns : NamesTakeTurns
unfolding is_firm_beside
names_take_turns others me name now =
    let count = turns others in
    let sum = name.source + name.seq + me + turn_at now in
    let wait = (count - sum % count) % count in
    (wait, mod-lt (count - sum % count) (some_turns others), λ at later. eq-eqb ((name.source + name.seq + me + turn_at at) % count) 0 (ap (λ n. n % count) (summed at later) ∙ left_over sum count (some_turns others))) where
      summed : (at : ℕ) → turn_at at ≡ turn_at now + (turns others - (name.source + name.seq + me + turn_at now) % turns others) % turns others
          → name.source + name.seq + me + turn_at at ≡ (name.source + name.seq + me + turn_at now) + (turns others - (name.source + name.seq + me + turn_at now) % turns others) % turns others
      summed at later = omega (arith, later)

pub turns_are_few : TurnsAreFew
turns_are_few others = (omega (arith, min-le_right (others - 1) MOST_SHARING), λ few. one few) where
  one : others ≤ 1 → turns others ≡ 1
  one few = omega (arith, few)

-- ---- what is dropped

copied : (b : Bool) → cond (b && false) taken (dropped Again) ≡ dropped Again
copied true = refl
copied false = refl

copy : (o : Origin) (d : DrawopValue) (f : Facts) (j : Judge) → f.holds ≡ true → is_firm d.name f.at j ≡ true → drawop_verdict o d f j ≡ dropped Again
unfolding drawop_verdict
copy o d f j holds firm = rw (holds, firm) (copied (knows o f.at j))

missed : (o : Origin) (name : NameValue) (now : ℕ) (j : Judge) → is_firm name now j ≡ true → is_some (missed_verdict o name now j).why ≡ true
unfolding missed_verdict
missed o name now j firm = by (knows o now j) (is_firm name now j) firm where
  by : (b c : Bool) → c ≡ true → is_some (cond (b && not c) taken (cond b (dropped Again) (dropped Stranger))).why ≡ true
  by true true e = refl
  by false true e = refl
  by true false e = absurd (true≢false (sym e))
  by false false e = absurd (true≢false (sym e))

said_out : (a b : Bool) (asker : ℕ) (v : Verdict) → is_some v.why ≡ true → is_some (cond a (warned Speaks (Impostor asker)) (cond b (dropped Own) v)).why ≡ true
said_out true b asker v e = refl
said_out false true asker v e = refl
said_out false false asker v e = e

requested : (o : Origin) (name : NameValue) (f : Facts) (j : Judge) → f.holds ≡ false → is_firm name f.at j ≡ true → is_some (request_verdict o name f j).why ≡ true
requested o name f j lacks firm = by f.holds lacks where
  by : (b : Bool) → b ≡ false → is_some (cond b (held_verdict o f.at j) (missed_verdict o name f.at j)).why ≡ true
  by true e = absurd (true≢false e)
  by false e = missed o name f.at j firm

pub nobody_hushes_firm_names : NobodyHushesFirmNames
nobody_hushes_firm_names o f j =
    let i = after_coming o f.at j in (
      λ d holds firm. ap (λ (v : Verdict). v.why) (copy o d f i holds firm),
      λ asker name lacks firm. said_out (is_forged asker o i) (nat_eq asker i.me) asker (request_verdict o name f i) (requested o name f i lacks firm),
    )

-- ---- a repair for the one that had the last

said_in : (a b : Bool) (asker : ℕ) (v : Verdict) → (cond a (warned Speaks (Impostor asker)) (cond b (dropped Own) v)).why ≡ None → v.why ≡ None
said_in true b asker v e = cc
said_in false true asker v e = cc
said_in false false asker v e = e

paid_in : (b c : Bool) (v : Verdict) → b ≡ true → (cond b (cond c taken (dropped Flood)) v).why ≡ None → c ≡ true
paid_in true true v e f = refl
paid_in true false v e f = cc
paid_in false c v e f = absurd (true≢false (sym e))

held_in : (o : Origin) (now : ℕ) (j : Judge) → knows o now j ≡ true → (held_verdict o now j).why ≡ None → is_repaired o now j ≡ true
unfolding held_verdict
held_in o now j known e = paid_in (knows o now j) (is_repaired o now j) _ known e

of_one : (o : Origin) (now : ℕ) (j : Judge) → is_there o j.served ≡ true → is_repaired o now j ≡ true → has_room REPAIRS_OF_ONE j.repairs now ≡ true
unfolding is_repaired
of_one o now j served e = by (is_there o j.served) served e where
  by : (b : Bool) → b ≡ true → has_room (cond b REPAIRS_OF_ONE REPAIRS_AHEAD) j.repairs now ≡ true → has_room REPAIRS_OF_ONE j.repairs now ≡ true
  by true e f = f
  by false e f = absurd (true≢false (sym e))

of_held : (b : Bool) (u v : Verdict) → b ≡ true → (cond b u v).why ≡ None → u.why ≡ None
of_held true u v e f = f
of_held false u v e f = absurd (true≢false (sym e))

pub repairs_are_shared : RepairsAreShared
repairs_are_shared o asker name f j holds known served e =
    let i = after_coming o f.at j in
    let in_request = said_in (is_forged asker o i) (nat_eq asker i.me) asker (request_verdict o name f i) e in
    let in_held = of_held f.holds (held_verdict o f.at i) (missed_verdict o name f.at i) holds in_request in
    of_one o f.at i served (held_in o f.at i (stays_known o f.at j.known known) in_held)
