-- Whoever answers under a number keeps it.
use Rattle.std.proofs.Common.{◌≡◌, ◌∙◌, ◌≤◌, ◌<◌, ◌+◌, ℕ, Bool, true, false, cond, List, [], ap, arith, length, refl, sym, true≢false}
use Rattle.std.specs.Prelude.{Option, None, Some, is_none, is_some, nat_eq}
use Rattle.std.proofs.lemmas.Bool.{eq-eqb}
use Rattle.wb_codec.specs.declared.datagram.Datagram.TheVariants.{AskPages, Draw, PageState, Request, Session}
use Rattle.wb_judge.specs.Judge.{Judge, after_recall, is_another, is_forged, owner_in}
use Rattle.wb_judge.specs.Judging.{after_coming, after_own, after_question, after_report, after_request, after_said, own_verdict, question_verdict, report_verdict, request_verdict, said_verdict}
use Rattle.wb_judge.specs.Laws.{ClaimsBindNobody, OwnersAreRecalled, OwnersBeside, OwnersStay}
use Rattle.wb_judge.specs.Others.{answered_once, other_of, other_with, recalled, was_answered}
use Rattle.wb_judge.specs.Reports.{report_of}
use Rattle.wb_judge.specs.Verdicts.{dropped}
use Rattle.wb_judge.specs.declared.limits.TheConstants.{MOST_OTHERS}
use Rattle.wb_judge.specs.declared.origin.Origin.{Origin}
use Rattle.wb_judge.specs.declared.others.Other.{Other}
use Rattle.wb_judge.specs.declared.verdict.Verdict.{Verdict}
use Rattle.wb_judge.specs.declared.verdict.Why.TheVariants.{Own, Speaks}
use Rattle.wb_judge.proofs.Found.{one_longer, other_beside, other_new}

forged_is : (o : Origin) (number s : ℕ) (j : Judge) → Some s ≡ Some number → nat_eq number j.me ≡ false → is_another o.owner (owner_in (other_of number j.others)) ≡ true → is_forged s o j ≡ true
forged_is o number s j same other owned =
    let e : s ≡ number = cc in
    ap (λ (n : ℕ). is_another o.owner (cond (nat_eq n j.me) j.here (owner_in (other_of n j.others)))) e
    ∙ ap (λ (b : Bool). is_another o.owner (cond b j.here (owner_in (other_of number j.others)))) other ∙ owned

said_so : (o : Origin) (s : ℕ) (j : Judge) (ours theirs : Verdict) (us them : Judge) → is_forged s o j ≡ true
    → ((said_verdict o s j ours theirs).why ≡ Some Speaks) × ((after_said o s j us them).others ≡ j.others)
said_so o s j ours theirs us them forged = rw forged (refl, refl)

pub owners_stay : OwnersStay
owners_stay o number (Session s sent page marks echoes) f j says other owned =
    let i = after_coming o f.at j in let r = report_of j.me s marks echoes in
    said_so o s i (own_verdict sent r f.at i) (report_verdict o r f i) (after_own o sent r f.at i) (after_report o r f i) (forged_is o number s j says other owned)
owners_stay o number (PageState s page marks) f j says other owned =
    let i = after_coming o f.at j in let r = report_of j.me s marks [] in
    said_so o s i (dropped Own) (report_verdict o r f i) i (after_report o r f i) (forged_is o number s j says other owned)
owners_stay o number (Request asker name) f j says other owned =
    let i = after_coming o f.at j in said_so o asker i (dropped Own) (request_verdict o name f i) i (after_request o f i) (forged_is o number asker j says other owned)
owners_stay o number (AskPages asker) f j says other owned =
    let i = after_coming o f.at j in said_so o asker i (dropped Own) (question_verdict o f.at i) i (after_question o f.at i) (forged_is o number asker j says other owned)
owners_stay o number (Draw d) f j says other owned = absurd cc

nobody : (a : Option ℕ) → is_another a None ≡ false
nobody None = refl
nobody (Some a) = refl

unanswered : (x : Other) → is_none x.answered ≡ true → is_some x.answered ≡ false
unanswered x none = by x.answered none where
  by : (a : Option ℕ) → is_none a ≡ true → is_some a ≡ false
  by None e = refl
  by (Some at) e = absurd (true≢false (sym e))

pub claims_bind_nobody : ClaimsBindNobody
claims_bind_nobody o number x j other found none =
    ap (λ (b : Bool). is_another o.owner (cond b j.here (owner_in (other_of number j.others)))) other
    ∙ ap (λ (y : Option Other). is_another o.owner (owner_in y)) found
    ∙ ap (λ (b : Bool). is_another o.owner (cond b x.origin.owner None)) (unanswered x none) ∙ nobody o.owner

-- ---- what a record says

pub recalled_other : (number : ℕ) (o : Origin) (j : Judge) → nat_eq number j.me ≡ false → was_answered (other_of number j.others) ≡ false
    → (after_recall number o j).others ≡ other_with (answered_once number o) j.others
unfolding recalled
recalled_other number o j other unanswered =
    ap (λ (b : Bool). cond b j.others (cond (was_answered (other_of number j.others)) j.others (other_with (answered_once number o) j.others))) other
    ∙ ap (λ (b : Bool). cond b j.others (other_with (answered_once number o) j.others)) unanswered

pub owners_are_recalled : OwnersAreRecalled
owners_are_recalled number o j other unanswered =
    ap (λ (b : Bool). cond b j.here (owner_in (other_of number (after_recall number o j).others))) other
    ∙ ap (λ (xs : List Other). owner_in (other_of number xs)) (recalled_other number o j other unanswered)
    ∙ ap owner_in (other_new number (answered_once number o) j.others (eq-eqb number number refl))

-- every other number is as it was
pub beside_recalled : (number n : ℕ) (o : Origin) (j : Judge) → nat_eq number n ≡ false → length j.others < MOST_OTHERS → other_of n (after_recall number o j).others ≡ other_of n j.others
unfolding recalled
beside_recalled number n o j apart room = by (nat_eq number j.me) (was_answered (other_of number j.others)) where
  by : (b c : Bool) → other_of n (cond b j.others (cond c j.others (other_with (answered_once number o) j.others))) ≡ other_of n j.others
  by true c = refl
  by false true = refl
  by false false = other_beside n (answered_once number o) j.others apart room

pub longer_recalled : (number : ℕ) (o : Origin) (j : Judge) → length j.others < MOST_OTHERS → length (after_recall number o j).others ≤ 1 + length j.others
unfolding recalled
longer_recalled number o j room = by (nat_eq number j.me) (was_answered (other_of number j.others)) where
  by : (b c : Bool) → length (cond b j.others (cond c j.others (other_with (answered_once number o) j.others))) ≤ 1 + length j.others
  by true c = omega arith
  by false true = omega arith
  by false false = one_longer (answered_once number o) j.others room

pub owners_beside : OwnersBeside
owners_beside number other o j apart room = ap (λ (x : Option Other). cond (nat_eq other j.me) j.here (owner_in x)) (beside_recalled number other o j apart room)
