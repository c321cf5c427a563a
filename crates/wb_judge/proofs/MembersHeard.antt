-- What is dropped of a member.
use Rattle.std.proofs.Common.{◌≡◌, ◌∙◌, ℕ, Bool, true, false, cond, None, ap, refl, sym, true≢false}
use Rattle.std.specs.Prelude.{None, Option, Some, ◌&&◌, is_some, nat_eq, not}
use Rattle.std.proofs.lemmas.Bool.{and_parts, eq-eqb, eqb-true}
use Rattle.wb_names.specs.Values.{NameValue}
use Rattle.wb_codec.specs.declared.datagram.Datagram.TheVariants.{AskPages, Draw, PageState, Request, Session}
use Rattle.wb_judge.specs.Answers.{answers}
use Rattle.wb_judge.specs.Judge.{Judge, is_another, is_firm, is_forged, knows, owner_in}
use Rattle.wb_judge.specs.Judging.{admitted_verdict, after_admitting, after_coming, held_verdict, is_admitted, is_elsewhere, is_forged_mark, is_heard, is_repaired, missed_verdict, question_verdict, report_verdict, said_verdict}
use Rattle.wb_judge.specs.Members.{MembersAreHeard, Speaks}
use Rattle.wb_judge.specs.Origins.{same_owner}
use Rattle.wb_judge.specs.Others.{is_bound_elsewhere, is_elsewhere as is_elsewhere_of, other_of}
use Rattle.wb_judge.specs.declared.facts.Facts.{Facts}
use Rattle.wb_judge.specs.declared.origin.Origin.{Origin}
use Rattle.wb_judge.specs.declared.others.Other.{Other}
use Rattle.wb_judge.specs.declared.report.Report.{Report}
use Rattle.wb_judge.specs.declared.verdict.Verdict.{Verdict}
use Rattle.wb_judge.proofs.Members.{member_given, stays_known}

-- ---- a number that speaks from there

not_another : (a b : Option ℕ) → same_owner a b ≡ true → is_another b a ≡ false
not_another None None e = refl
not_another None (Some b) e = absurd (true≢false (sym e))
not_another (Some a) None e = refl
not_another (Some a) (Some b) e = ap not (eq-eqb b a (sym (eqb-true a b e)))

owner_there : (o : Origin) (x : Option Other) → is_heard o false x ≡ true → is_another o.owner (owner_in x) ≡ false
owner_there o None e = absurd (true≢false (sym e))
owner_there o (Some x) e = by (is_some x.answered) where
  nobody : (a : Option ℕ) → is_another a None ≡ false
  nobody None = refl
  nobody (Some a) = refl

  by : (b : Bool) → is_another o.owner (cond b x.origin.owner None) ≡ false
  by true = not_another x.origin.owner o.owner (and_parts (nat_eq x.origin.place o.place) (same_owner x.origin.owner o.owner) e).1
  by false = nobody o.owner

not_own : (number : ℕ) (j : Judge) → ¬ (number ≡ j.me) → nat_eq number j.me ≡ false
not_own number j other = by (nat_eq number j.me) refl where
  by : (b : Bool) → nat_eq number j.me ≡ b → b ≡ false
  by true is = absurd (other (eqb-true number j.me is))
  by false is = refl

not_forged : (o : Origin) (number : ℕ) (j : Judge) → Speaks o number j → is_forged number o j ≡ false
not_forged o number j s =
    ap (λ (b : Bool). is_another o.owner (cond b j.here (owner_in (other_of number j.others)))) (not_own number j s.another)
    ∙ owner_there o (other_of number j.others) s.heard

-- so it is judged by what it says
theirs_alone : (o : Origin) (number : ℕ) (j : Judge) (ours theirs : Verdict) → Speaks o number j → said_verdict o number j ours theirs ≡ theirs
theirs_alone o number j ours theirs s = rw (not_forged o number j s, not_own number j s.another) refl

-- ---- what it reports

not_elsewhere : (o : Origin) (now : ℕ) (x : Option Other) → is_heard o false x ≡ true → is_elsewhere_of o now x ≡ false
not_elsewhere o now None e = absurd (true≢false (sym e))
not_elsewhere o now (Some x) e = rw e refl

admitted_so : (o : Origin) (answer : Bool) (x : Option Other) → is_heard o false x ≡ true → is_heard o answer x ≡ true
admitted_so o answer None e = absurd (true≢false (sym e))
admitted_so o true (Some x) e = refl
admitted_so o false (Some x) e = e

none_elsewhere : (o : Origin) (r : Report) (answer : Bool) (now : ℕ) (j : Judge) → Speaks o r.speaker j → is_elsewhere o r answer now j ≡ false
unfolding is_elsewhere is_bound_elsewhere
none_elsewhere o r answer now j s = by (not answer) (not_elsewhere o now (other_of r.speaker j.others) s.heard) where
  by : {e : Bool} (a : Bool) → e ≡ false → (a && e) ≡ false
  by true e = e
  by false e = refl

all_admitted : (o : Origin) (number : ℕ) (answer : Bool) (now : ℕ) (j : Judge) → Speaks o number j → is_admitted o number answer now j ≡ true
unfolding is_admitted
all_admitted o number answer now j s = rw (admitted_so o answer (other_of number j.others) s.heard) refl

why_admitted : (o : Origin) (r : Report) (answer : Bool) (f : Facts) (j : Judge) → is_forged_mark r f ≡ false → (admitted_verdict o r answer f j).why ≡ None
unfolding admitted_verdict
why_admitted o r answer f j e = rw e refl

why_reported : (o : Origin) (r : Report) (f : Facts) (j : Judge) → Speaks o r.speaker j → is_forged_mark r f ≡ false → (report_verdict o r f j).why ≡ None
unfolding report_verdict
why_reported o r f j s e =
    let answer = answers j.own r.echo f.at in
    rw (none_elsewhere o r answer f.at j s, all_admitted o r.speaker answer f.at j s)
    (why_admitted o r answer f (after_admitting o r.speaker answer f.at j) e)

-- ---- what it asks

why_held : (o : Origin) (now : ℕ) (j : Judge) → knows o now j ≡ true → is_repaired o now j ≡ true → (held_verdict o now j).why ≡ None
unfolding held_verdict
why_held o now j known room = rw (known, room) refl

why_missed : (o : Origin) (name : NameValue) (now : ℕ) (j : Judge) → knows o now j ≡ true → is_firm name now j ≡ false → (missed_verdict o name now j).why ≡ None
unfolding missed_verdict
why_missed o name now j known loose = rw (known, loose) refl

why_asked : (o : Origin) (now : ℕ) (j : Judge) → knows o now j ≡ true → (question_verdict o now j).why ≡ None
unfolding question_verdict
why_asked o now j known = rw known refl

why_requested : (o : Origin) (name : NameValue) (f : Facts) (j : Judge) (holds : Bool) → knows o f.at j ≡ true → (holds ≡ true → is_repaired o f.at j ≡ true) → (not holds && is_firm name f.at j) ≡ false
    → (cond holds (held_verdict o f.at j) (missed_verdict o name f.at j)).why ≡ None
why_requested o name f j true known room loose = why_held o f.at j known (room refl)
why_requested o name f j false known room loose = why_missed o name f.at j known loose

-- ---- each kind

abbrev coming : Origin → Facts → Judge → Judge
coming o f j = after_coming o f.at j

still : (o : Origin) (number : ℕ) (f : Facts) (j : Judge) → Speaks o number j → Speaks o number (coming o f j)
still o number f j s = record { another = s.another; heard = s.heard }

-- the same repairs are paid for
as_many : (o : Origin) (f : Facts) (j : Judge) → is_repaired o f.at j ≡ true → is_repaired o f.at (coming o f j) ≡ true
unfolding is_repaired
as_many o f j room = room

said : (o : Origin) (number : ℕ) (j : Judge) (ours theirs : Verdict) → Speaks o number j → theirs.why ≡ None → (said_verdict o number j ours theirs).why ≡ None
said o number j ours theirs s e = ap (λ (v : Verdict). v.why) (theirs_alone o number j ours theirs s) ∙ e

pub members_are_heard : MembersAreHeard
members_are_heard o (Draw d) f j known spoken fit loose = member_given o d f j known fit.0 fit.1 fit.2 loose
members_are_heard o (Session s sent page marks echoes) f j known spoken fit loose =
    said o s (coming o f j) _ _ (still o s f j spoken) (why_reported o _ f (coming o f j) (still o s f j spoken) fit)
members_are_heard o (Request asker name) f j known spoken fit loose =
    said o asker (coming o f j) _ _ (still o asker f j spoken) (why_requested o name f (coming o f j) f.holds (stays_known o f.at j.known known) (λ holds. as_many o f j (fit holds)) loose)
members_are_heard o (AskPages asker) f j known spoken fit loose =
    said o asker (coming o f j) _ _ (still o asker f j spoken) (why_asked o f.at (coming o f j) (stays_known o f.at j.known known))
members_are_heard o (PageState s page marks) f j known spoken fit loose =
    said o s (coming o f j) _ _ (still o s f j spoken) (why_reported o _ f (coming o f j) (still o s f j spoken) fit)
