-- What a judge has heard of a number stays after each datagram, if nobody answers under that number from elsewhere.
use Rattle.std.proofs.Common.{◌≡◌, ◌⊎◌, ◌∙◌, ◌≤◌, ◌<◌, ◌+◌, ◌-◌, ℕ, Bool, true, false, cond, List, [], ap, arith, filter, inl, inr, length, refl, subst, sym, true≢false, ⊎_elim}
use Rattle.std.specs.Prelude.{◌&&◌, ◌||◌, Option, None, Some, is_some, nat_eq, nat_le, not}
use Rattle.std.proofs.lemmas.Bool.{and_from, and_parts, eq-eqb, eqb-true, le-leb, leb-true, or_left, or_right}
use Rattle.std.proofs.lemmas.Bool.Decides.{nat_tests}
use Rattle.wb_names.specs.Values.{MarkValue}
use Rattle.wb_names.specs.declared.echo.Echo.{Echo}
use Rattle.wb_names.specs.declared.name.PageId.{PageId}
use Rattle.wb_codec.specs.declared.datagram.Datagram.{Datagram}
use Rattle.wb_codec.specs.declared.datagram.Datagram.TheVariants.{AskPages, Draw, PageState, Request, Session}
use Rattle.wb_judge.specs.Answers.{answers}
use Rattle.wb_judge.specs.Buckets.{has_room}
use Rattle.wb_judge.specs.Judge.{Judge, is_another, is_forged, owner_in}
use Rattle.wb_judge.specs.Judging.{after_admitted, after_admitting, after_answer, after_coming, after_fetching, after_hearing, after_judging, after_of, after_own, after_report, after_said, after_telling, answering_at, fetching_at, is_admitted, is_elsewhere, is_fetched, is_forged_mark, is_heard, new_ahead, paid_for, speaking, with_payment}
use Rattle.wb_judge.specs.Laws.{is_answer, speaker_in}
use Rattle.wb_judge.specs.Origins.{same_origin}
use Rattle.wb_judge.specs.Others as numbers
use Rattle.wb_judge.specs.Others.{heard_again, heard_first, is_bound_elsewhere, other_of, other_with, spoken}
use Rattle.wb_judge.specs.Reports.{report_of}
use Rattle.wb_judge.specs.declared.facts.Facts.{Facts}
use Rattle.wb_judge.specs.declared.limits.TheConstants.{MOST_OTHERS, PATIENCE}
use Rattle.wb_judge.specs.declared.origin.Origin.{Origin}
use Rattle.wb_judge.specs.declared.others.Other.{Other}
use Rattle.wb_judge.specs.declared.report.Report.{Report}
use Rattle.wb_judge.proofs.Found.{has_answered, other_kept, other_new}
use Rattle.wb_judge.proofs.Outcome.{Heard, Same, outcome, said_number}
use Rattle.wb_judge.proofs.Sameness.{same_origins}
use Rattle.wb_judge.proofs.Twins.{numbers_stay, own_others}
use Rattle.wb_judged_sessions.specs.Knowing.{is_heard_since}

-- ---- what a report makes of the numbers that were heard

admit_others : (o : Origin) (number : ℕ) (answer : Bool) (now : ℕ) (j : Judge) → (after_admitting o number answer now j).others ≡ j.others
unfolding after_admitting
admit_others o number answer now j = by _ (is_heard o answer (other_of number j.others)) answer where
  by : (n : ℕ) (b c : Bool) → (let k : Judge = cond b j (with_payment c n j) in k.others) ≡ j.others
  by n true c = refl
  by n false true = refl
  by n false false = refl

answer_others : (answer : Bool) (o : Origin) (now : ℕ) (j : Judge) → (after_answer answer o now j).others ≡ j.others
unfolding after_answer
answer_others true o now j = refl
answer_others false o now j = refl

fetch_others : (fetch : Bool) (now : ℕ) (j : Judge) → (after_fetching fetch now j).others ≡ j.others
unfolding after_fetching
fetch_others true now j = refl
fetch_others false now j = refl

abbrev pub said_now : Bool → Origin → ℕ → Bool → ℕ → List Other → Other
said_now fetch o number answer now others = fetching_at fetch now (answering_at answer now (spoken number o now others))

pub hear_others : (o : Origin) (number : ℕ) (answer : Bool) (lacking now : ℕ) (j : Judge) → (fetch : Bool) × ((after_hearing o number answer lacking now j).others ≡ other_with (said_now fetch o number answer now j.others) j.others)
unfolding after_hearing speaking
hear_others o number answer lacking now j =
    let x = speaking o number answer now j in
    let fetch = is_fetched x lacking now j in
    (fetch, ap (other_with (fetching_at fetch now x)) (fetch_others fetch now (after_answer answer o now j) ∙ answer_others answer o now j))

-- it is heard, unless it is dropped
record Spoke (o : Origin) (number : ℕ) (answer : Bool) (now : ℕ) (before : List Other) (k : Judge) : Type 0 where
  fetch : Bool
  others : k.others ≡ other_with (said_now fetch o number answer now before) before

admitted_spoke : (o : Origin) (r : Report) (answer : Bool) (f : Facts) (i j : Judge) → j.others ≡ i.others → is_forged_mark r f ≡ false → Spoke o r.speaker answer f.at i.others (after_admitted o r answer f j)
unfolding after_admitted
admitted_spoke o r answer f i j same fine =
    let h = hear_others o r.speaker answer f.lacking f.at j in
    record {
      fetch = h.0;
      others = ap (λ (b : Bool). let k : Judge = cond b j (after_hearing o r.speaker answer f.lacking f.at j) in k.others) fine ∙ h.1 ∙ ap (λ (xs : List Other). other_with (said_now h.0 o r.speaker answer f.at xs) xs) same;
    }

admitted_others : (o : Origin) (r : Report) (answer : Bool) (f : Facts) (i j : Judge) → j.others ≡ i.others → ((after_admitted o r answer f j).others ≡ i.others) ⊎ Spoke o r.speaker answer f.at i.others (after_admitted o r answer f j)
unfolding after_admitted
admitted_others o r answer f i j same = by (is_forged_mark r f) refl where
  by : (b : Bool) → is_forged_mark r f ≡ b → ((after_admitted o r answer f j).others ≡ i.others) ⊎ Spoke o r.speaker answer f.at i.others (after_admitted o r answer f j)
  by true forged = inl (ap (λ (b : Bool). let k : Judge = cond b j (after_hearing o r.speaker answer f.lacking f.at j) in k.others) forged ∙ same)
  by false fine = inr (admitted_spoke o r answer f i j same fine)

report_others : (o : Origin) (r : Report) (f : Facts) (j : Judge) → ((after_report o r f j).others ≡ j.others) ⊎ Spoke o r.speaker (answers j.own r.echo f.at) f.at j.others (after_report o r f j)
unfolding after_report
report_others o r f j = by (is_elsewhere o r answer f.at j || not (is_admitted o r.speaker answer f.at j)) where
  answer : Bool
  answer = answers j.own r.echo f.at

  inside : Judge
  inside = after_admitted o r answer f (after_admitting o r.speaker answer f.at j)

  by : (b : Bool) → ((let k : Judge = cond b j inside in k.others) ≡ j.others) ⊎ Spoke o r.speaker answer f.at j.others (cond b j inside)
  by true = inl refl
  by false = admitted_others o r answer f j (after_admitting o r.speaker answer f.at j) (admit_others o r.speaker answer f.at j)

said_others : (o : Origin) (number : ℕ) (answer : Bool) (now : ℕ) (i j ours theirs : Judge) → j.others ≡ i.others → ours.others ≡ i.others → (theirs.others ≡ i.others) ⊎ Spoke o number answer now i.others theirs
    → ((after_said o number j ours theirs).others ≡ i.others) ⊎ Spoke o number answer now i.others (after_said o number j ours theirs)
said_others o number answer now i j ours theirs same own rest = by (is_forged number o j) (nat_eq number j.me) where
  by : (b c : Bool) → ((let k : Judge = cond b j (cond c ours theirs) in k.others) ≡ i.others) ⊎ Spoke o number answer now i.others (cond b j (cond c ours theirs))
  by true c = inl same
  by false true = inl own
  by false false = rest

-- a datagram leaves the numbers as they were, or one of them speaks
record SpokeIn (o : Origin) (v : Datagram) (f : Facts) (j k : Judge) : Type 0 where
  number : ℕ
  is : speaker_in v ≡ Some number
  spoke : Spoke o number (is_answer v f.at j) f.at j.others k

in_it : (o : Origin) (number : ℕ) (v : Datagram) (f : Facts) (j k : Judge) → speaker_in v ≡ Some number → (k.others ≡ j.others) ⊎ Spoke o number (is_answer v f.at j) f.at j.others k → (k.others ≡ j.others) ⊎ SpokeIn o v f j k
in_it o number v f j k is (inl e) = inl e
in_it o number v f j k is (inr s) = inr (record { number = number; is = is; spoke = s })

silent : (o : Origin) (v : Datagram) (f : Facts) (j : Judge) → speaker_in v ≡ None → (after_judging o v f j).others ≡ j.others
silent o v f j none = ⊎_elim
    (λ (s : Same (after_coming o f.at j) (after_judging o v f j)). s.others)
    (λ (h : Heard o (speaker_in v) (is_answer v f.at j) f.at (after_coming o f.at j) (after_judging o v f j)). absurd (never h.others.0.number (sym none ∙ h.others.3)))
    (outcome o v f (after_coming o f.at j)) where
      never : (n : ℕ) → (let x : Option ℕ = None in x) ≡ Some n → ⊥
      never n e = absurd cc

-- also if it tells marks
spoke_told : (o : Origin) (number : ℕ) (answer : Bool) (now : ℕ) (before : List Other) (v : Datagram) (k : Judge) → (k.others ≡ before) ⊎ Spoke o number answer now before k
    → (k.others ≡ before) ⊎ Spoke o number answer now before (after_telling o v now k)
spoke_told o number answer now before v k (inl e) = inl e
spoke_told o number answer now before v k (inr s) = inr (record { fetch = s.fetch; others = s.others })

spoken_in : (o : Origin) (v : Datagram) (f : Facts) (j : Judge) → ((after_judging o v f j).others ≡ j.others) ⊎ SpokeIn o v f j (after_judging o v f j)
spoken_in o (Draw d) f j = inl refl
spoken_in o (Session s sent page marks echoes) f j =
    let v = Session s sent page marks echoes in
    let i = after_coming o f.at j in
    let r = report_of j.me s marks echoes in
    in_it o s v f j (after_judging o v f j) refl (spoke_told o s (is_answer v f.at j) f.at j.others v (after_of o v f i) (said_others o s (is_answer v f.at j) f.at j i (after_own o sent r f.at i) (after_report o r f i) refl (own_others o sent r f.at i) (report_others o r f i)))
spoken_in o (PageState s page marks) f j =
    let v = PageState s page marks in
    let i = after_coming o f.at j in
    let r = report_of j.me s marks [] in
    in_it o s v f j (after_judging o v f j) refl (spoke_told o s (is_answer v f.at j) f.at j.others v (after_of o v f i) (said_others o s (is_answer v f.at j) f.at j i i (after_report o r f i) refl refl (report_others o r f i)))
spoken_in o (Request asker name) f j = inl (silent o (Request asker name) f j refl)
spoken_in o (AskPages asker) f j = inl (silent o (AskPages asker) f j refl)

-- ---- who was heard

-- which entry that is
pub record Entry (o : Origin) (number at : ℕ) (others : List Other) : Type 0 where
  pub x : Other
  pub found : other_of number others ≡ Some x
  pub origin : same_origin x.origin o ≡ true
  pub answered : is_some x.answered ≡ true
  pub late : at ≤ x.at

pub entry_of : (o : Origin) (number at : ℕ) (others : List Other) → is_heard_since o at (other_of number others) ≡ true → Entry o number at others
entry_of o number at others heard = by (other_of number others) refl heard where
  by : (x : Option Other) → other_of number others ≡ x → is_heard_since o at x ≡ true → Entry o number at others
  by None is e = absurd (true≢false (sym e))
  by (Some x) is e =
      let one = and_parts (same_origin x.origin o) _ e in
      let two = and_parts (is_some x.answered) (nat_le at x.at) one.1 in
      record { x = x; found = is; origin = one.0; answered = two.0; late = leb-true at x.at two.1 }

pub of_entry : (o : Origin) (at : ℕ) (x : Other) → same_origin x.origin o ≡ true → is_some x.answered ≡ true → at ≤ x.at → is_heard_since o at (Some x) ≡ true
of_entry o at x origin answered late = and_from (same_origin x.origin o) _ origin (and_from (is_some x.answered) _ answered (le-leb at x.at late))

-- it speaks again from there
said_again : (fetch : Bool) (o : Origin) (number : ℕ) (answer : Bool) (now since at : ℕ) (others : List Other) → at ≤ now → (e : Entry o number since others) → is_heard_since o at (Some (said_now fetch o number answer now others)) ≡ true
unfolding spoken
said_again fetch o number answer now since at others le e =
    ap (λ (x : Option Other). is_heard_since o at (Some (fetching_at fetch now (answering_at answer now (heard_again number o now x))))) e.found
    ∙ ap (λ (b : Bool). is_heard_since o at (Some (fetching_at fetch now (answering_at answer now (cond b (record e.x { at = now }) (heard_first number o now)))))) e.origin
    ∙ by fetch answer where
      by : (b c : Bool) → is_heard_since o at (Some (fetching_at b now (answering_at c now (record e.x { at = now })))) ≡ true
      by true true = of_entry o at (record e.x { at = now; answered = Some now; fetched = Some now }) e.origin refl le
      by true false = of_entry o at (record e.x { at = now; fetched = Some now }) e.origin e.answered le
      by false true = of_entry o at (record e.x { at = now; answered = Some now }) e.origin refl le
      by false false = of_entry o at (record e.x { at = now }) e.origin e.answered le

-- A report that answers nobody, and comes from elsewhere, is dropped.
not_elsewhere : (o p : Origin) (number now at : ℕ) (others : List Other) → now ≤ at + PATIENCE → (e : Entry o number at others) → is_bound_elsewhere number p now others ≡ false → same_origin p o ≡ true
unfolding is_bound_elsewhere
not_elsewhere o p number now at others soon e free = by (same_origin e.x.origin p) refl where
  lately : (nat_le (now - e.x.at) PATIENCE || is_some e.x.origin.owner) ≡ true
  lately = let le = e.late in or_left (nat_le (now - e.x.at) PATIENCE) (is_some e.x.origin.owner) (le-leb (now - e.x.at) PATIENCE (omega (arith, le, soon)))

  bound : same_origin e.x.origin p ≡ false → is_bound_elsewhere number p now others ≡ true
  bound apart =
      ap (λ (x : Option Other). numbers.is_elsewhere p now x) e.found
      ∙ and_from (not (same_origin e.x.origin p) && is_some e.x.answered) _ (and_from (not (same_origin e.x.origin p)) _ (ap (λ (b : Bool). not b) apart) e.answered) lately

  by : (b : Bool) → same_origin e.x.origin p ≡ b → same_origin p o ≡ true
  by true there = subst (λ (q : Origin). same_origin q o ≡ true) (same_origins e.x.origin p there) e.origin
  by false apart = absurd (true≢false (sym (bound apart) ∙ free))

pub heard_still : (o p : Origin) (v : Datagram) (f : Facts) (j : Judge) (number at : ℕ) → length (filter has_answered j.others) < MOST_OTHERS → at ≤ f.at → f.at ≤ at + PATIENCE
    → (speaker_in v ≡ Some number → is_answer v f.at j ≡ true → same_origin p o ≡ true) → is_heard_since o at (other_of number j.others) ≡ true
    → is_heard_since o at (other_of number (after_judging p v f j).others) ≡ true
heard_still o p v f j number at room le soon answers_there heard = ⊎_elim
    (λ (e : (after_judging p v f j).others ≡ j.others). ap (λ (xs : List Other). is_heard_since o at (other_of number xs)) e ∙ heard)
    (λ (s : SpokeIn p v f j (after_judging p v f j)). by s (nat_eq s.number number) refl)
    (spoken_in p v f j) where
      e : Entry o number at j.others
      e = entry_of o number at j.others heard

      another : (s : SpokeIn p v f j (after_judging p v f j)) → nat_eq s.number number ≡ false → is_heard_since o at (other_of number (after_judging p v f j).others) ≡ true
      another s apart =
          let x = said_now s.spoke.fetch p s.number (is_answer v f.at j) f.at j.others in
          ap (λ (xs : List Other). is_heard_since o at (other_of number xs)) s.spoke.others
          ∙ ap (is_heard_since o at) (other_kept number x e.x j.others room (ap (λ (n : ℕ). nat_eq n number) (said_number s.spoke.fetch p s.number (is_answer v f.at j) f.at j.others) ∙ apart) e.answered e.found)
          ∙ of_entry o at e.x e.origin e.answered e.late

      from_there : (s : SpokeIn p v f j (after_judging p v f j)) → s.number ≡ number → same_origin p o ≡ true → is_heard_since o at (other_of number (after_judging p v f j).others) ≡ true
      from_there s same there =
          let x = said_now s.spoke.fetch p s.number (is_answer v f.at j) f.at j.others in
          let mine : Entry p s.number at j.others = subst (λ (n : ℕ). Entry p n at j.others) (sym same) (subst (λ (q : Origin). Entry q number at j.others) (sym (same_origins p o there)) e) in
          ap (λ (xs : List Other). is_heard_since o at (other_of number xs)) s.spoke.others
          ∙ ap (is_heard_since o at) (other_new number x j.others (eq-eqb _ _ (said_number s.spoke.fetch p s.number (is_answer v f.at j) f.at j.others ∙ same)))
          ∙ ap (λ (q : Origin). is_heard_since q at (Some x)) (sym (same_origins p o there)) ∙ said_again s.spoke.fetch p s.number (is_answer v f.at j) f.at at at j.others le mine

      it : (s : SpokeIn p v f j (after_judging p v f j)) → s.number ≡ number → (b : Bool) → is_answer v f.at j ≡ b → (c : Bool) → is_bound_elsewhere number p f.at j.others ≡ c → is_heard_since o at (other_of number (after_judging p v f j).others) ≡ true
      it s same true answer c bound = from_there s same (answers_there (s.is ∙ ap Some same) answer)
      it s same false silent true bound = ap (λ (xs : List Other). is_heard_since o at (other_of number xs)) (numbers_stay p number v f j (s.is ∙ ap Some same) bound silent) ∙ heard
      it s same false silent false free = from_there s same (not_elsewhere o p number f.at at j.others soon e free)

      by : (s : SpokeIn p v f j (after_judging p v f j)) → (b : Bool) → nat_eq s.number number ≡ b → is_heard_since o at (other_of number (after_judging p v f j).others) ≡ true
      by s true is = it s (eqb-true s.number number is) (is_answer v f.at j) refl (is_bound_elsewhere number p f.at j.others) refl
      by s false is = another s is

-- ---- a report from there

not_bound : (o : Origin) (number now at : ℕ) (others : List Other) (e : Entry o number at others) → is_bound_elsewhere number o now others ≡ false
unfolding is_bound_elsewhere
not_bound o number now at others e =
    ap (λ (x : Option Other). numbers.is_elsewhere o now x) e.found
    ∙ ap (λ (b : Bool). (not b && is_some e.x.answered) && (nat_le (now - e.x.at) PATIENCE || is_some e.x.origin.owner)) e.origin

no_other_owner : (a : Option ℕ) → is_another a a ≡ false
no_other_owner None = refl
no_other_owner (Some owner) = ap (λ (b : Bool). not b) (eq-eqb owner owner refl)

not_forged : (o : Origin) (number at : ℕ) (j : Judge) → nat_eq number j.me ≡ false → Entry o number at j.others → is_forged number o j ≡ false
not_forged o number at j another e =
    ap (λ (b : Bool). is_another o.owner (cond b j.here (owner_in (other_of number j.others)))) another
    ∙ ap (λ (x : Option Other). is_another o.owner (owner_in x)) e.found
    ∙ ap (λ (b : Bool). is_another o.owner (cond b e.x.origin.owner None)) e.answered
    ∙ ap (λ (q : Origin). is_another o.owner q.owner) (same_origins e.x.origin o e.origin) ∙ no_other_owner o.owner

in_report : (o : Origin) (r : Report) (f : Facts) (j : Judge) (at : ℕ) → is_forged_mark r f ≡ false → Entry o r.speaker at j.others → Spoke o r.speaker (answers j.own r.echo f.at) f.at j.others (after_report o r f j)
unfolding after_report is_elsewhere is_admitted
in_report o r f j at fine e = by (answers j.own r.echo f.at) where
  inside : (answer : Bool) → Spoke o r.speaker answer f.at j.others (after_admitted o r answer f (after_admitting o r.speaker answer f.at j))
  inside answer = admitted_spoke o r answer f j (after_admitting o r.speaker answer f.at j) (admit_others o r.speaker answer f.at j) fine

  heard_there : (answer : Bool) → is_heard o answer (other_of r.speaker j.others) ≡ true
  heard_there answer = ap (is_heard o answer) e.found ∙ or_right answer (same_origin e.x.origin o) e.origin

  lets : (answer : Bool) → ((not answer && is_bound_elsewhere r.speaker o f.at j.others) || not (is_admitted o r.speaker answer f.at j)) ≡ false
  lets answer =
      ap (λ (b : Bool). (not answer && b) || not (is_admitted o r.speaker answer f.at j)) (not_bound o r.speaker f.at at j.others e)
      ∙ and_no (not answer) (not (is_admitted o r.speaker answer f.at j))
      ∙ ap (λ (b : Bool). not (b || has_room (new_ahead o j.others) (paid_for answer j) f.at)) (heard_there answer) where
        and_no : (a b : Bool) → ((a && false) || b) ≡ b
        and_no true b = refl
        and_no false b = refl

  by : (answer : Bool) → Spoke o r.speaker answer f.at j.others
      (cond ((not answer && is_bound_elsewhere r.speaker o f.at j.others) || not (is_admitted o r.speaker answer f.at j)) j (after_admitted o r answer f (after_admitting o r.speaker answer f.at j)))
  by answer = subst (λ (b : Bool). Spoke o r.speaker answer f.at j.others (cond b j (after_admitted o r answer f (after_admitting o r.speaker answer f.at j)))) (sym (lets answer)) (inside answer)

pub heard_now : (o : Origin) (s sent : ℕ) (page : PageId) (marks : List MarkValue) (echoes : List Echo) (f : Facts) (j : Judge) (at : ℕ) → nat_eq s j.me ≡ false → is_forged_mark (report_of j.me s marks echoes) f ≡ false
    → is_heard_since o at (other_of s j.others) ≡ true → is_heard_since o f.at (other_of s (after_judging o (Session s sent page marks echoes) f j).others) ≡ true
heard_now o s sent page marks echoes f j at another fine heard =
    ap (λ (b : Bool). let k : Judge = cond b i (cond (nat_eq s j.me) ours theirs) in is_heard_since o f.at (other_of s k.others)) (not_forged o s at i another e)
    ∙ ap (λ (b : Bool). let k : Judge = cond b ours theirs in is_heard_since o f.at (other_of s k.others)) another
    ∙ ap (λ (xs : List Other). is_heard_since o f.at (other_of s xs)) spoke.others
    ∙ ap (is_heard_since o f.at) (other_new s x j.others (eq-eqb _ _ (said_number spoke.fetch o s answer f.at j.others)))
    ∙ said_again spoke.fetch o s answer f.at at f.at j.others (omega arith) e where
      i : Judge
      i = after_coming o f.at j

      r : Report
      r = report_of j.me s marks echoes

      answer : Bool
      answer = answers j.own r.echo f.at

      ours : Judge
      ours = after_own o sent r f.at i

      theirs : Judge
      theirs = after_report o r f i

      e : Entry o s at j.others
      e = entry_of o s at j.others heard

      spoke : Spoke o s answer f.at i.others theirs
      spoke = in_report o r f i at fine e

      x : Other
      x = said_now spoke.fetch o s answer f.at j.others
