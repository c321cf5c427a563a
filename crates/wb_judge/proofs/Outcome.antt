-- What a datagram makes of the lists of a judge.
use Rattle.std.proofs.Common.{◌≡◌, ◌⊎◌, ◌∙◌, ℕ, Bool, true, false, cond, List, [], ◌∷◌, ap, inl, inr, refl, sym}
use Rattle.std.specs.List.{list_any}
use Rattle.std.specs.Prelude.{Option, None, Some, IfSome, nat_eq, ◌||◌}
use Rattle.std.proofs.lemmas.Bool.{eqb-true}
use Rattle.wb_codec.specs.declared.datagram.Datagram.{Datagram}
use Rattle.wb_codec.specs.declared.datagram.Datagram.TheVariants.{AskPages, Draw, PageState, Request, Session}
use Rattle.wb_judge.specs.Aliens.{with_alien}
use Rattle.wb_judge.specs.Answers.{answers}
use Rattle.wb_judge.specs.Buckets.{has_room, paid_after}
use Rattle.wb_judge.specs.Judge.{Judge, is_forged, knows}
use Rattle.wb_judge.specs.Judging.{after_admitted, after_admitting, after_answer, after_fetching, after_hearing, after_held, after_of, after_own, after_question, after_repair, after_report, after_request, after_said, after_stranger, after_telling, answering_at, fetching_at, is_fetched, is_forged_mark, is_repaired, is_twin, speaking, with_payment}
use Rattle.wb_judge.specs.Known.{known_from}
use Rattle.wb_judge.specs.Laws.{is_answer, speaker_in}
use Rattle.wb_judge.specs.Origins.{same_origin}
use Rattle.wb_judge.specs.Others.{heard_again, heard_first, other_of, other_with, spoken}
use Rattle.wb_judge.specs.Reports.{report_of}
use Rattle.wb_judge.specs.Strange.{without_origin}
use Rattle.wb_judge.specs.declared.facts.Facts.{Facts}
use Rattle.wb_judge.specs.declared.limits.TheConstants.{ASKED_AHEAD, ASKED_PAUSE, REPAIR_PAUSE}
use Rattle.wb_judge.specs.declared.origin.Origin.{Origin}
use Rattle.wb_judge.specs.declared.others.Other.{Other}
use Rattle.wb_judge.specs.declared.report.Report.{Report}
use Rattle.wb_judge.proofs.Sameness.{same_itself}

-- the lists are as they were
pub record Same (j k : Judge) : Type 0 where
  pub own : k.own ≡ j.own
  pub known : k.known ≡ j.known
  pub others : k.others ≡ j.others
  pub strange : k.strange ≡ j.strange

-- a number, if there is one, was heard from an origin, which answered or not
pub record Heard (o : Origin) (number : Option ℕ) (answer : Bool) (now : ℕ) (j k : Judge) : Type 0 where
  pub own : k.own ≡ j.own
  pub known : k.known ≡ cond answer (known_from o now j.known) j.known
  pub others : (x : Other) × (k.others ≡ other_with x j.others) × (same_origin x.origin o ≡ true) × (number ≡ Some x.number)
  pub strange : k.strange ≡ cond answer (without_origin o j.strange) j.strange

same : (j : Judge) → Same j j
same j = record { own = refl; known = refl; others = refl; strange = refl }

paid : (answer : Bool) (n : ℕ) (j : Judge) → Same j (with_payment answer n j)
paid true n j = record { own = refl; known = refl; others = refl; strange = refl }
paid false n j = record { own = refl; known = refl; others = refl; strange = refl }

either : (b : Bool) (i j k : Judge) → Same i j → Same i k → Same i (cond b j k)
either true i j k one other = one
either false i j k one other = other

admitting : (o : Origin) (number : ℕ) (answer : Bool) (now : ℕ) (j : Judge) → Same j (after_admitting o number answer now j)
unfolding after_admitting
admitting o number answer now j = either _ j j _ (same j) (paid answer _ j)

stranger : (now : ℕ) (j : Judge) → Same j (after_stranger now j)
unfolding after_stranger
stranger now j = either (has_room ASKED_AHEAD j.asked now) j (record j { asked = paid_after ASKED_PAUSE j.asked now }) j (record { own = refl; known = refl; others = refl; strange = refl }) (same j)

question : (o : Origin) (now : ℕ) (j : Judge) → Same j (after_question o now j)
unfolding after_question
question o now j = either (knows o now j) j j (after_stranger now j) (same j) (stranger now j)

repair : (o : Origin) (now : ℕ) (j : Judge) → Same j (after_repair o now j)
unfolding after_repair
repair o now j =
    either (is_repaired o now j) j (record j { repairs = paid_after REPAIR_PAUSE j.repairs now; served = Some o }) j
    (record { own = refl; known = refl; others = refl; strange = refl }) (same j)

request : (o : Origin) (f : Facts) (j : Judge) → Same j (after_request o f j)
unfolding after_held
request o f j = either f.holds j (after_held o f.at j) j (either (knows o f.at j) j (after_repair o f.at j) (after_stranger f.at j) (repair o f.at j) (stranger f.at j)) (same j)

owned : (o : Origin) (sent : ℕ) (r : Report) (now : ℕ) (j : Judge) → Same j (after_own o sent r now j)
unfolding after_own
owned o sent r now j =
    either (list_any (nat_eq sent) j.own) j j (record j { aliens = with_alien (record { origin = o; sent = sent; at = now }) j.aliens; has_twin = j.has_twin || is_twin sent r now j }) (same j)
    (record { own = refl; known = refl; others = refl; strange = refl })

fetching : (b : Bool) (now : ℕ) (j : Judge) → Same j (after_fetching b now j)
unfolding after_fetching
fetching true now j = record { own = refl; known = refl; others = refl; strange = refl }
fetching false now j = same j

-- the lists but for the numbers that were heard
record Answered (o : Origin) (answer : Bool) (now : ℕ) (j k : Judge) : Type 0 where
  own : k.own ≡ j.own
  known : k.known ≡ cond answer (known_from o now j.known) j.known
  others : k.others ≡ j.others
  strange : k.strange ≡ cond answer (without_origin o j.strange) j.strange

answered : (answer : Bool) (o : Origin) (now : ℕ) (j : Judge) → Answered o answer now j (after_answer answer o now j)
unfolding after_answer
answered true o now j = record { own = refl; known = refl; others = refl; strange = refl }
answered false o now j = record { own = refl; known = refl; others = refl; strange = refl }

-- who is found has the number
found_by : (number : ℕ) (others : List Other) → IfSome (other_of number others) (λ x. x.number ≡ number)
found_by number [] = tt
found_by number (x ∷ others) = by (nat_eq x.number number) refl (found_by number others) where
  by : (b : Bool) → nat_eq x.number number ≡ b → IfSome (other_of number others) (λ x. x.number ≡ number) → IfSome (cond b (Some x) (other_of number others)) (λ x. x.number ≡ number)
  by true is rest = eqb-true x.number number is
  by false is rest = rest

-- a number that is heard from there speaks from there
speaks_there : (o : Origin) (number : ℕ) (answer fetch : Bool) (now : ℕ) (j : Judge) → same_origin (fetching_at fetch now (speaking o number answer now j)).origin o ≡ true
unfolding speaking spoken
speaks_there o number answer fetch now j = fetched fetch _ (answered_so answer _ (again (other_of number j.others))) where
  fetched : (b : Bool) (x : Other) → same_origin x.origin o ≡ true → same_origin (fetching_at b now x).origin o ≡ true
  fetched true x e = e
  fetched false x e = e

  answered_so : (b : Bool) (x : Other) → same_origin x.origin o ≡ true → same_origin (answering_at b now x).origin o ≡ true
  answered_so true x e = e
  answered_so false x e = e

  again : (x : Option Other) → same_origin (heard_again number o now x).origin o ≡ true
  again None = same_itself o
  again (Some x) = by (same_origin x.origin o) refl where
    by : (b : Bool) → same_origin x.origin o ≡ b → same_origin (cond b (record x { at = now }) (heard_first number o now)).origin o ≡ true
    by true is = is
    by false is = same_itself o

pub said_number : (fetch : Bool) (o : Origin) (number : ℕ) (answer : Bool) (now : ℕ) (others : List Other) → (fetching_at fetch now (answering_at answer now (spoken number o now others))).number ≡ number
unfolding spoken
said_number fetch o number answer now others = fetched fetch _ ∙ answered_so answer _ ∙ again (other_of number others) (found_by number others) where
  fetched : (b : Bool) (x : Other) → (fetching_at b now x).number ≡ x.number
  fetched true x = refl
  fetched false x = refl

  answered_so : (b : Bool) (x : Other) → (answering_at b now x).number ≡ x.number
  answered_so true x = refl
  answered_so false x = refl

  again : (x : Option Other) → IfSome x (λ y. y.number ≡ number) → (heard_again number o now x).number ≡ number
  again None is = refl
  again (Some x) is = by (same_origin x.origin o) where
    by : (b : Bool) → (cond b (record x { at = now }) (heard_first number o now)).number ≡ number
    by true = is
    by false = refl

says_it : (o : Origin) (number : ℕ) (answer fetch : Bool) (now : ℕ) (j : Judge) → Some number ≡ Some (fetching_at fetch now (speaking o number answer now j)).number
unfolding speaking
says_it o number answer fetch now j = ap Some (sym (said_number fetch o number answer now j.others))

hearing : (o : Origin) (number : ℕ) (answer : Bool) (lacking now : ℕ) (j : Judge) → Heard o (Some number) answer now j (after_hearing o number answer lacking now j)
unfolding after_hearing
hearing o number answer lacking now j =
    let x = speaking o number answer now j in
    let fetch = is_fetched x lacking now j in
    let a = answered answer o now j in
    let f = fetching fetch now (after_answer answer o now j) in
    record {
      own = f.own ∙ a.own;
      known = f.known ∙ a.known;
      others = (fetching_at fetch now x, ap (other_with (fetching_at fetch now x)) (f.others ∙ a.others), speaks_there o number answer fetch now j, says_it o number answer fetch now j);
      strange = f.strange ∙ a.strange;
    }

-- heard after lists that are as they were
after_same : (o : Origin) (n : Option ℕ) (answer : Bool) (now : ℕ) (i j k : Judge) → Same i j → Heard o n answer now j k → Heard o n answer now i k
after_same o n answer now i j k s h = record {
  own = h.own ∙ s.own;
  known = h.known ∙ ap (λ known. cond answer (known_from o now known) known) s.known;
  others = (h.others.0, h.others.1 ∙ ap (other_with h.others.0) s.others, h.others.2, h.others.3);
  strange = h.strange ∙ ap (λ strange. cond answer (without_origin o strange) strange) s.strange;
}

choice : (b : Bool) (o : Origin) (n : Option ℕ) (answer : Bool) (now : ℕ) (i j k : Judge) → (Same i j ⊎ Heard o n answer now i j) → (Same i k ⊎ Heard o n answer now i k) → Same i (cond b j k) ⊎ Heard o n answer now i (cond b j k)
choice true o n answer now i j k one other = one
choice false o n answer now i j k one other = other

admitted : (o : Origin) (r : Report) (answer : Bool) (f : Facts) (j : Judge) → Same j (after_admitted o r answer f j) ⊎ Heard o (Some r.speaker) answer f.at j (after_admitted o r answer f j)
unfolding after_admitted
admitted o r answer f j = choice (is_forged_mark r f) o (Some r.speaker) answer f.at j j _ (inl (same j)) (inr (hearing o r.speaker answer f.lacking f.at j))

later : (o : Origin) (n : Option ℕ) (answer : Bool) (now : ℕ) (i j k : Judge) → Same i j → (Same j k ⊎ Heard o n answer now j k) → Same i k ⊎ Heard o n answer now i k
later o n answer now i j k s (inl t) = inl (record { own = t.own ∙ s.own; known = t.known ∙ s.known; others = t.others ∙ s.others; strange = t.strange ∙ s.strange })
later o n answer now i j k s (inr h) = inr (after_same o n answer now i j k s h)

reported : (o : Origin) (r : Report) (f : Facts) (j : Judge) → Same j (after_report o r f j) ⊎ Heard o (Some r.speaker) (answers j.own r.echo f.at) f.at j (after_report o r f j)
unfolding after_report
reported o r f j =
    let answer = answers j.own r.echo f.at in
    let k = after_admitting o r.speaker answer f.at j in
    choice _ o (Some r.speaker) answer f.at j j _ (inl (same j)) (later o (Some r.speaker) answer f.at j k _ (admitting o r.speaker answer f.at j) (admitted o r answer f k))

said : (o : Origin) (number : ℕ) (n : Option ℕ) (answer : Bool) (now : ℕ) (j ours theirs : Judge) → Same j ours → (Same j theirs ⊎ Heard o n answer now j theirs)
    → Same j (after_said o number j ours theirs) ⊎ Heard o n answer now j (after_said o number j ours theirs)
said o number n answer now j ours theirs s h = choice (is_forged number o j) o n answer now j j _ (inl (same j)) (choice (nat_eq number j.me) o n answer now j ours theirs (inl s) h)

judged : (o : Origin) (v : Datagram) (f : Facts) (j : Judge) → Same j (after_of o v f j) ⊎ Heard o (speaker_in v) (is_answer v f.at j) f.at j (after_of o v f j)
judged o (Draw d) f j = inl (same j)
judged o (Session s sent page marks echoes) f j = let r = report_of j.me s marks echoes in said o s (Some s) _ f.at j _ _ (owned o sent r f.at j) (reported o r f j)
judged o (PageState s page marks) f j = said o s (Some s) _ f.at j _ _ (same j) (reported o (report_of j.me s marks []) f j)
judged o (Request asker name) f j = said o asker None _ f.at j _ _ (same j) (inl (request o f j))
judged o (AskPages asker) f j = said o asker None _ f.at j _ _ (same j) (inl (question o f.at j))

-- a datagram leaves the lists as they were, or a number was heard; what members told is another list
pub outcome : (o : Origin) (v : Datagram) (f : Facts) (j : Judge) → Same j (after_telling o v f.at (after_of o v f j)) ⊎ Heard o (speaker_in v) (is_answer v f.at j) f.at j (after_telling o v f.at (after_of o v f j))
outcome o v f j = told (judged o v f j) where
  told : Same j (after_of o v f j) ⊎ Heard o (speaker_in v) (is_answer v f.at j) f.at j (after_of o v f j)
      → Same j (after_telling o v f.at (after_of o v f j)) ⊎ Heard o (speaker_in v) (is_answer v f.at j) f.at j (after_telling o v f.at (after_of o v f j))
  told (inl s) = inl (record { own = s.own; known = s.known; others = s.others; strange = s.strange })
  told (inr h) = inr (record { own = h.own; known = h.known; others = h.others; strange = h.strange })
