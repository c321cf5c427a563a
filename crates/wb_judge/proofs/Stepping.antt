-- What the steps of a judge leave.
use Rattle.std.proofs.Common.{◌≡◌, ◌⊎◌, ◌∙◌, ◌≤◌, ◌<◌, ◌+◌, ◌-◌, ℕ, Bool, true, false, cond, List, [], ◌∷◌, Option, None, ap, arith, inl, inr, length, refl, sym, true≢false}
use Rattle.std.proofs.lemmas.Bool.{and_from, and_parts, leb-false, not-true, or_parts}
use Rattle.std.proofs.lemmas.List.{length-append}
use Rattle.std.specs.List.{count_by}
use Rattle.std.specs.Prelude.{Some, ◌&&◌, ◌||◌, is_none, nat_le, nat_lt, not}
use Rattle.wb_names.specs.Values.{DrawopValue}
use Rattle.wb_codec.specs.declared.datagram.Datagram.{Datagram}
use Rattle.wb_codec.specs.declared.datagram.Datagram.TheVariants.{AskPages, Draw, PageState, Request, Session}
use Rattle.wb_judge.specs.Judge.{Judge, after_leaving, after_taking, is_full, knows}
use Rattle.wb_judge.specs.Judging.{after_coming, after_judging, drawop_verdict, draws, is_ahead, is_claimed, is_forged_drawop, verdict}
use Rattle.wb_judge.specs.Known.{is_known, left}
use Rattle.wb_judge.specs.Laws.{AreStrange, NeverAnswer, Step, StrangersHaveAShare, after_datagram, after_step, after_steps, answers_from, is_answer, is_taken, names_from, new_name, new_names, speaker_in}
use Rattle.wb_judge.specs.Laws.{Comes, Leaves, Recalls, Remembers, Reports, Tells}
use Rattle.wb_judge.specs.Origins.{same_origin}
use Rattle.wb_judge.specs.Strange.{has_name, is_given_by, is_over, is_wide, with_given}
use Rattle.wb_judge.specs.Told.{leaves_holes}
use Rattle.wb_judge.specs.Verdicts.{dropped, taken, warned}
use Rattle.wb_judge.specs.declared.facts.Facts.{Facts}
use Rattle.wb_judge.specs.declared.known.KnownOrigin.{KnownOrigin}
use Rattle.wb_judge.specs.declared.limits.TheConstants.{SILENCE}
use Rattle.wb_judge.specs.declared.origin.Origin.{Origin}
use Rattle.wb_judge.specs.declared.strange.Given.{Given}
use Rattle.wb_judge.specs.declared.verdict.Warning.TheVariants.{NoCell, NoShare}
use Rattle.wb_judge.specs.declared.verdict.Why.TheVariants.{Ahead, Full, Holes, Own, Pages, Share, Speaks}
use Rattle.wb_judge.proofs.Anywhere.{any_filter}
use Rattle.wb_judge.proofs.Bounds.{shares_stay, state_is_bounded}
use Rattle.wb_judge.proofs.Members.{only_answers_make_known, stays_known, stays_unknown}
use Rattle.wb_judge.proofs.Outcome.{Heard, Same, outcome}
use Rattle.wb_judge.proofs.Shared.{count_grows, count_of, few_count, one_more_counts, stays_counted}

-- ---- who is known

strange_after : (some : Origin → Bool) (o : Origin) (v : Datagram) (f : Facts) (j : Judge) → AreStrange some j → (some o && is_answer v f.at j) ≡ false → AreStrange some (after_judging o v f j)
strange_after some o v f j unknown silent p now one = by (knows p now (after_judging o v f j)) refl where
  never : (knows p now j ≡ true) ⊎ (knows p f.at j ≡ true) ⊎ ((o ≡ p) × (is_answer v f.at j ≡ true)) → ⊥
  never (inl g) = true≢false (sym g ∙ unknown p now one)
  never (inr (inl g)) = true≢false (sym g ∙ unknown p f.at one)
  never (inr (inr g)) = true≢false (sym (and_from (some o) (is_answer v f.at j) (ap some g.0 ∙ one) g.1) ∙ silent)

  by : (b : Bool) → knows p now (after_judging o v f j) ≡ b → b ≡ false
  by true is = absurd (never (only_answers_make_known o p v f j now is))
  by false is = refl

pub taking_known : (g : Given) (o : Origin) (now : ℕ) (j : Judge) → (after_taking g o now j).known ≡ j.known
taking_known g o now j = by (knows o now j) where
  by : (b : Bool) → (cond b j (record j { strange = with_given g j.strange })).known ≡ j.known
  by true = refl
  by false = refl

drawn_known : (o : Origin) (d : DrawopValue) (f : Facts) (j : Judge) → (after_datagram o (Draw d) f j).known ≡ (after_judging o (Draw d) f j).known
drawn_known o d f j = by (is_taken o d f j) where
  by : (b : Bool) → (cond b (after_taking (record { name = d.name; origin = Some o }) o f.at (after_judging o (Draw d) f j)) (after_judging o (Draw d) f j)).known ≡ (after_judging o (Draw d) f j).known
  by true = taking_known (record { name = d.name; origin = Some o }) o f.at (after_judging o (Draw d) f j)
  by false = refl

strange_drawn : (some : Origin → Bool) (o : Origin) (d : DrawopValue) (f : Facts) (j : Judge) → AreStrange some j → (some o && is_answer (Draw d) f.at j) ≡ false → AreStrange some (after_datagram o (Draw d) f j)
strange_drawn some o d f j unknown silent p now one = ap (is_known p now) (drawn_known o d f j) ∙ strange_after some o (Draw d) f j unknown silent p now one

strange_left : (some : Origin → Bool) (o : Origin) (j : Judge) → AreStrange some j → AreStrange some (after_leaving o j)
unfolding is_known
strange_left some o j unknown p now one = by (is_known p now (left o j.known)) refl where
  by : (b : Bool) → is_known p now (left o j.known) ≡ b → b ≡ false
  by true is = absurd (true≢false (sym (any_filter (λ (k : KnownOrigin). same_origin k.origin p && nat_le (now - k.at) SILENCE) (λ (k : KnownOrigin). not (same_origin k.origin o)) j.known is) ∙ unknown p now one))
  by false is = refl

strange_step : (some : Origin → Bool) (s : Step) (j : Judge) → AreStrange some j → answers_from some s j ≡ false → AreStrange some (after_step s j)
strange_step some (Comes o (Draw d) f) j unknown silent = strange_drawn some o d f j unknown silent
strange_step some (Comes o (Session s sent page marks echoes) f) j unknown silent = strange_after some o (Session s sent page marks echoes) f j unknown silent
strange_step some (Comes o (PageState s page marks) f) j unknown silent = strange_after some o (PageState s page marks) f j unknown silent
strange_step some (Comes o (Request asker name) f) j unknown silent = strange_after some o (Request asker name) f j unknown silent
strange_step some (Comes o (AskPages asker) f) j unknown silent = strange_after some o (AskPages asker) f j unknown silent
strange_step some (Reports sent) j unknown silent = unknown
strange_step some (Tells clock) j unknown silent = unknown
strange_step some (Leaves o) j unknown silent = strange_left some o j unknown
strange_step some (Remembers name) j unknown silent = unknown
strange_step some (Recalls number o) j unknown silent = unknown

-- ---- how much is taken in

-- the verdict on what a stranger gives that is not held
let_in : (forged elsewhere ahead full over shut wide holes : Bool)
    → (cond forged (dropped Own) (cond elsewhere (dropped Speaks) (cond ahead (dropped Ahead) (cond full (warned Full NoCell) (cond over (cond shut (warned Share NoShare) (dropped Share)) (cond wide (dropped Pages) (cond holes (dropped Holes) taken))))))).why ≡ None → over ≡ false
let_in true elsewhere ahead full over shut wide holes e = cc
let_in false true ahead full over shut wide holes e = cc
let_in false false true full over shut wide holes e = cc
let_in false false false true over shut wide holes e = cc
let_in false false false false true true wide holes e = cc
let_in false false false false true false wide holes e = cc
let_in false false false false false shut wide holes e = refl

-- a stranger's drawop that is handed in and not held has room among theirs
room_for : (o : Origin) (d : DrawopValue) (f : Facts) (j : Judge) → knows o f.at j ≡ false → f.holds ≡ false → (drawop_verdict o d f j).why ≡ None → length j.strange.given < j.strange.most
unfolding drawop_verdict is_over is_forged_drawop
room_for o d f j unknown new why =
    let over = let_in (is_forged_drawop false d f j) (is_claimed o d.name.source f.at j) (is_ahead false d.time f.at j) (is_full f.held j && (draws d.op || true)) (is_over o j.strange) (nat_lt 0 j.strange.most) (is_wide d.name j.strange) (leaves_holes d.name f.top j.told) (ruled why) in
    leb-false j.strange.most (length j.strange.given) (or_parts (nat_le j.strange.most (length j.strange.given)) (nat_le j.strange.most_of_origin (count_by (is_given_by o) j.strange.given)) over).0 where
      ruled : (drawop_verdict o d f j).why ≡ None → (cond (is_forged_drawop false d f j) (dropped Own) (cond (is_claimed o d.name.source f.at j) (dropped Speaks) (cond (is_ahead false d.time f.at j) (dropped Ahead) (cond (is_full f.held j && (draws d.op || true)) (warned Full NoCell) (cond (is_over o j.strange) (cond (nat_lt 0 j.strange.most) (warned Share NoShare) (dropped Share)) (cond (is_wide d.name j.strange) (dropped Pages) (cond (leaves_holes d.name f.top j.told) (dropped Holes) taken))))))).why ≡ None
      ruled e = rw (new, unknown) at e

pub none_of : {X : Type 0} (o : Option X) → is_none o ≡ true → o ≡ None
none_of None e = refl
none_of (Some x) e = cc

abbrev given_by : Origin → DrawopValue → Given
given_by o d = record { name = d.name; origin = Some o }

-- a stranger's drawop is taken in
counted_stranger : (some : Origin → Bool) (o : Origin) (d : DrawopValue) (f : Facts) (j : Judge) → is_taken o d f j ≡ true → knows o f.at j ≡ false → (b c : Bool) → some o ≡ b → has_name d.name j.strange.given ≡ c
    → count_of some j.strange + length (cond ((b && true) && not c) (d.name ∷ []) []) ≤ count_of some (with_given (given_by o d) j.strange)
counted_stranger some o d f j is e true false one new =
    let parts = and_parts (is_none (verdict o (Draw d) f j).why) (not f.holds) is in
    let room = room_for o d f (after_coming o f.at j) (stays_unknown o f.at j.known e) (not-true f.holds parts.1) (none_of (verdict o (Draw d) f j).why parts.0) in
    omega (arith, one_more_counts some (given_by o d) j.strange one new room)
counted_stranger some o d f j is e true true one new = omega (arith, count_grows some (given_by o d) j.strange)
counted_stranger some o d f j is e false c one new = omega (arith, count_grows some (given_by o d) j.strange)

-- a member's, which is none of these
counted_member : (some : Origin → Bool) (o : Origin) (d : DrawopValue) (j : Judge) (c : Bool) → some o ≡ false → count_of some j.strange + length (cond ((some o && true) && c) (d.name ∷ []) []) ≤ count_of some j.strange
counted_member some o d j c other = by (some o) other where
  by : (b : Bool) → b ≡ false → count_of some j.strange + length (cond ((b && true) && c) (d.name ∷ []) []) ≤ count_of some j.strange
  by true e = absurd (true≢false e)
  by false e = omega arith

not_theirs : (some : Origin → Bool) (o : Origin) (now : ℕ) (j : Judge) → AreStrange some j → knows o now j ≡ true → some o ≡ false
not_theirs some o now j unknown known = by (some o) refl where
  by : (b : Bool) → some o ≡ b → b ≡ false
  by true is = absurd (true≢false (sym known ∙ unknown o now is))
  by false is = refl

after_coming_knows : (o : Origin) (at : ℕ) (j : Judge) (b : Bool) → knows o at j ≡ b → knows o at (after_coming o at j) ≡ b
after_coming_knows o at j true is = stays_known o at j.known is
after_coming_knows o at j false is = stays_unknown o at j.known is

counted_taken : (some : Origin → Bool) (o : Origin) (d : DrawopValue) (f : Facts) (j : Judge) → AreStrange some j → is_taken o d f j ≡ true
    → count_of some j.strange + length (cond ((some o && true) && not (has_name d.name j.strange.given)) (d.name ∷ []) []) ≤ count_of some (after_taking (given_by o d) o f.at (after_judging o (Draw d) f j)).strange
counted_taken some o d f j unknown is = by (knows o f.at j) refl where
  by : (b : Bool) → knows o f.at j ≡ b → count_of some j.strange + length (cond ((some o && true) && not (has_name d.name j.strange.given)) (d.name ∷ []) []) ≤ count_of some (after_taking (given_by o d) o f.at (after_judging o (Draw d) f j)).strange
  by true e = rw (after_coming_knows o f.at j true e) (counted_member some o d j (not (has_name d.name j.strange.given)) (not_theirs some o f.at j unknown e))
  by false e = rw (after_coming_knows o f.at j false e) (counted_stranger some o d f j is e (some o) (has_name d.name j.strange.given) refl refl)

counted_drawn : (some : Origin → Bool) (o : Origin) (d : DrawopValue) (f : Facts) (j : Judge) → AreStrange some j
    → count_of some j.strange + length (new_name some o (Draw d) f j) ≤ count_of some (after_datagram o (Draw d) f j).strange
counted_drawn some o d f j unknown = by (is_taken o d f j) refl where
  nothing : (a b : Bool) → length (cond ((a && false) && b) (d.name ∷ []) []) ≡ 0
  nothing true b = refl
  nothing false b = refl

  by : (b : Bool) → is_taken o d f j ≡ b → count_of some j.strange + length (cond ((some o && b) && not (has_name d.name j.strange.given)) (d.name ∷ []) [])
      ≤ count_of some (cond b (after_taking (given_by o d) o f.at (after_judging o (Draw d) f j)) (after_judging o (Draw d) f j)).strange
  by true is = counted_taken some o d f j unknown is
  by false is = omega (arith, nothing (some o) (not (has_name d.name j.strange.given)))

counted_heard : (some : Origin → Bool) (o : Origin) (v : Datagram) (f : Facts) (j : Judge) → (some o && is_answer v f.at j) ≡ false → count_of some (after_judging o v f j).strange ≡ count_of some j.strange
counted_heard some o v f j silent = by (outcome o v f (after_coming o f.at j)) where
  by : Same (after_coming o f.at j) (after_judging o v f j) ⊎ Heard o (speaker_in v) (is_answer v f.at j) f.at (after_coming o f.at j) (after_judging o v f j) → count_of some (after_judging o v f j).strange ≡ count_of some j.strange
  by (inl s) = ap (count_of some) s.strange
  by (inr h) = ap (count_of some) h.strange ∙ stays_counted some o (is_answer v f.at j) j.strange silent

counted_step : (some : Origin → Bool) (s : Step) (j : Judge) → AreStrange some j → answers_from some s j ≡ false → count_of some j.strange + length (new_names some s j) ≤ count_of some (after_step s j).strange
counted_step some (Comes o (Draw d) f) j unknown silent = counted_drawn some o d f j unknown
counted_step some (Comes o (Session s sent page marks echoes) f) j unknown silent = omega (arith, counted_heard some o (Session s sent page marks echoes) f j silent)
counted_step some (Comes o (PageState s page marks) f) j unknown silent = omega (arith, counted_heard some o (PageState s page marks) f j silent)
counted_step some (Comes o (Request asker name) f) j unknown silent = omega (arith, counted_heard some o (Request asker name) f j silent)
counted_step some (Comes o (AskPages asker) f) j unknown silent = omega (arith, counted_heard some o (AskPages asker) f j silent)
counted_step some (Reports sent) j unknown silent = omega arith
counted_step some (Tells clock) j unknown silent = omega arith
counted_step some (Leaves o) j unknown silent = omega arith
counted_step some (Remembers name) j unknown silent = omega (arith, count_grows some (record { name = name; origin = None }) j.strange)
counted_step some (Recalls number o) j unknown silent = omega arith

counted : (some : Origin → Bool) (steps : List Step) (j : Judge) → AreStrange some j → NeverAnswer some steps j → count_of some j.strange + length (names_from some steps j) ≤ count_of some (after_steps steps j).strange
counted some [] j unknown silent = omega arith
counted some (s ∷ steps) j unknown silent =
    let one = counted_step some s j unknown silent.0 in
    let more = counted some steps (after_step s j) (strange_step some s j unknown silent.0) silent.1 in
    omega (arith, one, more, length-append (new_names some s j) (names_from some steps (after_step s j)))

pub strangers_have_a_share : StrangersHaveAShare
strangers_have_a_share some steps j bounded unknown silent =
    let k = after_steps steps j in
    let in_all = counted some steps j unknown silent in
    let few = few_count some k.strange in
    let room = (state_is_bounded steps j bounded).strange in
    let same = shares_stay steps j in
    omega (arith, in_all, few, room, same)
