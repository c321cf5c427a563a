-- Who owns a number is recorded, and a member that is handed the record knows it.
use Rattle.std.proofs.Common.{◌≡◌, ◌∙◌, ◌≤◌, ◌<◌, ◌+◌, ℕ, Bool, true, false, cond, List, [], ◌∷◌, ◌++◌, ap, arith, filter, length, map, refl, subst, sym, true≢false}
use Rattle.std.specs.Prelude.{◌||◌, Contains, None, Option, Some, is_some, nat_eq, option_to_list}
use Rattle.std.specs.List.{list_any}
use Rattle.std.proofs.lemmas.Bool.{eq-eqb, eqb-true}
use Rattle.std.proofs.lemmas.List.Elements.{Contains-append_left, Contains-append_right}
use Rattle.wb_names.proofs.Listings.{Contains-here, Contains-there}
use Rattle.wb_codec.specs.declared.datagram.Datagram.{Datagram}
use Rattle.wb_codec.specs.declared.datagram.Datagram.TheVariants.{AskPages, Draw, PageState, Request, Session}
use Rattle.wb_judge.specs.Judge.{Judge, after_recall, after_taking, knows, owner_in, owner_of}
use Rattle.wb_judge.specs.Laws.{speaker_in}
use Rattle.wb_judge.specs.Others.{answered_once, other_of, other_with, recalled, was_answered}
use Rattle.wb_judge.specs.Strange.{with_given}
use Rattle.wb_judge.specs.declared.limits.TheConstants.{MOST_OTHERS}
use Rattle.wb_judge.specs.declared.origin.Origin.{Origin}
use Rattle.wb_judge.specs.declared.others.Other.{Other}
use Rattle.wb_judge.specs.declared.strange.Given.{Given}
use Rattle.wb_judge.proofs.Owners.{beside_recalled, longer_recalled, recalled_other}
use Rattle.wb_judge.proofs.Found.{other_new}
use Rattle.wb_judging.specs.Events.{is_new}
use Rattle.wb_judging.specs.Handing.{handed, judge_after, verdict_on}
use Rattle.wb_judging.specs.Hearing.{after_fate, after_recalling, after_sending, after_sends, owned_at, with_strange}
use Rattle.wb_judging.specs.Judged.{CameFrom, Held, Judged, giver_of}
use Rattle.wb_judging.specs.Laws.{OwnersAreRecorded, OwnersOutliveStarts, after_all, is_owner, names_owner, record_of}
use Rattle.wb_judging.specs.Performing.{after_judged, fate_by, first_lines, gained, judging, lines_of, sent_by_kept_line}
use Rattle.wb_judging.specs.Recording.{freed_lines, gain_lines, mark_lines, new_owner, owner_by, owner_lines}
use Rattle.wb_judging.specs.declared.event.Fate.{Fate}
use Rattle.wb_judging.specs.declared.record.RecordLine.{RecordLine}
use Rattle.wb_judging.specs.declared.record.RecordLine.TheVariants.{Known, Mark, Owner, Said, Strange, Tick}
use Rattle.wb_judging.proofs.Numbers.{me_judging, sends}
use Rattle.wb_judging.proofs.Recorded.{line_recorded, noted}

-- ---- who owns a number after a datagram

owner_sending : (v : Datagram) (j : Judge) (number : ℕ) → owner_of number (after_sending v j) ≡ owner_of number j
owner_sending (Draw d) j number = refl
owner_sending (Session sender sent page marks echoes) j number = refl
owner_sending (Request asker name) j number = refl
owner_sending (AskPages asker) j number = refl
owner_sending (PageState sender page marks) j number = refl

owner_sends : (sent : List Datagram) (j : Judge) (number : ℕ) → owner_of number (after_sends sent j) ≡ owner_of number j
owner_sends [] j number = refl
owner_sends (v ∷ sent) j number = owner_sends sent (after_sending v j) number ∙ owner_sending v j number

owner_fate : (now : ℕ) (o : Origin) (v : Datagram) (fate : Option Fate) (j : Judge) (number : ℕ) → owner_of number (after_fate now o v fate j) ≡ owner_of number j
owner_fate now o (Draw d) fate j number = by (is_new fate) (knows o now j) where
  given : Given
  given = record { name = d.name; origin = Some o }

  by : (b c : Bool) → owner_of number (cond b (cond c j (record j { strange = with_given given j.strange })) j) ≡ owner_of number j
  by true true = refl
  by true false = refl
  by false c = refl
owner_fate now o (Session sender sent page marks echoes) fate j number = refl
owner_fate now o (Request asker name) fate j number = refl
owner_fate now o (AskPages asker) fate j number = refl
owner_fate now o (PageState sender page marks) fate j number = refl

owner_after : (now : ℕ) (o : Origin) (v : Datagram) (h : Judged) (number : ℕ) → owner_of number (after_judged (CameFrom now o v) h).judge ≡ owner_of number (judge_after now o v h)
owner_after now o v h number =
    let line = CameFrom now o v in
    owner_sends (sent_by_kept_line (handed line h) h.kept) (judging line h) number
    ∙ owner_fate now o v (fate_by (handed line h) h.kept) (judge_after now o v h) number

-- ---- it is recorded

in_noted : (now : ℕ) (lines : List RecordLine) (line : RecordLine) → Contains lines line → Contains (noted now lines) line
in_noted now [] line c = c
in_noted now (first ∷ lines) line c = Contains-there (Tick now) line (first ∷ lines) c

pub owners_are_recorded : OwnersAreRecorded
owners_are_recorded now o v h number owner speaks before after =
    let call = CameFrom now o v in
    let j = judge_after now o v h in
    let line = Owner number o.place owner in
    let freed = freed_lines o h.judge.strange.given j.strange.given h.kept.host.is.held in
    let marks = mark_lines now v (verdict_on now o v h).why h.kept in
    let gain = gain_lines (giver_of call) (judging call h).strange.given (gained (handed call h) h.kept) in
    let one : owner_lines o v h.judge j ≡ line ∷ [] =
    ap (λ (s : Option ℕ). option_to_list (new_owner s o.place (owner_by s h.judge) (owner_by s j))) speaks
    ∙ ap (λ (w : Option ℕ). option_to_list (new_owner (Some number) o.place w (owner_of number j))) before
    ∙ ap (λ (w : Option ℕ). option_to_list (new_owner (Some number) o.place None w)) (sym (owner_after now o v h number) ∙ after) in
    let there : Contains (owner_lines o v h.judge j) line = subst (λ (ls : List RecordLine). Contains ls line) (sym one) (Contains-here line []) in
    let first : Contains (first_lines call h) line = Contains-append_right freed (marks ++ owner_lines o v h.judge j) line (Contains-append_right marks (owner_lines o v h.judge j) line there) in
    subst (λ (ls : List RecordLine). Contains ls line) (sym (line_recorded call h)) (in_noted now (lines_of call h) line (Contains-append_left (first_lines call h) gain line first))

-- ---- numbers that were heard, where a line of the record is handed in

abbrev others_of : Judged → List Other
others_of h = h.judge.others

others_sending : (v : Datagram) (j : Judge) → (after_sending v j).others ≡ j.others
others_sending (Draw d) j = refl
others_sending (Session sender sent page marks echoes) j = refl
others_sending (Request asker name) j = refl
others_sending (AskPages asker) j = refl
others_sending (PageState sender page marks) j = refl

others_sends : (sent : List Datagram) (j : Judge) → (after_sends sent j).others ≡ j.others
others_sends [] j = refl
others_sends (v ∷ sent) j = others_sends sent (after_sending v j) ∙ others_sending v j

others_held : (line : RecordLine) (h : Judged) → others_of (after_judged (Held line) h) ≡ (judging (Held line) h).others
others_held line h = others_sends (sent_by_kept_line (handed (Held line) h) h.kept) (judging (Held line) h)

others_if : (b : Bool) (one j : Judge) → one.others ≡ j.others → (cond b one j).others ≡ j.others
others_if true one j same = same
others_if false one j same = refl

-- a line that names no owner leaves them
others_still : (line : RecordLine) (fate : Option Fate) (j : Judge) → is_owner line ≡ false → (after_recalling line fate j).others ≡ j.others
others_still (Tick past) fate j none = refl
others_still (Said d) fate j none = refl
others_still (Known d) fate j none = refl
others_still (Strange d) fate j none = others_if (is_new fate) (with_strange d.name j) j refl
others_still (Mark speaker page mark) fate j none = refl
others_still (Owner number place owner) fate j named = absurd (true≢false named)

-- What a line makes of them, while there is room.
record Goes (number : ℕ) (line : RecordLine) (before after : List Other) : Type 0 where
  longer : length after ≤ length before + length (filter is_owner (line ∷ []))
  other : names_owner number line ≡ false → other_of number after ≡ other_of number before
  kept : was_answered (other_of number before) ≡ true → other_of number after ≡ other_of number before

goes_still : (number : ℕ) (line : RecordLine) (before after : List Other) → after ≡ before → Goes number line before after
goes_still number line before after same =
    let found = ap (λ (xs : List Other). other_of number xs) same in
    record { longer = let e = ap length same in omega (arith, e); other = λ none. found; kept = λ answered. found }

answered_kept : (number n : ℕ) (o : Origin) (j : Judge) → n ≡ number → was_answered (other_of number j.others) ≡ true → (after_recall n o j).others ≡ j.others
unfolding recalled
answered_kept number n o j same answered =
    by (nat_eq n j.me) (was_answered (other_of n j.others)) (ap (λ (m : ℕ). was_answered (other_of m j.others)) same ∙ answered) where
      by : (b c : Bool) → c ≡ true → cond b j.others (cond c j.others (other_with (answered_once n o) j.others)) ≡ j.others
      by true c is = refl
      by false true is = refl
      by false false is = absurd (true≢false (sym is))

goes_owner : (number n : ℕ) (o : Origin) (place owner : ℕ) (j : Judge) → length j.others < MOST_OTHERS → Goes number (Owner n place owner) j.others (after_recall n o j).others
goes_owner number n o place owner j room = record {
  longer = let le = longer_recalled n o j room in omega (arith, le);
  other = λ apart. beside_recalled n number o j apart room;
  kept = λ answered. by answered (nat_eq n number) refl;
} where
  by : was_answered (other_of number j.others) ≡ true → (b : Bool) → nat_eq n number ≡ b → other_of number (after_recall n o j).others ≡ other_of number j.others
  by answered true is = ap (λ (xs : List Other). other_of number xs) (answered_kept number n o j (eqb-true n number is) answered)
  by answered false is = beside_recalled n number o j is room

goes_line : (number : ℕ) (line : RecordLine) (h : Judged) → length (others_of h) + length (filter is_owner (line ∷ [])) ≤ MOST_OTHERS → Goes number line (others_of h) (others_of (after_judged (Held line) h))
goes_line number line h room = subst (Goes number line (others_of h)) (sym (others_held line h)) (by line room) where
  by : (line : RecordLine) → length (others_of h) + length (filter is_owner (line ∷ [])) ≤ MOST_OTHERS → Goes number line (others_of h) (judging (Held line) h).others
  by (Owner n place owner) room = goes_owner number n (owned_at place owner) place owner h.judge (omega (arith, room))
  by (Tick past) room = goes_still number (Tick past) (others_of h) _ refl
  by (Said d) room = goes_still number (Said d) (others_of h) _ refl
  by (Known d) room = goes_still number (Known d) (others_of h) _ refl
  by (Strange d) room = goes_still number (Strange d) (others_of h) _ (others_still (Strange d) (fate_by (handed (Held (Strange d)) h) h.kept) h.judge refl)
  by (Mark speaker page mark) room = goes_still number (Mark speaker page mark) (others_of h) _ refl

-- ---- many lines

counted : (line : RecordLine) (lines : List RecordLine) → length (filter is_owner (line ∷ lines)) ≡ length (filter is_owner (line ∷ [])) + length (filter is_owner lines)
counted line lines = by (is_owner line) where
  by : (b : Bool) → length (cond b (line ∷ filter is_owner lines) (filter is_owner lines)) ≡ length (cond b (line ∷ []) []) + length (filter is_owner lines)
  by true = omega arith
  by false = omega arith

owned : (number owner : ℕ) (others : List Other) → owner_in (other_of number others) ≡ Some owner → was_answered (other_of number others) ≡ true
owned number owner others is = by (other_of number others) is where
  by : (x : Option Other) → owner_in x ≡ Some owner → was_answered x ≡ true
  by None e = absurd cc
  by (Some x) e = answered (is_some x.answered) refl e where
    answered : (b : Bool) → is_some x.answered ≡ b → cond b x.origin.owner None ≡ Some owner → is_some x.answered ≡ true
    answered true is e = is
    answered false is e = absurd cc

module _ (number : ℕ) where
  -- the room that is left after a line
  room_after : (line : RecordLine) (lines : List RecordLine) (h : Judged) → length (others_of h) + length (filter is_owner (line ∷ lines)) ≤ MOST_OTHERS
      → (length (others_of h) + length (filter is_owner (line ∷ [])) ≤ MOST_OTHERS)
      × (length (others_of (after_judged (Held line) h)) + length (filter is_owner lines) ≤ MOST_OTHERS)
  room_after line lines h room =
      let sum = counted line lines in
      let here : length (others_of h) + length (filter is_owner (line ∷ [])) ≤ MOST_OTHERS = omega (arith, room, sum) in
      let le = (goes_line number line h here).longer in
      (here, omega (arith, le, room, sum))

  -- whoever owns it owns it still
  stays_owned : (lines : List RecordLine) (h : Judged) (owner : ℕ) → length (others_of h) + length (filter is_owner lines) ≤ MOST_OTHERS → owner_in (other_of number (others_of h)) ≡ Some owner
      → owner_in (other_of number (others_of (after_all (map Held lines) h))) ≡ Some owner
  stays_owned [] h owner room is = is
  stays_owned (line ∷ lines) h owner room is =
      let r = room_after line lines h room in
      let same = (goes_line number line h r.0).kept (owned number owner (others_of h) is) in
      stays_owned lines (after_judged (Held line) h) owner r.1 (ap owner_in same ∙ is)

  -- the first that is named
  first_owns : (older newer : List RecordLine) (place owner : ℕ) (h : Judged) → length (others_of h) + length (filter is_owner (older ++ Owner number place owner ∷ newer)) ≤ MOST_OTHERS
      → list_any (names_owner number) older ≡ false → nat_eq number h.judge.me ≡ false → other_of number (others_of h) ≡ None
      → owner_in (other_of number (others_of (after_all (map Held (older ++ Owner number place owner ∷ newer)) h))) ≡ Some owner
  first_owns [] newer place owner h room none other absent =
      let line = Owner number place owner in
      let o = owned_at place owner in
      let r = room_after line newer h room in
      let others = others_held line h ∙ recalled_other number o h.judge other (ap was_answered absent) in
      let found = ap (λ (xs : List Other). other_of number xs) others ∙ other_new number (answered_once number o) h.judge.others (same_number number) in
      stays_owned newer (after_judged (Held line) h) owner r.1 (ap owner_in found) where
        same_number : (n : ℕ) → nat_eq n n ≡ true
        same_number n = eq-eqb n n refl
  first_owns (line ∷ older) newer place owner h room none other absent =
      let r = room_after line (older ++ Owner number place owner ∷ newer) h room in
      let parts = neither (names_owner number line) (list_any (names_owner number) older) none in
      let same = (goes_line number line h r.0).other parts.0 in
      first_owns older newer place owner (after_judged (Held line) h) r.1 parts.1 (ap (λ (me : ℕ). nat_eq number me) (me_held line h) ∙ other) (same ∙ absent) where
        neither : (a b : Bool) → (a || b) ≡ false → (a ≡ false) × (b ≡ false)
        neither true b e = absurd (true≢false e)
        neither false b e = (refl, e)

        me_held : (line : RecordLine) (h : Judged) → (after_judged (Held line) h).judge.me ≡ h.judge.me
        me_held line h = (sends (sent_by_kept_line (handed (Held line) h) h.kept) (judging (Held line) h)).me ∙ me_judging (Held line) h

me_all : (lines : List RecordLine) (h : Judged) → (after_all (map Held lines) h).judge.me ≡ h.judge.me
me_all [] h = refl
me_all (line ∷ lines) h =
    me_all lines (after_judged (Held line) h) ∙ (sends (sent_by_kept_line (handed (Held line) h) h.kept) (judging (Held line) h)).me ∙ me_judging (Held line) h

pub owners_outlive_starts : OwnersOutliveStarts
owners_outlive_starts older newer number place owner anew nobody other few none =
    let lines = older ++ Owner number place owner ∷ newer in
    let k = (after_all (map Held lines) anew).judge in
    let room : length (others_of anew) + length (filter is_owner lines) ≤ MOST_OTHERS = let e = ap length nobody in omega (arith, e, few) in
    ap (λ (me : ℕ). cond (nat_eq number me) k.here (owner_in (other_of number k.others))) (me_all lines anew)
    ∙ ap (λ (b : Bool). cond b k.here (owner_in (other_of number k.others))) other
    ∙ first_owns number older newer place owner anew room none other (ap (λ (xs : List Other). other_of number xs) nobody)
