-- Whom a judge knows it knows after each line that leaves it so, and anew after each report.
use Rattle.std.proofs.Common.{◌≡◌, ◌≤◌, ◌+◌, ◌∙◌, ℕ, Bool, true, false, cond, List, [], ◌∷◌, ap, arith, refl, sym, true≢false}
use Rattle.std.specs.Prelude.{◌&&◌, ◌||◌, Option, None, Some, nat_eq, nat_le}
use Rattle.std.proofs.lemmas.Bool.{and_parts, eqb-true, le-leb, leb-true}
use Rattle.wb_names.specs.Values.{MarkValue}
use Rattle.wb_names.specs.declared.echo.Echo.{Echo}
use Rattle.wb_names.specs.declared.name.PageId.{PageId}
use Rattle.wb_codec.specs.declared.datagram.Datagram.{Datagram}
use Rattle.wb_codec.specs.declared.datagram.Datagram.TheVariants.{AskPages, Draw, PageState, Request, Session}
use Rattle.wb_judge.specs.Judge.{Judge, after_recall, after_taking, knows}
use Rattle.wb_judge.specs.Judging.{is_forged_mark, is_heard}
use Rattle.wb_judge.specs.Laws.{is_answer}
use Rattle.wb_judge.specs.Members.{Speaks}
use Rattle.wb_judge.specs.Origins.{same_origin}
use Rattle.wb_judge.specs.Others.{answered_once, other_of, other_with, recalled, was_answered}
use Rattle.wb_judge.specs.Reports.{report_of}
use Rattle.wb_judge.specs.Strange.{with_given}
use Rattle.wb_judge.specs.declared.known.KnownOrigin.{KnownOrigin}
use Rattle.wb_judge.specs.declared.limits.TheConstants.{SILENCE}
use Rattle.wb_judge.specs.declared.origin.Origin.{Origin}
use Rattle.wb_judge.specs.declared.others.Other.{Other}
use Rattle.wb_judge.specs.declared.strange.Given.{Given}
use Rattle.wb_judge.proofs.Found.{other_kept}
use Rattle.wb_judging.specs.Events.{is_new}
use Rattle.wb_judging.specs.Handing.{facts_of, handed, judge_after}
use Rattle.wb_judging.specs.Hearing.{after_fate, after_recalling, after_sending, after_sends, owned_at, with_strange}
use Rattle.wb_judging.specs.Judged.{Judged}
use Rattle.wb_judging.specs.declared.call.Call.{Call}
use Rattle.wb_judging.specs.declared.call.Call.TheVariants.{CameFrom, Held, Passed, UserDrew}
use Rattle.wb_judging.specs.Performing.{after_judged, fate_by, judging, sent_by_kept_line}
use Rattle.wb_judging.specs.declared.event.Fate.{Fate}
use Rattle.wb_judging.specs.declared.record.RecordLine.{RecordLine}
use Rattle.wb_judging.specs.declared.record.RecordLine.TheVariants.{Known, Mark, Owner, Said, Strange, Tick}
use Rattle.wb_judging.proofs.Followed.{at_now}
use Rattle.wb_judging.proofs.NewsTold.{heard_stays, known_stays}
use Rattle.wb_judged_sessions.specs.Knowing.{HasRoom, IsKnownSince, LeavesKnown, StaysKnown, is_heard_since, is_known_since}
use Rattle.wb_judged_sessions.proofs.Numbers.{Entry, entry_of, heard_now, heard_still}
use Rattle.wb_judged_sessions.proofs.Origins.{known_now, known_still, knows_for}

-- ---- who is known, and who was heard

record Alike (j k : Judge) : Type 0 where
  known : k.known ≡ j.known
  others : k.others ≡ j.others

itself : (j : Judge) → Alike j j
itself j = record { known = refl; others = refl }

then : {i j k : Judge} → Alike i j → Alike j k → Alike i k
then one other = record { known = other.known ∙ one.known; others = other.others ∙ one.others }

either : (b : Bool) (j k : Judge) → Alike j k → Alike j (cond b k j)
either true j k e = e
either false j k e = itself j

sending : (v : Datagram) (j : Judge) → Alike j (after_sending v j)
sending (Draw d) j = itself j
sending (Session sender sent page marks echoes) j = record { known = refl; others = refl }
sending (Request asker name) j = itself j
sending (AskPages asker) j = itself j
sending (PageState sender page marks) j = itself j

all_sent : (sent : List Datagram) (j : Judge) → Alike j (after_sends sent j)
all_sent [] j = itself j
all_sent (v ∷ sent) j = then (sending v j) (all_sent sent (after_sending v j))

taking : (g : Given) (o : Origin) (now : ℕ) (j : Judge) → Alike j (after_taking g o now j)
taking g o now j = by (knows o now j) where
  by : (b : Bool) → Alike j (cond b j (record j { strange = with_given g j.strange }))
  by true = itself j
  by false = record { known = refl; others = refl }

fated : (now : ℕ) (o : Origin) (v : Datagram) (fate : Option Fate) (j : Judge) → Alike j (after_fate now o v fate j)
fated now o (Draw d) fate j = either (is_new fate) j _ (taking (record { name = d.name; origin = Some o }) o now j)
fated now o (Session sender sent page marks echoes) fate j = itself j
fated now o (Request asker name) fate j = itself j
fated now o (AskPages asker) fate j = itself j
fated now o (PageState sender page marks) fate j = itself j

alike : (o : Origin) (number at : ℕ) (j k : Judge) → Alike j k → IsKnownSince o number at j → IsKnownSince o number at k
alike o number at j k s m = record {
  known = ap (is_known_since o at) s.known ∙ m.known;
  heard = ap (λ (others : List Other). is_heard_since o at (other_of number others)) s.others ∙ m.heard;
}

-- whoever answered under a number, as the record says, takes the place of nobody who has answered
recalled_owner : (n : ℕ) (q o : Origin) (number at : ℕ) (j : Judge) → HasRoom j → is_heard_since o at (other_of number j.others) ≡ true → is_heard_since o at (other_of number (after_recall n q j).others) ≡ true
unfolding recalled
recalled_owner n q o number at j room heard = by (nat_eq n j.me) (was_answered (other_of n j.others)) refl where
  e : Entry o number at j.others
  e = entry_of o number at j.others heard

  apart : was_answered (other_of n j.others) ≡ false → nat_eq n number ≡ false
  apart none = choose (nat_eq n number) refl where
    choose : (b : Bool) → nat_eq n number ≡ b → b ≡ false
    choose true is =
        let found = ap (λ (m : ℕ). was_answered (other_of m j.others)) (eqb-true n number is) ∙ ap was_answered e.found ∙ e.answered in
        absurd (true≢false (sym found ∙ none))
    choose false is = refl

  by : (b c : Bool) → was_answered (other_of n j.others) ≡ c → is_heard_since o at (other_of number (cond b j.others (cond c j.others (other_with (answered_once n q) j.others)))) ≡ true
  by true c is = heard
  by false true is = heard
  by false false is =
      ap (is_heard_since o at) (other_kept number (answered_once n q) e.x j.others room.others (apart is) e.answered e.found ∙ sym e.found) ∙ heard

recalling : (line : RecordLine) (fate : Option Fate) (j : Judge) (o : Origin) (number at : ℕ) → HasRoom j → IsKnownSince o number at j → IsKnownSince o number at (after_recalling line fate j)
recalling (Tick past) fate j o number at room m = m
recalling (Said d) fate j o number at room m = record { known = m.known; heard = m.heard }
recalling (Known d) fate j o number at room m = record { known = m.known; heard = m.heard }
recalling (Strange d) fate j o number at room m =
    alike o number at j (after_recalling (Strange d) fate j) (either (is_new fate) j (with_strange d.name j) (record { known = refl; others = refl })) m
recalling (Mark speaker page mark) fate j o number at room m = m
recalling (Owner n place owner) fate j o number at room m = record { known = m.known; heard = recalled_owner n (owned_at place owner) o number at j room m.heard }

-- after the line, it sends
and_sends : (line : Call) (h : Judged) (o : Origin) (number at : ℕ) → IsKnownSince o number at (judging line h) → IsKnownSince o number at (after_judged line h).judge
and_sends line h o number at m =
    let sent = sent_by_kept_line (handed line h) h.kept in
    alike o number at (judging line h) (after_sends sent (judging line h)) (all_sent sent (judging line h)) m

pub came : (now : ℕ) (p o : Origin) (v : Datagram) (h : Judged) (number at : ℕ) → IsKnownSince o number at (judge_after now p v h) → IsKnownSince o number at (after_judged (CameFrom now p v) h).judge
came now p o v h number at m =
    let line = CameFrom now p v in
    let fate = fate_by (handed line h) h.kept in
    and_sends line h o number at (alike o number at (judge_after now p v h) (judging line h) (fated now p v fate (judge_after now p v h)) m)

-- ---- any line

datagram : (now : ℕ) (p o : Origin) (v : Datagram) (h : Judged) (number at : ℕ) → HasRoom h.judge → LeavesKnown o number at (CameFrom now p v) h → IsKnownSince o number at h.judge
    → IsKnownSince o number at (judge_after now p v h)
unfolding judge_after
datagram now p o v h number at room leaves m =
    let f = facts_of now v h.kept in
    let is = at_now now v h.kept in
    let le = leaves.0 in
    let soon = leaves.1 in
    record {
      known = known_still o p v f h.judge at room.known (omega (arith, le, is)) m.known;
      heard = heard_still o p v f h.judge number at room.others (omega (arith, le, is)) (omega (arith, soon, is))
          (λ speaks answers. leaves.2 speaks (ap (λ (n : ℕ). is_answer v n h.judge) (sym is) ∙ answers)) m.heard;
    }

pub stays_known : StaysKnown
stays_known (CameFrom now p v) h o number at room leaves m = came now p o v h number at (datagram now p o v h number at room leaves m)
stays_known (Passed now news) h o number at room leaves m =
    and_sends (Passed now news) h o number at (record {
      known = known_stays o (λ (k : KnownOrigin). same_origin k.origin o && nat_le at k.at) (λ (k : KnownOrigin) is. (and_parts (same_origin k.origin o) (nat_le at k.at) is).0) now news h.judge leaves ∙ m.known;
      heard = heard_stays o number (is_heard_since o at) refl (λ (x : Other) is. (and_parts (same_origin x.origin o) _ is).0) now news h.judge leaves m.heard;
    })
stays_known (UserDrew now page op) h o number at room leaves m = and_sends (UserDrew now page op) h o number at m
stays_known (Held line) h o number at room leaves m =
    and_sends (Held line) h o number at (recalling line (fate_by (handed (Held line) h) h.kept) h.judge o number at room m)

-- ---- a report

-- A report that is fit makes it known since now.
pub report_makes_known : (now : ℕ) (o : Origin) (s sent : ℕ) (page : PageId) (marks : List MarkValue) (echoes : List Echo) (h : Judged) (at : ℕ) → nat_eq s h.judge.me ≡ false
    → knows o now h.judge ≡ true → is_forged_mark (report_of h.judge.me s marks echoes) (facts_of now (Session s sent page marks echoes) h.kept) ≡ false
    → IsKnownSince o s at h.judge → IsKnownSince o s now (after_judged (CameFrom now o (Session s sent page marks echoes)) h).judge
unfolding judge_after
report_makes_known now o s sent page marks echoes h at another known fine m =
    came now o o (Session s sent page marks echoes) h s now after where
      after : IsKnownSince o s now (judge_after now o (Session s sent page marks echoes) h)
      after =
          let v = Session s sent page marks echoes in
          let f = facts_of now v h.kept in
          record { known = known_now o v f h.judge known; heard = heard_now o s sent page marks echoes f h.judge at another fine m.heard }

-- ---- what it is to be known

pub speaks_since : (o : Origin) (number at : ℕ) (j : Judge) → ¬ (number ≡ j.me) → IsKnownSince o number at j → Speaks o number j
speaks_since o number at j another m = record { another = another; heard = by (other_of number j.others) m.heard } where
  by : (x : Option Other) → is_heard_since o at x ≡ true → is_heard o false x ≡ true
  by None e = absurd (true≢false (sym e))
  by (Some x) e = (and_parts (same_origin x.origin o) _ e).0

pub known_for : (o : Origin) (number at now : ℕ) (j : Judge) → now ≤ at + SILENCE → IsKnownSince o number at j → knows o now j ≡ true
known_for o number at now j soon m = knows_for o at now j soon m.known

-- since a moment, and since any earlier one
pub known_since_earlier : (o : Origin) (number at earlier : ℕ) (j : Judge) → earlier ≤ at → IsKnownSince o number at j → IsKnownSince o number earlier j
known_since_earlier o number at earlier j le m = record { known = any j.known m.known; heard = by (other_of number j.others) m.heard } where
  later : (t : ℕ) → nat_le at t ≡ true → nat_le earlier t ≡ true
  later t e = let a = leb-true at t e in le-leb earlier t (omega (arith, a, le))

  one : (a : Bool) (t : ℕ) → (a && nat_le at t) ≡ true → (a && nat_le earlier t) ≡ true
  one true t e = later t e
  one false t e = e

  by : (x : Option Other) → is_heard_since o at x ≡ true → is_heard_since o earlier x ≡ true
  by None e = e
  by (Some x) e = two (same_origin x.origin o) _ x.at e where
    two : (a b : Bool) (t : ℕ) → (a && (b && nat_le at t)) ≡ true → (a && (b && nat_le earlier t)) ≡ true
    two true true t e = later t e
    two true false t e = e
    two false b t e = e

  any : (known : List KnownOrigin) → is_known_since o at known ≡ true → is_known_since o earlier known ≡ true
  any [] e = e
  any (k ∷ known) e = choose (same_origin k.origin o && nat_le at k.at) (same_origin k.origin o && nat_le earlier k.at) (one (same_origin k.origin o) k.at) e (any known) where
    choose : (a b : Bool) → (a ≡ true → b ≡ true) → (a || is_known_since o at known) ≡ true → (is_known_since o at known ≡ true → is_known_since o earlier known ≡ true) → (b || is_known_since o earlier known) ≡ true
    choose true b so e rest = ap (λ (c : Bool). c || is_known_since o earlier known) (so refl)
    choose false true so e rest = refl
    choose false false so e rest = rest e
