-- Members stay members while only members speak.
use Rattle.std.proofs.Common.{◌≡◌, ◌≤◌, ◌+◌, ◌-◌, ◌∙◌, ℕ, Bool, true, false, cond, List, [], ◌∷◌, ap, refl, subst, sym, true≢false}
use Rattle.std.proofs.lemmas.Bool.{and_parts, eqb-true}
use Rattle.std.specs.Prelude.{None, Option, Some, ◌&&◌, nat_eq, nat_le}
use Rattle.wb_codec.specs.declared.datagram.Datagram.{Datagram}
use Rattle.wb_codec.specs.declared.datagram.Datagram.TheVariants.{AskPages, Draw, PageState, Request, Session}
use Rattle.wb_judge.specs.Judge.{Judge, after_taking, knows}
use Rattle.wb_judge.specs.Judging.{is_heard}
use Rattle.wb_judge.specs.Known.{is_known}
use Rattle.wb_judge.specs.Laws.{IsBounded}
use Rattle.wb_judge.specs.Members.{IsSpoken, Speaks}
use Rattle.wb_judge.specs.Origins.{same_origin}
use Rattle.wb_judge.specs.Others.{other_of}
use Rattle.wb_judge.specs.Strange.{with_given}
use Rattle.wb_judge.specs.declared.known.KnownOrigin.{KnownOrigin}
use Rattle.wb_judge.specs.declared.limits.TheConstants.{SILENCE}
use Rattle.wb_judge.specs.declared.origin.Origin.{Origin}
use Rattle.wb_judge.specs.declared.others.Other.{Other}
use Rattle.wb_judge.specs.declared.strange.Given.{Given}
use Rattle.wb_judge.proofs.MembersStay.{known_again, known_beside}
use Rattle.wb_judge.proofs.NumbersBeside.{numbers_beside}
use Rattle.wb_judge.proofs.Owners.{beside_recalled}
use Rattle.wb_judge.proofs.Sameness.{same_itself, same_origins}
use Rattle.wb_judging.specs.Events.{is_new}
use Rattle.wb_judging.specs.Handing.{facts_of, handed, judge_after}
use Rattle.wb_judging.specs.Hearing.{after_fate, after_recalling, after_sending, after_sends, owned_at, with_strange}
use Rattle.wb_judging.specs.Judged.{Call, CameFrom, Held, Judged, Passed, UserDrew}
use Rattle.wb_judging.specs.Members.{FindsRoom, IsMemberUntil, MembersAreKnownAgain, MembersStay}
use Rattle.wb_judging.specs.News.{LeavesOrigin, News, after_news}
use Rattle.wb_judging.specs.Performing.{after_judged, fate_by, judging, sent_by_kept_line}
use Rattle.wb_judging.specs.declared.event.Fate.{Fate}
use Rattle.wb_judging.specs.declared.record.RecordLine.{RecordLine}
use Rattle.wb_judging.specs.declared.record.RecordLine.TheVariants.{Known, Mark, Owner, Said, Strange, Tick}
use Rattle.wb_judging.proofs.Followed.{at_now}
use Rattle.wb_judging.proofs.NewsTold.{heard_stays, known_stays, news_keeps}
use Rattle.wb_judging.proofs.Numbers.{came_fixed}

-- ---- who is known, and who was heard

record Same (j k : Judge) : Type 0 where
  me : k.me ≡ j.me
  known : k.known ≡ j.known
  others : k.others ≡ j.others

itself : (j : Judge) → Same j j
itself j = record { me = refl; known = refl; others = refl }

then : {i j k : Judge} → Same i j → Same j k → Same i k
then one other = record { me = other.me ∙ one.me; known = other.known ∙ one.known; others = other.others ∙ one.others }

either : (b : Bool) (j k : Judge) → Same j k → Same j (cond b k j)
either true j k e = e
either false j k e = itself j

sending : (v : Datagram) (j : Judge) → Same j (after_sending v j)
sending (Draw d) j = itself j
sending (Session sender sent page marks echoes) j = record { me = refl; known = refl; others = refl }
sending (Request asker name) j = itself j
sending (AskPages asker) j = itself j
sending (PageState sender page marks) j = itself j

all_sent : (sent : List Datagram) (j : Judge) → Same j (after_sends sent j)
all_sent [] j = itself j
all_sent (v ∷ sent) j = then (sending v j) (all_sent sent (after_sending v j))

taking : (g : Given) (o : Origin) (now : ℕ) (j : Judge) → Same j (after_taking g o now j)
taking g o now j = by (knows o now j) where
  by : (b : Bool) → Same j (cond b j (record j { strange = with_given g j.strange }))
  by true = itself j
  by false = record { me = refl; known = refl; others = refl }

fated : (now : ℕ) (o : Origin) (v : Datagram) (fate : Option Fate) (j : Judge) → Same j (after_fate now o v fate j)
fated now o (Draw d) fate j = either (is_new fate) j _ (taking (record { name = d.name; origin = Some o }) o now j)
fated now o (Session sender sent page marks echoes) fate j = itself j
fated now o (Request asker name) fate j = itself j
fated now o (AskPages asker) fate j = itself j
fated now o (PageState sender page marks) fate j = itself j

-- ---- a member

record IsOne (o : Origin) (number until : ℕ) (j : Judge) : Type 0 where
  known : knows o until j ≡ true
  another : ¬ (number ≡ j.me)
  heard : is_heard o false (other_of number j.others) ≡ true

same_one : (o : Origin) (number until : ℕ) (j k : Judge) → Same j k → IsOne o number until j → IsOne o number until k
same_one o number until j k s m = record {
  known = ap (is_known o until) s.known ∙ m.known;
  another = λ e. m.another (e ∙ s.me);
  heard = ap (λ (others : List Other). is_heard o false (other_of number others)) s.others ∙ m.heard;
}

-- after the line, it sends
and_sends : (line : Call) (h : Judged) (o : Origin) (number until : ℕ) → IsOne o number until (judging line h) → IsMemberUntil o number until (after_judged line h)
and_sends line h o number until m =
    let sent = sent_by_kept_line (handed line h) h.kept in
    let n = same_one o number until (judging line h) (after_sends sent (judging line h)) (all_sent sent (judging line h)) m in
    record { known = n.known; speaks = record { another = n.another; heard = n.heard } }

-- ---- a line of the record

apart : (o : Origin) (n number : ℕ) (others : List Other) → other_of n others ≡ None → is_heard o false (other_of number others) ≡ true → nat_eq n number ≡ false
apart o n number others none heard = by (nat_eq n number) refl where
  by : (b : Bool) → nat_eq n number ≡ b → b ≡ false
  by true is = absurd (true≢false (sym heard ∙ ap (λ (m : ℕ). is_heard o false (other_of m others)) (sym (eqb-true n number is)) ∙ ap (is_heard o false) none))
  by false is = refl

recalled_one : (line : RecordLine) (fate : Option Fate) (j : Judge) (o : Origin) (number until : ℕ) → FindsRoom line j → IsOne o number until j → IsOne o number until (after_recalling line fate j)
recalled_one (Tick past) fate j o number until room m = m
recalled_one (Said d) fate j o number until room m = record { known = m.known; another = m.another; heard = m.heard }
recalled_one (Known d) fate j o number until room m = record { known = m.known; another = m.another; heard = m.heard }
recalled_one (Strange d) fate j o number until room m =
    same_one o number until j (after_recalling (Strange d) fate j) (either (is_new fate) j (with_strange d.name j) (record { me = refl; known = refl; others = refl })) m
recalled_one (Mark speaker page mark) fate j o number until room m = m
recalled_one (Owner n place owner) fate j o number until room m = record {
  known = m.known;
  another = m.another;
  heard = ap (is_heard o false) (beside_recalled n number (owned_at place owner) j (apart o n number j.others room.0 m.heard) room.1) ∙ m.heard;
}

-- ---- something comes

known_after : (b : Bool) (now : ℕ) (p o : Origin) (v : Datagram) (h : Judged) (until : ℕ) → same_origin p o ≡ b → IsBounded h.judge → knows p now h.judge ≡ true → (same_origin p o ≡ true → until ≤ now + SILENCE)
    → (b ≡ false → knows o until h.judge ≡ true) → knows o until (judge_after now p v h) ≡ true
unfolding judge_after
known_after true now p o v h until is bounded known soon was =
    let f = facts_of now v h.kept in
    subst (λ (q : Origin). knows q until (judge_after now p v h) ≡ true) (same_origins p o is)
    (known_again p v f h.judge until (ap (λ (at : ℕ). knows p at h.judge) (at_now now v h.kept) ∙ known) (subst (λ (at : ℕ). until ≤ at + SILENCE) (sym (at_now now v h.kept)) (soon is)))
known_after false now p o v h until is bounded known soon was =
    let f = facts_of now v h.kept in
    known_beside p o v f h.judge until bounded (ap (λ (at : ℕ). knows p at h.judge) (at_now now v h.kept) ∙ known) is (was refl)

heard_after : (now : ℕ) (p o : Origin) (v : Datagram) (h : Judged) (number : ℕ) → IsBounded h.judge → IsSpoken p v h.judge → is_heard o false (other_of number h.judge.others) ≡ true
    → is_heard o false (other_of number (judge_after now p v h).others) ≡ true
unfolding judge_after
heard_after now p o v h number bounded spoken e = numbers_beside p o v (facts_of now v h.kept) h.judge number bounded spoken e

came : (now : ℕ) (p o : Origin) (v : Datagram) (h : Judged) (number until : ℕ) → IsBounded h.judge → IsSpoken p v h.judge → Speaks o number h.judge → knows o until (judge_after now p v h) ≡ true
    → IsMemberUntil o number until (after_judged (CameFrom now p v) h)
came now p o v h number until bounded spoken speaks known =
    let line = CameFrom now p v in
    let fate = fate_by (handed line h) h.kept in
    let f = fated now p v fate (judge_after now p v h) in
    and_sends line h o number until (record {
      known = ap (is_known o until) f.known ∙ known;
      another = λ e. speaks.another (e ∙ (came_fixed now p v h).me);
      heard = ap (λ (others : List Other). is_heard o false (other_of number others)) f.others ∙ heard_after now p o v h number bounded spoken speaks.heard;
    })

pub members_are_known_again : MembersAreKnownAgain
members_are_known_again now o v h number until bounded known spoken speaks soon =
    came now o o v h number until bounded spoken speaks
    (known_after true now o o v h until (same_itself o) bounded known (λ same. soon) (λ other. absurd (true≢false other)))

-- ---- news comes

known_until : (o : Origin) (until now : ℕ) (news : News) (j : Judge) → LeavesOrigin o news → knows o until (after_news now news j) ≡ knows o until j
unfolding is_known
known_until o until now news j leaves =
    known_stays o (λ (k : KnownOrigin). same_origin k.origin o && nat_le (until - k.at) SILENCE) (λ (k : KnownOrigin) is. (and_parts (same_origin k.origin o) (nat_le (until - k.at) SILENCE) is).0) now news j leaves

-- ---- any line

one_of : (h : Judged) (o : Origin) (number until : ℕ) → IsMemberUntil o number until h → IsOne o number until h.judge
one_of h o number until m = record { known = m.known; another = m.speaks.another; heard = m.speaks.heard }

pub members_stay : MembersStay
members_stay (CameFrom now p v) h o number until bounded leaves m =
    came now p o v h number until bounded leaves.1 m.speaks
    (known_after (same_origin p o) now p o v h until refl bounded leaves.0 leaves.2 (λ other. m.known))
members_stay (Passed now news) h o number until bounded leaves m =
    and_sends (Passed now news) h o number until (record {
      known = known_until o until now news h.judge leaves ∙ m.known;
      another = λ e. m.speaks.another (e ∙ (news_keeps now news h.judge).me);
      heard = heard_stays o number (is_heard o false) refl (λ (x : Other) is. is) now news h.judge leaves m.speaks.heard;
    })
members_stay (UserDrew now page op) h o number until bounded leaves m = and_sends (UserDrew now page op) h o number until (one_of h o number until m)
members_stay (Held line) h o number until bounded leaves m =
    and_sends (Held line) h o number until (recalled_one line (fate_by (handed (Held line) h) h.kept) h.judge o number until leaves (one_of h o number until m))
