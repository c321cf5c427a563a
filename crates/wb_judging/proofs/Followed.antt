-- What follows from the laws of the judge.
use Rattle.std.proofs.Common.{◌≡◌, ◌∙◌, ℕ, ◌≤◌, Bool, true, false, cond, List, [], ◌∷◌, None, ap, arith, refl, sym, true≢false}
use Rattle.std.specs.Prelude.{Option, Some, nat_le}
use Rattle.std.proofs.lemmas.Bool.Decides.{nat_tests}
use Rattle.wb_names.specs.Faults.{fault_unless}
use Rattle.wb_codec.specs.declared.datagram.Datagram.{Datagram}
use Rattle.wb_codec.specs.declared.datagram.Datagram.TheVariants.{AskPages, Draw, PageState, Request, Session}
use Rattle.wb_keeper.specs.declared.keep_fault.KeepFault.TheVariants.{BackInTime}
use Rattle.wb_judge.specs.Days.{DayClock, time_of_day}
use Rattle.wb_judge.specs.Judge.{Judge}
use Rattle.wb_judge.specs.Known.{is_known}
use Rattle.wb_judge.specs.declared.known.KnownOrigin.{KnownOrigin}
use Rattle.wb_judge.specs.declared.origin.Origin.{Origin}
use Rattle.wb_judge.specs.declared.verdict.Why.{Why}
use Rattle.wb_judge.proofs.Members.{a_member_is_not_dropped, only_answers_make_known, strangers_hush_nobody}
use Rattle.wb_judge.proofs.Stepping.{taking_known}
use Rattle.wb_member.specs.Opened.{present}
use Rattle.wb_keeping.specs.Performing.{Keeping}
use Rattle.wb_keeping.specs.Refusing.{back_in_time}
use Rattle.wb_keeping.specs.declared.kept_fault.KeptFault.TheVariants.{Host}
use Rattle.wb_judging.specs.Events.{is_new}
use Rattle.wb_judging.specs.Handing.{facts_of, handed, handed_for, judge_after, verdict_on}
use Rattle.wb_judging.specs.Hearing.{after_fate, after_sending, after_sends}
use Rattle.wb_judging.specs.Judged.{Call, CameFrom, Held, Judged, Passed, UserDrew}
use Rattle.wb_judging.specs.Laws.{MembersAreHandedIn, NobodyMovesOurTime, OnlyAnswersMakeKnown, StrangersHushNobody, TheNetworkRefusesNothing, is_told}
use Rattle.wb_judging.specs.Performing.{after_judged, fate_by, judging, sent_by_kept_line}
use Rattle.wb_judging.specs.declared.event.Fate.{Fate}
use Rattle.wb_judging.proofs.Handed.{alone, handed_fault}
use Rattle.wb_judging.proofs.NewsTold.{clock_stays}
use Rattle.wb_judging.proofs.Numbers.{came_fixed, recalled_fixed, sends}

-- ---- nothing is refused

in_time : (b : Bool) → b ≡ true → fault_unless b (Host BackInTime) ≡ None
in_time true e = refl
in_time false e = absurd (true≢false (sym e))

timely : (now : ℕ) (k : Keeping) → present k.host ≤ now → back_in_time now k ≡ None
timely now k later = in_time (nat_le (present k.host) now) (grind (arith, nat_tests))

pub the_network_refuses_nothing : TheNetworkRefusesNothing
the_network_refuses_nothing (CameFrom now o v) h own other later = handed_fault now o v h own ∙ timely now h.kept later
the_network_refuses_nothing (Passed now news) h own other later = alone (back_in_time now h.kept) ∙ timely now h.kept later
the_network_refuses_nothing (UserDrew now page op) h own other later = absurd cc
the_network_refuses_nothing (Held line) h own other later = absurd cc

-- ---- members and strangers

pub members_are_handed_in : MembersAreHandedIn
unfolding verdict_on
members_are_handed_in now o d h known other copied soon room =
    ap (λ (why : Option Why). handed_for now (Draw d) why) (a_member_is_not_dropped o d (facts_of now (Draw d) h.kept) h.judge known other copied soon room)

pub strangers_hush : StrangersHushNobody
unfolding verdict_on
strangers_hush now o d h unknown held =
    ap (λ (why : Option Why). handed_for now (Draw d) why) (strangers_hush_nobody o d (facts_of now (Draw d) h.kept) h.judge unknown held)

-- ---- who is known

pub at_now : (now : ℕ) (v : Datagram) (k : Keeping) → (facts_of now v k).at ≡ now
at_now now (Draw d) k = refl
at_now now (Session sender sent page marks echoes) k = refl
at_now now (Request asker name) k = refl
at_now now (AskPages asker) k = refl
at_now now (PageState sender page marks) k = refl

known_sending : (v : Datagram) (j : Judge) → (after_sending v j).known ≡ j.known
known_sending (Draw d) j = refl
known_sending (Session sender sent page marks echoes) j = refl
known_sending (Request asker name) j = refl
known_sending (AskPages asker) j = refl
known_sending (PageState sender page marks) j = refl

known_sends : (sent : List Datagram) (j : Judge) → (after_sends sent j).known ≡ j.known
known_sends [] j = refl
known_sends (v ∷ sent) j = known_sends sent (after_sending v j) ∙ known_sending v j

known_if : (b : Bool) (one j : Judge) → one.known ≡ j.known → (cond b one j).known ≡ j.known
known_if true one j e = e
known_if false one j e = refl

known_fate : (now : ℕ) (o : Origin) (v : Datagram) (fate : Option Fate) (j : Judge) → (after_fate now o v fate j).known ≡ j.known
known_fate now o (Draw d) fate j = known_if (is_new fate) _ j (taking_known (record { name = d.name; origin = Some o }) o now j)
known_fate now o (Session sender sent page marks echoes) fate j = refl
known_fate now o (Request asker name) fate j = refl
known_fate now o (AskPages asker) fate j = refl
known_fate now o (PageState sender page marks) fate j = refl

known_after : (now : ℕ) (o : Origin) (v : Datagram) (h : Judged) → (after_judged (CameFrom now o v) h).judge.known ≡ (judge_after now o v h).known
known_after now o v h =
    known_sends (sent_by_kept_line (handed (CameFrom now o v) h) h.kept) (judging (CameFrom now o v) h)
    ∙ known_fate now o v (fate_by (handed (CameFrom now o v) h) h.kept) (judge_after now o v h)

pub only_answers : OnlyAnswersMakeKnown
unfolding judge_after
only_answers now o p v h later is =
    let f = facts_of now v h.kept in
    rw (at_now now v h.kept) at (only_answers_make_known o p v f h.judge later (sym (ap (λ (known : List KnownOrigin). is_known p later known) (known_after now o v h)) ∙ is))

-- ---- the time of day

clock_after : (line : Call) (h : Judged) → is_told line ≡ false → (judging line h).clock ≡ h.judge.clock
clock_after (CameFrom now o v) h other = (came_fixed now o v h).clock
clock_after (Passed now news) h other = clock_stays now news h.judge other
clock_after (UserDrew now page op) h other = refl
clock_after (Held line) h other = (recalled_fixed line (fate_by (handed (Held line) h) h.kept) h.judge).clock

pub nobody_moves_our_time : NobodyMovesOurTime
nobody_moves_our_time line h later other =
    ap (λ (clock : DayClock). time_of_day clock later) ((sends (sent_by_kept_line (handed line h) h.kept) (judging line h)).clock ∙ clock_after line h other)
