-- By when what is asked for comes to hosts that keep to stated times, or where it is given up: as with keepers.
use Rattle.std.proofs.Common.{◌≡◌, ℕ, ◌+◌, ◌≤◌, true, List, [], ◌∷◌, ◌++◌, ◌∙◌, Some, ap, append_assoc, arith, inl, inr, length, max, refl, subst, sym, ⊎_elim}
use Rattle.std.proofs.lemmas.List.{length-append}
use Rattle.wb_names.specs.Values.{NameValue}
use Rattle.wb_recovery.specs.declared.timers.AskTimer.{AskTimer}
use Rattle.wb_recovery.specs.declared.timers.Timers.{Timers}
use Rattle.wb_keeper.specs.Keeper.{GiveUp}
use Rattle.wb_progress.specs.InTime as keepers
use Rattle.wb_progress.specs.InTime.{known_from, repairing}
use Rattle.wb_progress.specs.Turns.{Accepts, Turn}
use Rattle.wb_progress.specs.Turns as turning
use Rattle.wb_progress.proofs.Answering.{request_is_answered_other}
use Rattle.wb_progress.proofs.Leading.{timer_leads_or_is_given_up as keeper_leads}
use Rattle.wb_kept_progress.specs.Timed.{At, IsGivenUp, RequestIsAnswered, Start, TimerLeadsOrIsGivenUp, time_of, timers_after}
use Rattle.wb_kept_progress.proofs.Lining.{IsPart, IsTurnOf, line_of_turn, part_of, places, time_is, turn_of, turns_of, turns_over}
use Rattle.wb_kept_progress.proofs.Timely.{answerable, holding, joined, keep_time, made, timers_here}
use Rattle.wb_progress.proofs.Parts.{tails}
use Rattle.wb_member.specs.Lines.{Line}

-- ---- parts of a trace differ by their lengths

longer : (newer older : List (At Line)) → length older ≤ length (newer ++ older)
longer newer older = let l = length-append newer older in omega (arith, l)

same_back : (x y a b : List (At Line)) → x ++ a ≡ y ++ b → length a ≡ length b → a ≡ b
same_back [] [] a b same long = same
same_back [] (k ∷ y) a b same long = let l : length a ≡ length (k ∷ (y ++ b)) = ap (λ (t : List (At Line)). length t) same in let more = longer y b in absurd (omega (arith, l, more, long))
same_back (k ∷ x) [] a b same long = let l : length (k ∷ (x ++ a)) ≡ length b = ap (λ (t : List (At Line)). length t) same in let more = longer x a in absurd (omega (arith, l, more, long))
same_back (j ∷ x) (k ∷ y) a b same long = same_back x y a b (tails j k (x ++ a) (y ++ b) same) long

turns_long : (hosts : ℕ → Start) (trace : List (At Line)) → length (turns_of hosts trace) ≡ length trace
turns_long hosts [] = refl
turns_long hosts (e ∷ older) = let rest = turns_long hosts older in omega (arith, rest)

-- ---- a turn that gives a name up is that of a line that does

module _ (hosts : ℕ → Start) (trace : List (At Line)) where
  given_up : (newer older : List (At Line)) (i : ℕ) (n : NameValue) (ask : AskTimer) (by : ℕ) → trace ≡ newer ++ older → keepers.IsGivenUp (places hosts) (turns_of hosts trace) (turns_of hosts older) i n ask by → IsGivenUp hosts trace older i n ask by
  given_up newer older i n ask by split g = record {
    front = t.front;
    e = t.e;
    between = p.front;
    split = t.split ∙ ap (λ (back : List (At Line)). t.front ++ t.e ∷ back) parted;
    place = sym (ap (λ (x : At Turn). x.place) t.turn_is) ∙ g.place;
    line = (made hosts t.back t.e (GiveUp g.now n true) accepts).0;
    stands = subst (λ (back : List (At Line)). (timers_after hosts back i n).ask ≡ Some ask) parted (sym (ap (λ (s : Timers). s.ask) (timers_here hosts t.back i n)) ∙ subst (λ (back : List (At Turn)). (turning.timers_there (places hosts) back i n).ask ≡ Some ask) t.older_is g.stands);
    soon = subst (λ (x : At Turn). x.time ≤ by) t.turn_is g.soon;
  } where
    t : IsTurnOf hosts trace g.front g.e (g.between ++ turns_of hosts older)
    t = line_of_turn hosts trace g.front (g.between ++ turns_of hosts older) g.e g.split

    p : IsPart hosts t.back g.between (turns_of hosts older)
    p = part_of hosts t.back g.between (turns_of hosts older) (sym t.older_is)

    long : length p.back ≡ length older
    long = sym (turns_long hosts p.back) ∙ ap (λ (l : List (At Turn)). length l) (sym p.part_is) ∙ turns_long hosts older

    whole : (t.front ++ t.e ∷ p.front) ++ p.back ≡ newer ++ older
    whole = append_assoc t.front (t.e ∷ p.front) p.back ∙ ap (λ (back : List (At Line)). t.front ++ t.e ∷ back) (sym p.split) ∙ sym t.split ∙ split

    parted : t.back ≡ p.front ++ older
    parted = p.split ∙ ap (λ (back : List (At Line)). p.front ++ back) (same_back (t.front ++ t.e ∷ p.front) newer p.back older whole long)

    accepts : Accepts (places hosts) (turns_of hosts t.back) (turn_of hosts t.back t.e) (GiveUp g.now n true)
    accepts = subst (λ (x : At Turn). Accepts (places hosts) (turns_of hosts t.back) x (GiveUp g.now n true)) t.turn_is (subst (λ (back : List (At Turn)). Accepts (places hosts) back g.e (GiveUp g.now n true)) t.older_is g.given)

-- ---- what follows

pub request_is_answered : RequestIsAnswered
request_is_answered hosts terms trace newer older e asker n timely split late later sent a =
    holding hosts terms trace timely n _
    (request_is_answered_other (places hosts) terms (turns_of hosts trace) (turns_over hosts newer (e ∷ older)) (turns_of hosts older) (turn_of hosts older e) asker n (keep_time hosts terms trace timely n) (joined hosts terms trace timely newer (e ∷ older) split) late later sent (answerable hosts terms trace timely n a))

pub timer_leads_or_is_given_up : TimerLeadsOrIsGivenUp
timer_leads_or_is_given_up hosts terms trace newer older i n ask due timely split live from stands by a =
    let time = time_is hosts older in
    ⊎_elim
    (λ (h : turning.AllHoldBehind (places hosts) terms (turns_of hosts trace) (max (turning.time_of (turns_of hosts older)) due + repairing terms) n). inl (holding hosts terms trace timely n (max (time_of older) due + repairing terms)
    (subst (λ (t : ℕ). turning.AllHoldBehind (places hosts) terms (turns_of hosts trace) (max t due + repairing terms) n) time h)))
    (λ (g : keepers.IsGivenUp (places hosts) (turns_of hosts trace) (turns_of hosts older) i n ask (max (turning.time_of (turns_of hosts older)) due + terms.late)). inr (given_up hosts trace newer older i n ask (max (time_of older) due + terms.late) split
    (subst (λ (t : ℕ). keepers.IsGivenUp (places hosts) (turns_of hosts trace) (turns_of hosts older) i n ask (max t due + terms.late)) time g)))
    (keeper_leads (places hosts) terms (turns_of hosts trace) (turns_over hosts newer older) (turns_of hosts older) i n ask due (keep_time hosts terms trace timely n) (joined hosts terms trace timely newer older split) live
    (subst (λ (t : ℕ). known_from terms ≤ t) (sym time) from) (ap (λ (s : Timers). s.ask) (timers_here hosts older i n) ∙ stands) by (answerable hosts terms trace timely n a))
