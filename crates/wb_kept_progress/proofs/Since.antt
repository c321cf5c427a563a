-- What came since the last start of each member is a session of hosts that keeps to times.
use Rattle.std.proofs.Common.{◌≡◌, ◌≢◌, ℕ, ◌+◌, ◌<◌, ◌≤◌, Bool, true, false, cond, List, [], ◌∷◌, ◌++◌, ◌∙◌, ap, append_assoc, arith, eqb-true, eq-eqb, inl, inr, map, max, refl, subst, sym, true≢false, ⊎_elim}
use Rattle.std.specs.Prelude.{◌⊎◌, Contains, nat_eq}
use Rattle.std.proofs.lemmas.Bool.{cases_lt}
use Rattle.wb_names.specs.Values.{NameValue}
use Rattle.wb_codec.specs.declared.datagram.Datagram.{Datagram}
use Rattle.wb_recovery.specs.declared.tuning.Tuning.{Tuning}
use Rattle.wb_progress.specs.Bounds.{IsUnder}
use Rattle.wb_progress.specs.Turns.{IsNowAt, Terms, longest, settled_by}
use Rattle.wb_progress.proofs.Parts.{before_end, heads, nil_ends, order_of, tails}
use Rattle.wb_member.specs.Judged.{holds, is_full}
use Rattle.wb_member.specs.Opened.{present}
use Rattle.wb_keeping.specs.Laws.{KeptLine, Came, Tuned, doing_of}
use Rattle.wb_keeping.specs.Performing.{Keeping, due, sent_by_doing}
use Rattle.wb_judging.specs.Members.{needs}
use Rattle.wb_laws_kept.specs.Openings.{opened, opened_host}
use Rattle.wb_laws_kept.specs.Sessions.{At, kept_at}
use Rattle.wb_kept_progress.specs.Sessions as hosts
use Rattle.wb_kept_progress.specs.Sessions.{Opening}
use Rattle.wb_kept_progress.specs.Since.{AlwaysShortSince, AreFittingSince, IsFitting, IsFittingSince, IsHandedIn, IsSpared, IsTimelyWithStarts, IsTimelyWithStartsBut, RestartedBecomeWhole, RestartedBecomeWholeByRounds, RestartedBecomeWholeInCrowds, RestartedFillHoles, SinceIsSame, SinceIsTimely, WasSentBy, elsewhere, handed_at, hosts_of, opening_at, opening_by, since, since_by, with_number}
use Rattle.wb_kept_progress.specs.Timed.{AreInOrder, TellTimes, time_of}
use Rattle.wb_kept_progress.specs.Timed as timed
use Rattle.wb_kept_progress.specs.Whole.{IsTimelySessionBut, there}
use Rattle.wb_kept_progress.specs.Whole as whole
use Rattle.wb_kept_progress.specs.Crowded.{crowded_by}
use Rattle.wb_kept_progress.specs.Filling.{filled_by}
use Rattle.wb_kept_progress.specs.Rounds.{rounds_by}
use Rattle.wb_kept_progress.proofs.Waking.{holes_are_filled}
use Rattle.wb_kept_progress.proofs.InCrowds.{sessions_become_whole_in_crowds}
use Rattle.wb_kept_progress.proofs.Promised.{sessions_become_whole}
use Rattle.wb_kept_progress.proofs.Rounds.{sessions_become_whole_by_rounds}
use Rattle.wb_kept_progress.proofs.CallsInTime.{short_from}
use Rattle.wb_kept_progress.proofs.Starts.{are_fit, are_taken, is_kept, line_at, same_either, same_opening}
use Rattle.wb_laws_kept.specs.Calls.{Begins, Call, Handed, given_lines}

module _ (numbers : ℕ → ℕ) where
  pub since_same : (calls : List (At Call)) (i : ℕ) → there (hosts_of numbers calls) (since numbers calls) i ≡ kept_at numbers calls i
  since_same calls i = is_kept numbers calls i

  -- ---- calls that start nothing

  abbrev IsHanded : At Call → Type 0
  IsHanded e = (line : KeptLine) × (e.event ≡ Handed line)

  abbrev AreHanded : List (At Call) → Type 0
  AreHanded [] = Unit {0}
  AreHanded (e ∷ calls) = IsHanded e × AreHanded calls

  abbrev timed_of : (calls : List (At Call)) → AreHanded calls → List (At KeptLine)
  timed_of [] are = []
  timed_of (e ∷ calls) are = line_at e.time e.place are.0.0 ∷ timed_of calls are.1

  since_one : (e : At Call) (older : List (At Call)) (is : IsHanded e) → since numbers (e ∷ older) ≡ line_at e.time e.place is.0 ∷ since numbers older
  since_one e older is = ap (λ (c : Call). since_by (numbers e.place) e.time e.place c (since numbers older)) is.1

  since_handed : (newer older : List (At Call)) (are : AreHanded newer) → since numbers (newer ++ older) ≡ timed_of newer are ++ since numbers older
  since_handed [] older are = refl
  since_handed (e ∷ newer) older are = since_one e (newer ++ older) are.0 ∙ ap (λ (t : List (At KeptLine)). line_at e.time e.place are.0.0 ∷ t) (since_handed newer older are.1)

  hosts_handed : (newer older : List (At Call)) → AreHanded newer → (q : ℕ) → hosts_of numbers (newer ++ older) q ≡ hosts_of numbers older q
  hosts_handed [] older are q = refl
  hosts_handed (e ∷ newer) older are q =
      ap (λ (c : Call). with_number (numbers q) (cond (nat_eq e.place q) (opening_by c (opening_at (newer ++ older) q)) (opening_at (newer ++ older) q))) are.0.1
      ∙ ap (with_number (numbers q)) (same_either (nat_eq e.place q) (opening_at (newer ++ older) q))
      ∙ hosts_handed newer older are.1 q

  -- the hosts of all calls, over the lines of a part that none started after
  state_at : (newer older : List (At Call)) → AreHanded newer → (i : ℕ) → there (hosts_of numbers (newer ++ older)) (since numbers older) i ≡ kept_at numbers older i
  state_at newer older are i =
      same_opening numbers (hosts_of numbers (newer ++ older)) (hosts_of numbers older) i (hosts_handed newer older are i) (since numbers older) ∙ since_same older i

  -- ---- times

  record IsBy (time : ℕ) (trace : List (At KeptLine)) : Type 0 where
    order : AreInOrder trace
    by : time_of trace ≤ time

  later_by : (time end : ℕ) (trace : List (At KeptLine)) → time ≤ end → IsBy time trace → IsBy end trace
  later_by time end trace le is = record { order = is.order; by = let b = is.by in omega (arith, b, le) }

  elsewhere_by : (p time : ℕ) (trace : List (At KeptLine)) → IsBy time trace → IsBy time (elsewhere p trace)
  elsewhere_by p time [] is = is
  elsewhere_by p time (e ∷ trace) is = from (elsewhere_by p e.time trace (record { order = is.order.1; by = is.order.0 })) (nat_eq e.place p) where
    from : IsBy e.time (elsewhere p trace) → (b : Bool) → IsBy time (cond b (elsewhere p trace) (e ∷ elsewhere p trace))
    from rest true = later_by e.time time (elsewhere p trace) is.by rest
    from rest false = record { order = (rest.by, rest.order); by = is.by }

  handed_by : (time p : ℕ) (more : List KeptLine) (trace : List (At KeptLine)) → IsBy time trace → IsBy time (handed_at time p more trace)
  handed_by time p [] trace is = is
  handed_by time p (line ∷ more) trace is = handed_by time p more (line_at time p line ∷ trace) (record { order = (is.by, is.order); by = omega arith })

  since_order : (calls : List (At Call)) → AreInOrder calls → IsBy (time_of calls) (since numbers calls)
  since_order [] order = record { order = tt; by = omega arith }
  since_order (e ∷ older) order = by e.event (later_by (time_of older) e.time (since numbers older) order.0 (since_order older order.1)) where
    by : (call : Call) → IsBy e.time (since numbers older) → IsBy e.time (since_by (numbers e.place) e.time e.place call (since numbers older))
    by (Begins o given) rest = handed_by e.time e.place (given_lines (opened (numbers e.place) o) given) (elsewhere e.place (since numbers older)) (elsewhere_by e.place e.time (since numbers older) rest)
    by (Handed line) rest = record { order = (rest.by, rest.order); by = omega arith }

-- ---- lines since the last start at one place

-- a line at this place is so
abbrev AreAt : ℕ → (ℕ → KeptLine → Type 0) → List (At KeptLine) → Type 0
AreAt q Is [] = Unit {0}
AreAt q Is (e ∷ trace) = (e.place ≡ q → Is e.time e.event) × AreAt q Is trace

one_at : (q : ℕ) (Is : ℕ → KeptLine → Type 0) (newer older : List (At KeptLine)) (e : At KeptLine) → AreAt q Is (newer ++ e ∷ older) → e.place ≡ q → Is e.time e.event
one_at q Is [] older e are here = are.0 here
one_at q Is (x ∷ newer) older e are here = one_at q Is newer older e are.1 here

module _ (terms : Terms) (numbers : ℕ → ℕ) (q : ℕ) where
  abbrev Fits : ℕ → KeptLine → Type 0
  Fits time line = IsFitting terms time q line

  apart_from : (p : ℕ) → nat_eq p q ≡ false → p ≡ q → ⊥
  apart_from p other here = true≢false (sym (eq-eqb p q here) ∙ other)

  elsewhere_fits : (p : ℕ) (trace : List (At KeptLine)) → AreAt q Fits trace → AreAt q Fits (elsewhere p trace)
  elsewhere_fits p [] are = tt
  elsewhere_fits p (e ∷ trace) are = by (nat_eq e.place p) (elsewhere_fits p trace are.1) where
    by : (b : Bool) → AreAt q Fits (elsewhere p trace) → AreAt q Fits (cond b (elsewhere p trace) (e ∷ elsewhere p trace))
    by true rest = rest
    by false rest = (are.0, rest)

  -- none is left there
  none_fits : (p : ℕ) → nat_eq p q ≡ true → (trace : List (At KeptLine)) → AreAt q Fits (elsewhere p trace)
  none_fits p same [] = tt
  none_fits p same (e ∷ trace) = by (nat_eq e.place p) refl (none_fits p same trace) where
    by : (b : Bool) → nat_eq e.place p ≡ b → AreAt q Fits (elsewhere p trace) → AreAt q Fits (cond b (elsewhere p trace) (e ∷ elsewhere p trace))
    by true here rest = rest
    by false other rest = ((λ here. absurd (true≢false (sym (eq-eqb e.place p (here ∙ sym (eqb-true p q same))) ∙ other))), rest)

  given_fit : (time p moment : ℕ) (given : List Datagram) (trace : List (At KeptLine)) → (p ≡ q → IsNowAt terms time q moment) → AreAt q Fits trace → AreAt q Fits (handed_at time p (map (Came moment) given) trace)
  given_fit time p moment [] trace now are = are
  given_fit time p moment (v ∷ given) trace now are = given_fit time p moment given (line_at time p (Came moment v) ∷ trace) now ((λ here. record { says = now here; tuned = λ constants is. absurd (other v constants is) }), are) where
    other : (v : Datagram) (constants : Tuning) → Came moment v ≡ Tuned constants → ⊥
    other v constants is = cc

  since_fits : (calls : List (At Call)) → AreFittingSince terms (numbers q) q calls → AreAt q Fits (since numbers calls)
  since_fits [] are = absurd are
  since_fits (e ∷ older) are = by (since_fits older) e.event (nat_eq e.place q) refl are where
    now : List (At KeptLine)
    now = since numbers older

    Rest : Type 0
    Rest = AreFittingSince terms (numbers q) q older

    by : (Rest → AreAt q Fits now) → (call : Call) (b : Bool) → nat_eq e.place q ≡ b → IsFittingSince terms (numbers q) q b e.time call Rest → AreAt q Fits (since_by (numbers e.place) e.time e.place call now)
    by fits (Handed line) true here is = ((λ same. is.0), fits is.1)
    by fits (Handed line) false other is = ((λ same. absurd (apart_from e.place other same)), fits is)
    by fits (Begins o given) true here is = given_fit e.time e.place (present (opened (numbers e.place) o).host) given (elsewhere e.place now)
        (λ same. subst (λ (k : ℕ). IsNowAt terms e.time q (present (opened_host (numbers k) o))) (sym same) is.1) (none_fits e.place here now)
    by fits (Begins o given) false other is = given_fit e.time e.place (present (opened (numbers e.place) o).host) given (elsewhere e.place now)
        (λ same. absurd (apart_from e.place other same)) (elsewhere_fits e.place now (fits is))

  -- ---- the last start

  record IsStarted (o : Opening) : Type 0 where
    begun : present (hosts.opened_host o) + terms.lag q ≤ terms.quiet
    under : IsUnder (longest terms) o.constants

  last_start : (calls : List (At Call)) → AreFittingSince terms (numbers q) q calls → IsStarted (hosts_of numbers calls q)
  last_start [] are = absurd are
  last_start (e ∷ older) are = by (last_start older) e.event (nat_eq e.place q) are where
    Rest : Type 0
    Rest = AreFittingSince terms (numbers q) q older

    by : (Rest → IsStarted (hosts_of numbers older q)) → (call : Call) (b : Bool) → IsFittingSince terms (numbers q) q b e.time call Rest → IsStarted (with_number (numbers q) (cond b (opening_by call (opening_at older q)) (opening_at older q)))
    by last (Handed line) true is = last is.1
    by last (Handed line) false is = last is
    by last (Begins o given) true is = record { begun = let le = is.0 in let ahead = is.1.not_ahead in omega (arith, le, ahead); under = is.2 }
    by last (Begins o given) false is = last is

tells_all : (terms : Terms) (trace : List (At KeptLine)) → ((q : ℕ) → Contains terms.live q → AreAt q (λ time line. IsFitting terms time q line) trace) → TellTimes terms trace
tells_all terms [] all = tt
tells_all terms (e ∷ trace) all = ((λ live. ((all e.place live).0 refl).says), tells_all terms trace (λ q live. (all q live).1))

-- ---- a session

module _ {Delays : Type 0} (numbers : ℕ → ℕ) (terms : Terms) (calls : List (At Call)) (s : IsTimelyWithStartsBut Delays numbers terms calls) where
  abbrev opens : ℕ → Opening
  opens = hosts_of numbers calls

  abbrev trace : List (At KeptLine)
  trace = since numbers calls

  ordered : IsBy numbers (time_of calls) trace
  ordered = since_order numbers calls s.order

  -- calls after one that came after `quiet`, and that one
  handed_from : (newer older : List (At Call)) (e : At Call) (front : List (At Call)) → calls ≡ front ++ (newer ++ e ∷ older) → terms.quiet < e.time → AreHanded numbers (newer ++ e ∷ [])
  handed_from [] older e front split late = ((s.alone front older e split late).1, tt)
  handed_from (x ∷ newer) older e front split late = (
    (s.alone front (newer ++ e ∷ older) x split (
        let order = order_of front (x ∷ (newer ++ e ∷ older)) (subst AreInOrder split s.order) in
        let end = before_end newer (e ∷ older) order.1 in
        let first = order.0 in
        omega (arith, end, first, late)
        )).1,
    handed_from newer older e (front ++ x ∷ []) (split ∙ sym (append_assoc front (x ∷ []) (newer ++ e ∷ older))) late,
  )

  -- the hosts before such a call, and after it
  before_late : (newer older : List (At Call)) (e : At Call) → calls ≡ newer ++ e ∷ older → terms.quiet < e.time → (i : ℕ) → there opens (since numbers older) i ≡ kept_at numbers older i
  before_late newer older e split late i =
      let parted : calls ≡ (newer ++ e ∷ []) ++ older = split ∙ sym (append_assoc newer (e ∷ []) older) in
      subst (λ (c : List (At Call)). there (hosts_of numbers c) (since numbers older) i ≡ kept_at numbers older i) (sym parted)
      (state_at numbers (newer ++ e ∷ []) older (handed_from newer older e [] split late) i)

  front_handed : (newer : List (At Call)) (e : At Call) → AreHanded numbers (newer ++ e ∷ []) → AreHanded numbers newer
  front_handed [] e are = tt
  front_handed (x ∷ newer) e are = (are.0, front_handed newer e are.1)

  after_late : (newer older : List (At Call)) (e : At Call) → calls ≡ newer ++ e ∷ older → terms.quiet < e.time → (i : ℕ) → there opens (since numbers (e ∷ older)) i ≡ kept_at numbers (e ∷ older) i
  after_late newer older e split late i =
      subst (λ (c : List (At Call)). there (hosts_of numbers c) (since numbers (e ∷ older)) i ≡ kept_at numbers (e ∷ older) i) (sym split)
      (state_at numbers newer (e ∷ older) (front_handed newer e (handed_from newer older e [] split late)) i)

  -- a line after `quiet` is one that a call handed in
  record IsLate (newer older : List (At KeptLine)) (e : At KeptLine) : Type 0 where
    front : List (At Call)
    back : List (At Call)
    call : At Call
    line : KeptLine
    split : calls ≡ front ++ call ∷ back
    is : call.event ≡ Handed line
    e_is : e ≡ line_at call.time call.place line
    are : AreHanded numbers front
    newer_is : newer ≡ timed_of numbers front are
    older_is : older ≡ since numbers back

  late_part : (front part : List (At Call)) → calls ≡ front ++ part → (are : AreHanded numbers front) (newer older : List (At KeptLine)) (e : At KeptLine) (newest : List (At KeptLine)) → newest ≡ timed_of numbers front are ++ newer → since numbers part ≡ newer ++ e ∷ older → terms.quiet < e.time → IsLate newest older e
  late_part front [] split are newer older e newest new is late = absurd (nil_ends newer e older is)
  late_part front (c ∷ part) split are newer older e newest new is late = ⊎_elim
      (λ (lt : terms.quiet < c.time). by_newer (λ f parted handed rest made same. late_part f part parted handed rest older e newest made same late) newer (s.alone front part c split lt).1 new is)
      (λ (le : c.time ≤ terms.quiet). absurd (too_early le))
      (cases_lt terms.quiet c.time) where
        too_early : c.time ≤ terms.quiet → ⊥
        too_early le =
            let order = since_order numbers (c ∷ part) (order_of front (c ∷ part) (subst AreInOrder split s.order)) in
            let whole : AreInOrder (newer ++ e ∷ older) = subst AreInOrder is order.order in
            let end = before_end newer (e ∷ older) whole in
            let top = ap time_of is in
            let by = order.by in
            omega (arith, le, end, top, by, late)

        append_one : (a : List (At Call)) (x : At Call) → AreHanded numbers a → IsHanded numbers x → AreHanded numbers (a ++ x ∷ [])
        append_one [] x are h = (h, tt)
        append_one (y ∷ a) x are h = (are.0, append_one a x are.1 h)

        timed_one : (a : List (At Call)) (x : At Call) (are : AreHanded numbers a) (h : IsHanded numbers x) → timed_of numbers (a ++ x ∷ []) (append_one a x are h) ≡ timed_of numbers a are ++ line_at x.time x.place h.0 ∷ []
        timed_one [] x are h = refl
        timed_one (y ∷ a) x are h = ap (λ (t : List (At KeptLine)). line_at y.time y.place are.0.0 ∷ t) (timed_one a x are.1 h)

        append_none : (t : List (At KeptLine)) → t ++ [] ≡ t
        append_none [] = refl
        append_none (y ∷ t) = ap (λ (l : List (At KeptLine)). y ∷ l) (append_none t)

        by_newer : ((f : List (At Call)) → calls ≡ f ++ part → (handed : AreHanded numbers f) (rest : List (At KeptLine)) → newest ≡ timed_of numbers f handed ++ rest → since numbers part ≡ rest ++ e ∷ older → IsLate newest older e)
            → (newer : List (At KeptLine)) → IsHanded numbers c → newest ≡ timed_of numbers front are ++ newer → since numbers (c ∷ part) ≡ newer ++ e ∷ older → IsLate newest older e
        by_newer on [] h new is =
            let both = sym (since_one numbers c part h) ∙ is in
            record {
              front = front;
              back = part;
              call = c;
              line = h.0;
              split = split;
              is = h.1;
              e_is = sym (heads (line_at c.time c.place h.0) e (since numbers part) older both);
              are = are;
              newer_is = new ∙ append_none (timed_of numbers front are);
              older_is = sym (tails (line_at c.time c.place h.0) e (since numbers part) older both);
            }
        by_newer on (y ∷ newer) h new is =
            let both = sym (since_one numbers c part h) ∙ is in
            let first = heads (line_at c.time c.place h.0) y (since numbers part) (newer ++ e ∷ older) both in
            on (front ++ c ∷ []) (split ∙ sym (append_assoc front (c ∷ []) part)) (append_one front c are h) newer
            (new ∙ ap (λ (x : At KeptLine). timed_of numbers front are ++ x ∷ newer) (sym first)
            ∙ sym (append_assoc (timed_of numbers front are) (line_at c.time c.place h.0 ∷ []) newer)
            ∙ ap (λ (t : List (At KeptLine)). t ++ newer) (sym (timed_one front c are h)))
            (tails (line_at c.time c.place h.0) y (since numbers part) (newer ++ e ∷ older) both)

  late_line : (newer older : List (At KeptLine)) (e : At KeptLine) → trace ≡ newer ++ e ∷ older → terms.quiet < e.time → IsLate newer older e
  late_line newer older e split late = late_part [] calls refl tt newer older e newer refl split late

  module _ (newer older : List (At KeptLine)) (e : At KeptLine) (late : terms.quiet < e.time) (l : IsLate newer older e) where
    time_is : e.time ≡ l.call.time
    time_is = ap (λ (x : At KeptLine). x.time) l.e_is

    place_is : e.place ≡ l.call.place
    place_is = ap (λ (x : At KeptLine). x.place) l.e_is

    line_is : e.event ≡ l.line
    line_is = ap (λ (x : At KeptLine). x.event) l.e_is

    call_late : terms.quiet < l.call.time
    call_late = subst (λ (t : ℕ). terms.quiet < t) time_is late

    before : (i : ℕ) → there opens older i ≡ kept_at numbers l.back i
    before i = ap (λ (t : List (At KeptLine)). there opens t i) l.older_is ∙ before_late l.front l.back l.call l.split call_late i

    behind : (i : ℕ) → there opens (e ∷ older) i ≡ kept_at numbers (l.call ∷ l.back) i
    behind i =
        ap (λ (t : List (At KeptLine)). there opens t i) (ap (λ (x : At KeptLine). x ∷ older) l.e_is ∙ ap (λ (t : List (At KeptLine)). line_at l.call.time l.call.place l.line ∷ t) l.older_is ∙ sym (since_one numbers l.call l.back (l.line, l.is)))
        ∙ after_late l.front l.back l.call l.split call_late i

    alone : Contains terms.live e.place
    alone = subst (Contains terms.live) (sym place_is) (s.alone l.front l.back l.call l.split call_late).0

    soon : (i : ℕ) → Contains terms.live i → e.time ≤ due (there opens older i) + (terms.lag i + terms.late)
    soon i live = subst (λ (k : Keeping). e.time ≤ due k + (terms.lag i + terms.late)) (sym (before i))
        (subst (λ (t : ℕ). t ≤ due (kept_at numbers l.back i) + (terms.lag i + terms.late)) (sym time_is) (s.soon l.front l.back l.call i l.split live call_late))

    -- what one of the newer calls hands in, one of the newer lines does
    handed_in : (front : List (At Call)) (are : AreHanded numbers front) (j by : ℕ) (v : Datagram) → IsHandedIn front j by v → whole.IsHandedIn (timed_of numbers front are) j by v
    handed_in front are j by v h =
        subst (λ (f : List (At Call)). (are : AreHanded numbers f) → whole.IsHandedIn (timed_of numbers f are) j by v) (sym h.split) (λ are. from_part h.later h.between h.call are h.is h.place h.soon) are where
          same_line : (line : KeptLine) → Handed line ≡ Handed (Came h.now v) → line ≡ Came h.now v
          same_line line same = cc

          from_part : (later between : List (At Call)) (c : At Call) (are : AreHanded numbers (later ++ c ∷ between)) → c.event ≡ Handed (Came h.now v) → c.place ≡ j → c.time ≤ by → whole.IsHandedIn (timed_of numbers (later ++ c ∷ between) are) j by v
          from_part [] between c are is place soon = record { later = []; call = line_at c.time c.place are.0.0; between = timed_of numbers between are.1; split = refl; place = place; soon = soon; now = h.now; is = same_line are.0.0 (sym are.0.1 ∙ is) }
          from_part (x ∷ later) between c are is place soon =
              let r = from_part later between c are.1 is place soon in
              record { later = line_at x.time x.place are.0.0 ∷ r.later; call = r.call; between = r.between; split = ap (λ (t : List (At KeptLine)). line_at x.time x.place are.0.0 ∷ t) r.split; place = r.place; soon = r.soon; now = r.now; is = r.is }

    -- what a member can do without behind some of the newer calls, its host can
    spared_then : (front : List (At Call)) (are : AreHanded numbers front) → calls ≡ front ++ l.call ∷ l.back → (j by : ℕ) (v : Datagram) → IsSpared numbers front (l.call ∷ l.back) j by v
        → whole.IsSpared opens (timed_of numbers front are) (e ∷ older) j by v
    spared_then front are split j by v p =
        subst (λ (f : List (At Call)). (are : AreHanded numbers f) → whole.IsSpared opens (timed_of numbers f are) (e ∷ older) j by v) (sym p.split) (λ are. from_parts p.later are (laters p.later are)) are where
          parted : calls ≡ p.later ++ (p.between ++ l.call ∷ l.back)
          parted = split ∙ ap (λ (f : List (At Call)). f ++ l.call ∷ l.back) p.split ∙ append_assoc p.later p.between (l.call ∷ l.back)

          laters : (later : List (At Call)) → AreHanded numbers (later ++ p.between) → AreHanded numbers later
          laters [] are = tt
          laters (x ∷ later) are = (are.0, laters later are.1)

          -- the calls from there on, as lines
          are_lines : (are : AreHanded numbers p.between) → timed_of numbers p.between are ++ e ∷ older ≡ since numbers (p.between ++ l.call ∷ l.back)
          are_lines are =
              let top : line_at l.call.time l.call.place l.line ∷ since numbers l.back ≡ since numbers (l.call ∷ l.back) = sym (since_one numbers l.call l.back (l.line, l.is)) in
              let same : e ∷ older ≡ since numbers (l.call ∷ l.back) = (λ i. l.e_is i ∷ l.older_is i) ∙ top in
              ap (λ (t : List (At KeptLine)). timed_of numbers p.between are ++ t) same ∙ sym (since_handed numbers p.between (l.call ∷ l.back) are)

          last : (between : List (At Call)) (are : AreHanded numbers between) → time_of (timed_of numbers between are ++ e ∷ older) ≡ time_of (between ++ l.call ∷ l.back)
          last [] are = time_is
          last (x ∷ between) are = refl

          hosts_there : AreHanded numbers p.later → there opens (since numbers (p.between ++ l.call ∷ l.back)) j ≡ kept_at numbers (p.between ++ l.call ∷ l.back) j
          hosts_there are =
              subst (λ (c : List (At Call)). there (hosts_of numbers c) (since numbers (p.between ++ l.call ∷ l.back)) j ≡ kept_at numbers (p.between ++ l.call ∷ l.back) j) (sym parted)
              (state_at numbers p.later (p.between ++ l.call ∷ l.back) are j)

          from_parts : (later : List (At Call)) (are : AreHanded numbers (later ++ p.between)) → AreHanded numbers p.later → whole.IsSpared opens (timed_of numbers (later ++ p.between) are) (e ∷ older) j by v
          from_parts [] are laters = record {
            later = [];
            between = timed_of numbers p.between are;
            split = refl;
            soon = let same = last p.between are in let soon = p.soon in omega (arith, same, soon);
            spared = ap (λ (t : List (At KeptLine)). needs (there opens t j).host v) (are_lines are) ∙ ap (λ (k : Keeping). needs k.host v) (hosts_there laters) ∙ p.spared;
          }
          from_parts (x ∷ later) are laters =
              let r = from_parts later are.1 laters in
              record { later = line_at x.time x.place are.0.0 ∷ r.later; between = r.between; split = ap (λ (t : List (At KeptLine)). line_at x.time x.place are.0.0 ∷ t) r.split; soon = r.soon; spared = r.spared }

    abbrev Comes : ℕ → List (At KeptLine) → ℕ → Datagram → Type 0
    Comes j lines by v = whole.IsHandedIn lines j by v ⊎ whole.IsSpared opens lines (e ∷ older) j by v

    delivered : (j : ℕ) (v : Datagram) → Contains terms.live j → e.place ≢ j → Contains (whole.sends_then opens older e) v → e.time + terms.delivery < time_of trace → Comes j newer (e.time + terms.delivery) v
    delivered j v live other sent end =
        let by = ordered.by in
        let sends : Contains (sent_by_doing (doing_of l.line) (kept_at numbers l.back l.call.place)) v =
        subst (λ (p : ℕ). Contains (sent_by_doing (doing_of l.line) (kept_at numbers l.back p)) v) place_is
        (subst (λ (k : Keeping). Contains (sent_by_doing (doing_of l.line) k) v) (before e.place)
        (subst (λ (line : KeptLine). Contains (sent_by_doing (doing_of line) (there opens older e.place)) v) line_is sent)) in
        let is = time_is in
        let end_by = l.call.time + terms.delivery in
        let comes : Comes j (timed_of numbers l.front l.are) end_by v = ⊎_elim
        (λ (h : IsHandedIn l.front j end_by v). inl (handed_in l.front l.are j end_by v h))
        (λ (p : IsSpared numbers l.front (l.call ∷ l.back) j end_by v). inr (spared_then l.front l.are l.split j end_by v p))
        (s.delivered l.front l.back l.call l.line j v l.split l.is live (λ same. other (place_is ∙ same)) call_late sends (omega (arith, end, by, is))) in
        subst (λ (t : ℕ). Comes j newer (t + terms.delivery) v) (sym is) (subst (λ (t : List (At KeptLine)). Comes j t end_by v) (sym l.newer_is) comes)

    -- what comes was sent by an older line
    module _ (settled : settled_by terms < e.time) (now : ℕ) (v : Datagram) (is : e.event ≡ Came now v) where
      call_settled : settled_by terms < l.call.time
      call_settled = subst (λ (t : ℕ). settled_by terms < t) time_is settled

      w : WasSentBy numbers l.back l.call.time terms.delivery v
      w = s.fresh l.front l.back l.call now v l.split call_settled (l.is ∙ ap Handed (sym line_is ∙ is))

      sender_late : terms.quiet < w.e.time
      sender_late = let soon = w.soon in let c = call_settled in omega (arith, soon, c)

      split_front : calls ≡ (l.front ++ l.call ∷ []) ++ (w.newer ++ w.e ∷ w.before)
      split_front = l.split ∙ sym (append_assoc l.front (l.call ∷ []) l.back) ∙ ap (λ (t : List (At Call)). (l.front ++ l.call ∷ []) ++ t) w.split

      split_sender : calls ≡ ((l.front ++ l.call ∷ []) ++ w.newer) ++ w.e ∷ w.before
      split_sender = split_front ∙ sym (append_assoc (l.front ++ l.call ∷ []) w.newer (w.e ∷ w.before))

      between : AreHanded numbers w.newer
      between = front_handed w.newer w.e (handed_from w.newer w.before w.e (l.front ++ l.call ∷ []) split_front sender_late)

      abbrev sender : At KeptLine
      sender = line_at w.e.time w.e.place w.line

      older_split : older ≡ timed_of numbers w.newer between ++ sender ∷ since numbers w.before
      older_split =
          l.older_is ∙ ap (since numbers) w.split ∙ since_handed numbers w.newer (w.e ∷ w.before) between
          ∙ ap (λ (t : List (At KeptLine)). timed_of numbers w.newer between ++ t) (since_one numbers w.e w.before (w.line, w.call))

      was_sent : whole.WasSentBy opens older e.time terms.delivery v
      was_sent = record {
        newer = timed_of numbers w.newer between;
        e = sender;
        before = since numbers w.before;
        split = older_split;
        soon = let same = time_is in let soon = w.soon in omega (arith, same, soon);
        sent = subst (λ (k : Keeping). Contains (sent_by_doing (doing_of w.line) k) v) (sym (before_late ((l.front ++ l.call ∷ []) ++ w.newer) w.before w.e split_sender sender_late w.e.place)) w.sent;
      }

  room : (newer older : List (At KeptLine)) (i : ℕ) → trace ≡ newer ++ older → Contains terms.live i → terms.quiet < time_of older → is_full (there opens older i).host ≡ false
  room newer [] i split live late = absurd (omega (arith, late))
  room newer (e ∷ older) i split live late =
      let l = late_line newer older e split late in
      subst (λ (k : Keeping). is_full k.host ≡ false) (sym (behind newer older e late l i)) (s.room l.front (l.call ∷ l.back) i l.split live (call_late newer older e late l))

  tuned : (newer older : List (At KeptLine)) (e : At KeptLine) (constants : Tuning) → trace ≡ newer ++ e ∷ older → Contains terms.live e.place → e.event ≡ Tuned constants → IsUnder (longest terms) constants
  tuned newer older e constants split live is =
      (one_at e.place (λ time line. IsFitting terms time e.place line) newer older e
      (subst (AreAt e.place (λ time line. IsFitting terms time e.place line)) split (since_fits terms numbers e.place calls (s.fitting e.place live))) refl).tuned constants is

-- whatever is asked of delays
since_keeps : {Delays : Type 0} (numbers : ℕ → ℕ) (terms : Terms) (calls : List (At Call)) → IsTimelyWithStartsBut Delays numbers terms calls → IsTimelySessionBut Delays (hosts_of numbers calls) terms (since numbers calls)
since_keeps numbers terms calls s = record {
  moments = λ i. (are_fit numbers calls s.taken i).moments;
  begun = λ i live. (last_start terms numbers i calls (s.fitting i live)).begun;
  distinct = λ i j same. s.apart i j same;
  waits = λ i live. (last_start terms numbers i calls (s.fitting i live)).under;
  tuned = tuned numbers terms calls s;
  taken = are_taken numbers calls s.taken;
  order = (ordered numbers terms calls s).order;
  times = tells_all terms (since numbers calls) (λ q live. since_fits terms numbers q calls (s.fitting q live));
  covered = s.covered;
  soon = λ newer older e i split live late. soon numbers terms calls s newer older e late (late_line numbers terms calls s newer older e split late) i live;
  delays = s.delays;
  alone = λ newer older e split late. alone numbers terms calls s newer older e late (late_line numbers terms calls s newer older e split late);
  drawn = λ newer older e now page time op split late is.
      let l = late_line numbers terms calls s newer older e split late in
      s.drawn l.front l.back l.call now page time op l.split (call_late numbers terms calls s newer older e late l) (l.is ∙ ap Handed (sym (line_is numbers terms calls s newer older e late l) ∙ is));
  room = room numbers terms calls s;
  delivered = λ newer older e j v split live other late sent end. delivered numbers terms calls s newer older e late (late_line numbers terms calls s newer older e split late) j v live other sent end;
  fresh = λ newer older e now v split settled is.
      let late = after_quiet terms e.time settled in
      was_sent numbers terms calls s newer older e late (late_line numbers terms calls s newer older e split late) settled now v is;
} where
  after_quiet : (terms : Terms) (time : ℕ) → settled_by terms < time → terms.quiet < time
  after_quiet terms time settled = omega (arith, settled)

pub since_is_timely : SinceIsTimely
since_is_timely numbers terms calls s = since_keeps numbers terms calls s

pub always_short_since : AlwaysShortSince
always_short_since numbers terms calls s = record {
  apart = s.apart;
  taken = s.taken;
  order = s.order;
  covered = s.covered;
  delays = inr (short_from (hosts_of numbers calls) terms (since numbers calls) (since_keeps numbers terms calls s) s.delays);
  fitting = s.fitting;
  alone = s.alone;
  drawn = s.drawn;
  soon = s.soon;
  room = s.room;
  delivered = s.delivered;
  fresh = s.fresh;
}

pub since_is_same : SinceIsSame
since_is_same numbers calls i = since_same numbers calls i

-- what the hosts since the last starts hold, the members do
pub holding_since : (numbers : ℕ → ℕ) (terms : Terms) (calls newer later : List (At Call)) (time i : ℕ) (n : NameValue) → IsTimelyWithStarts numbers terms calls → timed.AllKeptHoldBehind (hosts_of numbers calls) terms (since numbers calls) time n
    → terms.quiet ≤ time → calls ≡ newer ++ later → time < time_of later → Contains terms.live i → holds (kept_at numbers later i).host n ≡ true
holding_since numbers terms calls newer [] time i n s comes after split late live = absurd (none time late) where
  none : (time : ℕ) → time < 0 → ⊥
  none time lt = omega (arith, lt)
holding_since numbers terms calls newer (e ∷ older) time i n s comes after split late live =
    sym (ap (λ (k : Keeping). holds k.host n) (after_late numbers terms calls s newer older e split quiet i)) ∙ all where
      quiet : terms.quiet < e.time
      quiet = omega (arith, after, late)

      are : AreHanded numbers newer
      are = front_handed numbers terms calls s newer e (handed_from numbers terms calls s newer older e [] split quiet)

      parted : since numbers calls ≡ timed_of numbers newer are ++ since numbers (e ∷ older)
      parted = ap (since numbers) split ∙ since_handed numbers newer (e ∷ older) are

      one : IsHanded numbers e
      one = (s.alone newer older e split quiet).1

      all : holds (there (hosts_of numbers calls) (since numbers (e ∷ older)) i).host n ≡ true
      all = comes (timed_of numbers newer are) (since numbers (e ∷ older)) i parted (subst (λ (t : List (At KeptLine)). time < time_of t) (sym (since_one numbers e older one)) late) live

-- a time when a session is whole is no earlier than its quiet
pub quiet_first : (q d m w r first x : ℕ) → q ≤ max (q + d + d + m + 1 + w + r) first + x
quiet_first q d m w r first x = omega arith

pub quiet_first_more : (q d m w r first x y : ℕ) → q ≤ max (q + d + d + m + 1 + w + r) first + x + y
quiet_first_more q d m w r first x y = omega arith

pub restarted_become_whole : RestartedBecomeWhole
restarted_become_whole numbers terms calls newer later sizes wait most i n s within soon waits lacks short held split late live =
    holding_since numbers terms calls newer later (whole.whole_by terms sizes wait most) i n s
    (sessions_become_whole (hosts_of numbers calls) terms (since numbers calls) sizes wait most n (since_is_timely numbers terms calls s) within soon waits lacks short held)
    (quiet_first terms.quiet terms.delivery _ wait _ sizes.since _) split late live

pub restarted_become_whole_by_rounds : RestartedBecomeWholeByRounds
restarted_become_whole_by_rounds numbers terms calls newer later from pause wait most places rounds i n s reports waits lacks kept filled enough held split late live =
    holding_since numbers terms calls newer later (rounds_by terms from pause wait rounds) i n s
    (sessions_become_whole_by_rounds (hosts_of numbers calls) terms (since numbers calls) from pause wait most places rounds n (since_is_timely numbers terms calls s) reports waits lacks kept filled enough held)
    (quiet_first terms.quiet terms.delivery _ wait _ from _) split late live

pub restarted_become_whole_in_crowds : RestartedBecomeWholeInCrowds
restarted_become_whole_in_crowds numbers terms calls newer later from wait most places bringing crowded i n s waits lacks filled brings enough held split late live =
    holding_since numbers terms calls newer later (crowded_by terms from wait (bringing + crowded)) i n s
    (sessions_become_whole_in_crowds (hosts_of numbers calls) terms (since numbers calls) from wait most places bringing crowded n (since_is_timely numbers terms calls s) waits lacks filled brings enough held)
    (quiet_first_more terms.quiet terms.delivery _ wait _ from _ _) split late live

pub restarted_fill_holes : RestartedFillHoles
restarted_fill_holes numbers terms calls newer later from wait most crowded i n s waits lacks holes_held only enough held split late live =
    holding_since numbers terms calls newer later (filled_by terms from wait (most + crowded)) i n s
    (holes_are_filled (hosts_of numbers calls) terms (since numbers calls) from wait most crowded n (since_is_timely numbers terms calls s) waits lacks holes_held only enough held)
    (quiet_first_more terms.quiet terms.delivery _ wait _ _ _ _) split late live
