-- Names that have come: what becomes of their timers, and what then fires.
use Rattle.std.proofs.Common.{◌≡◌, ℕ, ◌+◌, ◌*◌, ◌<◌, ◌≤◌, Bool, true, false, cond, Option, Some, None, List, [], ◌∷◌, length, get_or, take, refl, ap, ◌∙◌, sym, arith, true≢false}
use Rattle.std.proofs.lemmas.Bool.{and_from}
use Rattle.std.specs.Prelude.{◌||◌, ◌&&◌, not, filter, is_some}
use Rattle.std.specs.List.Sorted.{IsStrictlySortedBy}
use Rattle.std.specs.Ordering.{is_eq}
use Rattle.std.proofs.lemmas.List.Folds.{list_any_more}
use Rattle.std.proofs.lemmas.List.Sums.{fold_more, count_by-le-length, length-filter}
use Rattle.std.proofs.lemmas.List.Kept.{IsStrictlySortedBy-filter}
use Rattle.wb_names.specs.Values.{NameValue}
use Rattle.wb_names.specs.Orders.{same_name, name_cmp}
use Rattle.wb_names.specs.Listing.{Lists}
use Rattle.wb_names.proofs.Orders.{name_total, same_name-is, and_both}
use Rattle.wb_names.proofs.Listings.{Contains-filter, Contains-from_filter, one_list, lists_same}
use Rattle.wb_recovery.specs.Timing.{ask_due, answer_due, got, ticked, is_standing, is_ask_due, is_answer_due, quiet_after}
use Rattle.wb_recovery.specs.Alarms.{among, is_until}
use Rattle.wb_recovery.specs.Values.{RecoveryValue, timers_at, timers_in, names_in, Replaces}
use Rattle.wb_recovery.specs.Events.{Event, Got, Tick, constants_after, names_of, timers_of, asking, due_asks, due_answers, word_for}
use Rattle.wb_recovery.specs.Accepted.{StandsFor}
use Rattle.wb_recovery.specs.Firing.{with_ask_fired, with_answer_fired}
use Rattle.wb_recovery.specs.Stopping.{receipts, is_received, got_each, EndsAll, FiresThese, with_these_fired}
use Rattle.wb_recovery.specs.declared.missed.Received.{Received}
use Rattle.wb_recovery.specs.declared.tuning.Tuning.{Tuning}
use Rattle.wb_recovery.specs.declared.timers.Timers.{Timers}
use Rattle.wb_recovery.specs.declared.timers.AskTimer.{AskTimer}
use Rattle.wb_recovery.specs.declared.timers.AnswerTimer.{AnswerTimer}
use Rattle.wb_recovery.proofs.NameOrder.{name_ties}
use Rattle.wb_recovery.proofs.Counting.{is_some_ask, until_ask, until_answer}
use Rattle.wb_recovery.proofs.NameLists.{listed_of, listed_in}
use Rattle.wb_recovery.proofs.DueNames.{among_listed}
use Rattle.wb_recovery.proofs.FiredTimers.{ask_stays, answer_stays, quiet_stays}

-- ---- one name after another
pub received_more : (received : List Received) (i : ℕ) (c : Received) (n : NameValue) → i < length received → c ≡ get_or received i c → is_received (take (i + 1) received) n ≡ (is_received (take i received) n || same_name c.name n)
received_more received i c n lt is = list_any_more (λ (c : Received). same_name c.name n) received i c lt ∙ ap (λ (k : Received). is_received (take i received) n || same_name k.name n) (sym is)

-- a name is put into the set of those that have come
pub set_more : (received : List Received) (i : ℕ) (c : Received) (n : NameValue) → i < length received → c ≡ get_or received i c → (old new : NameValue → Bool) → old n ≡ is_received (take i received) n → new n ≡ cond (is_eq (name_cmp c.name n)) true (old n) → new n ≡ is_received (take (i + 1) received) n
set_more received i c n lt is old new had r = r ∙ ap (λ (b : Bool). cond b true (old n)) (sym (name_ties c.name n)) ∙ ap (λ (b : Bool). cond (same_name c.name n) true b) had ∙ bits (same_name c.name n) (is_received (take i received) n) ∙ sym (received_more received i c n lt is) where
  bits : (a b : Bool) → cond a true b ≡ (b || a)
  bits true true = refl
  bits true false = refl
  bits false true = refl
  bits false false = refl

pub got_more : (now : ℕ) (received : List Received) (i : ℕ) (c : Received) → i < length received → c ≡ get_or received i c → (f mid new : NameValue → Timers)
    → ((n : NameValue) → mid n ≡ got_each now n (f n) (take i received))
    → ((n : NameValue) → new n ≡ cond (same_name c.name n) (got now c.delay (mid c.name)) (mid n))
    → (n : NameValue) → new n ≡ got_each now n (f n) (take (i + 1) received)
got_more now received i c lt is f mid new so_far r n =
    r n ∙ from (same_name c.name n) refl
    ∙ ap (λ (k : Received). cond (same_name k.name n) (got now k.delay (got_each now n (f n) (take i received))) (got_each now n (f n) (take i received))) is
    ∙ sym (fold_more (λ (before : Timers) (k : Received). cond (same_name k.name n) (got now k.delay before) before) (f n) received i c lt) where
      from : (b : Bool) → same_name c.name n ≡ b → cond b (got now c.delay (mid c.name)) (mid n) ≡ cond b (got now c.delay (got_each now n (f n) (take i received))) (got_each now n (f n) (take i received))
      from true h = ap (λ (k : NameValue). got now c.delay (mid k)) (same_name-is c.name n h) ∙ ap (got now c.delay) (so_far n)
      from false h = so_far n

-- ---- the timers of a name, by whether it has come
not_standing : (s : Timers) → is_standing s ≡ false → (s.ask ≡ None) × (s.answer ≡ None)
not_standing s h = from s.ask s.answer h where
  from : (a : Option AskTimer) (b : Option AnswerTimer) → (is_some a || is_some b) ≡ false → (a ≡ None) × (b ≡ None)
  from None None e = (refl, refl)
  from None (Some b) e = absurd (true≢false e)
  from (Some a) b e = absurd (true≢false e)

got_stops : (now delay : ℕ) (s : Timers) → is_standing (got now delay s) ≡ false
got_stops now delay s = from (is_standing s) refl where
  from : (b : Bool) → is_standing s ≡ b → is_standing (cond b (record { ask = None; answer = None; quiet = now + 3 * delay }) s) ≡ false
  from true e = refl
  from false e = e

stopped_stays : (now : ℕ) (n : NameValue) (s : Timers) (received : List Received) → is_standing s ≡ false → got_each now n s received ≡ s
stopped_stays now n s [] h = refl
stopped_stays now n s (c ∷ received) h = ap (λ (k : Timers). got_each now n k received) (from (same_name c.name n)) ∙ stopped_stays now n s received h where
  from : (b : Bool) → cond b (got now c.delay s) s ≡ s
  from true = ap (λ (b : Bool). cond b (record { ask = None; answer = None; quiet = now + 3 * c.delay }) s) h
  from false = refl

pub not_received : (now : ℕ) (n : NameValue) (s : Timers) (received : List Received) → is_received received n ≡ false → got_each now n s received ≡ s
not_received now n s [] h = refl
not_received now n s (c ∷ received) h = from (not_received now n s received) (same_name c.name n) h where
  from : (is_received received n ≡ false → got_each now n s received ≡ s) → (b : Bool) → (b || is_received received n) ≡ false → got_each now n (cond b (got now c.delay s) s) received ≡ s
  from rest true e = absurd (true≢false e)
  from rest false e = rest e

pub received_stops : (now : ℕ) (n : NameValue) (s : Timers) (received : List Received) → is_received received n ≡ true → is_standing (got_each now n s received) ≡ false
received_stops now n s [] h = absurd (true≢false (sym h))
received_stops now n s (c ∷ received) h = from (received_stops now n s received) (same_name c.name n) h where
  from : (is_received received n ≡ true → is_standing (got_each now n s received) ≡ false) → (b : Bool) → (b || is_received received n) ≡ true → is_standing (got_each now n (cond b (got now c.delay s) s) received) ≡ false
  from rest true e = ap is_standing (stopped_stays now n (got now c.delay s) received (got_stops now c.delay s)) ∙ got_stops now c.delay s
  from rest false e = rest e

-- a test of timers that fails if none runs, by whether the name has come
module _ (p : Timers → Bool) (fails : (s : Timers) → is_standing s ≡ false → p s ≡ false) where
  pub passes_after : (now : ℕ) (n : NameValue) (s : Timers) (received : List Received) → p (got_each now n s received) ≡ (not (is_received received n) && p s)
  passes_after now n s received = from (is_received received n) refl where
    from : (b : Bool) → is_received received n ≡ b → p (got_each now n s received) ≡ (not b && p s)
    from true e = fails _ (received_stops now n s received e)
    from false e = ap p (not_received now n s received e)

pub no_ask_due : (now : ℕ) (s : Timers) → is_standing s ≡ false → is_ask_due now s.ask ≡ false
no_ask_due now s h = ap (is_ask_due now) (not_standing s h).0

pub no_answer_due : (now : ℕ) (s : Timers) → is_standing s ≡ false → is_answer_due now s.answer ≡ false
no_answer_due now s h = ap (is_answer_due now) (not_standing s h).1

-- what has no timers does not fire
ticked_stays : (t : Tuning) (now word : ℕ) (s : Timers) → is_ask_due now s.ask ≡ false → is_answer_due now s.answer ≡ false → ticked t now word s ≡ s
ticked_stays t now word s a b =
    ap (λ (o : Option AskTimer). record (ticked t now word s) { ask = o }) (ask_stays t now word s.ask a)
    ∙ ap (λ (o : Option AnswerTimer). record s { answer = o; quiet = quiet_after now s.quiet s.answer }) (answer_stays now s.answer b)
    ∙ ap (λ (q : ℕ). record s { quiet = q }) (quiet_stays now s.quiet s.answer b)

-- ---- the events
pub timers_receipts : (t : Tuning) (now : ℕ) (events : List Event) (received : List Received) (n : NameValue) → timers_of t (receipts now events received) n ≡ got_each now n (timers_of t events n) received
timers_receipts t now events [] n = refl
timers_receipts t now events (c ∷ received) n = timers_receipts t now (Got c.name now c.delay ∷ events) received n

pub constants_receipts : (t : Tuning) (now : ℕ) (events : List Event) (received : List Received) → constants_after t (receipts now events received) ≡ constants_after t events
constants_receipts t now events [] = refl
constants_receipts t now events (c ∷ received) = constants_receipts t now (Got c.name now c.delay ∷ events) received

pub names_receipts : (now : ℕ) (events : List Event) (received : List Received) → names_of (receipts now events received) ≡ names_of events
names_receipts now events [] = refl
names_receipts now events (c ∷ received) = names_receipts now (Got c.name now c.delay ∷ events) received

-- ---- those of some names that pass one more test
pub listed_those : (q p : NameValue → Bool) (names : List NameValue) → Lists name_cmp (λ n. p n ≡ true) names → Lists name_cmp (λ n. (q n && p n) ≡ true) (filter q names)
listed_those q p names l = record {
  rising = IsStrictlySortedBy-filter name_cmp _ names l.rising;
  members = λ n. ((λ h. let g = Contains-from_filter q names n h in and_from _ _ g.1 ((l.members n).0 g.0)), (λ h. let g = and_both _ _ h in Contains-filter q names n ((l.members n).1 g.1) g.0));
}

module _ (t : Tuning) (now : ℕ) (received : List Received) (events : List Event) (value : RecoveryValue) (s : StandsFor t events value) where
  pub timers_then : (n : NameValue) → timers_of t (receipts now events received) n ≡ got_each now n (timers_in value n) received
  timers_then n = timers_receipts t now events received n ∙ ap (λ (k : Timers). got_each now n k received) (sym (s.timers n))

  ask_then : (n : NameValue) → is_ask_due now (timers_of t (receipts now events received) n).ask ≡ (not (is_received received n) && is_ask_due now (timers_in value n).ask)
  ask_then n = ap (λ (k : Timers). is_ask_due now k.ask) (timers_then n) ∙ passes_after (λ k. is_ask_due now k.ask) (no_ask_due now) now n (timers_in value n) received

  answer_then : (n : NameValue) → is_answer_due now (timers_of t (receipts now events received) n).answer ≡ (not (is_received received n) && is_answer_due now (timers_in value n).answer)
  answer_then n = ap (λ (k : Timers). is_answer_due now k.answer) (timers_then n) ∙ passes_after (λ k. is_answer_due now k.answer) (no_answer_due now) now n (timers_in value n) received

  pub others_asking : (asking : List NameValue) → Lists name_cmp (λ n. (not (is_received received n) && is_ask_due now (timers_in value n).ask) ≡ true) asking → asking ≡ due_asks (names_of (receipts now events received)) (timers_of t (receipts now events received)) now
  others_asking asking l = one_list name_total (λ n. is_ask_due now (timers_of t (receipts now events received) n).ask ≡ true) _ _
      (lists_same name_total _ _ _ (λ n h. ask_then n ∙ h) (λ n h. sym (ask_then n) ∙ h) l)
      (listed_of (λ (r : Timers). is_ask_due now r.ask) refl t (receipts now events received))

  pub others_answering : (answering : List NameValue) → Lists name_cmp (λ n. (not (is_received received n) && is_answer_due now (timers_in value n).answer) ≡ true) answering → answering ≡ due_answers (names_of (receipts now events received)) (timers_of t (receipts now events received)) now
  others_answering answering l = one_list name_total (λ n. is_answer_due now (timers_of t (receipts now events received) n).answer ≡ true) _ _
      (lists_same name_total _ _ _ (λ n h. answer_then n ∙ h) (λ n h. sym (answer_then n) ∙ h) l)
      (listed_of (λ (r : Timers). is_answer_due now r.answer) refl t (receipts now events received))

-- Those that have not come fire, and those that have are stopped: the same as the one after the other.
module _ (t : Tuning) (now : ℕ) (words : List ℕ) (received : List Received) (f : NameValue → Timers) (asking answering : List NameValue)
    (asks : Lists name_cmp (λ n. (not (is_received received n) && is_ask_due now (f n).ask) ≡ true) asking)
    (answers : Lists name_cmp (λ n. (not (is_received received n) && is_answer_due now (f n).answer) ≡ true) answering) where
  among_asking : (n : NameValue) → among asking n ≡ (not (is_received received n) && is_ask_due now (f n).ask)
  among_asking = among_listed (λ n. not (is_received received n) && is_ask_due now (f n).ask) asking asks

  among_answering : (n : NameValue) → among answering n ≡ (not (is_received received n) && is_answer_due now (f n).answer)
  among_answering = among_listed (λ n. not (is_received received n) && is_answer_due now (f n).answer) answering answers

  fired_here : (n : NameValue) (a b : Bool) → is_ask_due now (f n).ask ≡ a → is_answer_due now (f n).answer ≡ b
      → (let k = cond a (with_ask_fired t now words asking f n) (f n) in cond b (with_answer_fired now (λ m. k) n) k) ≡ ticked t now (word_for words asking n) (f n)
  fired_here n true true e g = refl
  fired_here n false true e g = ap (λ (o : Option AskTimer). record (ticked t now (word_for words asking n) (f n)) { ask = o }) (sym (ask_stays t now (word_for words asking n) (f n).ask e))
  fired_here n a false e g =
      one a e
      ∙ ap (λ (o : Option AnswerTimer). record (with_ask_fired t now words asking f n) { answer = o }) (sym (answer_stays now (f n).answer g))
      ∙ ap (λ (q : ℕ). record (ticked t now (word_for words asking n) (f n)) { quiet = q }) (sym (quiet_stays now (f n).quiet (f n).answer g)) where
        one : (c : Bool) → is_ask_due now (f n).ask ≡ c → cond c (with_ask_fired t now words asking f n) (f n) ≡ with_ask_fired t now words asking f n
        one true h = refl
        one false h = ap (λ (o : Option AskTimer). record (f n) { ask = o }) (sym (ask_stays t now (word_for words asking n) (f n).ask h))

  pub stopped_then_fired : (n : NameValue) → got_each now n (with_these_fired t now words asking answering f n) received ≡ ticked t now (word_for words asking n) (got_each now n (f n) received)
  stopped_then_fired n = ap (λ (k : Timers). got_each now n k received) (unfolded n) ∙ from (is_received received n) refl where
    fires : (n : NameValue) (a b : Bool) → Timers
    fires n a b = let k = cond a (with_ask_fired t now words asking f n) (f n) in cond b (with_answer_fired now (λ m. k) n) k

    unfolded : (n : NameValue) → with_these_fired t now words asking answering f n ≡ (let k = cond (not (is_received received n) && is_ask_due now (f n).ask) (with_ask_fired t now words asking f n) (f n) in cond (not (is_received received n) && is_answer_due now (f n).answer) (with_answer_fired now (λ m. k) n) k)
    unfolded n =
        ap (λ (b : Bool). let k = cond (among asking n) (with_ask_fired t now words asking f n) (f n) in cond b (with_answer_fired now (λ m. k) n) k) (among_answering n)
        ∙ ap (λ (a : Bool). let k = cond a (with_ask_fired t now words asking f n) (f n) in cond (not (is_received received n) && is_answer_due now (f n).answer) (with_answer_fired now (λ m. k) n) k) (among_asking n)

    from : (c : Bool) → is_received received n ≡ c → got_each now n (let k = cond (not c && is_ask_due now (f n).ask) (with_ask_fired t now words asking f n) (f n) in cond (not c && is_answer_due now (f n).answer) (with_answer_fired now (λ m. k) n) k) received ≡ ticked t now (word_for words asking n) (got_each now n (f n) received)
    from true e = let stops = received_stops now n (f n) received e in sym (ticked_stays t now (word_for words asking n) (got_each now n (f n) received) (no_ask_due now (got_each now n (f n) received) stops) (no_answer_due now (got_each now n (f n) received) stops))
    from false e =
        ap (λ (k : Timers). got_each now n k received) (fired_here n (is_ask_due now (f n).ask) (is_answer_due now (f n).answer) refl refl)
        ∙ not_received now n (ticked t now (word_for words asking n) (f n)) received e
        ∙ ap (ticked t now (word_for words asking n)) (sym (not_received now n (f n) received e))

pub fewer_those : (q : NameValue → Bool) (names : List NameValue) → length (filter q names) ≤ length names
fewer_those q names = omega (arith, length-filter q names, count_by-le-length q names)

-- what a recovery stands for once names have come and what is due has fired
pub stops_and_ticks : (now : ℕ) (words : List ℕ) (received : List Received) (asking answering : List NameValue) (old mid end new : RecoveryValue)
    → Lists name_cmp (λ n. (not (is_received received n) && is_ask_due now (timers_in old n).ask) ≡ true) asking
    → Lists name_cmp (λ n. (not (is_received received n) && is_answer_due now (timers_in old n).answer) ≡ true) answering
    → FiresThese now words asking answering old mid → EndsAll now received mid end
    → new.tuning ≡ end.tuning → new.records ≡ end.records → new.moment ≡ now → IsStrictlySortedBy name_cmp (names_in new)
    → (t : Tuning) (events : List Event) → StandsFor t events old → StandsFor t (Tick now words ∷ receipts now events received) new
stops_and_ticks now words received asking answering old mid end new l k fires ends a b m rises t events s = record {
  tuning = a ∙ ends.tuning ∙ fires.tuning ∙ same;
  moment = m;
  timers = λ n.
      ap (λ records. timers_at records n) b
      ∙ ends.timers n
      ∙ ap (λ (r : Timers). got_each now n r received) (fires.timers n)
      ∙ ap (λ (c : Tuning). got_each now n (with_these_fired c now words asking answering (timers_in old) n) received) same
      ∙ stopped_then_fired then now words received (timers_in old) asking answering l k n
      ∙ ap (λ (xs : List NameValue). ticked then now (word_for words xs n) (got_each now n (timers_in old n) received)) (others_asking t now received events old s asking l)
      ∙ ap (ticked then now (word_for words (due_asks (names_of (receipts now events received)) (timers_of t (receipts now events received)) now) n)) (sym (timers_then t now received events old s n));
  rising = rises;
} where
  then : Tuning
  then = constants_after t (receipts now events received)

  same : old.tuning ≡ then
  same = s.tuning ∙ sym (constants_receipts t now events received)

-- the timers of one name are replaced by what an arrival makes of them
pub got_stands : (now : ℕ) (c : Received) (old new : RecoveryValue) (after : Timers) (mid : RecoveryValue) → new ≡ mid → Replaces old mid c.name after → after ≡ got now c.delay (timers_in old c.name) → (n : NameValue) → timers_in new n ≡ cond (same_name c.name n) (got now c.delay (timers_in old c.name)) (timers_in old n)
got_stands now c old new after mid is r e n = ap (λ (v : RecoveryValue). timers_in v n) is ∙ r.timers n ∙ ap (λ (s : Timers). cond (same_name c.name n) s (timers_in old n)) e

-- the requests, and the answers, that are due of names that have not come, told of a recovery's alarms
module _ (now : ℕ) (value : RecoveryValue) (received : List Received) (test : NameValue → Bool) (tests : (n : NameValue) → test n ≡ is_received received n) (xs : List NameValue) where
  due_left : (due : NameValue → Option ℕ) (is_due : NameValue → Bool) → ((n : NameValue) → is_until now (due n) ≡ is_due n) → Lists name_cmp (λ n. (not (test n) && is_until now (due n)) ≡ true) xs → Lists name_cmp (λ n. (not (is_received received n) && is_due n) ≡ true) xs
  due_left due is_due same l = lists_same name_total _ _ xs (λ n h. sym (one n) ∙ h) (λ n h. one n ∙ h) l where
    one : (n : NameValue) → (not (test n) && is_until now (due n)) ≡ (not (is_received received n) && is_due n)
    one n = ap (λ (b : Bool). not b && is_until now (due n)) (tests n) ∙ ap (λ (b : Bool). not (is_received received n) && b) (same n)

  pub asking_left : Lists name_cmp (λ n. (not (test n) && is_until now (ask_due (timers_in value n))) ≡ true) xs → Lists name_cmp (λ n. (not (is_received received n) && is_ask_due now (timers_in value n).ask) ≡ true) xs
  asking_left l = due_left (λ n. ask_due (timers_in value n)) (λ n. is_ask_due now (timers_in value n).ask) (λ n. until_ask now (timers_in value n).ask) l

  pub answering_left : Lists name_cmp (λ n. (not (test n) && is_until now (answer_due (timers_in value n))) ≡ true) xs → Lists name_cmp (λ n. (not (is_received received n) && is_answer_due now (timers_in value n).answer) ≡ true) xs
  answering_left l = due_left (λ n. answer_due (timers_in value n)) (λ n. is_answer_due now (timers_in value n).answer) (λ n. until_answer now (timers_in value n).answer) l

-- there are words for all
pub words_left : (now words : ℕ) (value : RecoveryValue) (received : List Received) (xs : List NameValue) → IsStrictlySortedBy name_cmp (names_in value) → Lists name_cmp (λ n. (not (is_received received n) && is_ask_due now (timers_in value n).ask) ≡ true) xs → length (due_asks (names_in value) (timers_in value) now) ≤ words → length xs ≤ words
words_left now words value received xs rises l h =
    let due = due_asks (names_in value) (timers_in value) now in
    let left : length xs ≡ length (filter (λ n. not (is_received received n)) due) = ap length (one_list name_total _ _ _ l
    (listed_those (λ n. not (is_received received n)) (λ n. is_ask_due now (timers_in value n).ask) due (listed_in (λ (s : Timers). is_ask_due now s.ask) refl value rises))) in
    let fewer = fewer_those (λ n. not (is_received received n)) due in
    omega arith

-- the names with a request timer, told of a recovery's alarms
pub names_asking : (value : RecoveryValue) → IsStrictlySortedBy name_cmp (names_in value) → (p : NameValue → Bool) (xs : List NameValue) → Lists name_cmp (λ n. (p n && is_some (ask_due (timers_in value n))) ≡ true) xs → xs ≡ filter p (asking (names_in value) (timers_in value))
names_asking value rises p xs l = one_list name_total _ _ _
    (lists_same name_total _ _ _ (λ n h. sym (same n) ∙ h) (λ n h. same n ∙ h) l)
    (listed_those p (λ n. is_some (timers_in value n).ask) (asking (names_in value) (timers_in value)) (listed_in (λ (s : Timers). is_some s.ask) refl value rises)) where
      same : (n : NameValue) → (p n && is_some (ask_due (timers_in value n))) ≡ (p n && is_some (timers_in value n).ask)
      same n = ap (λ (b : Bool). p n && b) (is_some_ask (timers_in value n).ask)
