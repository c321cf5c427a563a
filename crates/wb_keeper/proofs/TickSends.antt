-- What a tick asks for, and what it answers with.
use Rattle.std.proofs.Common.{◌≡◌, ℕ, Bool, true, false, cond, List, [], ◌∷◌, ◌++◌, Option, Some, None, refl, ap, ◌∙◌, sym, subst, true≢false, ⊎_elim}
use Rattle.std.proofs.lemmas.Bool.{and_from, false_from_ne_true, not-true}
use Rattle.std.specs.Prelude.{Contains, map, not, ◌||◌, ◌&&◌, is_some, is_none, unwrap_or}
use Rattle.std.specs.BTreeMap.{is_at}
use Rattle.std.specs.List.{list_any, filter_map, cons_option}
use Rattle.std.specs.Map.{lookup}
use Rattle.std.specs.Option.{option_map}
use Rattle.std.proofs.lemmas.List.Elements.{Contains-append_left, Contains-append_right, Contains-append_cases}
use Rattle.std.proofs.lemmas.Map.Views.{Contains-keys_from_lookup}
use Rattle.wb_names.specs.Values.{NameValue, DrawopValue}
use Rattle.wb_names.specs.Orders.{name_cmp, same_name}
use Rattle.wb_names.specs.History.{IsHistory}
use Rattle.wb_names.proofs.Orders.{same_name-is, and_both, same_name-here}
use Rattle.wb_names.proofs.Listings.{Contains-here, Contains-there, Contains-cases, Contains-none, Contains-filter, Contains-from_filter, Contains-map, Any-from_map}
use Rattle.wb_codec.specs.declared.datagram.Datagram.{Datagram}
use Rattle.wb_codec.specs.declared.datagram.Datagram.TheVariants.{Draw, Request}
use Rattle.wb_recovery.specs.Timing.{no_timers, is_ask_due, is_answer_due}
use Rattle.wb_recovery.specs.Events.{Event, names_of, timers_of, asking, due_asks, due_answers, actions_of}
use Rattle.wb_recovery.specs.Stopping.{receipts, is_received}
use Rattle.wb_recovery.specs.Values.{RecoveryValue, timers_in, names_in}
use Rattle.wb_recovery.specs.declared.plan.Action.{Action}
use Rattle.wb_recovery.specs.declared.plan.Action.TheVariants.{Ask, Answer}
use Rattle.wb_recovery.specs.declared.missed.Received.{Received}
use Rattle.wb_recovery.specs.declared.timers.AskTimer.{AskTimer}
use Rattle.wb_recovery.specs.declared.timers.Timers.{Timers}
use Rattle.wb_recovery.specs.declared.tuning.Tuning.{Tuning}
use Rattle.wb_recovery.proofs.NameOrder.{name_decides}
use Rattle.wb_recovery.proofs.NameLists.{listed_of}
use Rattle.wb_recovery.proofs.StoppedNames.{passes_after, no_ask_due, no_answer_due, timers_then}
use Rattle.wb_keeper.specs.Keeper.{KeeperCall, events_of, delay_to, received_of, holds}
use Rattle.wb_keeper.specs.Keeping.{KeeperValue, StandsFor}
use Rattle.wb_keeper.specs.Ticks.{drawop_of, sent_for, stopped_in}
use Rattle.wb_keeper.specs.KeeperLaws.{sent_at, AsksForNoneHeld, AnswersWithHeld}
use Rattle.wb_keeper.proofs.KeptCalls.{holds_from}
use Rattle.wb_keeper.proofs.FoundDrawops.{found_member}

-- ---- what a list of actions sends
module _ {X Y : Type 0} (f : X → Option Y) where
  pub sent_by : (xs : List X) (x : X) (y : Y) → Contains xs x → f x ≡ Some y → Contains (filter_map f xs) y
  sent_by [] x y c e = absurd (Contains-none x c)
  sent_by (w ∷ xs) x y c e = ⊎_elim
      (λ (is : w ≡ x). subst (λ (o : Option Y). Contains (cons_option o (filter_map f xs)) y) (sym (ap f is ∙ e)) (Contains-here y (filter_map f xs)))
      (λ (d : Contains xs x). past (f w) (sent_by xs x y d e))
      (Contains-cases w x xs c) where
        past : (o : Option Y) → Contains (filter_map f xs) y → Contains (cons_option o (filter_map f xs)) y
        past None h = h
        past (Some z) h = Contains-there z y (filter_map f xs) h

  pub sent_from : (xs : List X) (y : Y) → Contains (filter_map f xs) y → (x : X) × Contains xs x × (f x ≡ Some y)
  sent_from [] y c = absurd (Contains-none y c)
  sent_from (w ∷ xs) y c = from (λ d. let r = sent_from xs y d in (r.0, Contains-there w r.0 xs r.1, r.2)) (f w) refl c where
    from : (Contains (filter_map f xs) y → (x : X) × Contains (w ∷ xs) x × (f x ≡ Some y)) → (o : Option Y) → f w ≡ o → Contains (cons_option o (filter_map f xs)) y → (x : X) × Contains (w ∷ xs) x × (f x ≡ Some y)
    from rest None e c = rest c
    from rest (Some z) e c = ⊎_elim (λ (is : z ≡ y). (w, Contains-here w xs, e ∙ ap Some is)) (λ (d : Contains (filter_map f xs) y). rest d) (Contains-cases z y (filter_map f xs) c)

-- an action is of one of the two lists
asked_for : (asks answers : List NameValue) (name : NameValue) → Contains (map Ask asks ++ map Answer answers) (Ask name) → Contains asks name
asked_for asks answers name c = ⊎_elim
    (λ (d : Contains (map Ask asks) (Ask name)). let r = Any-from_map Ask asks (Ask name) d in subst (Contains asks) (same r.1 name r.4) (r.0, r.2, r.3))
    (λ (d : Contains (map Answer answers) (Ask name)). let r = Any-from_map Answer answers (Ask name) d in absurd (other r.1 r.4))
    (Contains-append_cases (map Ask asks) (map Answer answers) (Ask name) c) where
      same : (m n : NameValue) → Ask m ≡ Ask n → m ≡ n
      same m n e = cc

      other : (m : NameValue) → Answer m ≡ Ask name → ⊥
      other m e = cc

answered : (asks answers : List NameValue) (name : NameValue) → Contains (map Ask asks ++ map Answer answers) (Answer name) → Contains answers name
answered asks answers name c = ⊎_elim
    (λ (d : Contains (map Ask asks) (Answer name)). let r = Any-from_map Ask asks (Answer name) d in absurd (other r.1 r.4))
    (λ (d : Contains (map Answer answers) (Answer name)). let r = Any-from_map Answer answers (Answer name) d in subst (Contains answers) (same r.1 name r.4) (r.0, r.2, r.3))
    (Contains-append_cases (map Ask asks) (map Answer answers) (Answer name) c) where
      same : (m n : NameValue) → Answer m ≡ Answer n → m ≡ n
      same m n e = cc

      other : (m : NameValue) → Ask m ≡ Answer name → ⊥
      other m e = cc

mapped : (make : NameValue → Action) (names : List NameValue) (name : NameValue) → Contains names name → Contains (map make names) (make name)
mapped make names name c = Contains-map make names (make name) (c.0, name, c.1, c.2, refl)

-- ---- the names that are stopped
received_names : (delays : ℕ → ℕ) (names : List NameValue) (n : NameValue) → is_received (received_of delays names) n ≡ list_any (λ m. same_name m n) names
received_names delays [] n = refl
received_names delays (m ∷ names) n = ap (λ (b : Bool). same_name m n || b) (received_names delays names n)

among_from : (names : List NameValue) (n : NameValue) → Contains names n → list_any (λ m. same_name m n) names ≡ true
among_from [] n c = absurd (Contains-none n c)
among_from (m ∷ names) n c = ⊎_elim
    (λ (is : m ≡ n). ap (λ (b : Bool). b || list_any (λ k. same_name k n) names) (same_name-here m n is))
    (λ (d : Contains names n). later (same_name m n) (among_from names n d))
    (Contains-cases m n names c) where
      later : (b : Bool) → list_any (λ k. same_name k n) names ≡ true → (b || list_any (λ k. same_name k n) names) ≡ true
      later true e = refl
      later false e = e

from_among : (names : List NameValue) (n : NameValue) → list_any (λ m. same_name m n) names ≡ true → Contains names n
from_among [] n e = absurd (true≢false (sym e))
from_among (m ∷ names) n e = from (from_among names n) (same_name m n) refl e where
  from : (list_any (λ k. same_name k n) names ≡ true → Contains names n) → (b : Bool) → same_name m n ≡ b → (b || list_any (λ k. same_name k n) names) ≡ true → Contains (m ∷ names) n
  from rest true g h = subst (λ (k : NameValue). Contains (m ∷ names) k) (same_name-is m n g) (Contains-here m names)
  from rest false g h = Contains-there m n names (rest h)

with_timer : (value : RecoveryValue) (n : NameValue) → is_some (timers_in value n).ask ≡ true → Contains (names_in value) n
with_timer value n = from (lookup (is_at (name_cmp n)) value.records) refl where
  from : (o : Option Timers) → lookup (is_at (name_cmp n)) value.records ≡ o → is_some (unwrap_or o no_timers).ask ≡ true → Contains (names_in value) n
  from None e h = absurd (true≢false (sym h))
  from (Some s) e h = Contains-keys_from_lookup (λ x y g. (name_decides x y).0 g) n value.records (ap is_some e)

module _ (history : List DrawopValue) (value : RecoveryValue) (n : NameValue) where
  abbrev stopped : Bool
  stopped = list_any (λ m. same_name m n) (stopped_in history value)

  stopped_held : stopped ≡ true → (holds history n ≡ true) × (is_some (timers_in value n).ask ≡ true)
  stopped_held e =
      let c = Contains-from_filter (holds history) (asking (names_in value) (timers_in value)) n (from_among (stopped_in history value) n e) in
      let d = Contains-from_filter (λ m. is_some (timers_in value m).ask) (names_in value) n c.0 in
      (c.1, d.1)

  held_stopped : holds history n ≡ true → is_some (timers_in value n).ask ≡ true → stopped ≡ true
  held_stopped h a = among_from (stopped_in history value) n
      (Contains-filter (holds history) (asking (names_in value) (timers_in value)) n (Contains-filter (λ m. is_some (timers_in value m).ask) (names_in value) n (with_timer value n a) a) h)

pub due_stands : (now : ℕ) (o : Option AskTimer) → is_ask_due now o ≡ true → is_some o ≡ true
due_stands now None e = cc
due_stands now (Some ask) e = refl

-- ---- a tick
module _ (me : ℕ) (t : Tuning) (calls : List KeeperCall) (value : KeeperValue) (now : ℕ) (history : List DrawopValue) (s : StandsFor me t calls value) where
  abbrev events : List Event
  events = events_of me calls

  abbrev received : List Received
  received = received_of (delay_to me calls) (stopped_in history value.recovery)

  abbrev after : List Event
  after = receipts now events received

  abbrev asks : List NameValue
  asks = due_asks (names_of after) (timers_of t after) now

  abbrev answers : List NameValue
  answers = due_answers (names_of after) (timers_of t after) now

  received_stopped : (n : NameValue) → is_received received n ≡ stopped history value.recovery n
  received_stopped n = received_names (delay_to me calls) (stopped_in history value.recovery) n

  ask_then : (n : NameValue) → is_ask_due now (timers_of t after n).ask ≡ (not (stopped history value.recovery n) && is_ask_due now (timers_in value.recovery n).ask)
  ask_then n = ap (λ (k : Timers). is_ask_due now k.ask) (timers_then t now received events value.recovery s.recovery n)
      ∙ passes_after (λ k. is_ask_due now k.ask) (no_ask_due now) now n (timers_in value.recovery n) received
      ∙ ap (λ (b : Bool). not b && is_ask_due now (timers_in value.recovery n).ask) (received_stopped n)

  answer_then : (n : NameValue) → is_answer_due now (timers_of t after n).answer ≡ (not (stopped history value.recovery n) && is_answer_due now (timers_in value.recovery n).answer)
  answer_then n = ap (λ (k : Timers). is_answer_due now k.answer) (timers_then t now received events value.recovery s.recovery n)
      ∙ passes_after (λ k. is_answer_due now k.answer) (no_answer_due now) now n (timers_in value.recovery n) received
      ∙ ap (λ (b : Bool). not b && is_answer_due now (timers_in value.recovery n).answer) (received_stopped n)

  asks_forth : (name : NameValue) → Contains asks name → (is_ask_due now (timers_of t events name).ask ≡ true) × (holds history name ≡ false)
  asks_forth name c =
      let due = ((listed_of (λ (r : Timers). is_ask_due now r.ask) refl t after).members name).0 c in
      let both = and_both (not (stopped history value.recovery name)) (is_ask_due now (timers_in value.recovery name).ask) (sym (ask_then name) ∙ due) in (
        ap (λ (k : Timers). is_ask_due now k.ask) (sym (s.recovery.timers name)) ∙ both.1,
        false_from_ne_true (holds history name) (λ h. true≢false (sym (held_stopped history value.recovery name h (due_stands now (timers_in value.recovery name).ask both.1)) ∙ not-true (stopped history value.recovery name) both.0)),
      )

  asks_back : (name : NameValue) → is_ask_due now (timers_of t events name).ask ≡ true → holds history name ≡ false → Contains asks name
  asks_back name due h =
      let none = false_from_ne_true (stopped history value.recovery name) (λ e. true≢false (sym (stopped_held history value.recovery name e).0 ∙ h)) in
      ((listed_of (λ (r : Timers). is_ask_due now r.ask) refl t after).members name).1
      (ask_then name ∙ and_from _ _ (ap not none) (ap (λ (k : Timers). is_ask_due now k.ask) (s.recovery.timers name) ∙ due))

  answers_forth : (name : NameValue) → holds history name ≡ true → Contains answers name → (is_answer_due now (timers_of t events name).answer ≡ true) × (is_none (timers_of t events name).ask ≡ true)
  answers_forth name held c =
      let due = ((listed_of (λ (r : Timers). is_answer_due now r.answer) refl t after).members name).0 c in
      let both = and_both (not (stopped history value.recovery name)) (is_answer_due now (timers_in value.recovery name).answer) (sym (answer_then name) ∙ due) in (
        ap (λ (k : Timers). is_answer_due now k.answer) (sym (s.recovery.timers name)) ∙ both.1,
        ap (λ (k : Timers). is_none k.ask) (sym (s.recovery.timers name)) ∙ none_unless (timers_in value.recovery name).ask
            (λ a. true≢false (sym (held_stopped history value.recovery name held a) ∙ not-true (stopped history value.recovery name) both.0)),
      ) where
        none_unless : (o : Option AskTimer) → (is_some o ≡ true → ⊥) → is_none o ≡ true
        none_unless None f = refl
        none_unless (Some a) f = absurd (f refl)

  answers_back : (name : NameValue) → is_answer_due now (timers_of t events name).answer ≡ true → is_none (timers_of t events name).ask ≡ true → Contains answers name
  answers_back name due none =
      let no_ask = ap (λ (k : Timers). is_none k.ask) (s.recovery.timers name) ∙ none in
      let free = false_from_ne_true (stopped history value.recovery name) (λ e. both_not (timers_in value.recovery name).ask (stopped_held history value.recovery name e).1 no_ask) in
      ((listed_of (λ (r : Timers). is_answer_due now r.answer) refl t after).members name).1
      (answer_then name ∙ and_from _ _ (ap not free) (ap (λ (k : Timers). is_answer_due now k.answer) (s.recovery.timers name) ∙ due)) where
        both_not : (o : Option AskTimer) → is_some o ≡ true → is_none o ≡ true → ⊥
        both_not None e f = true≢false (sym e)
        both_not (Some a) e f = true≢false (sym f)

  -- the request is that of an action
  request_of : (asker : ℕ) (name : NameValue) (action : Action) → sent_for me history action ≡ Some (Request asker name) → (asker ≡ me) × (action ≡ Ask name)
  request_of asker name (Ask n) e = (asker_is e, name_is e) where
    asker_is : (let o : Option Datagram = Some (Request me n) in o ≡ Some (Request asker name)) → asker ≡ me
    asker_is e = cc

    name_is : (let o : Option Datagram = Some (Request me n) in o ≡ Some (Request asker name)) → Ask n ≡ Ask name
    name_is e = cc
  request_of asker name (Answer n) e = absurd (from (drawop_of history n) e) where
    from : (o : Option DrawopValue) → option_map {T = DrawopValue} {U = Datagram} Draw o ≡ Some (Request asker name) → ⊥
    from None e = cc
    from (Some d) e = cc

  draw_of : (d : DrawopValue) (action : Action) → sent_for me history action ≡ Some (Draw d) → (name : NameValue) × (action ≡ Answer name) × (drawop_of history name ≡ Some d)
  draw_of d (Ask n) e = cc
  draw_of d (Answer n) e = (n, refl, from (drawop_of history n) e) where
    from : (o : Option DrawopValue) → option_map {T = DrawopValue} {U = Datagram} Draw o ≡ Some (Draw d) → o ≡ Some d
    from None e = cc
    from (Some x) e = cc

  pub asks_for : (asker : ℕ) (name : NameValue) → Contains (sent_at me t calls value now history) (Request asker name) → (asker ≡ me) × (is_ask_due now (timers_of t events name).ask ≡ true) × (holds history name ≡ false)
  asks_for asker name c =
      let r = sent_from (sent_for me history) (actions_of t after now) (Request asker name) c in
      let q = request_of asker name r.0 r.2 in
      let b = asks_forth name (asked_for asks answers name (subst (Contains (actions_of t after now)) q.1 r.1)) in
      (q.0, b.0, b.1)

  pub for_asks : (asker : ℕ) (name : NameValue) → (asker ≡ me) × (is_ask_due now (timers_of t events name).ask ≡ true) × (holds history name ≡ false) → Contains (sent_at me t calls value now history) (Request asker name)
  for_asks asker name (is, due, held) = sent_by (sent_for me history) (actions_of t after now) (Ask name) (Request asker name)
      (Contains-append_left (map Ask asks) (map Answer answers) (Ask name) (mapped Ask asks name (asks_back name due held)))
      (ap (λ (k : ℕ). Some (Request k name)) (sym is))

  pub answers_with : (d : DrawopValue) → Contains (sent_at me t calls value now history) (Draw d) → Contains history d × (is_answer_due now (timers_of t events d.name).answer ≡ true) × (is_none (timers_of t events d.name).ask ≡ true)
  answers_with d c =
      let r = sent_from (sent_for me history) (actions_of t after now) (Draw d) c in
      let q = draw_of d r.0 r.2 in
      let m = member_of history q.0 d q.2 in
      let b = answers_forth q.0 (holds_from history q.0 d m.0 m.1) (answered asks answers q.0 (subst (Contains (actions_of t after now)) q.1 r.1)) in
      (m.0, ap (λ (n : NameValue). is_answer_due now (timers_of t events n).answer) m.1 ∙ b.0, ap (λ (n : NameValue). is_none (timers_of t events n).ask) m.1 ∙ b.1) where
        member_of : (history : List DrawopValue) (name : NameValue) (d : DrawopValue) → drawop_of history name ≡ Some d → Contains history d × (d.name ≡ name)
        member_of [] name d e = cc
        member_of (x ∷ history) name d e = at (member_of history name d) (same_name x.name name) refl e where
          at : (drawop_of history name ≡ Some d → Contains history d × (d.name ≡ name)) → (b : Bool) → same_name x.name name ≡ b → cond b (Some x) (drawop_of history name) ≡ Some d → Contains (x ∷ history) d × (d.name ≡ name)
          at rest true g e = let is : x ≡ d = unwrapped x d e in (subst (λ (w : DrawopValue). Contains (x ∷ history) w) is (Contains-here x history), ap (λ (w : DrawopValue). w.name) (sym is) ∙ same_name-is x.name name g) where
            unwrapped : (x d : DrawopValue) → Some x ≡ Some d → x ≡ d
            unwrapped x d e = cc
          at rest false g e = let r = rest e in (Contains-there x d history r.0, r.1)

  pub with_answers : IsHistory history → (d : DrawopValue) → Contains history d × (is_answer_due now (timers_of t events d.name).answer ≡ true) × (is_none (timers_of t events d.name).ask ≡ true) → Contains (sent_at me t calls value now history) (Draw d)
  with_answers names d (c, due, none) = sent_by (sent_for me history) (actions_of t after now) (Answer d.name) (Draw d)
      (Contains-append_right (map Ask asks) (map Answer answers) (Answer d.name) (mapped Answer answers d.name (answers_back d.name due none)))
      (ap (option_map {T = DrawopValue} {U = Datagram} Draw) (found_member history d.name d names c refl))

pub asks_for_none_held : AsksForNoneHeld
asks_for_none_held me t calls value now history s asker name = (asks_for me t calls value now history s asker name, for_asks me t calls value now history s asker name)

pub answers_with_held : AnswersWithHeld
answers_with_held me t calls value now history names s d = (answers_with me t calls value now history s d, with_answers me t calls value now history s names d)
