-- If a name is given up before its timer was backed off, 64 names were asked for shortly before.
use Rattle.std.proofs.Common.{◌≡◌, ℕ, ◌+◌, ◌<◌, ◌≤◌, List, [], ◌∷◌, ◌++◌, ◌∙◌, Option, Some, ap, append_assoc, arith, length, max, subst, sym, ⊎_elim}
use Rattle.std.specs.Prelude.{◌⊎◌, Contains, IfSome}
use Rattle.std.specs.Ordering.{ordering_reverse}
use Rattle.std.specs.declared.cmp.Ordering.TheVariants.{Less}
use Rattle.std.proofs.lemmas.Option.{same_Some}
use Rattle.wb_names.specs.Orders.{name_cmp}
use Rattle.wb_names.specs.Values.{NameValue}
use Rattle.wb_names.proofs.Listings.{Contains-cases}
use Rattle.wb_names.proofs.Orders.{name_total}
use Rattle.wb_recovery.specs.declared.timers.AskTimer.{AskTimer}
use Rattle.wb_progress.specs.InTime.{AreApart}
use Rattle.wb_progress.specs.Turns.{Terms}
use Rattle.wb_progress.proofs.NamesApart.{less_greater}
use Rattle.wb_member.specs.Judged.{level}
use Rattle.wb_member.specs.declared.calls.Call.TheVariants.{Ask, Stop}
use Rattle.wb_keeping.specs.Kept.{Calls}
use Rattle.wb_keeping.specs.Performing.{view_of}
use Rattle.wb_policy.specs.Wanting.{oldest}
use Rattle.wb_policy.specs.declared.wanting.AskedName.{AskedName}
use Rattle.wb_kept_progress.specs.Promises.{host_then, timer_then}
use Rattle.wb_kept_progress.specs.Sessions.{Opening}
use Rattle.wb_kept_progress.specs.Timed.{AreInOrder, At, IsTimely, Start, performed, start_of}
use Rattle.wb_kept_progress.specs.Whole.{IsTimelySession, request_span}
use Rattle.wb_kept_progress.proofs.AskedSince.{WasAsked, was_asked_before}
use Rattle.wb_kept_progress.proofs.CallLines.{lines_have_calls}
use Rattle.wb_kept_progress.proofs.StopCauses.{stops_have_cause}
use Rattle.wb_kept_progress.proofs.WindowParts.{line_by}
use Rattle.wb_kept_progress.proofs.YoungestAsked.{Others, new_level, new_timer, others}
use Rattle.wb_keeping.specs.Laws.{KeptLine}
use Rattle.wb_member.specs.Lines.{Line}
use Rattle.wb_progress.proofs.Parts.{order_of}

pub none_below : (n : NameValue) → name_cmp n n ≡ Less → ⊥
none_below n e = less_greater (sym e ∙ name_total.antisymm n n ∙ ap ordering_reverse e)

-- a line at a place asks for a name, so shortly before a time
pub record IsAskedFor (hosts : ℕ → Opening) (terms : Terms) (trace : List (At KeptLine)) (i time : ℕ) (m : NameValue) : Type 0 where
  pub newer : List (At Line)
  pub y : At Line
  pub older : List (At Line)
  pub split : performed hosts trace ≡ newer ++ y ∷ older
  pub place : y.place ≡ i
  pub line : y.event ≡ Calls (Ask m)
  pub since : time ≤ max y.time terms.quiet + request_span terms
  pub before : y.time ≤ time

-- so are 64 names
pub record IsCrowd (hosts : ℕ → Opening) (terms : Terms) (trace : List (At KeptLine)) (i time : ℕ) : Type 0 where
  pub names : List NameValue
  pub apart : AreApart names
  pub many : 64 ≤ length names
  pub asked : (m : NameValue) → Contains names m → IsAskedFor hosts terms trace i time m

module _ (hosts : ℕ → Opening) (terms : Terms) (trace : List (At KeptLine)) (i : ℕ) (session : IsTimelySession hosts terms trace) (timely : IsTimely (λ j. start_of (hosts j)) terms (performed hosts trace)) (live : Contains terms.live i)
    (front back : List (At Line)) (x : At Line) (split : performed hosts trace ≡ front ++ x ∷ back) (late : terms.quiet < x.time) where
  abbrev starts : ℕ → Start
  starts j = start_of (hosts j)

  before_it : performed hosts trace ≡ (front ++ x ∷ []) ++ back
  before_it = split ∙ sym (append_assoc front (x ∷ []) back)

  in_order : AreInOrder (x ∷ back)
  in_order = order_of front (x ∷ back) (subst AreInOrder split timely.order)

  -- a timer that was not backed off was set shortly before
  asked_lately : (m : NameValue) → level (host_then hosts back i) m ≡ Some 0 → IsAskedFor hosts terms trace i x.time m
  asked_lately m new =
      let t = new_timer (timer_then hosts back i m) new in
      let w : WasAsked hosts terms trace timely back i m t.0 = was_asked_before hosts terms trace timely front back x i m t.0 split late live t.1 t.2 in
      let soon : x.time ≤ t.0.due + (terms.lag i + terms.late) = subst (λ (o : Option AskTimer). IfSome o (λ (a : AskTimer). x.time ≤ a.due + (terms.lag i + terms.late))) t.1 (timely.soon front back x i m split live late).ask in
      let due = w.due in
      let first = in_order.0 in
      let by = line_by back w.newer w.older w.x in_order.1 w.split in
      record {
        newer = (front ++ x ∷ []) ++ w.newer;
        y = w.x;
        older = w.older;
        split = before_it ∙ ap (λ (l : List (At Line)). (front ++ x ∷ []) ++ l) w.split ∙ sym (append_assoc (front ++ x ∷ []) w.newer (w.x ∷ w.older));
        place = w.place;
        line = w.line;
        since = omega (arith, soon, due);
        before = omega (arith, by, first);
      }

  module _ (n : NameValue) (ask : AskTimer) (place : x.place ≡ i) (line : x.event ≡ Calls (Stop n)) (stands : timer_then hosts back i n ≡ Some ask) (new : ask.level ≡ 0) where
    abbrev Stopped : ℕ → Type 0
    Stopped p = ((a : AskTimer) × (timer_then hosts back p n ≡ Some a) × (4 ≤ a.level))
        ⊎ ((64 ≤ length (view_of (host_then hosts back p)).asked) × (a : AskedName) × (oldest (view_of (host_then hosts back p)).asked ≡ Some a) × (a.name ≡ n))

    new_here : level (host_then hosts back i) n ≡ Some 0
    new_here = new_level (timer_then hosts back i n) ask stands new

    with_others : 64 ≤ length (view_of (host_then hosts back i)).asked → Others (host_then hosts back i) n → IsCrowd hosts terms trace i x.time
    with_others many o = record {
      names = n ∷ o.names;
      apart = ((λ c. none_below n (o.greater n c)), o.apart);
      many = let count = o.count in omega (arith, many, count);
      asked = λ m c. ⊎_elim
          (λ (same : n ≡ m). asked_lately m (subst (λ (z : NameValue). level (host_then hosts back i) z ≡ Some 0) same new_here))
          (λ (other : Contains o.names m). asked_lately m (o.new m other))
          (Contains-cases n m o.names c);
    }

    pub crowd : IsCrowd hosts terms trace i x.time
    crowd = ⊎_elim
        (λ (h : (a : AskTimer) × (timer_then hosts back i n ≡ Some a) × (4 ≤ a.level)).
        let same = same_Some ask h.0 (sym stands ∙ h.1) in
        let zero_level : h.0.level ≡ 0 = sym (ap (λ (a : AskTimer). a.level) same) ∙ new in
        let four = h.2 in
        absurd (omega (arith, zero_level, four)))
        (λ (h : (64 ≤ length (view_of (host_then hosts back i)).asked) × (a : AskedName) × (oldest (view_of (host_then hosts back i)).asked ≡ Some a) × (a.name ≡ n)).
        with_others h.0 (others (host_then hosts back i) n new_here h.1 h.2 h.3))
        (subst Stopped place (stops_have_cause lines_have_calls hosts terms trace front x back n session (subst (Contains terms.live) (sym place) live) late split line))
