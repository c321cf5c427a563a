-- Answered calls by rank: what an insertion keeps, and that the run of the sorted calls is legal.
use Rattle.std.proofs.Common.{◌≡◌, ℕ, suc, ◌+◌, ◌*◌, ◌<◌, ◌≤◌, Bool, true, false, cond, ◌&&◌, nat_eq, List, [], ◌∷◌, ◌++◌, length, take, map, filter, refl, sym, ap, subst, ◌∙◌, arith, add-one, add-zero, get_or}
use Rattle.std.specs.Prelude.{nat_le, All, AllPairs, slice_get, Some}
use Rattle.std.proofs.lemmas.Bool.{leb-true, leb-false, eqb-true, eq-eqb}
use Rattle.std.proofs.lemmas.List.Elements.{All-head, All-tail}
use Rattle.std.proofs.lemmas.List.{length-take-le}
use Rattle.std.proofs.lemmas.Option.{slice_get_within, slice_get-get_or}
use Rattle.std.proofs.Math.Seq.{take-suc, take-length}
use Rattle.wb_names.specs.Values.{DrawopValue}
use Rattle.wb_board.specs.declared.reply.Reply.TheVariants.{New}
use Rattle.wb_board.specs.Board.{Call, Accept, AskGaps, AskReport, AskPages, AskView, Answer, Replied, Step, IsAnswer, after_call, IsLegalFrom}
use Rattle.wb_board.specs.Runs.{Answered, is_new, HasNew, Precedes, IsAnsweredSince, is_new_at, rank, placed, in_order, steps_of, end_of, OneRun}

-- P holds of each, element by element
abbrev pub Each : (Answered → Type 0) → List Answered → Type 0
Each P [] = Unit {0}
Each P (t ∷ ts) = P t × Each P ts

pub each_all : (P : Answered → Type 0) (ts : List Answered) → All P ts → Each P ts
each_all P [] all = tt
each_all P (t ∷ ts) all = (All-head P t ts all, each_all P ts (All-tail P t ts all))

pub each_weaker : (P Q : Answered → Type 0) (ts : List Answered) → ((t : Answered) → P t → Q t) → Each P ts → Each Q ts
each_weaker P Q [] f e = tt
each_weaker P Q (t ∷ ts) f e = (f t e.0, each_weaker P Q ts f e.1)

-- no rank falls
abbrev pub Rising : List Answered → Type 0
Rising [] = Unit {0}
Rising (t ∷ ts) = Each (λ u. rank t ≤ rank u) ts × Rising ts

pub placed_each : (P : Answered → Type 0) (t : Answered) (us : List Answered) → P t → Each P us → Each P (placed t us)
placed_each P t [] p e = (p, tt)
placed_each P t (u ∷ us) p e = elim (nat_le (rank t) (rank u)) as (λ b. Each P (cond b (t ∷ u ∷ us) (u ∷ placed t us))) [ true ↦ (p, e) | false ↦ (e.0, placed_each P t us p e.1) ]

placed_step : (t u : Answered) (us : List Answered) (b : Bool) → nat_le (rank t) (rank u) ≡ b → Rising (u ∷ us) → Rising (placed t us) → Rising (cond b (t ∷ u ∷ us) (u ∷ placed t us))
placed_step t u us true e r later = let h = leb-true (rank t) (rank u) e in ((h, each_weaker (λ v. rank u ≤ rank v) (λ v. rank t ≤ rank v) us (λ v g. omega arith) r.0), r)
placed_step t u us false e r later = let h = leb-false (rank t) (rank u) e in (placed_each (λ v. rank u ≤ rank v) t us (omega arith) r.0, later)

pub placed_rising : (t : Answered) (us : List Answered) → Rising us → Rising (placed t us)
placed_rising t [] r = (tt, tt)
placed_rising t (u ∷ us) r = placed_step t u us (nat_le (rank t) (rank u)) refl r (placed_rising t us r.1)

pass_both : (f : Answered → Bool) (t u : Answered) (us : List Answered) (a b : Bool) → f t ≡ a → f u ≡ b → (f t ≡ true → Each (λ v. f v ≡ true → rank t ≤ rank v) (u ∷ us)) → rank u < rank t
    → cond b (u ∷ cond a (t ∷ filter f us) (filter f us)) (cond a (t ∷ filter f us) (filter f us)) ≡ cond a (t ∷ cond b (u ∷ filter f us) (filter f us)) (cond b (u ∷ filter f us) (filter f us))
pass_both f t u us false b ft fu low less = refl
pass_both f t u us true false ft fu low less = refl
pass_both f t u us true true ft fu low less = let g = (low ft).0 fu in absurd (omega arith)

filter_step : (f : Answered → Bool) (t u : Answered) (us : List Answered) (b : Bool) → nat_le (rank t) (rank u) ≡ b → (f t ≡ true → Each (λ v. f v ≡ true → rank t ≤ rank v) (u ∷ us)) → filter f (placed t us) ≡ filter f (t ∷ us)
    → filter f (cond b (t ∷ u ∷ us) (u ∷ placed t us)) ≡ filter f (t ∷ u ∷ us)
filter_step f t u us true e low later = refl
filter_step f t u us false e low later = ap (λ (l : List Answered). cond (f u) (u ∷ l) l) later ∙ pass_both f t u us (f t) (f u) refl refl low (leb-false (rank t) (rank u) e)

-- A test keeps the order of what passes it, if none of it is of a lower rank than t.
pub placed_filter : (f : Answered → Bool) (t : Answered) (us : List Answered) → (f t ≡ true → Each (λ u. f u ≡ true → rank t ≤ rank u) us) → filter f (placed t us) ≡ filter f (t ∷ us)
placed_filter f t [] low = refl
placed_filter f t (u ∷ us) low = filter_step f t u us (nat_le (rank t) (rank u)) refl low (placed_filter f t us (λ e. (low e).1))

-- so does sorting, where of two that pass it the later is of no lower rank
abbrev pub Keeps : (Answered → Bool) → List Answered → Type 0
Keeps f [] = Unit {0}
Keeps f (t ∷ ts) = (f t ≡ true → Each (λ u. f u ≡ true → rank t ≤ rank u) ts) × Keeps f ts

pub in_order_each : (P : Answered → Type 0) (ts : List Answered) → Each P ts → Each P (in_order ts)
in_order_each P [] e = tt
in_order_each P (t ∷ ts) e = placed_each P t (in_order ts) e.0 (in_order_each P ts e.1)

pub in_order_rising : (ts : List Answered) → Rising (in_order ts)
in_order_rising [] = tt
in_order_rising (t ∷ ts) = placed_rising t (in_order ts) (in_order_rising ts)

pub in_order_filter : (f : Answered → Bool) (ts : List Answered) → Keeps f ts → filter f (in_order ts) ≡ filter f ts
in_order_filter f [] k = refl
in_order_filter f (t ∷ ts) k =
    placed_filter f t (in_order ts) (λ e. in_order_each (λ u. f u ≡ true → rank t ≤ rank u) ts (k.0 e))
    ∙ ap (λ (l : List Answered). cond (f t) (t ∷ l) l) (in_order_filter f ts k.1)

-- all that is new at one point has one rank
new_parts : (i : ℕ) (t : Answered) → is_new_at i t ≡ true → (is_new t.step.answer ≡ true) × (t.point ≡ i)
new_parts i t e = by (is_new t.step.answer) refl e
  where
    by : (b : Bool) → is_new t.step.answer ≡ b → (b && nat_eq t.point i) ≡ true → (is_new t.step.answer ≡ true) × (t.point ≡ i)
    by true h g = (h, eqb-true t.point i g)
    by false h g = cc

rank_new : (t : Answered) → is_new t.step.answer ≡ true → rank t ≡ 2 * t.point + 1
rank_new t h = ap (λ (b : Bool). 2 * t.point + cond b 1 0) h

rank_old : (t : Answered) → is_new t.step.answer ≡ false → rank t ≡ 2 * t.point
rank_old t h = ap (λ (b : Bool). 2 * t.point + cond b 1 0) h ∙ add-zero (2 * t.point)

each_new : (i : ℕ) (n : ℕ) (us : List Answered) → n ≡ 2 * i + 1 → Each (λ u. is_new_at i u ≡ true → n ≤ rank u) us
each_new i n [] same = tt
each_new i n (u ∷ us) same = (λ e. let p = new_parts i u e in let r = rank_new u p.0 in let at = p.1 in omega arith, each_new i n us same)

keeps_new : (i : ℕ) (ts : List Answered) → Keeps (is_new_at i) ts
keeps_new i [] = tt
keeps_new i (t ∷ ts) = (λ e. let p = new_parts i t e in each_new i (rank t) ts (rank_new t p.0 ∙ ap (λ (n : ℕ). 2 * n + 1) p.1), keeps_new i ts)

-- and what one caller was answered never falls in rank
precedes_rank : (t u : Answered) → Precedes t u → rank t ≤ rank u
precedes_rank t u p = by (is_new t.step.answer) (is_new u.step.answer) refl refl
  where
    by : (a b : Bool) → is_new t.step.answer ≡ a → is_new u.step.answer ≡ b → rank t ≤ rank u
    by true true h g = let rt = rank_new t h in let ru = rank_new u g in let q = p.1 h in omega arith
    by true false h g = let rt = rank_new t h in let ru = rank_old u g in let q = p.1 h in omega arith
    by false true h g = let rt = rank_old t h in let ru = rank_new u g in let q = p.0 in omega arith
    by false false h g = let rt = rank_old t h in let ru = rank_old u g in let q = p.0 in omega arith

each_pairs : (R : Answered → Answered → Type 0) (t : Answered) (ts : List Answered) → AllPairs R (t ∷ ts) → Each (R t) ts
each_pairs R t ts pairs = each_all (R t) ts (λ k d h. pairs 0 (suc k) d (omega arith) (omega arith))

tail_pairs : (R : Answered → Answered → Type 0) (t : Answered) (ts : List Answered) → AllPairs R (t ∷ ts) → AllPairs R ts
tail_pairs R t ts pairs = λ i j d less h. pairs (suc i) (suc j) d (omega arith) (omega arith)

abbrev of_caller : ℕ → Answered → Bool
of_caller caller t = nat_eq t.step.caller caller

keeps_caller : (caller : ℕ) (ts : List Answered) → AllPairs (λ t u. t.step.caller ≡ u.step.caller → Precedes t u) ts → Keeps (of_caller caller) ts
keeps_caller caller [] pairs = tt
keeps_caller caller (t ∷ ts) pairs = (
  λ e. each_weaker (λ u. t.step.caller ≡ u.step.caller → Precedes t u) (λ u. of_caller caller u ≡ true → rank t ≤ rank u) ts
      (λ u p g. precedes_rank t u (p (eqb-true t.step.caller caller e ∙ sym (eqb-true u.step.caller caller g))))
      (each_pairs (λ t u. t.step.caller ≡ u.step.caller → Precedes t u) t ts pairs),
  keeps_caller caller ts (tail_pairs (λ t u. t.step.caller ≡ u.step.caller → Precedes t u) t ts pairs),
)

steps_filter : (caller : ℕ) (ts : List Answered) → steps_of caller (map (λ t. t.step) ts) ≡ map (λ t. t.step) (filter (of_caller caller) ts)
steps_filter caller [] = refl
steps_filter caller (t ∷ ts) = ap (λ (l : List Step). cond (of_caller caller t) (t.step ∷ l) l) (steps_filter caller ts) ∙ either (of_caller caller t)
  where
    either : (b : Bool) → cond b (t.step ∷ map (λ t. t.step) (filter (of_caller caller) ts)) (map (λ t. t.step) (filter (of_caller caller) ts)) ≡ map (λ t. t.step) (cond b (t ∷ filter (of_caller caller) ts) (filter (of_caller caller) ts))
    either true = refl
    either false = refl

-- what is of a higher rank than the drawop i is not that drawop
not_new : (i : ℕ) (u : Answered) (b : Bool) → is_new_at i u ≡ b → 2 * i + 1 < rank u → b ≡ false
not_new i u false e less = refl
not_new i u true e less = let p = new_parts i u e in let r = rank_new u p.0 in let at = p.1 in absurd (omega arith)

none_new : (i : ℕ) (us : List Answered) → Each (λ u. 2 * i + 1 < rank u) us → filter (is_new_at i) us ≡ []
none_new i [] e = refl
none_new i (u ∷ us) e = ap (λ (b : Bool). cond b (u ∷ filter (is_new_at i) us) (filter (is_new_at i) us)) (not_new i u (is_new_at i u) refl e.0) ∙ none_new i us e.1

rank_low : (t : Answered) → 2 * t.point ≤ rank t
rank_low t = omega arith

-- the first of the calls was answered at the point that the run has come to
first_point : (history : List DrawopValue) (p : ℕ) (t : Answered) (ts : List Answered) → IsAnsweredSince history p t → Each (λ u. rank t ≤ rank u) ts
    → (p < length history → length (filter (is_new_at p) (t ∷ ts)) ≡ 1) → t.point ≡ p
first_point history p t ts answered rising once =
    let since = answered.since in
    let within = answered.within in
    let not_above : p < t.point → ⊥ = λ above.
    let low = rank_low t in
    let none = none_new p (t ∷ ts) (omega arith, each_weaker (λ u. rank t ≤ rank u) (λ u. 2 * p + 1 < rank u) ts (λ u g. omega arith) rising) in
    let one = once (omega arith) in
    let zero_is_one = sym (ap length none) ∙ one in omega arith
    in omega (arith, not_above)

skip_old : (i : ℕ) (t : Answered) (ts : List Answered) → is_new t.step.answer ≡ false → filter (is_new_at i) (t ∷ ts) ≡ filter (is_new_at i) ts
skip_old i t ts old = ap (λ (b : Bool). cond (b && nat_eq t.point i) (t ∷ filter (is_new_at i) ts) (filter (is_new_at i) ts)) old

skip_other : (i : ℕ) (t : Answered) (ts : List Answered) → t.point < i → filter (is_new_at i) (t ∷ ts) ≡ filter (is_new_at i) ts
skip_other i t ts below = by (is_new_at i t) refl
  where
    by : (b : Bool) → is_new_at i t ≡ b → cond b (t ∷ filter (is_new_at i) ts) (filter (is_new_at i) ts) ≡ filter (is_new_at i) ts
    by false e = refl
    by true e = let at = (new_parts i t e).1 in absurd (omega arith)

take_new : (i : ℕ) (t : Answered) (ts : List Answered) → is_new t.step.answer ≡ true → t.point ≡ i → length (filter (is_new_at i) (t ∷ ts)) ≡ suc (length (filter (is_new_at i) ts))
take_new i t ts new at = ap (λ (b : Bool). length (cond b (t ∷ filter (is_new_at i) ts) (filter (is_new_at i) ts))) (ap (λ (b : Bool). b && nat_eq t.point i) new ∙ eq-eqb t.point i at)

-- where the drawop p was new to none of them, and none is of a lower rank, all were answered later
answered_later : (history : List DrawopValue) (p : ℕ) (u : Answered) (a b : Bool) → is_new u.step.answer ≡ a → is_new_at p u ≡ b → b ≡ false → 2 * p + 1 ≤ rank u → p + 1 ≤ u.point
answered_later history p u false b old e other low = let r = rank_old u old in omega arith
answered_later history p u true b new e other low =
    let r = rank_new u new in
    let differ : nat_eq u.point p ≡ false = sym (ap (λ (c : Bool). c && nat_eq u.point p) new) ∙ e ∙ other in
    let apart : u.point ≡ p → ⊥ = λ same. let yes = eq-eqb u.point p same in cc in omega (arith, apart)

no_more : (p : ℕ) (u : Answered) (us : List Answered) (b : Bool) → is_new_at p u ≡ b → length (filter (is_new_at p) (u ∷ us)) ≡ 0 → (b ≡ false) × (length (filter (is_new_at p) us) ≡ 0)
no_more p u us false e none = (refl, sym (ap (λ (c : Bool). length (cond c (u ∷ filter (is_new_at p) us) (filter (is_new_at p) us))) e) ∙ none)
no_more p u us true e none = let one = sym (ap (λ (c : Bool). length (cond c (u ∷ filter (is_new_at p) us) (filter (is_new_at p) us))) e) ∙ none in absurd (omega arith)

all_later : (history : List DrawopValue) (p : ℕ) (us : List Answered) → length (filter (is_new_at p) us) ≡ 0 → Each (λ u. 2 * p + 1 ≤ rank u) us → Each (IsAnsweredSince history p) us → Each (IsAnsweredSince history (p + 1)) us
all_later history p [] none low answered = tt
all_later history p (u ∷ us) none low answered =
    let n = no_more p u us (is_new_at p u) refl none in
    let u_answered = answered.0 in (
      record { since = answered_later history p u (is_new u.step.answer) (is_new_at p u) refl refl n.0 low.0; within = u_answered.within; answer = u_answered.answer; new = u_answered.new },
      all_later history p us n.1 low.1 answered.1,
    )

-- a call that added nothing leaves the history
after_old : (history : List DrawopValue) (call : Call) (answer : Answer) → is_new answer ≡ false → after_call history call answer ≡ history
after_old history (Accept d) (Replied (New i)) e = cc
after_old history call answer e = refl

-- a new drawop makes the history one longer
after_new : (history : List DrawopValue) (p : ℕ) (call : Call) (answer : Answer) → p ≤ length history → is_new answer ≡ true → IsAnswer (take p history) call answer → HasNew history call answer
    → (after_call (take p history) call answer ≡ take (p + 1) history) × (p < length history)
after_new history p (Accept d) (Replied (New i)) within e a m =
    let at : i ≡ p = a.0 ∙ length-take-le p history within in
    let there : slice_get history p ≡ Some d = subst (λ (j : ℕ). slice_get history j ≡ Some d) at m in
    let less = slice_get_within history p d there in
    let is_d : Some (get_or history p d) ≡ Some d = sym (slice_get-get_or history p d less) ∙ there in
    (ap (λ (x : DrawopValue). take p history ++ x ∷ []) (sym (cc is_d)) ∙ sym (take-suc history p d less) ∙ ap (λ (n : ℕ). take n history) (sym (add-one p)), less)
after_new history p (AskGaps page marks) (Replied r) within e a m = absurd a
after_new history p (AskReport page) (Replied r) within e a m = absurd a
after_new history p AskPages (Replied r) within e a m = absurd a
after_new history p (AskView page) (Replied r) within e a m = absurd a
after_new history p call answer within e a m = cc

-- what is still to run when the run has come to the point p
record Waits (history : List DrawopValue) (p : ℕ) (ts : List Answered) : Type 0 where
  within : p ≤ length history
  each : Each (IsAnsweredSince history p) ts
  rising : Rising ts
  once : (i : ℕ) → p ≤ i → i < length history → length (filter (is_new_at i) ts) ≡ 1

abbrev Runs : List DrawopValue → ℕ → List Answered → Type 0
Runs history p ts = IsLegalFrom (take p history) (map (λ t. t.step) ts) × (end_of (take p history) (map (λ t. t.step) ts) ≡ history)

runs_step : (history : List DrawopValue) (p : ℕ) (t : Answered) (ts : List Answered) (b : Bool) → is_new t.step.answer ≡ b → Waits history p (t ∷ ts) → ((q : ℕ) → Waits history q ts → Runs history q ts) → Runs history p (t ∷ ts)
runs_step history p t ts false old w later =
    let answered = w.each.0 in
    let at = first_point history p t ts answered w.rising.0 (w.once p (omega arith)) in
    let answer = subst (λ (q : ℕ). IsAnswer (take q history) t.step.call t.step.answer) at answered.answer in
    let same = after_old (take p history) t.step.call t.step.answer old in
    let rest = later p (record { within = w.within; each = w.each.1; rising = w.rising.1; once = λ i low less. sym (ap length (skip_old i t ts old)) ∙ w.once i low less }) in
    ((answer, subst (λ (h : List DrawopValue). IsLegalFrom h (map (λ t. t.step) ts)) (sym same) rest.0), ap (λ (h : List DrawopValue). end_of h (map (λ t. t.step) ts)) same ∙ rest.1)
runs_step history p t ts true new w later =
    let answered = w.each.0 in
    let at = first_point history p t ts answered w.rising.0 (w.once p (omega arith)) in
    let answer = subst (λ (q : ℕ). IsAnswer (take q history) t.step.call t.step.answer) at answered.answer in
    let longer = after_new history p t.step.call t.step.answer w.within new answer answered.new in
    let less = longer.1 in
    let one = sym (take_new p t ts new at) ∙ w.once p (omega arith) less in
    let none : length (filter (is_new_at p) ts) ≡ 0 = omega arith in
    let r = rank_new t new in
    let low = each_weaker (λ u. rank t ≤ rank u) (λ u. 2 * p + 1 ≤ rank u) ts (λ u g. omega arith) w.rising.0 in
    let rest = later (p + 1) (record { within = omega arith; each = all_later history p ts none low w.each.1; rising = w.rising.1; once = λ i from below. sym (ap length (skip_other i t ts (omega arith))) ∙ w.once i (omega arith) below }) in
    ((answer, subst (λ (h : List DrawopValue). IsLegalFrom h (map (λ t. t.step) ts)) (sym longer.0) rest.0), ap (λ (h : List DrawopValue). end_of h (map (λ t. t.step) ts)) longer.0 ∙ rest.1)

runs : (history : List DrawopValue) (ts : List Answered) (p : ℕ) → Waits history p ts → Runs history p ts
runs history [] p w =
    let within = w.within in
    let not_below : p < length history → ⊥ = λ less. let zero_is_one = w.once p (omega arith) less in omega arith in
    let all : p ≡ length history = omega (arith, not_below) in
    (tt, ap (λ (n : ℕ). take n history) all ∙ take-length history)
runs history (t ∷ ts) p w = runs_step history p t ts (is_new t.step.answer) refl w (runs history ts)

pub one_run : OneRun
one_run history k answered within a =
    let r = runs history (in_order answered) k (record {
      within = within;
      each = in_order_each (IsAnsweredSince history k) answered (each_all (IsAnsweredSince history k) answered a.each);
      rising = in_order_rising answered;
      once = λ i from below. ap length (in_order_filter (is_new_at i) answered (keeps_new i answered)) ∙ a.once i from below;
    }) in
    record {
      legal = r.0;
      end = r.1;
      callers = λ caller. steps_filter caller (in_order answered) ∙ ap (map (λ t. t.step)) (in_order_filter (of_caller caller) answered (keeps_caller caller answered a.ordered)) ∙ sym (steps_filter caller answered);
    }
