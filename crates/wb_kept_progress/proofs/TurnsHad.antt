-- How many names have their turn in a time: turns of a host by the clock are a second apart or more.
use Rattle.std.proofs.Common.{◌≡◌, ℕ, ◌+◌, ◌*◌, ◌<◌, ◌≤◌, Bool, true, false, cond, List, [], ◌∷◌, ◌++◌, ◌∙◌, Option, Some, None, ap, arith, eq-eqb, eqb-true, length, refl, subst, sym, true≢false, ⊎_elim}
use Rattle.std.specs.Prelude.{Contains, max, nat_eq, nat_le, unwrap_or}
use Rattle.std.proofs.lemmas.Bool.{leb-false, leb-true}
use Rattle.std.proofs.Math.Nat.{le_refl}
use Rattle.wb_names.specs.Values.{NameValue}
use Rattle.wb_names.proofs.Listings.{Contains-here, Contains-there}
use Rattle.wb_progress.specs.Turns.{IsNowAt, Terms}
use Rattle.wb_policy.specs.Fairness.{name_in_turn}
use Rattle.wb_keeping.specs.Laws.{KeptLine, doing_of}
use Rattle.wb_keeping.specs.Performing.{Keeping, after_doing}
use Rattle.wb_kept_progress.specs.Sessions.{Opening}
use Rattle.wb_kept_progress.specs.Timed.{At, SaysNow}
use Rattle.wb_kept_progress.proofs.Moments.{IsTuned, moment_of, told_itself, told_or_tuned}
use Rattle.wb_kept_progress.specs.Whole.{there}
use Rattle.wb_kept_progress.proofs.TurnsApart.{DrawsNothing, IsDueThen, call_due}
use Rattle.wb_kept_progress.proofs.WholeParts.{HasTurn}
use Rattle.wb_progress.proofs.Parts.{heads, tails, nil_ends}

-- a name that has its turn, and others
abbrev with_turn : Option NameValue → List NameValue → List NameValue
with_turn None names = names
with_turn (Some n) names = n ∷ names

turn_in : (o : Option NameValue) (names : List NameValue) (n : NameValue) → o ≡ Some n → Contains (with_turn o names) n
turn_in None names n e = absurd cc
turn_in (Some m) names n e = subst (λ (x : NameValue). Contains (m ∷ names) x) (ap (λ (o : Option NameValue). unwrap_or o n) e) (Contains-here m names)

others_in : (o : Option NameValue) (names : List NameValue) (n : NameValue) → Contains names n → Contains (with_turn o names) n
others_in None names n c = c
others_in (Some m) names n c = Contains-there m n names c

one_more : (o : Option NameValue) (names : List NameValue) → length (with_turn o names) ≤ length names + 1
one_more None names = omega arith
one_more (Some m) names = omega arith

-- ---- spaces of a second

some_space : (from now due next count : ℕ) → from ≤ now → due ≤ now → now + 1000000 ≤ next → from + count * 1000000 ≤ max from due → from + (count + 1) * 1000000 ≤ max from next
some_space from now due next count le soon later spaced = omega (arith, le, soon, later, spaced)

some_few : (from now due by count : ℕ) → from ≤ now → due ≤ now → now ≤ by → from + count * 1000000 ≤ max from due → from + (count + 1) * 1000000 ≤ by + 1000000
some_few from now due by count le soon in_time spaced = omega (arith, le, soon, in_time, spaced)

wider_space : (from due next count : ℕ) → due ≤ next → from + count * 1000000 ≤ max from due → from + count * 1000000 ≤ max from next
wider_space from due next count le spaced = omega (arith, le, spaced)

fewer : (from some all bound : ℕ) → some ≤ all → from + all * 1000000 ≤ bound → from + some * 1000000 ≤ bound
fewer from some all bound le is = omega (arith, le, is)

-- ---- the names that have their turn at a host in some calls

-- each call tells a moment of its time, and nothing is drawn
abbrev pub AreOrdinary : Terms → List (At KeptLine) → Type 0
AreOrdinary terms [] = Unit {0}
AreOrdinary terms (e ∷ part) = (SaysNow terms e.time e.place e.event × DrawsNothing e.event) × AreOrdinary terms part

module _ (hosts : ℕ → Opening) (terms : Terms) (i : ℕ) (base : List (At KeptLine)) (from by : ℕ) where
  abbrev at_i : List (At KeptLine) → Keeping
  at_i part = there hosts (part ++ base) i

  abbrev due_at : Keeping → ℕ
  due_at k = k.policy.pace.due

  -- the latest time at which the clock there tells a moment
  abbrev at_latest : ℕ → ℕ
  at_latest moment = moment + terms.lag i + terms.drift

  -- each name is among these that has its turn there from one time up to another
  abbrev AreAll : List NameValue → List (At KeptLine) → Type 0
  AreAll names part = (newer older : List (At KeptLine)) (e : At KeptLine) (n : NameValue) → part ≡ newer ++ e ∷ older → e.place ≡ i → from ≤ e.time → e.time ≤ by → (IsTuned e.event → ⊥) → HasTurn (at_i older) (moment_of e.event) n → Contains names n

  -- and they are spaced
  pub record Had (part : List (At KeptLine)) (k : Keeping) : Type 0 where
    pub names : List NameValue
    pub all : AreAll names part
    pub spaced : from + length names * 1000000 ≤ max from (at_latest (due_at k))
    pub few : from + length names * 1000000 ≤ by + terms.drift + 1000000

  -- one call more
  module _ (e : At KeptLine) (part : List (At KeptLine)) where
    -- the call itself
    abbrev IsIn : List NameValue → Type 0
    IsIn names = (n : NameValue) → e.place ≡ i → from ≤ e.time → e.time ≤ by → (IsTuned e.event → ⊥) → HasTurn (at_i part) (moment_of e.event) n → Contains names n

    all_more : (names more : List NameValue) → AreAll names part → ((n : NameValue) → Contains names n → Contains more n) → IsIn more → AreAll more (e ∷ part)
    all_more names more all among here [] older x n split place since soon untuned turn =
        let h = heads e x part older split in
        let t = tails e x part older split in
        here n (ap (λ (y : At KeptLine). y.place) h ∙ place)
        (subst (λ (y : At KeptLine). from ≤ y.time) (sym h) since)
        (subst (λ (y : At KeptLine). y.time ≤ by) (sym h) soon)
        (subst (λ (y : At KeptLine). IsTuned y.event → ⊥) (sym h) untuned)
        (subst (λ (l : List (At KeptLine)). HasTurn (at_i l) (moment_of e.event) n) (sym t) (subst (λ (y : At KeptLine). HasTurn (at_i older) (moment_of y.event) n) (sym h) turn))
    all_more names more all among here (y ∷ newer) older x n split place since soon untuned turn = among n (all newer older x n (tails e y part (newer ++ x ∷ older) split) place since soon untuned turn)

    same_names : (k next : Keeping) → (h : Had part k) → due_at k ≤ due_at next → IsIn h.names → Had (e ∷ part) next
    same_names k next h le here = record {
      names = h.names;
      all = all_more h.names h.names h.all (λ n c. c) here;
      spaced = wider_space from (at_latest (due_at k)) (at_latest (due_at next)) (length h.names) (omega (arith, le)) h.spaced;
      few = h.few;
    }

    -- where a turn is due
    module _ (now : ℕ) (at : IsNowAt terms e.time i now) (next : Keeping) (h : Had part (at_i part)) (due : due_at (at_i part) ≤ now) (later : now + 1000000 ≤ due_at next) where
      abbrev in_turn : Option NameValue
      in_turn = name_in_turn (at_i part).host.is.held (at_i part).policy.turns

      one_turn : from ≤ e.time → e.time ≤ by → Had (e ∷ part) next
      one_turn since soon =
          let ahead = at.not_ahead in
          let behind = at.not_behind in
          let since_then : from ≤ at_latest now = omega (arith, since, behind) in
          let soon_then : at_latest now ≤ by + terms.drift = omega (arith, soon, ahead) in
          let due_then : at_latest (due_at (at_i part)) ≤ at_latest now = omega (arith, due) in
          let next_then : at_latest now + 1000000 ≤ at_latest (due_at next) = omega (arith, later) in
          let more = one_more in_turn h.names in
          record {
            names = with_turn in_turn h.names;
            all = all_more h.names (with_turn in_turn h.names) h.all (others_in in_turn h.names) (λ n place since soon untuned turn. turn_in in_turn h.names n turn.named);
            spaced = fewer from (length (with_turn in_turn h.names)) (length h.names + 1) (max from (at_latest (due_at next))) more
                (some_space from (at_latest now) (at_latest (due_at (at_i part))) (at_latest (due_at next)) (length h.names) since_then due_then next_then h.spaced);
            few = fewer from (length (with_turn in_turn h.names)) (length h.names + 1) (by + terms.drift + 1000000) more
                (some_few from (at_latest now) (at_latest (due_at (at_i part))) (by + terms.drift) (length h.names) since_then due_then soon_then h.spaced);
          }

      out_of_time : (from ≤ e.time → e.time ≤ by → ⊥) → Had (e ∷ part) next
      out_of_time out = same_names (at_i part) next h (omega (arith, due, later)) (λ n place since soon untuned turn. absurd (out since soon))

      with_turn_due : Had (e ∷ part) next
      with_turn_due = in_time (nat_le from e.time) (nat_le e.time by) refl refl where
        in_time : (a b : Bool) → nat_le from e.time ≡ a → nat_le e.time by ≡ b → Had (e ∷ part) next
        in_time true true s t = one_turn (leb-true _ _ s) (leb-true _ _ t)
        in_time true false s t = let lt = leb-false _ _ t in out_of_time (λ since soon. omega (arith, lt, soon))
        in_time false b s t = let lt = leb-false _ _ s in out_of_time (λ since soon. omega (arith, lt, since))

    one_call : SaysNow terms e.time i e.event → DrawsNothing e.event → Had part (at_i part) → Had (e ∷ part) (after_doing (doing_of e.event) (at_i part))
    one_call told draws h = ⊎_elim
        (λ (t : IsTuned e.event). same_names k next h (le_same (due_at k) (due_at next) (tuned_due t)) (λ n place since soon untuned turn. absurd (untuned t)))
        (λ (at : IsNowAt terms e.time i now). ⊎_elim
        (λ (then : IsDueThen now (due_at k) (due_at next)). ⊎_elim
        (λ (not_yet : (now < due_at k) × (due_at next ≡ due_at k)). let lt = not_yet.0 in same_names k next h (le_same (due_at k) (due_at next) not_yet.1) (λ n place since soon untuned turn. let due = turn.due in absurd (omega (arith, lt, due))))
        (λ (turn : (due_at k ≤ now) × (now + 1000000 ≤ due_at next)). with_turn_due now at next h turn.0 turn.1)
        then)
        (λ (tuned : IsTuned e.event × (due_at next ≡ due_at k)). same_names k next h (le_same (due_at k) (due_at next) tuned.1) (λ n place since soon untuned turn. absurd (untuned tuned.0)))
        (call_due e.event now k (told_itself e.event) draws))
        (told_or_tuned terms e.time i e.event told) where
          now : ℕ
          now = moment_of e.event

          k : Keeping
          k = at_i part

          next : Keeping
          next = after_doing (doing_of e.event) (at_i part)

          tuned_due : IsTuned e.event → due_at next ≡ due_at k
          tuned_due t = ap (λ (line : KeptLine). due_at (after_doing (doing_of line) (at_i part))) t.1

          le_same : (a b : ℕ) → b ≡ a → a ≤ b
          le_same a b e = omega (arith, e)

  pub had : from ≤ by → (part : List (At KeptLine)) → AreOrdinary terms part → Had part (at_i part)
  had le [] ordinary = record { names = []; all = λ newer older e n split. absurd (nil_ends newer e older split); spaced = omega arith; few = omega (arith, le) }
  had le (e ∷ part) ordinary = by_place (nat_eq e.place i) refl (had le part ordinary.1) where
    by_place : (b : Bool) → nat_eq e.place i ≡ b → Had part (at_i part) → Had (e ∷ part) (cond b (after_doing (doing_of e.event) (at_i part)) (at_i part))
    by_place true same h = one_call e part (subst (λ (p : ℕ). SaysNow terms e.time p e.event) (eqb-true e.place i same) ordinary.0.0) ordinary.0.1 h
    by_place false other h = same_names e part (at_i part) (at_i part) h (le_refl (due_at (at_i part))) (λ n place. absurd (true≢false (sym (eq-eqb e.place i place) ∙ other)))
