-- If the timer that was backed off most was not backed off, none was, and it is that of the least name.
use Rattle.std.proofs.Common.{◌≡◌, suc, ◌≤◌, Bool, true, false, cond, List, [], ◌∷◌, ◌∙◌, Option, Some, None, ap, arith, length, map, refl, subst, sym}
use Rattle.std.specs.Prelude.{Contains, is_some, nat_lt}
use Rattle.std.specs.List.{fold}
use Rattle.std.specs.List.Sorted.{IsStrictlySortedBy}
use Rattle.std.specs.declared.cmp.Ordering.TheVariants.{Less}
use Rattle.std.proofs.lemmas.Bool.{ltb-true}
use Rattle.std.proofs.lemmas.List.{length-map}
use Rattle.std.proofs.lemmas.Map.Keys.{sorted_tail}
use Rattle.wb_names.specs.Orders.{name_cmp}
use Rattle.wb_names.specs.Values.{NameValue}
use Rattle.wb_names.proofs.Listings.{Contains-here, Contains-there, below_all}
use Rattle.wb_names.proofs.Orders.{name_total}
use Rattle.wb_recovery.specs.Events.{names_of, timers_of}
use Rattle.wb_recovery.specs.declared.timers.AskTimer.{AskTimer}
use Rattle.wb_recovery.specs.declared.timers.Timers.{Timers}
use Rattle.wb_recovery.proofs.NameLists.{listed_of}
use Rattle.wb_keeper.specs.GivingUp.{level as level_in}
use Rattle.wb_progress.specs.InTime.{AreApart}
use Rattle.wb_progress.proofs.NamesApart.{apart_of}
use Rattle.wb_member.specs.Judged.{asked_names, level}
use Rattle.wb_member.specs.Opened.{Opened, events}
use Rattle.wb_keeping.specs.Performing.{view_of}
use Rattle.wb_policy.specs.Wanting.{older, oldest}
use Rattle.wb_policy.specs.declared.wanting.AskedName.{AskedName}
use Rattle.wb_keeping.proofs.AskedTimers.{named}
use Rattle.wb_kept_progress.proofs.Asking.{from_names, level_told, oldest_is_one, oldest_most}
use Rattle.std.proofs.lemmas.Option.{same_Some, none-some}

-- the first is the oldest if none of those after it was backed off more
first_stays : (a : AskedName) (later : List AskedName) → ((b : AskedName) → Contains later b → b.level ≤ a.level) → fold older a later ≡ a
first_stays a [] few = refl
first_stays a (b ∷ later) few = ap (λ (x : AskedName). fold older x later) (stays (nat_lt a.level b.level) refl) ∙ first_stays a later (λ c there. few c (Contains-there b c later there)) where
  stays : (t : Bool) → nat_lt a.level b.level ≡ t → cond t b a ≡ a
  stays false e = refl
  stays true e = let lt = ltb-true a.level b.level e in let le = few b (Contains-here b later) in absurd (omega (arith, lt, le))

-- The timer of each other name that is asked for was not backed off either, and these names are greater.
pub record Others (host : Opened) (n : NameValue) : Type 0 where
  pub names : List NameValue
  pub apart : AreApart names
  pub new : (m : NameValue) → Contains names m → level host m ≡ Some 0
  pub greater : (m : NameValue) → Contains names m → name_cmp n m ≡ Less
  pub count : length (view_of host).asked ≡ suc (length names)

module _ (host : Opened) (n : NameValue) (new : level host n ≡ Some 0) where
  rising : IsStrictlySortedBy name_cmp (asked_names host)
  rising = (listed_of (λ (s : Timers). is_some s.ask) refl host.is.constants (events host)).rising

  others_of : (first : AskedName) (later : List AskedName) (a : AskedName) → (view_of host).asked ≡ first ∷ later → fold older first later ≡ a → a.name ≡ n → Others host n
  others_of first later a is oldest_is named_so =
      let told : (b : AskedName) → Contains (first ∷ later) b → level host b.name ≡ Some b.level = λ b c. level_told host b (subst (λ (asked : List AskedName). Contains asked b) (sym is) c) in
      let most : (b : AskedName) → Contains (first ∷ later) b → b.level ≤ a.level = λ b c. subst (λ (x : AskedName). b.level ≤ x.level) oldest_is (oldest_most first later b c) in
      let among : Contains (first ∷ later) a = subst (λ (x : AskedName). Contains (first ∷ later) x) oldest_is (oldest_is_one first later) in
      let zero_a : a.level ≡ 0 = same_Some a.level 0 (sym (told a among) ∙ ap (level host) named_so ∙ new) in
      let zero_of : (b : AskedName) → Contains (first ∷ later) b → b.level ≡ 0 = λ b c. let le = most b c in omega (arith, le, zero_a) in
      let same : fold older first later ≡ first = first_stays first later (λ b c. let e = zero_of b (Contains-there first b later c) in omega (arith, e)) in
      let first_name : first.name ≡ n = ap (λ (x : AskedName). x.name) (sym same ∙ oldest_is) ∙ named_so in
      let names : List NameValue = map (λ (x : AskedName). x.name) later in
      let all : asked_names host ≡ first.name ∷ names = sym (named (timers_of host.is.constants (events host)) (names_of (events host))) ∙ ap (map (λ (x : AskedName). x.name)) is in
      let rises : IsStrictlySortedBy name_cmp (first.name ∷ names) = subst (IsStrictlySortedBy name_cmp) all rising in
      record {
        names = names;
        apart = apart_of names (sorted_tail name_cmp first.name names rises);
        new = λ m c. let b = from_names later m c in subst (λ (x : NameValue). level host x ≡ Some 0) b.2 (told b.0 (Contains-there first b.0 later b.1) ∙ ap Some (zero_of b.0 (Contains-there first b.0 later b.1)));
        greater = λ m c. subst (λ (x : NameValue). name_cmp x m ≡ Less) first_name (below_all name_total first.name m names rises c);
        count = ap (λ (asked : List AskedName). length asked) is ∙ ap suc (sym (length-map later (λ (x : AskedName). x.name)));
      }

  -- where it is the oldest of those that are asked for
  pub others : (a : AskedName) → oldest (view_of host).asked ≡ Some a → a.name ≡ n → Others host n
  others a is named_so = from (view_of host).asked refl is where
    from : (asked : List AskedName) → (view_of host).asked ≡ asked → oldest asked ≡ Some a → Others host n
    from [] e o = absurd (none-some a o)
    from (first ∷ later) e o = others_of first later a e (same_Some (fold older first later) a o) named_so

-- ---- levels and timers

-- a timer that was not backed off
pub new_timer : (o : Option AskTimer) → level_in o ≡ Some 0 → (ask : AskTimer) × (o ≡ Some ask) × (ask.level ≡ 0)
new_timer None e = absurd (none-some 0 e)
new_timer (Some ask) e = (ask, refl, same_Some ask.level 0 e)

pub new_level : (o : Option AskTimer) (ask : AskTimer) → o ≡ Some ask → ask.level ≡ 0 → level_in o ≡ Some 0
new_level o ask is zero = ap level_in is ∙ ap Some zero
