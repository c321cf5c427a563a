-- A keeper that learned the names of a batch in one order learned them in every order, and ascending.
use Rattle.std.proofs.Common.{◌≡◌, ℕ, Bool, true, false, cond, List, [], ◌∷◌, refl, ap, ◌∙◌, sym, subst, arith, true≢false, Contains, IsPermutation, filter}
use Rattle.std.specs.Prelude.{◌↔◌}
use Rattle.std.proofs.lemmas.List.Folds.{Any-from_list_any, list_any-from_Any}
use Rattle.std.proofs.lemmas.List.Sorted.{IsPermutation-map, IsPermutation-sym, Contains-permutation, length_permutation}
use Rattle.wb_names.specs.Values.{NameValue, DrawopValue}
use Rattle.wb_names.specs.Arrivals.{history_after}
use Rattle.wb_names.specs.Orders.{name_cmp, same_name}
use Rattle.wb_names.proofs.Listings.{Contains-here, Contains-none, Contains-filter, Contains-from_filter}
use Rattle.wb_names.proofs.Orders.{name_total, same_name-here, same_name-is}
use Rattle.wb_gaps.specs.Sorting.{sorted}
use Rattle.wb_gaps.proofs.Sorting.{Contains-from_sorted, Contains-sorted}
use Rattle.wb_recovery.proofs.NameOrder.{equal_is}
use Rattle.wb_recovery.proofs.StoppedNames.{constants_receipts}
use Rattle.wb_recovery.specs.Events.{Event, Got, moment_of}
use Rattle.wb_recovery.specs.Stopping.{receipts}
use Rattle.wb_recovery.specs.declared.tuning.Tuning.{Tuning}
use Rattle.wb_keeper.specs.Keeper.{KeeperCall, Arrive, holds, received_of, events_of, delay_to}
use Rattle.wb_keeper.specs.Keeping.{KeeperValue, StandsFor}
use Rattle.wb_keeper.proofs.FreeArrivals.{comes, timers_alike}
use Rattle.wb_member.specs.Holding.{MemberValue, IsOpenAt}
use Rattle.wb_member.specs.Members.{names_of}
use Rattle.wb_member.specs.Opened.{Opened, present, accepted}
use Rattle.wb_script.specs.Hosts.{host_after_batch, taken}
use Rattle.wb_script.proofs.Members.{Among, same_ascending}

-- ---- names

names_moved : (p : NameValue → Bool) (ds es : List DrawopValue) → IsPermutation ds es → Among (filter p (names_of ds)) (filter p (names_of es))
names_moved p ds es moved n c =
    let here = Contains-from_filter p (names_of ds) n c in
    Contains-filter p (names_of es) n (Contains-permutation (names_of ds) (names_of es) n (IsPermutation-map (λ (d : DrawopValue). d.name) ds es moved) here.0) here.1

-- so it learns the same names, whatever the order of a batch
pub told_alike : (p : NameValue → Bool) (ds es : List DrawopValue) → IsPermutation ds es → sorted name_cmp (filter p (names_of ds)) ≡ sorted name_cmp (filter p (names_of es))
told_alike p ds es moved = same_ascending name_total equal_is (filter p (names_of ds)) (filter p (names_of es)) (names_moved p ds es moved) (names_moved p es ds (IsPermutation-sym ds es moved))

-- ---- what a keeper holds

comes_here : (names : List NameValue) (n : NameValue) → Contains names n → comes names n ≡ true
comes_here names n c = list_any-from_Any (λ (m : NameValue). same_name m n) names (c.0, n, c.1, c.2, same_name-here n n refl)

comes_from : (names : List NameValue) (n : NameValue) → comes names n ≡ true → Contains names n
comes_from names n h = let a = Any-from_list_any (λ (m : NameValue). same_name m n) names h in subst (Contains names) (same_name-is a.1 n a.4) (a.0, a.2, a.3)

pub comes_alike : (names other : List NameValue) → Among names other → Among other names → (n : NameValue) → comes names n ≡ comes other n
comes_alike names other up down n = at (comes names n) (comes other n) refl refl where
  at : (a b : Bool) → comes names n ≡ a → comes other n ≡ b → a ≡ b
  at true false p q = absurd (true≢false (sym (comes_here other n (up n (comes_from names n p))) ∙ q))
  at false true p q = absurd (true≢false (sym (comes_here names n (down n (comes_from other n q))) ∙ p))
  at true true p q = refl
  at false false p q = refl

moment_then : (delays : ℕ → ℕ) (now delay : ℕ) (events : List Event) (n : NameValue) (names : List NameValue) → moment_of (receipts now (Got n now delay ∷ events) (received_of delays names)) ≡ now
moment_then delays now delay events n [] = refl
moment_then delays now delay events n (m ∷ names) = moment_then delays now (delays m.source) (Got n now delay ∷ events) m names

moment_alike : (delays : ℕ → ℕ) (now : ℕ) (events : List Event) (names other : List NameValue) → Among names other → Among other names
    → moment_of (receipts now events (received_of delays names)) ≡ moment_of (receipts now events (received_of delays other))
moment_alike delays now events [] [] up down = refl
moment_alike delays now events [] (m ∷ other) up down = absurd (Contains-none m (down m (Contains-here m other)))
moment_alike delays now events (n ∷ names) [] up down = absurd (Contains-none n (up n (Contains-here n names)))
moment_alike delays now events (n ∷ names) (m ∷ other) up down = moment_then delays now (delays n.source) events n names ∙ sym (moment_then delays now (delays m.source) events m other)

-- It is the same for names in another order, or more than once.
stands_alike : (me : ℕ) (t : Tuning) (calls : List KeeperCall) (value : KeeperValue) (now : ℕ) (names other : List NameValue) → Among names other → Among other names
    → StandsFor me t (Arrive now names ∷ calls) value → StandsFor me t (Arrive now other ∷ calls) value
stands_alike me t calls value now names other up down s = record {
  me_is = s.me_is;
  moment = s.moment;
  recovery = record {
    tuning = s.recovery.tuning ∙ constants_receipts t now (events_of me calls) (received_of (delay_to me calls) names)
        ∙ sym (constants_receipts t now (events_of me calls) (received_of (delay_to me calls) other));
    moment = s.recovery.moment ∙ moment_alike (delay_to me calls) now (events_of me calls) names other up down;
    timers = λ n. s.recovery.timers n ∙ timers_alike t (delay_to me calls) now (events_of me calls) names other (comes_alike names other up down) n;
    rising = s.recovery.rising;
  };
  delays = s.delays;
  heard = s.heard;
  senders = s.senders;
  marks = s.marks;
  merged = s.merged;
}

-- ---- a member that has taken a batch

-- the names that a batch tells: as the script has them, and ascending, as they were taken
abbrev SameNames : Opened → List DrawopValue → List DrawopValue → Type 0
SameNames host batch order =
    let p : NameValue → Bool = holds (history_after host.is.cells host.is.held order) in
    Among (filter p (names_of batch)) (sorted name_cmp (filter p (names_of order))) × Among (sorted name_cmp (filter p (names_of order))) (filter p (names_of batch))

pub names_told : (host : Opened) (batch order : List DrawopValue) → IsPermutation batch order → SameNames host batch order
names_told host batch order moved =
    let p : NameValue → Bool = holds (history_after host.is.cells host.is.held order) in (
      λ n c. Contains-sorted name_total (filter p (names_of order)) (λ m k _ _ tie. equal_is m k tie) n (names_moved p batch order moved n c),
      λ n c. names_moved p order batch (IsPermutation-sym batch order moved) n (Contains-from_sorted name_cmp (filter p (names_of order)) n c),
    )

-- once a batch was taken in this order, and the keeper learned these names
abbrev telling : Opened → List DrawopValue → List NameValue → Opened
telling host order names = record { is = record host.is { held = history_after host.is.cells host.is.held order; calls = Arrive (present host) names ∷ host.is.calls }; random = host.random }

told_others : (host : Opened) (order : List DrawopValue) (v : MemberValue) (names other : List NameValue) → Among names other → Among other names → IsOpenAt v (telling host order names) → IsOpenAt v (telling host order other)
told_others host order v names other up down at =
    record { board = at.board; keeper = stands_alike host.is.number host.is.constants host.is.calls v.keeper (present host) names other up down at.keeper; words = at.words }

pub opens_alike : (host : Opened) (order : List DrawopValue) (v : MemberValue) (names other : List NameValue) → Among names other → Among other names → IsOpenAt v (telling host order names) ↔ IsOpenAt v (telling host order other)
opens_alike host order v names other up down = (told_others host order v names other up down, told_others host order v other names down up)

-- that learned the names as they came
pub settles : (host : Opened) (batch order : List DrawopValue) (v : MemberValue) → IsPermutation batch order → IsOpenAt v (host_after_batch host batch order) → IsOpenAt v (taken order host)
settles host [] [] v moved at = record { board = at.board; keeper = at.keeper; words = at.words }
settles host [] (e ∷ es) v moved at = let long = length_permutation [] (e ∷ es) moved in absurd (omega (arith, long))
settles host (d ∷ ds) [] v moved at = let long = length_permutation (d ∷ ds) [] moved in absurd (omega (arith, long))
settles host (d ∷ ds) (e ∷ es) v moved at =
    let p : NameValue → Bool = holds (history_after host.is.cells host.is.held (e ∷ es)) in
    let names = names_told host (d ∷ ds) (e ∷ es) moved in
    told_others host (e ∷ es) v (filter p (names_of (d ∷ ds))) (sorted name_cmp (filter p (names_of (e ∷ es)))) names.0 names.1 at

-- It learns one that arrives alone as it came.
one_ascending : (b : Bool) (n : NameValue) → sorted name_cmp (cond b (n ∷ []) []) ≡ cond b (n ∷ []) []
one_ascending true n = refl
one_ascending false n = refl

pub taken_alone : (d : DrawopValue) (host : Opened) → taken (d ∷ []) host ≡ accepted d host
taken_alone d host =
    ap (λ (names : List NameValue). let h : Opened = record { is = record (accepted d host).is { calls = Arrive (present host) names ∷ host.is.calls }; random = host.random } in h)
    (one_ascending (holds (history_after host.is.cells host.is.held (d ∷ [])) d.name) d.name)
