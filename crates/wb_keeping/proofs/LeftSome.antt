-- What is left of transitions in the middle of which an allocation failed.
use Rattle.std.proofs.Common.{◌≡◌, ℕ, zero, suc, ◌+◌, ◌<◌, Bool, true, false, List, [], ◌∷◌, ◌++◌, ap, drop, get_or, length, refl, subst, sym}
use Rattle.std.specs.Prelude.{Result, Ok, Err, OnErr, OnOk, take}
use Rattle.wb_names.specs.Values.{NameValue}
use Rattle.wb_codec.specs.declared.datagram.Datagram.{Datagram}
use Rattle.wb_member.specs.Holding.{IsOpenAt, MemberValue}
use Rattle.wb_member.specs.Opened.{Opened}
use Rattle.wb_keeping.specs.Kept.{Doing, Line, Transition, and_then, is_begun, is_unasked, leap, leaps_on, turn, turns_on, want, want_near, want_told}
use Rattle.wb_keeping.specs.Performing.{Begins, Does, DoesQuietly, IsKeptAt, Keeping, KeptValue, LeavesSome, after_doing, after_lines, sees, view_of}
use Rattle.wb_policy.specs.Policy.{Policy}
use Rattle.wb_keeping.specs.Views.{View}
use Rattle.wb_keeping.proofs.Performed.{after_both, begun_by, does_as, quiet_by, seen_then}
use Rattle.wb_keeping.proofs.Wanted.{leaps_end, leaps_go_on, turns_end, turns_go_on}
use Rattle.wb_keeping.proofs.OneByOne.{at_next, begun_first, ended_by, passed_by}

-- ---- the first of lines after lines

-- the first of the first lines are the first of all
first_lines : (n : ℕ) (one other : List Line) → (m : ℕ) × (take m (one ++ other) ≡ take n one)
first_lines zero one other = (0, refl)
first_lines (suc n) [] other = (0, refl)
first_lines (suc n) (line ∷ one) other = let rest = first_lines n one other in (suc rest.0, ap (λ (ls : List Line). line ∷ ls) rest.1)

-- and so are the first lines with the first of the others
later_lines : (n : ℕ) (one other : List Line) → (m : ℕ) × (take m (one ++ other) ≡ one ++ take n other)
later_lines n [] other = (n, refl)
later_lines n (line ∷ one) other = let rest = later_lines n one other in (suc rest.0, ap (λ (ls : List Line). line ∷ ls) rest.1)

-- ---- transitions

-- what a refused call leaves
pub on_err : {T E P : Type 0} (r : Result T E) → P → OnErr r P
on_err (Ok x) p = tt
on_err (Err e) p = p

-- nothing was performed
pub left_none : (does : Transition) {a b : KeptValue} → b.member ≡ a.member → LeavesSome does a b
left_none does stays = record { at = λ k at. (0, subst (λ (m : MemberValue). IsOpenAt m k.host) (sym stays) at.member) }

-- At one host: as many of the lines were performed.
abbrev pub LeftAt : Transition → Keeping → KeptValue → Type 0
LeftAt does k new = (some : ℕ) × IsOpenAt new.member (after_lines (take some (does (sees k.host) k.policy).lines) k.host)

-- It ended in the first of two.
pub left_first_at : (first second : Transition) (k : Keeping) (b : KeptValue) → LeftAt first k b → LeftAt (and_then first second) k b
left_first_at first second k b l =
    let one : Doing = first (sees k.host) k.policy in
    let two : Doing = second (λ lines. sees k.host (one.lines ++ lines)) one.policy in
    let some = first_lines l.0 one.lines two.lines in
    (some.0, subst (λ (ls : List Line). IsOpenAt b.member (after_lines ls k.host)) (sym some.1) l.1)

pub left_first : (first second : Transition) {a b : KeptValue} → LeavesSome first a b → LeavesSome (and_then first second) a b
left_first first second {a} {b} left = record { at = λ k at. left_first_at first second k b (left.at k at) }

-- It ended in the second, and the first was performed.
pub left_second_at : (first second : Transition) (k : Keeping) (c : KeptValue) → LeftAt second (after_doing first k) c → LeftAt (and_then first second) k c
left_second_at first second k c l =
    let one : Doing = first (sees k.host) k.policy in
    let two : Doing = second (λ lines. sees k.host (one.lines ++ lines)) one.policy in
    let middle : Keeping = after_doing first k in
    let same : second (sees middle.host) middle.policy ≡ two = sym (ap (λ (see : List Line → View). second see one.policy) (seen_then one.lines k.host)) in
    let some = later_lines l.0 one.lines two.lines in
    let these : List Line = take l.0 two.lines in
    let here : IsOpenAt c.member (after_lines these middle.host) =
    subst (λ (d : Doing). IsOpenAt c.member (after_lines (take l.0 d.lines) middle.host)) same l.1 in
    let both : IsOpenAt c.member (after_lines (one.lines ++ these) k.host) =
    subst (λ (h : Opened). IsOpenAt c.member h) (sym (after_both one.lines these k.host)) here in
    (some.0, subst (λ (ls : List Line). IsOpenAt c.member (after_lines ls k.host)) (sym some.1) both)

pub left_second : (first second : Transition) {a b c : KeptValue} {before after : List Datagram} → Does first a b before after
    → LeavesSome second b c → LeavesSome (and_then first second) a c
left_second first second {a} {b} {c} did left = record { at = λ k at. left_second_at first second k c (left.at (after_doing first k) (did.at k at).1) }

pub left_later : (first second : Transition) {a b c : KeptValue} → DoesQuietly first a b → LeavesSome second b c → LeavesSome (and_then first second) a c
left_later first second did left = left_second first second (did.sends []) left

-- The same lines, from another policy on.
pub left_by : (does other : Transition) {a b c : KeptValue}
    → ((k : Keeping) → IsKeptAt a k → (p : Policy) × (b.policy ≡ p) × (does (sees k.host) k.policy ≡ other (sees k.host) p))
    → b.member ≡ a.member → LeavesSome other b c → LeavesSome does a c
left_by does other {a} {b} {c} same stays left = record {
  at = λ k at.
      let s = same k at in
      let there : Keeping = record { host = k.host; policy = s.0 } in
      let l = left.at there (record { member = subst (λ (m : MemberValue). IsOpenAt m k.host) (sym stays) at.member; policy = s.1 }) in
      (l.0, subst (λ (d : Doing). IsOpenAt c.member (after_lines (take l.0 d.lines) k.host)) (sym s.2) l.1);
}

-- the same, from the same policy on
left_as_at : (does other : Transition) (k : Keeping) (b : KeptValue) → does (sees k.host) k.policy ≡ other (sees k.host) k.policy
    → LeftAt other k b → LeftAt does k b
left_as_at does other k b same l = (l.0, subst (λ (d : Doing). IsOpenAt b.member (after_lines (take l.0 d.lines) k.host)) (sym same) l.1)

pub left_as : (does other : Transition) {a b : KeptValue}
    → ((k : Keeping) → IsKeptAt a k → does (sees k.host) k.policy ≡ other (sees k.host) k.policy) → LeavesSome other a b → LeavesSome does a b
left_as does other {a} {b} same left = record { at = λ k at. left_as_at does other k b (same k at) (left.at k at) }

-- What is left of what stands inside is left of the whole.
pub left_of : {does : Transition} {v old new : KeptValue} → v ≡ old → LeavesSome does v new → LeavesSome does old new
left_of {does} {v} {old} {new} e left = subst (λ (v : KeptValue). LeavesSome does v new) e left

-- what a call answers that does the same
pub on_ok_as : (does other : Transition) {a : KeptValue} (b : KeptValue) (before after : List Datagram) {T E : Type 0} (r : Result T E) → ((k : Keeping) → IsKeptAt a k → does (sees k.host) k.policy ≡ other (sees k.host) k.policy)
    → OnOk r (Does other a b before after) → OnOk r (Does does a b before after)
on_ok_as does other b before after (Ok x) same it = does_as does other same it
on_ok_as does other b before after (Err e) same it = tt

pub on_err_as : (does other : Transition) {a : KeptValue} (b : KeptValue) {T E : Type 0} (r : Result T E) → ((k : Keeping) → IsKeptAt a k → does (sees k.host) k.policy ≡ other (sees k.host) k.policy)
    → OnErr r (LeavesSome other a b) → OnErr r (LeavesSome does a b)
on_err_as does other b (Ok x) same it = tt
on_err_as does other b (Err e) same it = left_as does other same it

-- ---- what comes of a transition that may begin to ask for a name

-- The same comes of both, from another policy on.
pub begins_by : (does other : Transition) {a b c : KeptValue} {E : Type 0}
    → ((k : Keeping) → IsKeptAt a k → (p : Policy) × (b.policy ≡ p) × (does (sees k.host) k.policy ≡ other (sees k.host) p)) → b.member ≡ a.member
    → (r : Result Bool E) → Begins other b c r → Begins does a c r
begins_by does other same stays (Ok x) it = record { begun = begun_by does other same stays it.begun; does = quiet_by does other same stays it.does; left = tt }
begins_by does other same stays (Err e) it = record { begun = tt; does = tt; left = left_by does other same stays it.left }

-- It is enough to know at each host what that wants.
pub begins_where : (does : Transition) {P : Type 0} {a b : KeptValue} {E : Type 0} → ((k : Keeping) → IsKeptAt a k → P) → (r : Result Bool E) → (P → Begins does a b r) → Begins does a b r
begins_where does holds (Ok x) it = record {
  begun = λ k at. (it (holds k at)).begun k at;
  does = record { sends = λ sent. record { at = λ k at. ((it (holds k at)).does.sends sent).at k at } };
  left = tt;
}
begins_where does holds (Err e) it = record { begun = tt; does = tt; left = record { at = λ k at. (it (holds k at)).left.at k at } }

-- ---- names that are wanted one by one

-- the next one was not wanted to its end
pub told_failed : (names : List NameValue) (i : ℕ) (d : NameValue) {a b : KeptValue} → i < length names
    → LeavesSome (want (get_or names i d) true) a b → LeavesSome (want_told (drop i names)) a b
told_failed names i d {a} {b} lt left = at_next (λ (ns : List NameValue). LeavesSome (want_told ns) a b) names i d lt (
    left_first (want (get_or names i d) true) (want_told (drop (i + 1) names)) left)

-- or a later one
pub told_later : (names : List NameValue) (i : ℕ) (d : NameValue) {a b c : KeptValue} → i < length names
    → DoesQuietly (want (get_or names i d) true) a b → LeavesSome (want_told (drop (i + 1) names)) b c
    → LeavesSome (want_told (drop i names)) a c
told_later names i d {a} {b} {c} lt one left = at_next (λ (ns : List NameValue). LeavesSome (want_told ns) a c) names i d lt (
    left_later (want (get_or names i d) true) (want_told (drop (i + 1) names)) one left)

-- A name that is not asked for has no lines of which some could be left.
near_failed_at : (n : NameValue) (ns : List NameValue) (k : Keeping) (b : KeptValue) → is_unasked (view_of k.host) n ≡ true
    → LeftAt (want n false) k b → LeftAt (want_near (n ∷ ns)) k b
near_failed_at n ns k b unknown left = by (is_begun (want n false (sees k.host) k.policy)) refl where
  by : (begun : Bool) → is_begun (want n false (sees k.host) k.policy) ≡ begun → LeftAt (want_near (n ∷ ns)) k b
  by true begun = left_as_at (want_near (n ∷ ns)) (and_then (want n false) (want_near ns)) k b
      (begun_first n ns (sees k.host) k.policy unknown begun)
      (left_first_at (want n false) (want_near ns) k b left)
  by false begun = left_as_at (want_near (n ∷ ns)) (want n false) k b (ended_by n ns (sees k.host) k.policy unknown begun) left

pub near_failed : (names : List NameValue) (i : ℕ) (d : NameValue) {a b : KeptValue} → i < length names
    → ((k : Keeping) → IsKeptAt a k → is_unasked (view_of k.host) (get_or names i d) ≡ true)
    → LeavesSome (want (get_or names i d) false) a b → LeavesSome (want_near (drop i names)) a b
near_failed names i d {a} {b} lt unknown left = at_next (λ (ns : List NameValue). LeavesSome (want_near ns) a b) names i d lt (
    record { at = λ k at. near_failed_at (get_or names i d) (drop (i + 1) names) k b (unknown k at) (left.at k at) })

pub near_passed_later : (names : List NameValue) (i : ℕ) (d : NameValue) {a c : KeptValue} → i < length names
    → ((k : Keeping) → IsKeptAt a k → is_unasked (view_of k.host) (get_or names i d) ≡ false)
    → LeavesSome (want_near (drop (i + 1) names)) a c → LeavesSome (want_near (drop i names)) a c
near_passed_later names i d {a} {c} lt known left = at_next (λ (ns : List NameValue). LeavesSome (want_near ns) a c) names i d lt (
    let n = get_or names i d in
    let ns = drop (i + 1) names in
    left_as (want_near (n ∷ ns)) (want_near ns) (λ k at. passed_by n ns (sees k.host) k.policy (known k at)) left)

pub near_begun_later : (names : List NameValue) (i : ℕ) (d : NameValue) {a b c : KeptValue} → i < length names
    → ((k : Keeping) → IsKeptAt a k → is_unasked (view_of k.host) (get_or names i d) ≡ true)
    → ((k : Keeping) → IsKeptAt a k → is_begun (want (get_or names i d) false (sees k.host) k.policy) ≡ true)
    → DoesQuietly (want (get_or names i d) false) a b → LeavesSome (want_near (drop (i + 1) names)) b c → LeavesSome (want_near (drop i names)) a c
near_begun_later names i d {a} {b} {c} lt unknown begun one left = at_next (λ (ns : List NameValue). LeavesSome (want_near ns) a c) names i d lt (
    let n = get_or names i d in
    let ns = drop (i + 1) names in
    left_as (want_near (n ∷ ns)) (and_then (want n false) (want_near ns))
    (λ k at. begun_first n ns (sees k.host) k.policy (unknown k at) (begun k at))
    (left_later (want n false) (want_near ns) one left))

-- ---- turns up to the first that asks

-- It ended in the first turn.
left_turn_at : (more : ℕ) (k : Keeping) (b : KeptValue) → LeftAt turn k b → LeftAt (turns_on (suc more)) k b
left_turn_at more k b left = by (is_begun (turn (sees k.host) k.policy)) refl where
  by : (begun : Bool) → is_begun (turn (sees k.host) k.policy) ≡ begun → LeftAt (turns_on (suc more)) k b
  by true begun = left_as_at (turns_on (suc more)) turn k b (turns_end more (sees k.host) k.policy begun) left
  by false begun = left_as_at (turns_on (suc more)) (and_then turn (turns_on more)) k b (turns_go_on more (sees k.host) k.policy begun) (left_first_at turn (turns_on more) k b left)

pub left_turn : (more most : ℕ) {a b : KeptValue} → most ≡ suc more → LeavesSome turn a b → LeavesSome (turns_on most) a b
left_turn more most {a} {b} is left = subst (λ (n : ℕ). LeavesSome (turns_on n) a b) (sym is) (record { at = λ k at. left_turn_at more k b (left.at k at) })

-- It ended in a later one.
pub left_turns : (more most : ℕ) {a b c : KeptValue} → most ≡ suc more → ((k : Keeping) → IsKeptAt a k → is_begun (turn (sees k.host) k.policy) ≡ false)
    → DoesQuietly turn a b → LeavesSome (turns_on more) b c → LeavesSome (turns_on most) a c
left_turns more most {a} {b} {c} is none did left = subst (λ (n : ℕ). LeavesSome (turns_on n) a c) (sym is) (
    left_as (turns_on (suc more)) (and_then turn (turns_on more)) (λ k at. turns_go_on more (sees k.host) k.policy (none k at)) (left_later turn (turns_on more) did left))

-- ---- leaps up to the first that asks

-- It ended in the first leap.
left_leap_at : (more : ℕ) (k : Keeping) (b : KeptValue) → LeftAt leap k b → LeftAt (leaps_on (suc more)) k b
left_leap_at more k b left = by (is_begun (leap (sees k.host) k.policy)) refl where
  by : (begun : Bool) → is_begun (leap (sees k.host) k.policy) ≡ begun → LeftAt (leaps_on (suc more)) k b
  by true begun = left_as_at (leaps_on (suc more)) leap k b (leaps_end more (sees k.host) k.policy begun) left
  by false begun = left_as_at (leaps_on (suc more)) (and_then leap (leaps_on more)) k b (leaps_go_on more (sees k.host) k.policy begun) (left_first_at leap (leaps_on more) k b left)

pub left_leap : (more most : ℕ) {a b : KeptValue} → most ≡ suc more → LeavesSome leap a b → LeavesSome (leaps_on most) a b
left_leap more most {a} {b} is left = subst (λ (n : ℕ). LeavesSome (leaps_on n) a b) (sym is) (record { at = λ k at. left_leap_at more k b (left.at k at) })

-- It ended in a later one.
pub left_leaps : (more most : ℕ) {a b c : KeptValue} → most ≡ suc more → ((k : Keeping) → IsKeptAt a k → is_begun (leap (sees k.host) k.policy) ≡ false)
    → DoesQuietly leap a b → LeavesSome (leaps_on more) b c → LeavesSome (leaps_on most) a c
left_leaps more most {a} {b} {c} is none did left = subst (λ (n : ℕ). LeavesSome (leaps_on n) a c) (sym is) (
    left_as (leaps_on (suc more)) (and_then leap (leaps_on more)) (λ k at. leaps_go_on more (sees k.host) k.policy (none k at)) (left_later leap (leaps_on more) did left))
