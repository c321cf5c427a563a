-- The lines that are handed to the host at one place, and what it performs by them.
use Rattle.std.proofs.Common.{◌≡◌, ℕ, ◌+◌, ◌≤◌, Bool, true, false, cond, List, [], ◌∷◌, ◌++◌, ◌∙◌, Option, Some, None, ap, append-nil, append_assoc, arith, eq-eqb, eqb-true, length, length-append, refl, subst, sym, ⊎_elim}
use Rattle.std.specs.Prelude.{Contains, filter, is_some, nat_eq}
use Rattle.std.proofs.lemmas.List.Elements.{Contains-append_left, Contains-append_right, filter-append}
use Rattle.wb_names.specs.Values.{NameValue}
use Rattle.wb_names.proofs.Listings.{Contains-cases, Contains-here, Contains-none, Contains-there}
use Rattle.wb_progress.specs.InTime.{AreApart}
use Rattle.wb_member.specs.declared.calls.Call.TheVariants.{Ask}
use Rattle.wb_keeping.specs.Bounds.{ask_count, is_ask}
use Rattle.wb_keeping.specs.Kept.{Calls, Line}
use Rattle.wb_keeping.specs.Laws.{AreTaken, KeptLine, after_kept, doing_of, expand, fault_of}
use Rattle.wb_keeping.specs.Performing.{Keeping, after_doing, sees}
use Rattle.wb_kept_progress.specs.Sessions as sessions
use Rattle.wb_kept_progress.specs.Sessions.{Opening}
use Rattle.wb_kept_progress.specs.Timed.{At}
use Rattle.wb_kept_progress.specs.Whole.{there}
use Rattle.wb_kept_progress.proofs.Named.{count, count_more, filter_fewer, for_itself, is_for, names_by_all, one_if, sum_of}
use Rattle.wb_kept_progress.proofs.WholeParts.{does}

-- ---- lines that ask for a name

abbrev pub asked_in : Line → Option NameValue
asked_in (Calls (Ask name)) = Some name
asked_in line = None

pub one_ask : (line : Line) → one_if (is_some (asked_in line)) ≤ one_if (is_ask line)
one_ask (Calls (Ask name)) = omega arith
one_ask line = omega arith

has_one : (n : NameValue) (lines : List Line) → Contains lines (Calls (Ask n)) → 1 ≤ count asked_in n lines
has_one n [] c = absurd (Contains-none (Calls (Ask n)) c)
has_one n (line ∷ lines) c =
    let more = count_more asked_in n line lines in
    ⊎_elim
    (λ (is : line ≡ Calls (Ask n)).
    let here : one_if (is_for n (asked_in line)) ≡ 1 = ap (λ (l : Line). one_if (is_for n (asked_in l))) is ∙ ap one_if (for_itself n) in
    omega (arith, more, here))
    (λ (d : Contains lines (Calls (Ask n))). let rest = has_one n lines d in omega (arith, more, rest))
    (Contains-cases line (Calls (Ask n)) lines c)

one_each : (f : NameValue → ℕ) (names : List NameValue) → ((n : NameValue) → Contains names n → 1 ≤ f n) → length names ≤ sum_of f names
one_each f [] least = omega arith
one_each f (n ∷ names) least =
    let one = least n (Contains-here n names) in
    let rest = one_each f names (λ m c. least m (Contains-there n m names c)) in
    omega (arith, one, rest)

-- as many lines as names, if each is asked for
pub asks_at_least : (names : List NameValue) (lines : List Line) → AreApart names → ((n : NameValue) → Contains names n → Contains lines (Calls (Ask n))) → length names ≤ ask_count lines
asks_at_least names lines apart asked =
    let least = one_each (λ n. count asked_in n lines) names (λ n c. has_one n lines (asked n c)) in
    let most = names_by_all asked_in names apart lines in
    let few = filter_fewer (λ line. is_some (asked_in line)) is_ask one_ask lines in
    omega (arith, least, most, few)

pub asks_both : (one other : List Line) → ask_count (one ++ other) ≡ ask_count one + ask_count other
asks_both one other = ap (λ (ls : List Line). length ls) (filter-append is_ask one other) ∙ length-append (filter is_ask one) (filter is_ask other)

-- ---- kept lines, one after the other

pub expand_both : (one other : List KeptLine) (k : Keeping) → expand (one ++ other) k ≡ expand one k ++ expand other (after_kept one k)
expand_both [] other k = refl
expand_both (line ∷ one) other k =
    let next = after_doing (doing_of line) k in
    let lines = (doing_of line (sees k.host) k.policy).lines in
    ap (λ (ls : List Line). lines ++ ls) (expand_both one other next) ∙ sym (append_assoc lines (expand one next) (expand other (after_kept one next)))

pub taken_both : (one other : List KeptLine) (k : Keeping) → AreTaken one k → AreTaken other (after_kept one k) → AreTaken (one ++ other) k
taken_both [] other k a b = b
taken_both (line ∷ one) other k a b = (a.0, taken_both one other (after_doing (doing_of line) k) a.1 b)

kept_both : (one other : List KeptLine) (k : Keeping) → after_kept (one ++ other) k ≡ after_kept other (after_kept one k)
kept_both [] other k = refl
kept_both (line ∷ one) other k = kept_both one other (after_doing (doing_of line) k)

-- ---- one place

-- the lines of calls at a place, the oldest first
abbrev pub handed : ℕ → List (At KeptLine) → List KeptLine
handed i [] = []
handed i (e ∷ calls) = cond (nat_eq e.place i) (handed i calls ++ e.event ∷ []) (handed i calls)

handed_both : (i : ℕ) (one other : List (At KeptLine)) → handed i (one ++ other) ≡ handed i other ++ handed i one
handed_both i [] other = sym (append-nil (handed i other))
handed_both i (e ∷ one) other = by (nat_eq e.place i) (handed_both i one other) where
  by : (b : Bool) → handed i (one ++ other) ≡ handed i other ++ handed i one
      → cond b (handed i (one ++ other) ++ e.event ∷ []) (handed i (one ++ other)) ≡ handed i other ++ cond b (handed i one ++ e.event ∷ []) (handed i one)
  by true rest = ap (λ (ls : List KeptLine). ls ++ e.event ∷ []) rest ∙ append_assoc (handed i other) (handed i one) (e.event ∷ [])
  by false rest = rest

module _ (hosts : ℕ → Opening) (i : ℕ) where
  pub after_handed : (calls base : List (At KeptLine)) → after_kept (handed i calls) (there hosts base i) ≡ there hosts (calls ++ base) i
  after_handed [] base = refl
  after_handed (e ∷ calls) base = by (nat_eq e.place i) (after_handed calls base) where
    k : Keeping
    k = there hosts base i

    m : Keeping
    m = there hosts (calls ++ base) i

    by : (b : Bool) → after_kept (handed i calls) k ≡ m → after_kept (cond b (handed i calls ++ e.event ∷ []) (handed i calls)) k ≡ cond b (after_doing (doing_of e.event) m) m
    by true rest = kept_both (handed i calls) (e.event ∷ []) k ∙ ap (after_doing (doing_of e.event)) rest
    by false rest = rest

  pub taken_handed : (calls base : List (At KeptLine)) → sessions.AreTaken hosts (calls ++ base) → AreTaken (handed i calls) (there hosts base i)
  taken_handed [] base taken = tt
  taken_handed (e ∷ calls) base taken = by (nat_eq e.place i) refl (taken_handed calls base taken.1) where
    k : Keeping
    k = there hosts base i

    by : (b : Bool) → nat_eq e.place i ≡ b → AreTaken (handed i calls) k → AreTaken (cond b (handed i calls ++ e.event ∷ []) (handed i calls)) k
    by false other rest = rest
    by true same rest =
        let here : fault_of e.event (there hosts (calls ++ base) i) ≡ None = subst (λ (p : ℕ). fault_of e.event (there hosts (calls ++ base) p) ≡ None) (eqb-true e.place i same) taken.0 in
        taken_both (handed i calls) (e.event ∷ []) k rest (subst (λ (m : Keeping). fault_of e.event m ≡ None) (sym (after_handed calls base)) here, tt)

  abbrev pub performs_in : (calls base : List (At KeptLine)) → List Line
  performs_in calls base = expand (handed i calls) (there hosts base i)

  -- what the host performs in two parts, one after the other
  pub asked_both : (newer older base : List (At KeptLine)) → ask_count (performs_in (newer ++ older) base) ≡ ask_count (performs_in older base) + ask_count (performs_in newer (older ++ base))
  asked_both newer older base =
      let k = there hosts base i in
      ap (λ (ls : List KeptLine). ask_count (expand ls k)) (handed_both i newer older)
      ∙ ap ask_count (expand_both (handed i older) (handed i newer) k)
      ∙ asks_both (expand (handed i older) k) (expand (handed i newer) (after_kept (handed i older) k))
      ∙ ap (λ (m : Keeping). ask_count (expand (handed i older) k) + ask_count (expand (handed i newer) m)) (after_handed older base)

  -- a line of one of its calls is one of these
  pub stands_in : (front part base : List (At KeptLine)) (e : At KeptLine) (line : Line) → e.place ≡ i → Contains (does hosts e (part ++ base)) line → Contains (performs_in (front ++ e ∷ part) base) line
  stands_in [] part base e line here c =
      let k = there hosts base i in
      let m = after_kept (handed i part) k in
      let done : Contains (doing_of e.event (sees (there hosts (part ++ base) i).host) (there hosts (part ++ base) i).policy).lines line =
      subst (λ (p : ℕ). Contains (let l = there hosts (part ++ base) p in (doing_of e.event (sees l.host) l.policy).lines) line) here c in
      let then : Contains (doing_of e.event (sees m.host) m.policy).lines line = subst (λ (l : Keeping). Contains (doing_of e.event (sees l.host) l.policy).lines line) (sym (after_handed part base)) done in
      subst (λ (ls : List KeptLine). Contains (expand ls k) line) (sym (ap (λ (b : Bool). cond b (handed i part ++ e.event ∷ []) (handed i part)) (eq-eqb e.place i here)))
      (subst (λ (ls : List Line). Contains ls line) (sym (expand_both (handed i part) (e.event ∷ []) k))
      (Contains-append_right (expand (handed i part) k) (expand (e.event ∷ []) m) line
      (Contains-append_left (doing_of e.event (sees m.host) m.policy).lines [] line then)))
  stands_in (y ∷ front) part base e line here c = by (nat_eq y.place i) (stands_in front part base e line here c) where
    k : Keeping
    k = there hosts base i

    h : List KeptLine
    h = handed i (front ++ e ∷ part)

    by : (b : Bool) → Contains (expand h k) line → Contains (expand (cond b (h ++ y.event ∷ []) h) k) line
    by false rest = rest
    by true rest =
        subst (λ (ls : List Line). Contains ls line) (sym (expand_both h (y.event ∷ []) k))
        (Contains-append_left (expand h k) (expand (y.event ∷ []) (after_kept h k)) line rest)
