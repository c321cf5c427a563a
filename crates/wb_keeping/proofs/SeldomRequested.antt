-- A name that is not asked for anew is seldom requested: each request doubles the wait for the next, and those behind the first 15 take longer
-- than ten minutes.
use Rattle.std.proofs.Common.{◌≡◌, ℕ, ◌+◌, ◌*◌, ◌^◌, ◌≤◌, Bool, true, false, List, [], ◌∷◌, ◌++◌, ◌∙◌, Option, Some, None, ap, arith, length-append, refl, subst, sym, ⊎_elim, zero, suc, ◌-◌}
use Rattle.std.specs.Prelude.{◌⊎◌, Contains, IfSome, filter, length, min, nat_lt}
use Rattle.std.proofs.Math.Nat.{le_refl, pow-le-pow_right}
use Rattle.std.proofs.lemmas.Bool.{ltb-false, ltb-true}
use Rattle.std.proofs.lemmas.Grind.{pow_more}
use Rattle.std.proofs.lemmas.List.Elements.{filter-append}
use Rattle.wb_names.specs.Values.{NameValue}
use Rattle.wb_names.proofs.Listings.{Contains-here, Contains-there}
use Rattle.wb_codec.specs.declared.datagram.Datagram.{Datagram}
use Rattle.wb_recovery.specs.declared.timers.AskTimer.{AskTimer}
use Rattle.wb_member.specs.Opened.{Opened, present}
use Rattle.wb_member.specs.declared.calls.Call.TheVariants.{Ask}
use Rattle.wb_keeping.specs.Bounds.{NamesAreSeldomRequested, new_keeping, request_count, requests}
use Rattle.wb_keeping.specs.Kept.{Calls, Line}
use Rattle.wb_keeping.specs.Performing.{after_line, after_lines, sent_by_line, sent_by_lines}
use Rattle.wb_keeping.proofs.AptLines.{apt_from_new, apt_parts, new_spaced}
use Rattle.wb_keeping.proofs.BackedOff.{Backs, Rests}
use Rattle.wb_keeping.proofs.SpacedLines.{AreApt, IsSpacedHost, Moves, ask_at, line_later, line_moves, line_spaced, lines_later, lines_spaced}

-- requests in what is sent, and then sent
count_both : (n : NameValue) (one other : List Datagram) → request_count n (one ++ other) ≡ request_count n one + request_count n other
count_both n one other =
    ap (λ (sent : List Datagram). length sent) (filter-append (requests n) one other)
    ∙ length-append (filter (requests n) one) (filter (requests n) other)

-- from the first of `times` requests to the last it is at least this long
abbrev passed : ℕ → ℕ
passed times = (2 ^ times - 2) * 10000

passed_more : (times : ℕ) → passed (times + 1) ≤ passed times + 2 ^ times * 10000
passed_more times = let twice = pow_more 2 times in by (2 ^ times) (2 ^ (times + 1)) twice where
  by : (p q : ℕ) → q ≡ p * 2 → (q - 2) * 10000 ≤ (p - 2) * 10000 + p * 10000
  by p q e = omega (arith, e)

module _ (n : NameValue) (begin end : ℕ) (short : end ≤ begin + 600000000) where
  -- it was requested so often: its level is no lower, and it is due once the wait for the next has passed
  abbrev IsAfter : ℕ → Option AskTimer → Type 0
  IsAfter times o = IfSome o (λ ask. (times ≤ ask.level) × (1 ≤ times → begin + passed (times + 1) ≤ ask.due))

  record Requested (times count now : ℕ) (new : Option AskTimer) : Type 0 where
    then : ℕ
    most : then ≤ 15
    more : count + times ≤ then
    late : begin + passed then ≤ now
    after : IsAfter then new

  rests_after : (times : ℕ) (old new : Option AskTimer) → IsAfter times old → Rests old new → IsAfter times new
  rests_after times old new is rests = ⊎_elim
      (λ (e : new ≡ old). subst (IsAfter times) (sym e) is)
      (λ (e : new ≡ None). subst (IsAfter times) (sym e) tt)
      rests

  -- it is backed off, to a level that is no lower than `times`
  backed_after : (times now : ℕ) (old new : Option AskTimer) (b : Backs now old new) → begin + passed times ≤ now → times ≤ min (b.x.level + 1) 16 → IsAfter times new
  backed_after times now old new b late le =
      let level = b.level in
      let high : times ≤ b.y.level = omega (arith, level, le) in
      let longer : 2 ^ times ≤ 2 ^ b.y.level = pow-le-pow_right (omega arith) high in
      let due = b.due in
      let more = passed_more times in
      subst (IsAfter times) (sym b.is) (high, λ (first : 1 ≤ times). omega (arith, late, longer, due, more))

  -- who is requested was due
  reached : (times now due : ℕ) → begin + passed times ≤ now → (1 ≤ times → begin + passed (times + 1) ≤ due) → due ≤ now → begin + passed (times + 1) ≤ now
  reached zero now due late was le = late
  reached (suc k) now due late was le = let at = was (omega arith) in omega (arith, at, le)

  -- the waits behind 15 requests are longer
  too_late : (times now : ℕ) → begin + passed (times + 1) ≤ now → now ≤ end → times ≡ 15 → ⊥
  too_late times now late within e =
      let long : begin + 655340000 ≤ now = subst (λ (k : ℕ). begin + passed (k + 1) ≤ now) e late in
      omega (arith, long, within, short)

  backs : (times now count : ℕ) (old new : Option AskTimer) (b : Backs now old new) → times ≤ 15 → begin + passed times ≤ now → now ≤ end → count ≤ 1
      → (count ≡ 0) ⊎ (b.x.due ≤ now) → (times ≤ b.x.level) × (1 ≤ times → begin + passed (times + 1) ≤ b.x.due) → Requested times count now new
  backs times now count old new b most late within few fired was =
      let le = was.0 in
      ⊎_elim
      (λ (none : count ≡ 0). record {
        then = times;
        most = most;
        more = omega (arith, none);
        late = late;
        after = backed_after times now old new b late (omega (arith, le, most));
      })
      (λ (due : b.x.due ≤ now).
      let later = reached times now b.x.due late was.1 due in
      let under : times ≤ 14 = by (nat_lt times 15) refl later in
      record {
        then = times + 1;
        most = omega (arith, under);
        more = omega (arith, few);
        late = later;
        after = backed_after (times + 1) now old new b later (omega (arith, le, under));
      })
      fired where
        by : (under : Bool) → nat_lt times 15 ≡ under → begin + passed (times + 1) ≤ now → times ≤ 14
        by true e later = let lt = ltb-true times 15 e in omega (arith, lt)
        by false e later = let ge = ltb-false times 15 e in absurd (too_late times now later within (omega (arith, ge, most)))

  moved : (times now count : ℕ) (line : Line) (old new : Option AskTimer) → times ≤ 15 → begin + passed times ≤ now → now ≤ end → IsAfter times old → (line ≡ Calls (Ask n) → ⊥)
      → Moves n line now count old new → Requested times count now new
  moved times now count line old new most late within is other moves = ⊎_elim
      (λ (r : Rests old new × (count ≡ 0)).
      let none = r.1 in
      record { then = times; most = most; more = omega (arith, none); late = late; after = rests_after times old new is r.0 })
      (λ (rest : ((b : Backs now old new) × (count ≤ 1) × ((count ≡ 0) ⊎ (b.x.due ≤ now))) ⊎ (line ≡ Calls (Ask n))). ⊎_elim
      (λ (b : (b : Backs now old new) × (count ≤ 1) × ((count ≡ 0) ⊎ (b.x.due ≤ now))).
      backs times now count old new b.0 most late within b.1 b.2 (subst (IsAfter times) b.0.was is))
      (λ (asks : line ≡ Calls (Ask n)). absurd (other asks))
      rest)
      moves

  -- the first of some lines is late enough
  abbrev IsLate : ℕ → List Line → Opened → Type 0
  IsLate times [] host = Unit {0}
  IsLate times (line ∷ lines) host = begin + passed times ≤ present (after_line line host)

  late_next : (times : ℕ) (lines : List Line) (host : Opened) → AreApt lines host → begin + passed times ≤ present host → IsLate times lines host
  late_next times [] host apt late = tt
  late_next times (line ∷ lines) host apt late = let later = line_later line host apt.0 in omega (arith, later, late)

  seldom : (lines : List Line) (host : Opened) (times : ℕ) → AreApt lines host → IsSpacedHost host → (Contains lines (Calls (Ask n)) → ⊥) → IsLate times lines host
      → present (after_lines lines host) ≤ end → times ≤ 15 → IsAfter times (ask_at n host) → request_count n (sent_by_lines lines host) + times ≤ 15
  seldom [] host times apt spaced none late within most is = omega (arith, most)
  seldom (line ∷ lines) host times apt spaced none late within most is =
      let next = after_line line host in
      let later = lines_later lines next apt.1 in
      let count = request_count n (sent_by_line line host) in
      let moves = line_moves n line host apt.0 spaced in
      let other = λ (e : line ≡ Calls (Ask n)). none (subst (λ (l : Line). Contains (line ∷ lines) l) e (Contains-here line lines)) in
      let one = moved times (present next) count line (ask_at n host) (ask_at n next) most late (omega (arith, later, within)) is other moves in
      let none_later = λ (c : Contains lines (Calls (Ask n))). none (Contains-there line (Calls (Ask n)) lines c) in
      let after = line_spaced line host apt.0 spaced in
      let rest = seldom lines next one.then apt.1 after none_later (late_next one.then lines next apt.1 one.late) within one.most one.after in
      let more = one.more in
      let both = count_both n (sent_by_line line host) (sent_by_lines lines next) in
      omega (arith, rest, more, both)

  never_before : (o : Option AskTimer) → IsAfter 0 o
  never_before None = tt
  never_before (Some ask) = (omega arith, λ e. absurd (omega (arith, e)))

pub names_are_seldom_requested : NamesAreSeldomRequested
names_are_seldom_requested constants number cells seed moments policy lines before first part later n within usual taken split none short =
    let start = new_keeping constants number cells seed moments policy in
    let host = after_lines before start.host in
    let begin = present (after_line first host) in
    let end = present (after_lines (first ∷ part) host) in
    let all = subst (λ (ls : List Line). AreApt ls start.host) split (apt_from_new constants number cells seed moments policy lines usual taken) in
    let rest = apt_parts before ((first ∷ part) ++ later) start.host all in
    let apt = (apt_parts (first ∷ part) later host rest.1).0 in
    let spaced = lines_spaced before start.host rest.0 (new_spaced constants number cells seed moments policy within) in
    let count = seldom n begin end short (first ∷ part) host 0 apt spaced none (at_first begin) (le_refl end) (omega arith) (never_before n begin end short (ask_at n host)) in
    omega (arith, count) where
      at_first : (m : ℕ) → m + passed 0 ≤ m
      at_first m = omega arith
