-- Lines that are taken as the first of a group, join one, or come after it.
use Rattle.std.proofs.Common.{◌≡◌, ℕ, ◌+◌, ◌<◌, ◌≤◌, Bool, true, false, inl, inr, ◌⊎◌, List, [], ◌∷◌, ◌++◌, length, Option, Some, None, refl, sym, ap, subst, ◌∙◌, append_assoc, append-nil, arith, nat_lt, nat_le, ◌&&◌, ◌||◌, not, if◌then◌else◌}
use Rattle.std.proofs.lemmas.Bool.Decides.{nat_tests}
use Rattle.std.proofs.lemmas.Bool.{false_from_ne_true}
use Rattle.wb_lines.specs.declared.lines.Seen.{Seen}
use Rattle.wb_lines.specs.declared.lines.Seen.TheVariants as seens
use Rattle.wb_lines.specs.Ahead.{Ahead}
use Rattle.wb_lines.specs.Input.{InputLine, input_lines, standing, MayFollow, most_bytes}
use Rattle.wb_lines.specs.Handling.{whole, too_long}
use Rattle.wb_lines.specs.Taking.{is_short, is_passed}
use Rattle.wb_lines.specs.Items.{finished, unreadable, endless, Items, over, group, Grouping, Begun, begin, grown, and_line, LineEntry, short, long, none, entry, items_from}
use Rattle.wb_lines.specs.Moments.{LinesValue, IsRead, StartsLong, KnowsLines, MayCome, Rest, unread, with_one_taken, IsGroupEnd, Moment, Reads, grown_by, Gathers, IsJoining, IsLineSeen, TakesSeenLine, TakesJoined}
use Rattle.wb_lines.proofs.Moments.{Reads-then}
use Rattle.wb_lines.proofs.KnownBytes.{SendsOut-none}
use Rattle.wb_lines.proofs.LineBytes.{ReadsAhead-none}
use Rattle.wb_lines.proofs.InputLines.{input_lines-whole, input_lines-last, StartsLine, starts_line}

-- ---- a line that was read

-- It stands at the front, and is taken.
pub record Stands (line : InputLine) (reader : Ahead) (more : List ℕ) (cut : Bool) : Type 0 where
  pub split : input_lines ((standing line ++ reader.bytes) ++ more) ≡ line ∷ input_lines (reader.bytes ++ more)
  pub taken : (line.ended || not cut) ≡ true

pub stands : (line : InputLine) (reader : Ahead) (more : List ℕ) (cut : Bool) → IsRead line reader → MayFollow reader.ended more cut → Stands line reader more cut
stands line reader more cut is may = at line.bytes line.ended refl refl where
  at : (bytes : List ℕ) (ended : Bool) → line.bytes ≡ bytes → line.ended ≡ ended → Stands line reader more cut
  at bytes true e f = record {
    split = rw f (ap input_lines (ap (λ (t : List ℕ). t ++ more) (append_assoc line.bytes (10 ∷ []) reader.bytes) ∙ append_assoc line.bytes (10 ∷ reader.bytes) more)
        ∙ input_lines-whole line.bytes (reader.bytes ++ more) is.is_line.no_line_feed);
    taken = rw f refl;
  }
  at bytes false e f =
      let last = is.last f in
      let m = may last.2 in
      let none : reader.bytes ++ more ≡ [] = ap (λ (t : List ℕ). t ++ more) last.1 ∙ m.0 in
      let all : (standing line ++ reader.bytes) ++ more ≡ line.bytes = rw f (append_assoc (line.bytes ++ []) reader.bytes more ∙ ap (λ (t : List ℕ). (line.bytes ++ []) ++ t) none ∙ append-nil (line.bytes ++ []) ∙ append-nil line.bytes) in
      record {
        split = ap input_lines all ∙ input_lines-last line.bytes is.is_line.no_line_feed last.0 ∙ ap (λ (b : Bool). record { bytes = line.bytes; ended = b } ∷ []) (sym f) ∙ ap (λ (t : List ℕ). line ∷ input_lines t) (sym none);
        taken = rw (f, m.1) refl;
      }

entry_short : (most n : ℕ) (cut : Bool) (line : InputLine) → n < most → length line.bytes ≤ most_bytes → (line.ended || not cut) ≡ true → entry most cut n line ≡ short
entry_short most n cut line few fits taken =
    let below : nat_lt n most ≡ true = grind (arith, nat_tests) in
    let is : nat_le (length line.bytes) most_bytes ≡ true = grind (arith, nat_tests) in
    rw (below, is, taken) refl

-- what a line that is taken comes to
one_taken : (by : Grouping) (most n : ℕ) (cut : Bool) (g : Option Begun) (line : InputLine) (lines : List InputLine) → entry most cut n line ≡ short
    → items_from by most cut n g (line ∷ lines) ≡ and_line by n g line (λ next. items_from by most cut (n + 1) next lines)
one_taken by most n cut g line lines is = rw is refl

items_taken : {S : Type 0} (by : Grouping) (v : LinesValue S) (said : S) (g : Option Begun) (more : List ℕ) (cut : Bool) → v.seen ≡ seens.Line said → v.done < v.most → IsRead v.line v.reader → MayCome v more cut
    → items_from by v.most cut v.done g (input_lines (unread v ++ more)) ≡ and_line by v.done g v.line (λ next. items_from by v.most cut (v.done + 1) next (input_lines (v.reader.bytes ++ more)))
items_taken by v said g more cut seen few is may =
    let s = stands v.line v.reader more cut is (rw seen at may) in
    rw seen (ap (items_from by v.most cut v.done g) s.split ∙ one_taken by v.most v.done cut g v.line (input_lines (v.reader.bytes ++ more)) (entry_short v.most v.done cut v.line few is.is_line.short s.taken))

-- It is the first of a group.
pub first_taken : {S : Type 0} (by : Grouping) (v : LinesValue S) (said : S) (more : List ℕ) (cut : Bool) (is : Items) → v.seen ≡ seens.Line said → v.done < v.most → IsRead v.line v.reader → MayCome v more cut
    → Rest by (with_one_taken v) (Some (begin (v.done + 1) v.line)) more cut is → Rest by v None more cut is
first_taken by v said more cut is seen few read may rest = let e = items_taken by v said None more cut seen few read may in rw seen (rest ∙ sym (rw seen at e))

-- It joins one.
pub joined_taken : {S : Type 0} (by : Grouping) (v : LinesValue S) (said : S) (g : Begun) (more : List ℕ) (cut : Bool) (is : Items) → v.seen ≡ seens.Line said → v.done < v.most → IsRead v.line v.reader → by.gathers g.first ≡ true → by.joins v.line ≡ true
    → MayCome v more cut → Rest by (with_one_taken v) (Some (grown g v.line)) more cut is → Rest by v (Some g) more cut is
joined_taken by v said g more cut is seen few read gathers joins may rest =
    let e = items_taken by v said (Some g) more cut seen few read may in
    let here : is ≡ and_line by v.done (Some g) v.line (λ next. items_from by v.most cut (v.done + 1) next (input_lines (v.reader.bytes ++ more))) = rw (gathers, joins) rest in
    rw seen (here ∙ sym (rw seen at e))

-- ---- the end of a group

-- The first of some lines does not join it.
abbrev pub Parts : Grouping → Begun → List InputLine → Type 0
Parts by g [] = Unit {0}
Parts by g (line ∷ lines) = ((by.gathers g.first && by.joins line) ≡ false) ⊎ (is_short line ≡ false)

pub parted : (by : Grouping) (most n : ℕ) (cut : Bool) (g : Begun) (lines : List InputLine) → Parts by g lines → items_from by most cut n (Some g) lines ≡ group g.number (whole g.first) g.joined (items_from by most cut n None lines)
parted by most n cut g [] p = refl
parted by most n cut g (line ∷ lines) p = at (entry most cut n line) refl p where
  no_entry : (b passed : Bool) → (if b then long passed else none endless) ≡ short → ⊥
  no_entry true passed e = absurd cc
  no_entry false passed e = absurd cc

  at : (e : LineEntry) → entry most cut n line ≡ e → ((by.gathers g.first && by.joins line) ≡ false) ⊎ (is_short line ≡ false)
      → items_from by most cut n (Some g) (line ∷ lines) ≡ group g.number (whole g.first) g.joined (items_from by most cut n None (line ∷ lines))
  at short e (inl p) = rw (e, p) refl
  at short e (inr p) = absurd (no_entry (nat_lt n most) (is_passed line) (rw p at e))
  at (long passed) e p = rw e refl
  at (none end) e p = rw e refl

-- Whatever lines follow, a group that is begun comes before some items.
pub record Begins (g : Begun) (is : Items) : Type 0 where
  pub joined : List InputLine
  pub rest : Items
  pub same : is ≡ group g.number (whole g.first) joined rest

pub any_group : (by : Grouping) (most n : ℕ) (cut : Bool) (g : Begun) (lines : List InputLine) → Begins g (items_from by most cut n (Some g) lines)
any_group by most n cut g [] = record { joined = g.joined; rest = over (if cut then unreadable else finished n); same = refl }
any_group by most n cut g (line ∷ lines) = at (entry most cut n line) (by.gathers g.first && by.joins line) refl refl (any_group by most (n + 1) cut (grown g line) lines) where
  at : (e : LineEntry) (b : Bool) → entry most cut n line ≡ e → (by.gathers g.first && by.joins line) ≡ b → Begins (grown g line) (items_from by most cut (n + 1) (Some (grown g line)) lines)
      → Begins g (items_from by most cut n (Some g) (line ∷ lines))
  at short true e p on = rw (e, p) (record { joined = on.joined; rest = on.rest; same = on.same })
  at short false e p on = rw (e, p) (record { joined = g.joined; rest = items_from by most cut (n + 1) (Some (begin (n + 1) line)) lines; same = refl })
  at (long passed) b e p on = rw e (record { joined = g.joined; rest = group (n + 1) too_long [] (if passed then items_from by most cut (n + 1) None lines else over endless); same = refl })
  at (none end) b e p on = rw e (record { joined = g.joined; rest = over end; same = refl })

-- ---- a line that is too long

not_short : (line : InputLine) → most_bytes < length line.bytes → is_short line ≡ false
not_short line above = grind (arith, nat_tests)

pub starts : (front more : List ℕ) → StartsLong front → StartsLine front (input_lines (front ++ more))
starts [] more is = absurd (omega (arith, is.long))
starts (b ∷ front) more is = starts_line b front more is.no_line_feed

abbrev pub beyond : Grouping → ℕ → Bool → ℕ → InputLine → List InputLine → Items
beyond by most cut n line lines = if is_passed line then items_from by most cut (n + 1) None lines else over endless

pub long_taken : (by : Grouping) (most n : ℕ) (cut : Bool) (line : InputLine) (lines : List InputLine) → n < most → most_bytes < length line.bytes → items_from by most cut n None (line ∷ lines) ≡ group (n + 1) too_long [] (beyond by most cut n line lines)
long_taken by most n cut line lines few above =
    let below : nat_lt n most ≡ true = grind (arith, nat_tests) in
    rw (below, not_short line above) refl

-- Whatever follows, such a line is a group of its own.
pub record IsLong (n : ℕ) (is : Items) : Type 0 where
  pub rest : Items
  pub same : is ≡ group (n + 1) too_long [] rest

pub any_long : (by : Grouping) (most n : ℕ) (cut : Bool) (front more : List ℕ) → n < most → StartsLong front → IsLong n (items_from by most cut n None (input_lines (front ++ more)))
any_long by most n cut front more few is =
    let one = starts front more is in
    record { rest = beyond by most cut n one.first one.others; same = ap (items_from by most cut n None) one.is ∙ long_taken by most n cut one.first one.others few (omega (arith, one.long, is.long)) }

-- ---- a group is at its end

long_parts : (by : Grouping) (g : Begun) (front more : List ℕ) → StartsLong front → Parts by g (input_lines (front ++ more))
long_parts by g front more is =
    let one = starts front more is in
    subst (Parts by g) (sym one.is) (inr (not_short one.first (omega (arith, one.long, is.long))))

behind : (b c : Bool) → (b ≡ true → c ≡ false) → (b && c) ≡ false
behind true c h = h refl
behind false c h = refl

pub first_parts : (by : Grouping) (g : Begun) (lines : List InputLine) → by.gathers g.first ≡ false → Parts by g lines
first_parts by g [] e = tt
first_parts by g (line ∷ lines) e = inl (rw e refl)

pub group_end : {S : Type 0} (by : Grouping) (says : InputLine → S → Type 0) (v : LinesValue S) (g : Begun) (more : List ℕ) (cut : Bool) (is : Items) → KnowsLines says v → IsGroupEnd by g.first v → MayCome v more cut
    → Rest by v None more cut is → Rest by v (Some g) more cut (group g.number (whole g.first) g.joined is)
group_end {S = S} by says v g more cut is sound end may rest = at v.seen refl where
  parts : (s : Seen S) → v.seen ≡ s → Parts by g (input_lines (unread v ++ more)) → is ≡ items_from by v.most cut v.done None (input_lines (unread v ++ more))
      → group g.number (whole g.first) g.joined is ≡ items_from by v.most cut v.done (Some g) (input_lines (unread v ++ more))
  parts s e p same = ap (group g.number (whole g.first) g.joined) same ∙ sym (parted by v.most v.done cut g (input_lines (unread v ++ more)) p)

  at : (s : Seen S) → v.seen ≡ s → Rest by v (Some g) more cut (group g.number (whole g.first) g.joined is)
  at (seens.Line said) e =
      let found = rw e at sound in
      let s = stands v.line v.reader more cut found.1 (rw e at may) in
      let apart : (by.gathers g.first && by.joins v.line) ≡ false = behind (by.gathers g.first) (by.joins v.line) (λ h. rw e at end h) in
      let p : Parts by g (input_lines (unread v ++ more)) = rw e (subst (Parts by g) (sym s.split) (inl apart)) in
      let whole_is = parts v.seen refl p (rw e (rw e at rest)) in
      rw e (rw e at whole_is)
  at seens.TooLong e =
      let found = rw e at sound in
      let p : Parts by g (input_lines (unread v ++ more)) = rw e (subst (λ (t : List ℕ). Parts by g (input_lines t)) (sym (append_assoc v.line.bytes v.reader.bytes more)) (long_parts by g v.line.bytes (v.reader.bytes ++ more) found.1)) in
      let whole_is = parts v.seen refl p (rw e (rw e at rest)) in
      rw e (rw e at whole_is)
  at seens.Nothing e =
      let alone : by.gathers g.first ≡ false = false_from_ne_true (by.gathers g.first) (λ h. rw e at end h) in
      let p : Parts by g (input_lines (unread v ++ more)) = first_parts by g (input_lines (unread v ++ more)) alone in
      let whole_is = parts v.seen refl p (rw e (rw e at rest)) in
      rw e (rw e at whole_is)
  at seens.End e = rw e (ap (group g.number (whole g.first) g.joined) (rw e at rest))
  at seens.Failed e = rw e (ap (group g.number (whole g.first) g.joined) (rw e at rest))
  at seens.TooMany e = rw e (ap (group g.number (whole g.first) g.joined) (rw e at rest))
  at seens.Unwritten e = absurd (rw e at rest)
  at seens.Memory e = absurd (rw e at rest)

-- ---- the next line, where it joins

pub Reads-joined : {S : Type 0} {a b : Moment S} (by : Grouping) (said : S) → a.lines.seen ≡ seens.Line said → a.lines.done < a.lines.most → IsRead a.lines.line a.lines.reader → by.joins a.lines.line ≡ true
    → b ≡ record { lines = with_one_taken a.lines; output = a.output; left = a.left; failed = a.failed; taken = a.taken; stuck = a.stuck } → Reads by a b [] (a.lines.line ∷ [])
Reads-joined {a = a} {b = b} by said seen few read joins same = rw same (record {
  moves = record {
    given = [];
    pulls = ReadsAhead-none a.lines.reader a.left a.failed;
    sends = SendsOut-none a.taken a.output;
    most = refl;
    done = omega arith;
    true_still = λ t. record { failed = λ e. absurd cc; stuck = λ e. absurd cc };
    may = λ more cut may. rw seen may;
  };
  joins = joins_one;
}) where
  joins_one : (g : Option Begun) (more : List ℕ) (cut : Bool) (is : Items) → Gathers by g (a.lines.line ∷ []) → MayCome (with_one_taken a.lines) more cut → Rest by (with_one_taken a.lines) (grown_by g (a.lines.line ∷ [])) more cut is → Rest by a.lines g more cut is
  joins_one None more cut is gathers may rest = absurd gathers
  joins_one (Some g) more cut is gathers may rest = joined_taken by a.lines said g more cut is seen few read gathers joins (rw seen may) rest

pub line_seen : {S : Type 0} (by : Grouping) (line : InputLine) (seen : Seen S) → IsJoining by line seen true → IsLineSeen seen
line_seen by line (seens.Line said) h = tt
line_seen by line seen h = absurd cc

pub is_joining : {S : Type 0} (by : Grouping) (line : InputLine) (seen : Seen S) (said : S) → seen ≡ seens.Line said → IsJoining by line seen true → by.joins line ≡ true
is_joining by line seen said e h = sym (rw e at h)

-- The next line was looked at, and was taken.
pub takes_joined : {S : Type 0} {a b d : Moment S} (says : InputLine → S → Type 0) (by : Grouping) (result : Option S) → Reads by a b [] [] → IsJoining by b.lines.line b.lines.seen true → TakesSeenLine says b.lines d.lines result → b.lines.done ≡ a.lines.done
    → d ≡ record { lines = d.lines; output = b.output; left = b.left; failed = b.failed; taken = b.taken; stuck = b.stuck } → TakesJoined says by a d result
takes_joined {a = a} {b = b} {d = d} says by (Some said) reads joins t count same =
    let one : Reads by b d [] (b.lines.line ∷ []) = Reads-joined by said t.0 t.2 t.3 (is_joining by b.lines.line b.lines.seen said t.0 joins) (same ∙ ap (λ (v : LinesValue _). record { lines = v; output = b.output; left = b.left; failed = b.failed; taken = b.taken; stuck = b.stuck }) t.1) in
    (b.lines.line, t.4, is_joining by b.lines.line b.lines.seen said t.0 joins, rw t.1 (omega (arith, count)), Reads-then by a b d [] [] [] (b.lines.line ∷ []) reads one)
takes_joined {a = a} {b = b} {d = d} says by None reads joins t count same = absurd (t.0 (line_seen by b.lines.line b.lines.seen joins))
