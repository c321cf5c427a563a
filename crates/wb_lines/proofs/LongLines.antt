-- Lines that are too long are passed over.
use Rattle.std.proofs.Common.{◌≡◌, ℕ, ◌+◌, ◌-◌, ◌^◌, ◌<◌, ◌≤◌, Bool, true, false, List, [], ◌∷◌, ◌++◌, length, None, refl, sym, ap, ◌∙◌, append_assoc, arith, nat_lt, if◌then◌else◌, append-nil, length-append}
use Rattle.std.proofs.lemmas.Bool.{false≢true}
use Rattle.std.proofs.lemmas.Bool.Decides.{nat_tests}
use Rattle.wb_lines.specs.declared.lines.Seen.TheVariants as seens
use Rattle.wb_lines.specs.declared.line_reader.Found.{Found}
use Rattle.wb_lines.specs.declared.line_reader.Found.TheVariants as founds
use Rattle.wb_lines.specs.Ahead.{ReadsAhead, NoLineFeed, PassesOver}
use Rattle.wb_lines.specs.Output.{SendsOut}
use Rattle.wb_lines.specs.Input.{input_lines, most_bytes, MayFollow}
use Rattle.wb_lines.specs.Handling.{too_long}
use Rattle.wb_lines.specs.Taking.{most_passed}
use Rattle.wb_lines.specs.Items.{finished, unreadable, endless, Items, over, group, Grouping, items_from}
use Rattle.wb_lines.specs.Moments.{StartsLong, MayCome, Moment, Moves, PassesLine, found_over}
use Rattle.wb_lines.proofs.InputLines.{StartsLine, starts_line, input_lines-whole, input_lines-last, whole_line, last_line}
use Rattle.wb_lines.proofs.LineBytes.{NoLineFeed-append}
use Rattle.wb_lines.proofs.Looking.{ended_follows}
use Rattle.wb_lines.proofs.GroupedLines.{long_taken}

-- the line was read to its end
read_whole : (front rest bytes given more after : List ℕ) → bytes ++ given ≡ rest ++ 10 ∷ after → front ++ (bytes ++ (given ++ more)) ≡ (front ++ rest) ++ 10 ∷ (after ++ more)
read_whole front rest bytes given more after e =
    ap (λ (t : List ℕ). front ++ t) (sym (append_assoc bytes given more) ∙ ap (λ (t : List ℕ). t ++ more) e ∙ append_assoc rest (10 ∷ after) more) ∙ sym (append_assoc front rest (10 ∷ (after ++ more)))

long_all : (front rest : List ℕ) → StartsLong front → length (front ++ rest) ≡ most_bytes + 1 + length rest
long_all front rest is = omega (arith, is.long, length-append front rest)

passed : (front rest : List ℕ) → StartsLong front → length rest < 2 ^ 64 - 1 → nat_lt (length (front ++ rest)) most_passed ≡ true
passed front rest is short =
    let below : length (front ++ rest) < most_passed = omega (arith, long_all front rest is) in
    grind (arith, nat_tests)

too_far : (front : List ℕ) (n m : ℕ) → length front ≡ most_bytes + 1 → n ≡ 2 ^ 64 - 1 → length front + n ≤ m → nat_lt m most_passed ≡ false
too_far front n m long far le =
    let above : most_passed ≤ m = omega arith in
    grind (arith, nat_tests)

begins : (line more : List ℕ) → NoLineFeed line → 0 < length line → StartsLine line (input_lines (line ++ more))
begins [] more none some = absurd (omega arith)
begins (b ∷ line) more none some = starts_line b line more none

-- a line feed ended it
over_whole : (by : Grouping) (most n : ℕ) (cut : Bool) (front rest bytes given more after : List ℕ) → n < most → StartsLong front → NoLineFeed rest → length rest < 2 ^ 64 - 1 → bytes ++ given ≡ rest ++ 10 ∷ after
    → items_from by most cut n None (input_lines (front ++ (bytes ++ (given ++ more)))) ≡ group (n + 1) too_long [] (items_from by most cut (n + 1) None (input_lines (after ++ more)))
over_whole by most n cut front rest bytes given more after few is none short e =
    let line = front ++ rest in
    let split : input_lines (front ++ (bytes ++ (given ++ more))) ≡ whole_line line ∷ input_lines (after ++ more) = ap input_lines (read_whole front rest bytes given more after e) ∙ input_lines-whole line (after ++ more) (NoLineFeed-append front rest is.no_line_feed none) in
    ap (items_from by most cut n None) split ∙ long_taken by most n cut (whole_line line) (input_lines (after ++ more)) few (omega (arith, long_all front rest is))
    ∙ ap (λ (b : Bool). group (n + 1) too_long [] (if b then items_from by most cut (n + 1) None (input_lines (after ++ more)) else over endless)) (passed front rest is short)

-- it is the last, of which all was read
over_last : (by : Grouping) (most n : ℕ) (cut : Bool) (front rest bytes given more : List ℕ) → n < most → StartsLong front → NoLineFeed rest → length rest < 2 ^ 64 - 1 → bytes ++ given ≡ rest → more ≡ []
    → items_from by most cut n None (input_lines (front ++ (bytes ++ (given ++ more)))) ≡ group (n + 1) too_long [] (over (if cut then unreadable else finished (n + 1)))
over_last by most n cut front rest bytes given more few is none short e m =
    let line = front ++ rest in
    let some : line ≡ [] → ⊥ = λ h. absurd (omega (arith, ap length h, long_all front rest is)) in
    let all : front ++ (bytes ++ (given ++ more)) ≡ line = ap (λ (t : List ℕ). front ++ (bytes ++ (given ++ t))) m ∙ ap (λ (t : List ℕ). front ++ (bytes ++ t)) (append-nil given) ∙ ap (λ (t : List ℕ). front ++ t) e in
    let split : input_lines (front ++ (bytes ++ (given ++ more))) ≡ last_line line ∷ [] = ap input_lines all ∙ input_lines-last line (NoLineFeed-append front rest is.no_line_feed none) some in
    ap (items_from by most cut n None) split ∙ long_taken by most n cut (last_line line) [] few (omega (arith, long_all front rest is))
    ∙ ap (λ (b : Bool). group (n + 1) too_long [] (if b then over (if cut then unreadable else finished (n + 1)) else over endless)) (passed front rest is short)

-- it goes on too far
over_far : (by : Grouping) (most n : ℕ) (cut : Bool) (front rest bytes given more after : List ℕ) → n < most → StartsLong front → NoLineFeed rest → length rest ≡ 2 ^ 64 - 1 → bytes ++ given ≡ rest ++ after
    → items_from by most cut n None (input_lines (front ++ (bytes ++ (given ++ more)))) ≡ group (n + 1) too_long [] (over endless)
over_far by most n cut front rest bytes given more after few is none far e =
    let line = front ++ rest in
    let begun : StartsLine line (input_lines (line ++ (after ++ more))) = begins line (after ++ more) (NoLineFeed-append front rest is.no_line_feed none) (omega (arith, long_all front rest is)) in
    let all : front ++ (bytes ++ (given ++ more)) ≡ line ++ (after ++ more) =
    ap (λ (t : List ℕ). front ++ t) (sym (append_assoc bytes given more) ∙ ap (λ (t : List ℕ). t ++ more) e ∙ append_assoc rest after more) ∙ sym (append_assoc front rest (after ++ more)) in
    let too : nat_lt (length begun.first.bytes) most_passed ≡ false = too_far front (length rest) (length begun.first.bytes) is.long far (omega (arith, begun.long, length-append front rest)) in
    ap (items_from by most cut n None) (ap input_lines all ∙ begun.is) ∙ long_taken by most n cut begun.first begun.others few (omega (arith, begun.long, long_all front rest is))
    ∙ ap (λ (b : Bool). group (n + 1) too_long [] (if b then items_from by most cut (n + 1) None begun.others else over endless)) too

-- ---- from one moment to another

pub passes : {S : Type 0} {a b : Moment S} (by : Grouping) (given rest : List ℕ) (found : Found) → a.lines.seen ≡ seens.Nothing → a.lines.done ≤ a.lines.most → ReadsAhead a.lines.reader b.lines.reader a.left b.left a.failed b.failed given → SendsOut a.taken a.output b.taken b.output []
    → b.lines.most ≡ a.lines.most → b.lines.done ≡ a.lines.done → b.lines.seen ≡ found_over found → (found ≡ founds.Failed → b.failed ≡ true) → (found ≡ founds.Unwritten → b.stuck ≡ true) → PassesOver a.lines.reader b.lines.reader given b.failed rest found
    → (moves : Moves a b []) × PassesLine by a.lines b.lines moves.given
passes {S = S} {a = a} {b = b} by given rest found unseen few pulls sends most done seen failed stuck p = (moves, line found refl p) where
  may_at : (f : Found) → found ≡ f → PassesOver a.lines.reader b.lines.reader given b.failed rest f → (more : List ℕ) (cut : Bool) → MayCome b.lines more cut → MayFollow a.lines.reader.ended (given ++ more) cut
  may_at founds.Failed e p more cut may = λ ended. absurd (false≢true (sym p.3 ∙ pulls.end_stays ended))
  may_at founds.Whole e p more cut may = ended_follows a.lines.reader b.lines.reader a.left b.left a.failed b.failed given more cut pulls (rw (seen, e) at may)
  may_at founds.Last e p more cut may = ended_follows a.lines.reader b.lines.reader a.left b.left a.failed b.failed given more cut pulls (rw (seen, e) at may)
  may_at founds.End e p more cut may = absurd p
  may_at founds.TooLong e p more cut may = ended_follows a.lines.reader b.lines.reader a.left b.left a.failed b.failed given more cut pulls (rw (seen, e) at may)
  may_at founds.Unwritten e p more cut may = ended_follows a.lines.reader b.lines.reader a.left b.left a.failed b.failed given more cut pulls (rw (seen, e) at may)

  found_failed : (f : Found) → found ≡ f → found_over {S = S} f ≡ seens.Failed → b.failed ≡ true
  found_failed founds.Failed e h = failed e
  found_failed f e h = absurd cc

  found_stuck : (f : Found) → found ≡ f → found_over {S = S} f ≡ seens.Unwritten → b.stuck ≡ true
  found_stuck founds.Unwritten e h = stuck e
  found_stuck f e h = absurd cc

  moves : Moves a b []
  moves = record {
    given = given;
    pulls = pulls;
    sends = sends;
    most = most;
    done = omega (arith, done);
    true_still = λ t. record { failed = λ h. found_failed found refl (sym seen ∙ h); stuck = λ h. found_stuck found refl (sym seen ∙ h) };
    may = λ more cut may. rw unseen (may_at found refl p more cut may);
  }

  counted : (n : ℕ) (cut : Bool) (x : Items) (more : List ℕ) → a.lines.done ≡ n + 1 → x ≡ items_from by b.lines.most cut b.lines.done None (input_lines (b.lines.reader.bytes ++ more)) → x ≡ items_from by a.lines.most cut (n + 1) None (input_lines (b.lines.reader.bytes ++ more))
  counted n cut x more count r = rw (most, done, count) at r

  ended_rest : (n : ℕ) (cut : Bool) (x : Items) (more : List ℕ) → more ≡ [] → b.lines.reader.bytes ≡ [] → a.lines.done ≡ n + 1 → x ≡ items_from by b.lines.most cut b.lines.done None (input_lines (b.lines.reader.bytes ++ more)) → x ≡ over (if cut then unreadable else finished (n + 1))
  ended_rest n cut x more m none count r = r ∙ rw (none, m, done, count) refl

  line : (f : Found) → found ≡ f → PassesOver a.lines.reader b.lines.reader given b.failed rest f → PassesLine by a.lines b.lines given
  line founds.Whole e p = λ n count is more cut x may r.
      over_whole by a.lines.most n cut a.lines.line.bytes rest a.lines.reader.bytes given more b.lines.reader.bytes (omega (arith, count, few)) is p.0 p.1 p.2
      ∙ ap (group (n + 1) too_long []) (sym (counted n cut x more count (rw (seen, e) at r)))
  line founds.Last e p = λ n count is more cut x may r.
      let m = (rw (seen, e) at may) p.4 in
      over_last by a.lines.most n cut a.lines.line.bytes rest a.lines.reader.bytes given more (omega (arith, count, few)) is p.0 p.1 p.2 m.0
      ∙ ap (group (n + 1) too_long []) (sym (ended_rest n cut x more m.0 p.3 count (rw (seen, e) at r)))
  line founds.End e p = absurd p
  line founds.Failed e p = λ n count is more cut x may r.
      let m = rw (seen, e) at may in
      over_last by a.lines.most n cut a.lines.line.bytes rest a.lines.reader.bytes given more (omega (arith, count, few)) is p.0 p.1 p.2 m.0
      ∙ ap (group (n + 1) too_long []) (ap (λ (c : Bool). over (if c then unreadable else finished (n + 1))) m.1 ∙ sym (rw (seen, e) at r))
  line founds.TooLong e p = λ n count is more cut x may r.
      over_far by a.lines.most n cut a.lines.line.bytes rest a.lines.reader.bytes given more b.lines.reader.bytes (omega (arith, count, few)) is p.0 p.1 p.2
      ∙ ap (group (n + 1) too_long []) (sym (rw (seen, e) at r))
  line founds.Unwritten e p = λ n count is more cut x may r. absurd (rw (seen, e) at r)
