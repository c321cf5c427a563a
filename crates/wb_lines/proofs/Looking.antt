-- What comes after the lines that were taken is looked at: the items that follow stay the same.
use Rattle.std.proofs.Common.{◌≡◌, ℕ, ◌<◌, Bool, true, false, inl, inr, ◌⊎◌, List, [], ◌∷◌, ◌++◌, length, Option, refl, sym, ap, subst, ◌∙◌, append_assoc, append-nil, arith, nat_eq, nat_lt, nat_le, if◌then◌else◌}
use Rattle.std.proofs.lemmas.Bool.{false≢true}
use Rattle.std.proofs.lemmas.Bool.Decides.{nat_tests}
use Rattle.wb_lines.specs.declared.lines.Seen.{Seen}
use Rattle.wb_lines.specs.declared.lines.Seen.TheVariants as seens
use Rattle.wb_lines.specs.Ahead.{Ahead, ReadsAhead, IsLine}
use Rattle.wb_lines.specs.Output.{SendsOut}
use Rattle.wb_lines.specs.Input.{InputLine, input_lines, standing, MayFollow, most_bytes}
use Rattle.wb_lines.specs.Items.{finished, unreadable, endless, Items, over, Grouping, Begun, closed_group, items_from}
use Rattle.wb_lines.specs.Moments.{LinesValue, Moment, MayCome, Rest, unread, FailuresHappened, Reads, IsLineOrMemory}
use Rattle.wb_lines.proofs.InputLines.{input_lines-last, last_line, has_line}
use Rattle.wb_lines.proofs.Moments.{grown-none}

-- What follows a look is what followed before it.
pub record Shows {S : Type 0} (by : Grouping) (old new : LinesValue S) (given : List ℕ) : Type 0 where
  pub may : (more : List ℕ) (cut : Bool) → MayCome new more cut → MayFollow old.reader.ended (given ++ more) cut
  pub rest : (g : Option Begun) (more : List ℕ) (cut : Bool) (is : Items) → MayCome new more cut → Rest by new g more cut is
      → is ≡ items_from by old.most cut old.done g (input_lines (old.reader.bytes ++ (given ++ more)))

pub found : {S : Type 0} (by : Grouping) (a b : Moment S) (given : List ℕ) → a.lines.seen ≡ seens.Nothing → ReadsAhead a.lines.reader b.lines.reader a.left b.left a.failed b.failed given → SendsOut a.taken a.output b.taken b.output []
    → b.lines.most ≡ a.lines.most → b.lines.done ≡ a.lines.done → FailuresHappened b → Shows by a.lines b.lines given → Reads by a b [] []
found by a b given unseen pulls sends most done is s = record {
  moves = record {
    given = given;
    pulls = pulls;
    sends = sends;
    most = most;
    done = omega (arith, done);
    true_still = λ t. is;
    may = λ more cut may. rw unseen (s.may more cut may);
  };
  joins = λ g more cut is gathers may rest. rw unseen (s.rest g more cut is may (subst (λ (h : Option Begun). Rest by b.lines h more cut is) (grown-none g) rest));
}

pub ended_follows : (old new : Ahead) (left left' : Option (List ℕ)) (failed failed' : Bool) (given more : List ℕ) (cut : Bool) → ReadsAhead old new left left' failed failed' given → MayFollow new.ended more cut → MayFollow old.ended (given ++ more) cut
ended_follows old new left left' failed failed' given more cut pulls may = λ e. let m = may (pulls.end_stays e) in (ap (λ (t : List ℕ). t ++ more) (pulls.none_after_end e) ∙ m.0, m.1)

-- the line that was found is ahead still
pub shows_held : {S : Type 0} (by : Grouping) (old new : LinesValue S) (left left' : Option (List ℕ)) (failed failed' : Bool) (given : List ℕ) → ReadsAhead old.reader new.reader left left' failed failed' given
    → ((more : List ℕ) (cut : Bool) → MayCome new more cut → MayFollow new.reader.ended more cut)
    → ((g : Option Begun) (more : List ℕ) (cut : Bool) (is : Items) → Rest by new g more cut is → is ≡ items_from by new.most cut new.done g (input_lines (unread new ++ more)))
    → new.most ≡ old.most → new.done ≡ old.done → old.reader.bytes ++ given ≡ unread new → Shows by old new given
shows_held by old new left left' failed failed' given pulls plain items most done e = record {
  may = λ more cut may. ended_follows old.reader new.reader left left' failed failed' given more cut pulls (plain more cut may);
  rest = λ g more cut is may rest.
      items g more cut is rest ∙ rw (most, done) (ap (λ (t : List ℕ). items_from by old.most cut old.done g (input_lines t)) (ap (λ (t : List ℕ). t ++ more) (sym e) ∙ append_assoc old.reader.bytes given more));
}

all_nil : (xs ys : List ℕ) (more : List ℕ) → xs ++ ys ≡ [] → more ≡ [] → xs ++ (ys ++ more) ≡ []
all_nil xs ys more e none = sym (append_assoc xs ys more) ∙ ap (λ (t : List ℕ). t ++ more) e ∙ none

items_over : (by : Grouping) (most n : ℕ) (cut : Bool) (g : Option Begun) (bytes : List ℕ) → bytes ≡ [] → items_from by most cut n g (input_lines bytes) ≡ closed_group g (over (if cut then unreadable else finished n))
items_over by most n cut g bytes e = rw e refl

-- the end
pub shows_end : {S : Type 0} (by : Grouping) (old new : LinesValue S) (left left' : Option (List ℕ)) (failed failed' : Bool) (given : List ℕ) → ReadsAhead old.reader new.reader left left' failed failed' given
    → new.seen ≡ seens.End → new.done ≡ old.done → old.reader.bytes ++ given ≡ [] → new.reader.ended ≡ true → Shows by old new given
shows_end by old new left left' failed failed' given pulls seen done e ended = record {
  may = λ more cut may. ended_follows old.reader new.reader left left' failed failed' given more cut pulls (rw seen at may);
  rest = λ g more cut is may rest.
      let none : MayFollow new.reader.ended more cut = rw seen at may in
      let is_over : is ≡ closed_group g (over (finished new.done)) = rw seen at rest in
      let m = none ended in
      let items = items_over by old.most old.done cut g (old.reader.bytes ++ (given ++ more)) (all_nil old.reader.bytes given more e m.0) in
      is_over ∙ rw done (sym (items ∙ ap (λ (c : Bool). closed_group g (over (if c then unreadable else finished old.done))) m.1));
}

cut_off : (by : Grouping) (most n : ℕ) (g : Option Begun) (line : List ℕ) → (n < most) ⊎ (line ≡ []) → IsLine line → items_from by most true n g (input_lines line) ≡ closed_group g (over unreadable)
cut_off by most n g [] few is = refl
cut_off by most n g (b ∷ line) (inr e) is = absurd cc
cut_off by most n g (b ∷ line) (inl few) is =
    let split : input_lines (b ∷ line) ≡ last_line (b ∷ line) ∷ [] = input_lines-last (b ∷ line) is.no_line_feed (λ e. cc) in
    let below : nat_lt n most ≡ true = grind (arith, nat_tests) in
    let fits : nat_le (length (b ∷ line)) most_bytes ≡ true = grind (arith, nat_tests, is.short) in
    rw (split, below, fits) refl

-- reading failed in a line, which may be empty
pub shows_failed : {S : Type 0} (by : Grouping) (old new : LinesValue S) (left left' : Option (List ℕ)) (failed failed' : Bool) (given line : List ℕ) → ReadsAhead old.reader new.reader left left' failed failed' given
    → new.seen ≡ seens.Failed → (old.done < old.most) ⊎ (line ≡ []) → IsLine line → old.reader.bytes ++ given ≡ line → new.reader.ended ≡ false → Shows by old new given
shows_failed by old new left left' failed failed' given line pulls seen few is e going = record {
  may = λ more cut may ended. absurd (false≢true (sym going ∙ pulls.end_stays ended));
  rest = λ g more cut is' may rest.
      let m : (more ≡ []) × (cut ≡ true) = rw seen at may in
      let is_over : is' ≡ closed_group g (over unreadable) = rw seen at rest in
      let all : old.reader.bytes ++ (given ++ more) ≡ line = ap (λ (t : List ℕ). old.reader.bytes ++ (given ++ t)) m.0 ∙ ap (λ (t : List ℕ). old.reader.bytes ++ t) (append-nil given) ∙ e in
      is_over ∙ rw (m.1, all) (sym (cut_off by old.most old.done g line few is));
}

-- one line too many
pub shows_many : {S : Type 0} (by : Grouping) (old new : LinesValue S) (left left' : Option (List ℕ)) (failed failed' : Bool) (given : List ℕ) (b : ℕ) → ReadsAhead old.reader new.reader left left' failed failed' given
    → new.seen ≡ seens.TooMany → old.done ≡ old.most → old.reader.bytes ++ given ≡ b ∷ new.reader.bytes → Shows by old new given
shows_many by old new left left' failed failed' given b pulls seen last e = record {
  may = λ more cut may. ended_follows old.reader new.reader left left' failed failed' given more cut pulls (rw seen at may);
  rest = λ g more cut is may rest.
      let is_over : is ≡ closed_group g (over endless) = rw seen at rest in
      let all : old.reader.bytes ++ (given ++ more) ≡ b ∷ (new.reader.bytes ++ more) = sym (append_assoc old.reader.bytes given more) ∙ ap (λ (t : List ℕ). t ++ more) e in
      let one = has_line (nat_eq b 10) (record { bytes = []; ended = true }) b (input_lines (new.reader.bytes ++ more)) (input_lines (new.reader.bytes ++ more)) in
      let split : input_lines (old.reader.bytes ++ (given ++ more)) ≡ one.first ∷ one.others = ap input_lines all ∙ one.is in
      let past : nat_lt old.done old.most ≡ false = grind (arith, nat_tests, last) in
      is_over ∙ rw (split, past) refl;
}

-- nothing is known of what follows
pub shows_nothing : {S : Type 0} (by : Grouping) (old new : LinesValue S) (left left' : Option (List ℕ)) (failed failed' : Bool) (given : List ℕ) → ReadsAhead old.reader new.reader left left' failed failed' given
    → (new.seen ≡ seens.Unwritten) ⊎ (new.seen ≡ seens.Memory) → Shows by old new given
shows_nothing by old new left left' failed failed' given pulls (inl seen) = record {
  may = λ more cut may. ended_follows old.reader new.reader left left' failed failed' given more cut pulls (rw seen at may);
  rest = λ g more cut is may rest. absurd (rw seen at rest);
}
shows_nothing by old new left left' failed failed' given pulls (inr seen) = record {
  may = λ more cut may. ended_follows old.reader new.reader left left' failed failed' given more cut pulls (rw seen at may);
  rest = λ g more cut is may rest. absurd (rw seen at rest);
}

-- ---- what a look found

pub found_line : {S : Type 0} {a b : Moment S} (by : Grouping) (says : InputLine → S → Type 0) (given : List ℕ) → a.lines.seen ≡ seens.Nothing → ReadsAhead a.lines.reader b.lines.reader a.left b.left a.failed b.failed given → SendsOut a.taken a.output b.taken b.output []
    → b.lines.most ≡ a.lines.most → b.lines.done ≡ a.lines.done → IsLineOrMemory says b.lines.line b.lines.seen → a.lines.reader.bytes ++ given ≡ standing b.lines.line ++ b.lines.reader.bytes → Reads by a b [] []
found_line {S = S} {a = a} {b = b} by says given unseen pulls sends most done line e = at b.lines.seen refl line where
  at : (s : Seen S) → b.lines.seen ≡ s → IsLineOrMemory says b.lines.line s → Reads by a b [] []
  at (seens.Line said) is h =
      found by a b given unseen pulls sends most done (record { failed = λ f. absurd cc; stuck = λ f. absurd cc })
      (shows_held by a.lines b.lines a.left b.left a.failed b.failed given pulls (λ more cut may. rw is at may) (λ g more cut x rest. rw is (rw is at rest)) most done (rw is e))
  at seens.Memory is h =
      found by a b given unseen pulls sends most done (record { failed = λ f. absurd cc; stuck = λ f. absurd cc })
      (shows_nothing by a.lines b.lines a.left b.left a.failed b.failed given pulls (inr is))
  at s is h = absurd h

pub found_long : {S : Type 0} {a b : Moment S} (by : Grouping) (given : List ℕ) → a.lines.seen ≡ seens.Nothing → ReadsAhead a.lines.reader b.lines.reader a.left b.left a.failed b.failed given → SendsOut a.taken a.output b.taken b.output []
    → b.lines.most ≡ a.lines.most → b.lines.done ≡ a.lines.done → b.lines.seen ≡ seens.TooLong → a.lines.reader.bytes ++ given ≡ b.lines.line.bytes ++ b.lines.reader.bytes → Reads by a b [] []
found_long {a = a} {b = b} by given unseen pulls sends most done is e =
    found by a b given unseen pulls sends most done (record { failed = λ f. absurd cc; stuck = λ f. absurd cc })
    (shows_held by a.lines b.lines a.left b.left a.failed b.failed given pulls (λ more cut may. rw is at may) (λ g more cut x rest. rw is (rw is at rest)) most done (rw is e))

pub found_end : {S : Type 0} {a b : Moment S} (by : Grouping) (given : List ℕ) → a.lines.seen ≡ seens.Nothing → ReadsAhead a.lines.reader b.lines.reader a.left b.left a.failed b.failed given → SendsOut a.taken a.output b.taken b.output []
    → b.lines.most ≡ a.lines.most → b.lines.done ≡ a.lines.done → b.lines.seen ≡ seens.End → a.lines.reader.bytes ++ given ≡ [] → b.lines.reader.ended ≡ true → Reads by a b [] []
found_end {a = a} {b = b} by given unseen pulls sends most done is e ended =
    found by a b given unseen pulls sends most done (record { failed = λ f. absurd cc; stuck = λ f. absurd cc })
    (shows_end by a.lines b.lines a.left b.left a.failed b.failed given pulls is done e ended)

pub found_failure : {S : Type 0} {a b : Moment S} (by : Grouping) (given line : List ℕ) → a.lines.seen ≡ seens.Nothing → ReadsAhead a.lines.reader b.lines.reader a.left b.left a.failed b.failed given → SendsOut a.taken a.output b.taken b.output []
    → b.lines.most ≡ a.lines.most → b.lines.done ≡ a.lines.done → b.lines.seen ≡ seens.Failed → (a.lines.done < a.lines.most) ⊎ (line ≡ []) → IsLine line → a.lines.reader.bytes ++ given ≡ line → b.lines.reader.ended ≡ false → b.failed ≡ true → Reads by a b [] []
found_failure {a = a} {b = b} by given line unseen pulls sends most done is few of_line e going failed =
    found by a b given unseen pulls sends most done (record { failed = λ f. failed; stuck = λ f. absurd cc })
    (shows_failed by a.lines b.lines a.left b.left a.failed b.failed given line pulls is few of_line e going)

pub found_many : {S : Type 0} {a b : Moment S} (by : Grouping) (given : List ℕ) (byte : ℕ) → a.lines.seen ≡ seens.Nothing → ReadsAhead a.lines.reader b.lines.reader a.left b.left a.failed b.failed given → SendsOut a.taken a.output b.taken b.output []
    → b.lines.most ≡ a.lines.most → b.lines.done ≡ a.lines.done → b.lines.seen ≡ seens.TooMany → a.lines.done ≡ a.lines.most → a.lines.reader.bytes ++ given ≡ byte ∷ b.lines.reader.bytes → Reads by a b [] []
found_many {a = a} {b = b} by given byte unseen pulls sends most done is last e =
    found by a b given unseen pulls sends most done (record { failed = λ f. absurd cc; stuck = λ f. absurd cc })
    (shows_many by a.lines b.lines a.left b.left a.failed b.failed given byte pulls is last e)

pub found_nothing : {S : Type 0} {a b : Moment S} (by : Grouping) (given : List ℕ) → a.lines.seen ≡ seens.Nothing → ReadsAhead a.lines.reader b.lines.reader a.left b.left a.failed b.failed given → SendsOut a.taken a.output b.taken b.output []
    → b.lines.most ≡ a.lines.most → b.lines.done ≡ a.lines.done → (b.lines.seen ≡ seens.Unwritten) × (b.stuck ≡ true) ⊎ (b.lines.seen ≡ seens.Memory) → Reads by a b [] []
found_nothing {a = a} {b = b} by given unseen pulls sends most done (inl is) =
    found by a b given unseen pulls sends most done (record { failed = λ f. let seen = is.0 in absurd cc; stuck = λ f. is.1 })
    (shows_nothing by a.lines b.lines a.left b.left a.failed b.failed given pulls (inl is.0))
found_nothing {a = a} {b = b} by given unseen pulls sends most done (inr is) =
    found by a b given unseen pulls sends most done (record { failed = λ f. absurd cc; stuck = λ f. absurd cc })
    (shows_nothing by a.lines b.lines a.left b.left a.failed b.failed given pulls (inr is))

pub empty_line : IsLine []
empty_line = record { no_line_feed = tt; short = omega arith }
