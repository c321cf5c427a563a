-- A trace of lines that hosts perform as turns of keepers.
use Rattle.std.proofs.Common.{◌≡◌, ℕ, ◌≤◌, Bool, true, false, cond, List, [], ◌∷◌, ◌++◌, ◌∙◌, ap, append_assoc, eqb-true, refl, subst, sym}
use Rattle.std.specs.Prelude.{nat_eq, nat_le}
use Rattle.wb_progress.specs.Turns.{Desk, Places, Turn}
use Rattle.wb_progress.specs.Turns as turning
use Rattle.wb_member.specs.Opened.{Opened}
use Rattle.wb_keeping.specs.Performing.{after_line}
use Rattle.wb_kept_progress.specs.Timed.{AreInOrder, At, Start, host_after, sends, time_of, until}
use Rattle.wb_progress.proofs.Parts.{heads, tails, nil_ends}
use Rattle.wb_member.specs.Lines.{Line}

abbrev pub desk_of : Opened → Desk
desk_of host = record { calls = host.is.calls; held = host.is.held }

abbrev pub turn_of : (ℕ → Start) → List (At Line) → At Line → At Turn
turn_of hosts older e = record { time = e.time; place = e.place; event = record { desk = desk_of (after_line e.event (host_after hosts older e.place)); sent = sends hosts older e } }

abbrev pub turns_of : (ℕ → Start) → List (At Line) → List (At Turn)
turns_of hosts [] = []
turns_of hosts (e ∷ older) = turn_of hosts older e ∷ turns_of hosts older

-- the turns of newer lines, over older ones
abbrev pub turns_over : (ℕ → Start) → List (At Line) → List (At Line) → List (At Turn)
turns_over hosts [] older = []
turns_over hosts (e ∷ newer) older = turn_of hosts (newer ++ older) e ∷ turns_over hosts newer older

-- the members and their constants, and the desks that they have before their first line
abbrev pub places : (ℕ → Start) → Places
places hosts = record { me = λ i. (hosts i).number; constants = λ i. (hosts i).constants; first = λ i. desk_of (host_after hosts [] i) }

module _ (hosts : ℕ → Start) where
  pub desk_is : (trace : List (At Line)) (i : ℕ) → turning.desk_at (places hosts) (turns_of hosts trace) i ≡ desk_of (host_after hosts trace i)
  desk_is [] i = refl
  desk_is (e ∷ older) i = from (nat_eq e.place i) refl (desk_is older i) where
    from : (b : Bool) → nat_eq e.place i ≡ b → turning.desk_at (places hosts) (turns_of hosts older) i ≡ desk_of (host_after hosts older i)
        → cond b (desk_of (after_line e.event (host_after hosts older e.place))) (turning.desk_at (places hosts) (turns_of hosts older) i) ≡ desk_of (cond b (after_line e.event (host_after hosts older i)) (host_after hosts older i))
    from true h rest = ap (λ (k : ℕ). desk_of (after_line e.event (host_after hosts older k))) (eqb-true e.place i h)
    from false h rest = rest

  -- ---- parts

  pub record IsPart (trace : List (At Line)) (newer part : List (At Turn)) : Type 0 where
    pub front : List (At Line)
    pub back : List (At Line)
    pub split : trace ≡ front ++ back
    pub newer_is : newer ≡ turns_over hosts front back
    pub part_is : part ≡ turns_of hosts back

  pub part_of : (trace : List (At Line)) (newer part : List (At Turn)) → turns_of hosts trace ≡ newer ++ part → IsPart trace newer part
  part_of trace [] part same = record { front = []; back = trace; split = refl; newer_is = refl; part_is = sym same }
  part_of [] (x ∷ newer) part same = absurd (nil_ends [] x (newer ++ part) same)
  part_of (e ∷ older) (x ∷ newer) part same =
      let r = part_of older newer part (tails _ x _ (newer ++ part) same) in
      record {
        front = e ∷ r.front;
        back = r.back;
        split = ap (λ (t : List (At Line)). e ∷ t) r.split;
        newer_is = ap (λ (t : List (At Turn)). x ∷ t) r.newer_is ∙ ap (λ (y : At Turn). y ∷ turns_over hosts r.front r.back) (sym (heads _ x _ (newer ++ part) same)) ∙ ap (λ (t : List (At Line)). turn_of hosts t e ∷ turns_over hosts r.front r.back) r.split;
        part_is = r.part_is;
      }

  -- a part that begins with a turn is one that begins with its line
  pub record IsTurnOf (trace : List (At Line)) (newer : List (At Turn)) (x : At Turn) (older : List (At Turn)) : Type 0 where
    pub front : List (At Line)
    pub e : At Line
    pub back : List (At Line)
    pub split : trace ≡ front ++ e ∷ back
    pub newer_is : newer ≡ turns_over hosts front (e ∷ back)
    pub turn_is : x ≡ turn_of hosts back e
    pub older_is : older ≡ turns_of hosts back

  pub line_of_turn : (trace : List (At Line)) (newer older : List (At Turn)) (x : At Turn) → turns_of hosts trace ≡ newer ++ x ∷ older → IsTurnOf trace newer x older
  line_of_turn trace newer older x same = from r.back refl where
    r : IsPart trace newer (x ∷ older)
    r = part_of trace newer (x ∷ older) same

    from : (back : List (At Line)) → r.back ≡ back → IsTurnOf trace newer x older
    from [] is = absurd (nil_ends [] x older (sym (r.part_is ∙ ap (turns_of hosts) is)))
    from (e ∷ back) is =
        let both = r.part_is ∙ ap (turns_of hosts) is in
        record {
          front = r.front;
          e = e;
          back = back;
          split = r.split ∙ ap (λ (t : List (At Line)). r.front ++ t) is;
          newer_is = r.newer_is ∙ ap (turns_over hosts r.front) is;
          turn_is = heads x _ older _ both;
          older_is = tails x _ older _ both;
        }

  -- and the other way
  pub turns_join : (front back : List (At Line)) → turns_of hosts (front ++ back) ≡ turns_over hosts front back ++ turns_of hosts back
  turns_join [] back = refl
  turns_join (e ∷ front) back = ap (λ (t : List (At Turn)). turn_of hosts (front ++ back) e ∷ t) (turns_join front back)

  pub over_join : (a b c : List (At Line)) → turns_over hosts (a ++ b) c ≡ turns_over hosts a (b ++ c) ++ turns_over hosts b c
  over_join [] b c = refl
  over_join (e ∷ a) b c =
      ap (λ (t : List (At Turn)). turn_of hosts ((a ++ b) ++ c) e ∷ t) (over_join a b c)
      ∙ ap (λ (l : List (At Line)). turn_of hosts l e ∷ (turns_over hosts a (b ++ c) ++ turns_over hosts b c)) (append_assoc a b c)

  -- ---- times

  pub time_is : (trace : List (At Line)) → turning.time_of (turns_of hosts trace) ≡ time_of trace
  time_is [] = refl
  time_is (e ∷ older) = refl

  pub order_is : (trace : List (At Line)) → AreInOrder trace → turning.AreInOrder (turns_of hosts trace)
  order_is [] order = tt
  order_is (e ∷ older) order = (subst (λ (t : ℕ). t ≤ e.time) (sym (time_is older)) order.0, order_is older order.1)

  pub until_is : (s : ℕ) (trace : List (At Line)) → turning.until s (turns_of hosts trace) ≡ turns_of hosts (until s trace)
  until_is s [] = refl
  until_is s (e ∷ older) = from (nat_le e.time s) (until_is s older) where
    from : (b : Bool) → turning.until s (turns_of hosts older) ≡ turns_of hosts (until s older) → cond b (turn_of hosts older e ∷ turns_of hosts older) (turning.until s (turns_of hosts older)) ≡ turns_of hosts (cond b (e ∷ older) (until s older))
    from true rest = refl
    from false rest = rest

  -- ---- what holds of each line holds of each turn

  module _ (trace : List (At Line)) where
    pub by_line : (Q : List (At Turn) → At Turn → List (At Turn) → Type 0) → ((front back : List (At Line)) (e : At Line) → trace ≡ front ++ e ∷ back → Q (turns_over hosts front (e ∷ back)) (turn_of hosts back e) (turns_of hosts back))
        → (newer older : List (At Turn)) (x : At Turn) → turns_of hosts trace ≡ newer ++ x ∷ older → Q newer x older
    by_line Q h newer older x same =
        let t = line_of_turn trace newer older x same in
        subst (λ (n : List (At Turn)). Q n x older) (sym t.newer_is)
        (subst (λ (y : At Turn). Q (turns_over hosts t.front (t.e ∷ t.back)) y older) (sym t.turn_is)
        (subst (λ (o : List (At Turn)). Q (turns_over hosts t.front (t.e ∷ t.back)) (turn_of hosts t.back t.e) o) (sym t.older_is) (h t.front t.back t.e t.split)))

    pub by_part : (Q : List (At Turn) → List (At Turn) → Type 0) → ((front back : List (At Line)) → trace ≡ front ++ back → Q (turns_over hosts front back) (turns_of hosts back)) → (newer older : List (At Turn)) → turns_of hosts trace ≡ newer ++ older → Q newer older
    by_part Q h newer older same =
        let t = part_of trace newer older same in
        subst (λ (n : List (At Turn)). Q n older) (sym t.newer_is) (subst (λ (o : List (At Turn)). Q (turns_over hosts t.front t.back) o) (sym t.part_is) (h t.front t.back t.split))
