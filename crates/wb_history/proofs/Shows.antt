-- What the parts of a pass show of it.
use Rattle.std.proofs.lemmas.Grind.{common_steps}
use Rattle.wb_history.specs.Sizes.{row_stride, drawop_steps}
use Rattle.std.proofs.Common.{◌≡◌, ℕ, ◌+◌, ◌-◌, ◌*◌, ◌<◌, ◌≤◌, List, [], ◌∷◌, ◌++◌, length, refl, sym, ap, ◌∙◌, subst, arith, length-append, length-take-le, Result, Ok, Err, OnOk, OnErr, MatchResult}
use Rattle.std.proofs.lemmas.List.{append-nil, length-replicate}
use Rattle.std.specs.Prelude.{replicate, All, Contains}
use Rattle.atomic_table.specs.Table.{Me, opening}
use Rattle.std.specs.List.{range_with_len}
use Rattle.wb_history.specs.Views.{whole_pass, HasAllRows}
use Rattle.wb_history.proofs.Opens.{opens}
use Rattle.wb_history.proofs.Keeps.{consistent}
use mathlib.Core.Option.{some}
use lib.ListN.{get_elem?}
use Rattle.atomic_table.proofs.Lists.{at_last}
use Rattle.wb_names.specs.Values.{DrawopValue}
use Rattle.wb_history.specs.declared.knowledge.Knowledge.{Knowledge}
use Rattle.wb_history.specs.declared.cursor.Cursor.{Cursor}
use Rattle.wb_history.specs.declared.claim.Claim.{Claim}
use Rattle.wb_history.specs.declared.claim.Claim.TheVariants.{Added, Present, Clash}
use Rattle.wb_history.specs.declared.claim.ClaimFault.{ClaimFault}
use Rattle.wb_history.specs.declared.claim.ClaimFault.TheVariants.{NoRow, Memory}
use mathlib.Core.List.{IsPrefix}
use Rattle.wb_history.specs.Lists.{Once}
use Rattle.wb_names.specs.History.{IsHistory}
use Rattle.wb_history.specs.Indexed.{SeenValue, AreFronts}
use Rattle.wb_history.proofs.Fronts.{fronts_on}
use Rattle.wb_history.specs.Lawful.{IsConsistent}
use Rattle.wb_history.specs.declared.cells.CellTable.{CellTable}
use Rattle.wb_history.specs.Seats.{SitsAt, SameSeat}
use Rattle.wb_history.proofs.Lists.{few}
use Rattle.wb_history.specs.Cursors.{MatchesSeat, Walked, Won, AtEnd, Answered, Refused}
use Rattle.wb_history.specs.Passes.{HistoryValue, PassValue, IsPassOf, IsWhole, IsSound, ReadsOn}
use Rattle.wb_history.specs.Replies.{IsAdded, Claimed, NotClaimed}
use Rattle.wb_codec.specs.Ranges.{IsDrawop}
use Rattle.wb_history.proofs.Words.{get_is, none_before, pairs_are, all_are}
use Rattle.wb_history.specs.Shown.{history_of, view_of, PartsAgree}

-- what is seen of the parts of a pass is sound
pub sound : (h : Cursor) → PartsAgree h → IsSound (view_of h)
sound h i =
    let o = i.0 in
    let s = o.consistent in
    let seen = ap length o.seen in
    let free = ap length o.free in
    let mine = ap length o.mine in
    let room = s.room in
    let own = s.own in record {
      history = subst IsHistory o.seen s.names_once;
      lawful = subst (All IsDrawop) o.seen s.valid;
      some_cells = i.2;
      few_cells = i.3;
      room = omega arith;
      rows = omega arith;
      own = all_are (λ i. i < length h.seen.items) h.mine.items (λ i k e. let l = s.mine_is i k (subst (λ (m : List ℕ). get_elem? m i ≡ some k) (sym o.mine) e) in omega arith);
      once = pairs_are h.mine.items (subst Once o.mine s.mine_once);
      all = λ whole k below. subst (λ (m : List ℕ). Contains m k) o.mine (s.whole (omega arith) k (omega arith));
      as_many = λ whole. let once = few h.seat.me.0.mine (length h.seat.me.0.seen) s.mine_once s.mine_is in omega arith;
    }

pub sound_pass : {p : PassValue} (h : Cursor) → view_of h ≡ p → PartsAgree h → IsSound p
sound_pass h is i = subst IsSound is (sound h i)

pub on_ok : {A E P : Type 0} (r : Result A E) → P → OnOk r P
on_ok (Ok a) p = p
on_ok (Err e) p = tt

-- more room for the list is not seen
pub roomier : (h : Cursor) (m : SeenValue) → m.items ≡ h.seen.items → PartsAgree h → PartsAgree (record h { seen = m })
roomier h m same i = grind (arith, common_steps)

-- a pass hears what another has seen, or both stay as they were
pub sound_heard : {A E : Type 0} (p q : PassValue) (Teller : Type 0) (r : Result A E) → OnOk r (IsSound q) → OnErr r (Teller × (q ≡ p)) → IsSound p → IsSound q
sound_heard p q Teller (Ok u) heard kept s = heard
sound_heard p q Teller (Err e) heard kept s = subst IsSound (sym kept.1) s

-- the parts of a pass after steps of its seat
pub agree_on : (h h' : Cursor) → PartsAgree h → MatchesSeat h' → SameSeat h.seat h'.seat → h'.seat.me.0.cells ≡ h.seat.me.0.cells → PartsAgree h'
agree_on h h' i o seat cells = grind (arith, common_steps)

-- A pass sits at the table of its history. Of one table the number of cells is one, since the number of words is
pub sits : {p : PassValue} {q : HistoryValue} (t : CellTable) (h : Cursor) → history_of t ≡ q → view_of h ≡ p → PartsAgree h → IsPassOf q p → SitsAt t h.seat
sits t h is_q is_p i same = grind (arith, common_steps)

owns : (h : Cursor) → MatchesSeat h → IsWhole (view_of h) → HasAllRows h.seat.me.0
owns h o all = let b = ap length o.free in let d = ap length o.mine in omega arith

-- the list after a claim that was won ends with the drawop, whose name stands nowhere before
added : (h : Cursor) (more : List DrawopValue) (d : DrawopValue) (i extra : ℕ) (h' : Cursor) → MatchesSeat h → Won (record h { steps = 0 }) more d i extra h' → IsAdded (view_of h) d i (view_of h')
added h more d i extra h' o w =
    let place = w.at in
    let long = ap length w.seen in
    let l1 = length-append (h.seen.items ++ more) (d ∷ []) in
    let l2 = length-append h.seen.items more in
    let row = w.free in
    let last : length h'.seen.items ≡ i + 1 = omega arith in
    let at : get_elem? h'.seen.items i ≡ some d = subst (λ (l : List DrawopValue). get_elem? l i ≡ some d) (sym w.seen) (at_last (h.seen.items ++ more) d i (omega arith)) in record {
      new = (sym (length-take-le i h'.seen.items (omega arith)), none_before h'.seen.items i d (subst IsHistory w.matches.seen w.matches.consistent.names_once) at);
      drawop = get_is h'.seen.items i d at;
      last = last;
      later = omega arith;
      gains = w.mine;
      row = omega arith;
      alone = λ all. w.seen ∙ ap (λ (l : List DrawopValue). l ++ d ∷ []) (ap (λ (l : List DrawopValue). h.seen.items ++ l) (w.whole (owns h o all)) ∙ append-nil h.seen.items);
    }

-- the parts of a pass after a call that reads or adds: they agree, and it has seen all that it had seen
abbrev pub GoesOn : Cursor → Cursor → Type 0
GoesOn h h' = PartsAgree h' × (h'.seat.me.0.cells ≡ h.seat.me.0.cells) × IsPrefix h.seen.items h'.seen.items

-- what is so of all parts of a pass stays so, where they go on
pub pass_on : (lists : List SeenValue) (cells : ℕ) (h h' : Cursor) → PartsAgree h × (cells ≡ h.seat.me.0.cells) × AreFronts lists h.seen.items → GoesOn h h' → PartsAgree h' × (cells ≡ h'.seat.me.0.cells) × AreFronts lists h'.seen.items
pass_on lists cells h h' i on = (on.0, i.1 ∙ sym on.1, fronts_on lists h.seen.items h'.seen.items on.2 i.2)

pub walked_agree : (h : Cursor) (more : List DrawopValue) (k : ℕ) (h' : Cursor) → PartsAgree h → Walked (record h { steps = 0 }) more k h' → GoesOn h h'
walked_agree h more k h' i w = grind (arith, common_steps)

pub end_agrees : (cells : ℕ) (h : Cursor) (more : List DrawopValue) (h' : Cursor) → PartsAgree h → AtEnd cells (record h { steps = 0 }) more h' → GoesOn h h'
end_agrees cells h more h' i e = grind (arith, common_steps)

-- the parts of a pass after a claim
pub parts_after : (cells : ℕ) (h : Cursor) (d : DrawopValue) (h' : Cursor) (r : Result Claim ClaimFault) → PartsAgree h
    → MatchResult r (λ c. (extra : ℕ) × (extra ≤ drawop_steps) × Answered (record h { steps = 0 }) d extra h' c) (Refused cells (record h { steps = 0 }) d h') → GoesOn h h'
parts_after cells h d h' (Ok (Added k)) i m = grind (arith, common_steps)
parts_after cells h d h' (Ok (Present k)) i m = walked_agree h m.2.0 m.0 h' i m.2.1
parts_after cells h d h' (Ok (Clash k)) i m = walked_agree h m.2.0 m.0 h' i m.2.1
parts_after cells h d h' (Err NoRow) i m = end_agrees cells h m.0 h' i m.1
parts_after cells h d h' (Err Memory) i m = walked_agree h m.0 m.1 h' i m.3

-- what a claim with a cursor says of what is seen of the cursor
pub shown : (cells : ℕ) (h : Cursor) (d : DrawopValue) (h' : Cursor) (r : Result Claim ClaimFault) → MatchesSeat h → h.seat.me.0.cells ≡ cells
    → MatchResult r (λ c. (extra : ℕ) × (extra ≤ drawop_steps) × Answered (record h { steps = 0 }) d extra h' c) (Refused cells (record h { steps = 0 }) d h')
    → MatchResult r (Claimed (view_of h) d (view_of h')) (NotClaimed (view_of h) d (view_of h'))
shown cells h d h' (Ok (Added i)) o same m = added h m.2.0 d i (m.0 + 1) h' o m.2.1
shown cells h d h' (Ok (Present i)) o same m = (m.2.2, grind (arith, common_steps))
shown cells h d h' (Ok (Clash i)) o same m = (m.2.2, grind (arith, common_steps))
shown cells h d h' (Err NoRow) o same m = grind (arith, common_steps)
shown cells h d h' (Err Memory) o same m = grind (arith, common_steps)

pub first_consistent : (cells : ℕ) → 0 < cells → IsConsistent (whole_pass cells)
first_consistent cells h =
    let n = cells * (row_stride + 1) in
    let r = opens cells (replicate n 0) n refl (length-replicate n 0) refl in
    consistent cells (opening (replicate n 0) [] (whole_pass cells)) r 0 (whole_pass cells) (r.each_pass 0 (whole_pass cells) refl) h

pub first_matches : (h : Cursor) (cells : ℕ) → 0 < cells → h.seat.me ≡ (whole_pass cells, []) → h.seen.items ≡ [] → h.mine.items ≡ [] → h.free.items ≡ range_with_len 0 cells → MatchesSeat h
first_matches h cells some_cells me seen mine free = record {
  slots = ap (λ (m : Me DrawopValue Knowledge). m.1) me;
  seen = ap (λ (m : Me DrawopValue Knowledge). m.0.seen) me ∙ sym seen;
  mine = ap (λ (m : Me DrawopValue Knowledge). m.0.mine) me ∙ sym mine;
  free = ap (λ (m : Me DrawopValue Knowledge). m.0.free) me ∙ sym free;
  consistent = subst (λ (m : Me DrawopValue Knowledge). IsConsistent m.0) (sym me) (first_consistent cells some_cells);
}

brought_is : (h : Cursor) (more : List DrawopValue) (k : ℕ) (h' : Cursor) → Walked h more k h' → length h'.seen.items - length h.seen.items ≡ length more
brought_is h more k h' w = grind (arith, common_steps, length-append)

-- the pass after its cursor has read on
pub reads_on : {p : PassValue} (h : Cursor) (more : List DrawopValue) (k : ℕ) (h' : Cursor) → k ≤ 1 → view_of h ≡ p → PartsAgree h → Walked (record h { steps = 0 }) more k h' → ReadsOn p (view_of h')
reads_on h more k h' few is i w =
    let begun = record h { steps = 0 } in
    let made = w.made in
    let steps = w.steps in
    let b = brought_is begun more k h' w in
    subst (λ (v : PassValue). ReadsOn v (view_of h')) is record {
      same = (w.seat.0, w.cells);
      sound = sound h' (walked_agree h more k h' i w).0;
      grows = (more, sym w.seen);
      nothing = grind (arith, common_steps);
      steps = omega arith;
      few_steps = omega arith;
    }
