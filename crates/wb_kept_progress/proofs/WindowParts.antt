-- Where a call stands of which a line was performed, and where a part of a trace begins.
use Rattle.std.proofs.Common.{◌≡◌, ◌<◌, ◌≤◌, List, [], ◌∷◌, ◌++◌, ◌∙◌, ap, append_assoc, arith, subst, sym}
use Rattle.std.specs.Prelude.{Contains}
use Rattle.std.proofs.lemmas.List.{append_cancel_right}
use Rattle.wb_progress.specs.Turns.{Terms}
use Rattle.wb_kept_progress.specs.Timed.{AreInOrder, At, SaysNow, TellTimes, time_of}
use Rattle.wb_progress.proofs.Parts.{before_end, heads, in_past, tails}
use Rattle.wb_keeping.specs.Laws.{KeptLine}
use Rattle.wb_member.specs.Lines.{Line}

-- ---- calls

-- a call is one of a window
pub record IsInWindow (window base newer older : List (At KeptLine)) (e : At KeptLine) : Type 0 where
  pub part : List (At KeptLine)
  pub window_is : window ≡ newer ++ e ∷ part
  pub older_is : older ≡ part ++ base

pub in_window : (window base newer older : List (At KeptLine)) (e : At KeptLine) → window ++ base ≡ newer ++ e ∷ older → AreInOrder (window ++ base) → time_of base < e.time → IsInWindow window base newer older e
in_window window base newer older e same order lt = from past.0 past.1 where
  past : (middle : List (At KeptLine)) × (e ∷ older ≡ middle ++ base)
  past = in_past newer (e ∷ older) window base (sym same) (subst AreInOrder same order) lt

  from : (middle : List (At KeptLine)) → e ∷ older ≡ middle ++ base → IsInWindow window base newer older e
  from [] is = let at : e.time ≡ time_of base = ap time_of is in absurd (omega (arith, at, lt))
  from (y ∷ part) is =
      let h = heads e y older (part ++ base) is in
      let t = tails e y older (part ++ base) is in
      record {
        part = part;
        window_is = append_cancel_right window (newer ++ e ∷ part) base (same ∙ ap (λ (l : List (At KeptLine)). newer ++ e ∷ l) t ∙ sym (append_assoc newer (e ∷ part) base));
        older_is = t;
      }

-- each call tells a moment of its time
pub told_in : (terms : Terms) (newer older : List (At KeptLine)) (e : At KeptLine) → TellTimes terms (newer ++ e ∷ older) → Contains terms.live e.place → SaysNow terms e.time e.place e.event
told_in terms [] older e tells = tells.0
told_in terms (x ∷ newer) older e tells = told_in terms newer older e tells.1

-- ---- lines that were performed

-- a line of a part comes no later than its end
pub line_by : (back newer older : List (At Line)) (x : At Line) → AreInOrder back → back ≡ newer ++ x ∷ older → x.time ≤ time_of back
line_by back newer older x order split =
    let le : x.time ≤ time_of (newer ++ x ∷ older) = before_end newer (x ∷ older) (subst AreInOrder split order) in
    let same = ap time_of split in
    omega (arith, le, same)
