-- Each judged member is the self-managing one at its place.
use Rattle.std.proofs.Common.{◌≡◌, ℕ, Bool, true, false, cond, List, [], ◌∷◌, ◌++◌, ◌∙◌, ap, eqb-true, map, refl, sym}
use Rattle.std.specs.Prelude.{nat_eq}
use Rattle.wb_keeping.specs.Laws.{KeptLine, Tuned, after_kept, doing_of}
use Rattle.wb_keeping.specs.Performing.{Keeping, after_doing}
use Rattle.wb_judging.specs.Handing.{handed}
use Rattle.wb_judging.specs.Judged.{Judged}
use Rattle.wb_judging.specs.declared.call.Call.{Call}
use Rattle.wb_judging.specs.declared.call.Call.TheVariants.{Held}
use Rattle.wb_judging.specs.Laws.{expanded}
use Rattle.wb_judging.specs.Performing.{after_kept_line}
use Rattle.wb_judging.specs.declared.record.RecordLine.{RecordLine}
use Rattle.wb_judging.proofs.AsKept.{judged_members_are_kept}
use Rattle.wb_laws_kept.specs.Openings.{opened}
use Rattle.wb_laws_kept.specs.Sessions.{At, kept_at}
use Rattle.wb_judged_sessions.specs.Calls.{after_call, JudgedCall, plain_line, started, Starts, Takes, Tunes}
use Rattle.wb_judged_sessions.specs.Sessions.{judged_at, JudgedIsKept, kept_calls, kept_then, lines_then}
use Rattle.wb_judged_sessions.proofs.Plain.{plain_after}
use Rattle.wb_laws_kept.specs.Calls.{Begins, Call as KeptCall, Handed}
use Rattle.wb_laws_machines.proofs.Traces.{behind_both, split_behind, split_of}
use Rattle.wb_laws_machines.specs.Machines.{part, whole, ◌⊑◌}

abbrev pub at : ℕ → ℕ → KeptLine → At KeptCall
at time place line = record { time = time; place = place; event = Handed line }

-- ---- lines as calls

module _ (numbers : ℕ → ℕ) (time place : ℕ) where
  pub kept_lines : (lines : List KeptLine) (older : List (At KeptCall)) (i : ℕ) (b : Bool) → nat_eq place i ≡ b
      → kept_at numbers (lines_then time place lines older) i ≡ cond b (after_kept lines (kept_at numbers older i)) (kept_at numbers older i)
  kept_lines [] older i true e = refl
  kept_lines [] older i false e = refl
  kept_lines (line ∷ lines) older i true e =
      kept_lines lines (at time place line ∷ older) i true e
      ∙ ap (λ (b : Bool). after_kept lines (cond b (after_doing (doing_of line) (kept_at numbers older i)) (kept_at numbers older i))) e
  kept_lines (line ∷ lines) older i false e =
      kept_lines lines (at time place line ∷ older) i false e
      ∙ ap (λ (b : Bool). cond b (after_doing (doing_of line) (kept_at numbers older i)) (kept_at numbers older i)) e

  -- ---- a call

  starts_kept : (h : Judged) (older : List (At KeptCall)) (i : ℕ) → nat_eq place i ≡ true → h.kept ≡ kept_at numbers older i
      → (start : _) (given : List RecordLine) → kept_at numbers (kept_then time place (Starts start given) h older) i ≡ (after_call (Starts start given) h).kept
  starts_kept h older i e same start given =
      let first : Judged = started h.kept.host.is.number start in
      let lines : List KeptLine = expanded (map Held given) first in
      kept_lines lines (record { time = time; place = place; event = Begins start.opening [] } ∷ older) i true e
      ∙ ap (λ (b : Bool). after_kept lines (cond b (opened (kept_at numbers older i).host.is.number start.opening) (kept_at numbers older i))) e
      ∙ ap (λ (k : Keeping). after_kept lines (opened k.host.is.number start.opening)) (sym same)
      ∙ sym (judged_members_are_kept (map Held given) first).0

  takes_kept : (h : Judged) (older : List (At KeptCall)) (i : ℕ) → nat_eq place i ≡ true → h.kept ≡ kept_at numbers older i
      → (line : Call) → kept_at numbers (kept_then time place (Takes line) h older) i ≡ (after_call (Takes line) h).kept
  unfolding after_kept_line
  takes_kept h older i e same line =
      kept_lines (plain_line (handed line h) ∷ []) older i true e
      ∙ ap (λ (k : Keeping). after_doing (doing_of (plain_line (handed line h))) k) (sym same)
      ∙ plain_after (handed line h) h.kept

  pub call_kept : (call : JudgedCall) (h : Judged) (older : List (At KeptCall)) (i : ℕ) → nat_eq place i ≡ true → h.kept ≡ kept_at numbers older i
      → kept_at numbers (kept_then time place call h older) i ≡ (after_call call h).kept
  call_kept (Starts start given) h older i e same = starts_kept h older i e same start given
  call_kept (Takes line) h older i e same = takes_kept h older i e same line
  call_kept (Tunes constants) h older i e same = kept_lines (Tuned constants ∷ []) older i true e ∙ ap (λ (k : Keeping). after_doing (doing_of (Tuned constants)) k) (sym same)

  -- whoever is at another place stays
  pub others_stay : (call : JudgedCall) (h : Judged) (older : List (At KeptCall)) (i : ℕ) → nat_eq place i ≡ false
      → kept_at numbers (kept_then time place call h older) i ≡ kept_at numbers older i
  others_stay (Starts start given) h older i e =
      kept_lines (expanded (map Held given) (started h.kept.host.is.number start)) (record { time = time; place = place; event = Begins start.opening [] } ∷ older) i false e
      ∙ ap (λ (b : Bool). cond b (opened (kept_at numbers older i).host.is.number start.opening) (kept_at numbers older i)) e
  others_stay (Takes line) h older i e = kept_lines (plain_line (handed line h) ∷ []) older i false e
  others_stay (Tunes constants) h older i e = kept_lines (Tuned constants ∷ []) older i false e

module _ (numbers : ℕ → ℕ) where
  one_call : (e : At JudgedCall) (older : List (At JudgedCall)) (i : ℕ) → (judged_at numbers older i).kept ≡ kept_at numbers (kept_calls numbers older) i
      → (judged_at numbers (e ∷ older) i).kept ≡ kept_at numbers (kept_calls numbers (e ∷ older)) i
  one_call e older i same = from (nat_eq e.place i) refl where
    calls : ℕ → List (At KeptCall)
    calls p = kept_then e.time e.place e.event (judged_at numbers older p) (kept_calls numbers older)

    from : (b : Bool) → nat_eq e.place i ≡ b → (cond b (after_call e.event (judged_at numbers older i)) (judged_at numbers older i)).kept ≡ kept_at numbers (calls e.place) i
    from true is =
        sym (call_kept numbers e.time e.place e.event (judged_at numbers older i) (kept_calls numbers older) i is same)
        ∙ ap (λ (p : ℕ). kept_at numbers (calls p) i) (sym (eqb-true e.place i is))
    from false is = same ∙ sym (others_stay numbers e.time e.place e.event (judged_at numbers older e.place) (kept_calls numbers older) i is)

pub judged_is_kept : JudgedIsKept
judged_is_kept numbers [] i = refl
judged_is_kept numbers (e ∷ older) i = one_call numbers e older i (judged_is_kept numbers older i)

-- ---- a part of the calls

pub lines_behind : (time place : ℕ) (lines : List KeptLine) (older : List (At KeptCall)) → older ⊑ lines_then time place lines older
lines_behind time place [] older = whole
lines_behind time place (line ∷ lines) older = behind_both (part whole) (lines_behind time place lines (at time place line ∷ older))

pub call_behind : (time place : ℕ) (call : JudgedCall) (h : Judged) (older : List (At KeptCall)) → older ⊑ kept_then time place call h older
call_behind time place (Starts start given) h older =
    behind_both (part whole) (lines_behind time place (expanded (map Held given) (started h.kept.host.is.number start)) (record { time = time; place = place; event = Begins start.opening [] } ∷ older))
call_behind time place (Takes line) h older = lines_behind time place (plain_line (handed line h) ∷ []) older
call_behind time place (Tunes constants) h older = lines_behind time place (Tuned constants ∷ []) older

pub calls_behind : (numbers : ℕ → ℕ) {older calls : List (At JudgedCall)} → older ⊑ calls → kept_calls numbers older ⊑ kept_calls numbers calls
calls_behind numbers whole = whole
calls_behind numbers (part {newer = newer} {e = e} behind) =
    behind_both (calls_behind numbers behind) (call_behind e.time e.place e.event (judged_at numbers newer e.place) (kept_calls numbers newer))

pub calls_split : (numbers : ℕ → ℕ) (newer older : List (At JudgedCall)) → (front : List (At KeptCall)) × (kept_calls numbers (newer ++ older) ≡ front ++ kept_calls numbers older)
calls_split numbers newer older = split_of (calls_behind numbers (split_behind newer older refl))
