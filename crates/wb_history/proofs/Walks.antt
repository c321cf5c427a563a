-- Walks of a cursor along the history.
use Rattle.std.proofs.lemmas.Grind.{common_steps}
use Rattle.std.proofs.Common.{◌≡◌, ◌≢◌, ℕ, ◌+◌, ◌<◌, List, [], ◌∷◌, ◌++◌, length, refl, sym, subst, arith, slice_get, Some}
use mathlib.Core.Option.{some}
use lib.ListN.{get_elem?}
use Rattle.wb_names.specs.Values.{NameValue, DrawopValue}
use Rattle.wb_history.specs.declared.cursor.Cursor.{Cursor}
use Rattle.wb_history.specs.declared.cells.CellTable.{CellTable}
use Rattle.wb_names.specs.History.{IsHistory, HoldsName}
use Rattle.wb_history.specs.Cursors.{MatchesSeat, Walked, ReadsOne, AtEnd, FoundFree, Won, TellsNamesake, Answered}
use Rattle.wb_history.specs.declared.claim.Claim.{Claim}
use Rattle.wb_history.specs.declared.claim.Claim.TheVariants.{Added, Present, Clash}
use Rattle.wb_history.specs.Seats.{SitsAt}
use Rattle.wb_history.proofs.Lists.{at-lt}
use Rattle.wb_history.proofs.Words.{get_is, named_at, one_place}
use Rattle.atomic_table.proofs.Lists.{at_longer, at_last}

pub walk_on : (h : Cursor) (a b : List DrawopValue) (j k : ℕ) (h' h'' : Cursor) → MatchesSeat h → Walked h a j h' → Walked h' b k h'' → Walked h (a ++ b) (j + k) h''
walk_on h a b j k h' h'' o v w = grind (arith, common_steps)

pub win_on : (h : Cursor) (a b : List DrawopValue) (d : DrawopValue) (place j k : ℕ) (h' h'' : Cursor) → MatchesSeat h → Walked h a j h' → Won h' b d place k h'' → Won h (a ++ b) d place (j + k) h''
win_on h a b d place j k h' h'' o v w = grind (arith, common_steps)

pub lacks_more : (l : List DrawopValue) (d : DrawopValue) (name : NameValue) → (HoldsName l name → ⊥) → d.name ≢ name → HoldsName (l ++ d ∷ []) name → ⊥
lacks_more l d name lacks other held = grind (arith, common_steps)

-- a drawop was read that has another name
pub lacks_read : (h : Cursor) (place : ℕ) (h' : Cursor) (name : NameValue) → ReadsOne h place h' → (HoldsName h.seen.items name → ⊥) → ((d : DrawopValue) → slice_get h'.seen.items place ≡ Some d → d.name ≢ name) → HoldsName h'.seen.items name → ⊥
lacks_read h place h' name r lacks other =
    let d = r.0 in
    let there : slice_get h'.seen.items place ≡ Some d = get_is h'.seen.items place d (subst (λ (l : List DrawopValue). get_elem? l place ≡ some d) (sym r.1.seen) (at_last h.seen.items d place (sym r.2))) in
    subst (λ (l : List DrawopValue). HoldsName l name → ⊥) (sym r.1.seen) (lacks_more h.seen.items d name lacks (other d there))

pub answered : (h : Cursor) (d : DrawopValue) (extra : ℕ) (h' : Cursor) (c : Claim) (more : List DrawopValue) → Walked h more extra h' → TellsNamesake h'.seen.items d c → Answered h d extra h' c
answered h d extra h' (Added i) more w a = absurd a
answered h d extra h' (Present i) more w a = (more, w, a)
answered h d extra h' (Clash i) more w a = (more, w, a)

pub answer_on : (h : Cursor) (a : List DrawopValue) (d : DrawopValue) (j k : ℕ) (h' h'' : Cursor) (c : Claim) → MatchesSeat h → Walked h a j h' → Answered h' d k h'' c → Answered h d (j + k) h'' c
answer_on h a d j k h' h'' (Added i) o v s = grind (arith, common_steps, win_on)
answer_on h a d j k h' h'' (Present i) o v s = (a ++ s.0, walk_on h a s.0 j k h' h'' o v s.1, s.2)
answer_on h a d j k h' h'' (Clash i) o v s = (a ++ s.0, walk_on h a s.0 j k h' h'' o v s.1, s.2)

-- after the end was found free
pub free_end : (t : CellTable) (h : Cursor) (more : List DrawopValue) (h' : Cursor) → SitsAt t h.seat → AtEnd t.cells h more h' → 0 < length h'.free.items → Walked h more 1 h' × FoundFree h'
free_end t h more h' s e some_free = grind (arith, common_steps)

-- of a history, no drawop before the last has its name
pub new_name : (l : List DrawopValue) (d : DrawopValue) → IsHistory (l ++ d ∷ []) → HoldsName l d.name → ⊥
new_name l d once held =
    let t = named_at l d.name held in
    let is = one_place (l ++ d ∷ []) t.0 (length l) t.1 d once (at_longer l (d ∷ []) t.0 t.1 t.2) (at_last l d (length l) refl) t.3 in let lt = at-lt l t.0 t.1 t.2 in absurd (omega arith)
