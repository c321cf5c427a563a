-- What a desk keeps of its list, as the list grows and as holdings take in the rest of it.
use Rattle.std.proofs.Common.{◌≡◌, ℕ, List, length, take, sym, ap, subst, ◌∙◌, arith}
use Rattle.std.specs.Prelude.{Result, Ok, Err, MatchResult}
use Rattle.std.proofs.lemmas.List.{take-append-le, length-append}
use mathlib.Core.List.{IsPrefix}
use Rattle.wb_names.specs.Values.{DrawopValue}
use Rattle.wb_names.specs.declared.name.PageId.{PageId}
use Rattle.wb_gaps.specs.Holdings.{HoldNamesOf}
use Rattle.wb_history.specs.Passes.{PassValue}
use Rattle.wb_history.specs.Sharing.{IsSplit, IsSplitFault, IsJoined}
use Rattle.wb_history.specs.declared.parts.SplitFault.{SplitFault}
use Rattle.wb_history.specs.declared.parts.JoinFault.{JoinFault}
use Rattle.wb_board.specs.Held.{AreKeptOf, HoldsFirst}
use Rattle.wb_board.specs.declared.held.Held.{Held}
use Rattle.wb_board.specs.declared.layers.PageLayer.{PageLayer}
use Rattle.wb_board.proofs.PageLayers.{still_stand}

-- a longer list has the same beginnings
holds_still : (list longer : List DrawopValue) (h : Held) → IsPrefix list longer → HoldsFirst list h → HoldsFirst longer h
holds_still list longer h more first =
    let within = first.within in
    let grown = ap length more.1 in
    record {
      names = subst (λ (xs : List DrawopValue). HoldNamesOf xs h.holdings) (sym (take-append-le h.taken list more.0 within) ∙ ap (take h.taken) more.1) first.names;
      few = first.few;
      within = omega (arith, length-append list more.0);
    }

pub still_kept : (list longer : List DrawopValue) (layers : List (PageId × PageLayer)) (h : Held) → IsPrefix list longer → AreKeptOf list layers h → AreKeptOf longer layers h
still_kept list longer layers h more kept = record { shown = still_stand list longer layers more kept.shown; holds = holds_still list longer h more kept.holds }

pub same_kept : (list other : List DrawopValue) (layers : List (PageId × PageLayer)) (h : Held) → other ≡ list → AreKeptOf list layers h → AreKeptOf other layers h
same_kept list other layers h same kept = subst (λ (l : List DrawopValue). AreKeptOf l layers h) (sym same) kept

-- a split leaves the list
pub split_kept : (r : Result PassValue SplitFault) (n : ℕ) (p q : PassValue) (layers : List (PageId × PageLayer)) (h : Held) → MatchResult r (IsSplit p n q) (λ e. (q ≡ p) × IsSplitFault p n e) → AreKeptOf p.seen layers h → AreKeptOf q.seen layers h
split_kept (Ok new) n p q layers h parts kept = same_kept p.seen q.seen layers h (ap (λ (v : PassValue). v.seen) parts.rest) kept
split_kept (Err fault) n p q layers h parts kept = same_kept p.seen q.seen layers h (ap (λ (v : PassValue). v.seen) parts.0) kept

-- a join makes it longer, or leaves it
pub join_kept : (r : Result (Unit {0}) (JoinFault × PassValue)) (p other q : PassValue) (layers : List (PageId × PageLayer)) (h : Held) → MatchResult r (λ _. IsJoined p other q) (λ e. (q ≡ p) × (e.1 ≡ other)) → AreKeptOf p.seen layers h → AreKeptOf q.seen layers h
join_kept (Ok u) p other q layers h joined kept = still_kept p.seen q.seen layers h joined.first kept
join_kept (Err e) p other q layers h joined kept = same_kept p.seen q.seen layers h (ap (λ (v : PassValue). v.seen) joined.0) kept
