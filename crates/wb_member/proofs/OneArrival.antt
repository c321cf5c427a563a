-- Drawops that a desk takes which owns all rows: p is the desk before the call, q the desk after it.
use Rattle.std.proofs.Common.{◌≡◌, ℕ, ◌+◌, ◌<◌, ◌≤◌, List, [], ◌∷◌, ◌++◌, length, take, sym, ap, ◌∙◌, subst, arith, length-append, filter, slice_get}
use Rattle.std.proofs.Math.Seq.{take-append_seam}
use Rattle.wb_names.specs.Values.{NameValue, DrawopValue}
use Rattle.wb_names.specs.History.{HoldsName}
use Rattle.wb_names.specs.Arrivals.{Outcome, New, Again, Clash, Left, IsTaken, history_with, outcome_of}
use Rattle.wb_names.proofs.Arrivals.{outcome_is}
use Rattle.wb_board.specs.Desks.{PassValue, IsSound, IsWhole, Becomes}
use Rattle.wb_keeper.specs.Keeper.{KeeperCall, Arrive, holds}
use Rattle.wb_keeper.specs.Keeping.{KeeperValue, StandsFor, Keeps}
use Rattle.wb_random.specs.Words.{Lcg}
use Rattle.wb_member.specs.Board.{Held, held_of}
use Rattle.wb_member.specs.Holding.{IsOpenAt, board_after}
use Rattle.wb_member.specs.Members.{names_of}
use Rattle.wb_member.specs.Opened.{Opened, board_of, present, batched}
use Rattle.wb_member.proofs.Acts.{member}

-- one thread takes it so
taken : (p q : PassValue) (d : DrawopValue) (o : Outcome) → IsSound p → IsWhole p → Becomes p d o q → IsTaken p.cells p.seen d o × (q.seen ≡ history_with p.seen d o)
taken p q d (New i) sound whole b =
    let grown : q.seen ≡ p.seen ++ d ∷ [] = b.alone whole in
    let long : length q.seen ≡ length p.seen + 1 = ap (λ (l : List DrawopValue). length l) grown ∙ length-append p.seen (d ∷ []) in
    let place : i ≡ length p.seen = let last = b.last in omega (arith, long, last) in
    let front : take i q.seen ≡ p.seen = ap (take i) grown ∙ ap (λ (k : ℕ). take k (p.seen ++ d ∷ [])) place ∙ take-append_seam p.seen (d ∷ []) in
    let room : length p.seen < p.cells = let r = sound.room in let row = b.row in omega (arith, r, row) in
    let absent : HoldsName p.seen d.name → ⊥ = subst (λ (l : List DrawopValue). HoldsName l d.name → ⊥) front b.new.1 in
    (((place, absent), room), grown)
taken p q d (Again i) sound whole b =
    let same = b.1.1 whole in
    (ap (λ (l : List DrawopValue). slice_get l i) (sym same) ∙ b.0, same)
taken p q d (Clash i) sound whole b =
    let same = b.1.1 whole in
    ((b.0.0, ap (λ (l : List DrawopValue). slice_get l i) (sym same) ∙ b.0.1, b.0.2, b.0.3), same)
taken p q d Left sound whole b =
    let same = b.kept.1 whole in
    let full : p.cells ≤ length p.seen = let none = b.none_left in let free = b.kept.0.1 in let many = sound.as_many whole in omega (arith, whole, none, free, many) in
    ((full, subst (λ (l : List DrawopValue). HoldsName l d.name → ⊥) same b.absent), same)

pub became : (p q : PassValue) (d : DrawopValue) (o : Outcome) → IsSound p → IsWhole p → Becomes p d o q → o ≡ outcome_of p.cells p.seen d
became p q d o sound whole b = outcome_is p.cells p.seen d o sound.history (taken p q d o sound whole b).0

pub held : (p q : PassValue) (d : DrawopValue) (o : Outcome) → IsSound p → IsWhole p → q.cells ≡ p.cells → Becomes p d o q → held_of q ≡ board_after (held_of p) (d ∷ [])
held p q d o sound whole cells b =
    let t = taken p q d o sound whole b in
    ap (λ (n : ℕ). let k : Held = record { cells = n; drawops = q.seen } in k) cells
    ∙ ap (λ (ds : List DrawopValue). let k : Held = record { cells = p.cells; drawops = ds } in k) (t.1 ∙ ap (history_with p.seen d) (outcome_is p.cells p.seen d o sound.history t.0))

-- the keeper took in the names of a batch that was taken in this order
pub told : (b b' : Held) (k k' : KeeperValue) (g : Lcg) (host : Opened) (batch order : List DrawopValue) (names : List NameValue) → IsOpenAt (member b k g) host → names ≡ names_of batch → b' ≡ board_after b order
    → Keeps (Arrive k.moment (filter (holds b'.drawops) names)) k k' → IsOpenAt (member b' k' g) (batched batch order host)
told b b' k k' g host batch order names at named is keeps =
    let board : b' ≡ board_after (board_of host) order = is ∙ ap (λ (h : Held). board_after h order) at.board in
    let call : Arrive k.moment (filter (holds b'.drawops) names) ≡ Arrive (present host) (filter (holds (board_after (board_of host) order).drawops) (names_of batch)) =
    ap (λ (m : ℕ). Arrive m (filter (holds b'.drawops) names)) at.keeper.moment
    ∙ ap (λ (h : Held). Arrive (present host) (filter (holds h.drawops) names)) board
    ∙ ap (λ (ns : List NameValue). Arrive (present host) (filter (holds (board_after (board_of host) order).drawops) ns)) named in
    record { board = board; keeper = subst (λ (c : KeeperCall). StandsFor host.is.number host.is.constants (c ∷ host.is.calls) k') call (keeps host.is.number host.is.constants host.is.calls at.keeper); words = at.words }
