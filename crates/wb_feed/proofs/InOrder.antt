-- A desk that has all rows takes drawops as one thread does, in their order.
use Rattle.std.proofs.Common.{◌≡◌, List, [], ◌∷◌, ◌++◌, length, ap, subst, arith, length-append}
use Rattle.wb_names.specs.Values.{DrawopValue}
use Rattle.wb_names.specs.History.{IsHistory}
use Rattle.wb_names.specs.Arrivals.{Outcome, New, Again, Clash, Left, IsTaken, history_with, AreTaken}
use Rattle.wb_board.specs.Desks.{PassValue, IsSound, IsWhole}
use Rattle.wb_feed.specs.Accepts.{Entry, Accepts, drawops, outcomes, Runs}
use Rattle.wb_feed.proofs.Drawops.{history_mid}
use Rattle.wb_feed.proofs.Log.{accept_leaves, leaves_whole}

-- what was there already, or is left
stays_taken : (p q : PassValue) (d : DrawopValue) (o : Outcome) → q.seen ≡ p.seen → IsTaken p.cells q.seen d o → IsTaken p.cells p.seen d o
stays_taken p q d o e t = subst (λ (l : List DrawopValue). IsTaken p.cells l d o) e t

one_in_order : (p q : PassValue) (d : DrawopValue) (o : Outcome) → IsSound p → IsWhole p → Accepts p d o q → IsTaken p.cells p.seen d o × (q.seen ≡ history_with p.seen d o)
one_in_order p q d (New i) s w a =
    let b = a.becomes in
    let is : q.seen ≡ p.seen ++ d ∷ [] = b.alone w in
    let here : i ≡ length p.seen = omega (arith, b.last, ap length is, length-append p.seen (d ∷ [])) in
    (((here, history_mid p.seen [] d (subst IsHistory is a.sound.history)), omega (arith, s.room, b.row)), is)
one_in_order p q d (Again i) s w a = let e = a.becomes.1.1 w in (stays_taken p q d (Again i) e a.becomes.0, e)
one_in_order p q d (Clash i) s w a = let e = a.becomes.1.1 w in (stays_taken p q d (Clash i) e a.becomes.0, e)
one_in_order p q d Left s w a =
    let b = a.becomes in
    let e = b.kept.1 w in
    (stays_taken p q d Left e (omega (arith, b.none_left, b.kept.0.1, s.as_many w, w, ap length e), b.absent), e)

pub in_order : (p q : PassValue) (es : List Entry) → IsSound p → IsWhole p → Runs p es q → AreTaken p.cells p.seen (drawops es) (outcomes es) q.seen
in_order p q [] s w r = ap (λ (x : PassValue). x.seen) r
in_order p q ((d, o) ∷ es) s w r =
    let a = r.1 in
    let one = one_in_order p r.0 d o s w a in
    let rest : AreTaken r.0.cells r.0.seen (drawops es) (outcomes es) q.seen = in_order r.0 q es a.sound (leaves_whole p r.0 ((d, o) ∷ []) (accept_leaves p r.0 d o a) w) r.2 in
    (one.0, subst (λ (l : List DrawopValue). AreTaken p.cells l (drawops es) (outcomes es) q.seen) one.1 (subst (λ n. AreTaken n r.0.seen (drawops es) (outcomes es) q.seen) a.kept.same.1 rest))
