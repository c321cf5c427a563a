-- A desk that owns all rows: its places are those of its list, it stays so, and it leaves a drawop only where the list is full.
use Rattle.std.proofs.Common.{◌≡◌, ℕ, ◌+◌, ◌≤◌, List, [], ◌∷◌, length, ap, ◌∙◌, subst, arith, length-append}
use Rattle.wb_names.specs.Values.{DrawopValue}
use Rattle.wb_names.specs.History.{HoldsName}
use Rattle.wb_names.specs.Arrivals.{New, Again, Clash, Left}
use Rattle.wb_board.specs.Desks.{PassValue, IsSound, IsWhole}
use Rattle.wb_feed.specs.Accepts.{Entry, drawops, Runs}
use Rattle.wb_feed.specs.Served.{once_below, is_left}
use Rattle.wb_feed.proofs.Prefixes.{prefix_whole}
use Rattle.wb_feed.proofs.Numbers.{times, few_below, all_below}
use Rattle.wb_feed.proofs.Log.{chosen, places, places_many, Gathers, sound_once, runs_leave}
use Rattle.wb_feed.proofs.OneThread.{Lacks}

-- a whole desk has all places of its list
pub record HasAll (p : PassValue) : Type 0 where
  pub many : length p.mine ≡ length p.seen
  pub each : (i : ℕ) → times i p.mine ≡ once_below i (length p.seen)

pub whole_mine : (p : PassValue) → IsSound p → IsWhole p → HasAll p
whole_mine p s w =
    let many = s.as_many w in
    record { many = many; each = all_below (length p.seen) p.mine (sound_once p s) (omega (arith, many)) }

pub stays_whole : (p q : PassValue) (log : List Entry) → Gathers p log q → IsWhole p → IsWhole q
stays_whole p q log g w = omega (arith, g.many, g.free, g.kept.same.1, w)

-- a whole desk refuses for want of a row only where its list is full
pub left_lacks : (p q : PassValue) (es : List Entry) → IsSound q → IsWhole q → Runs p es q → Lacks q.seen (drawops (chosen is_left es))
left_lacks p q [] s w r = tt
left_lacks p q ((d, Left) ∷ es) s w r =
    let b = r.0 in
    let l = runs_leave b q es r.2 in
    let some : length b.mine ≤ length b.seen = few_below (length b.seen) b.mine (sound_once b r.1.sound) in
    let many : length q.mine ≡ length b.mine + length (places es) = ap length l.mine ∙ length-append b.mine (places es) in
    let all : length q.seen ≤ length b.seen = omega (arith, some, many, places_many es, l.free, r.1.becomes.none_left, s.room, w) in
    (subst (λ (k : List DrawopValue). HoldsName k d.name → ⊥) (prefix_whole b.seen q.seen l.kept.seen all) r.1.becomes.absent, left_lacks b q es s w r.2)
left_lacks p q ((d, New i) ∷ es) s w r = left_lacks r.0 q es s w r.2
left_lacks p q ((d, Again i) ∷ es) s w r = left_lacks r.0 q es s w r.2
left_lacks p q ((d, Clash i) ∷ es) s w r = left_lacks r.0 q es s w r.2
