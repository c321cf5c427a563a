-- What becomes of the rows of a desk: places of given drawops, or they are lost.
use Rattle.std.proofs.Common.{◌≡◌, ℕ, ◌+◌, ◌<◌, List, [], ◌∷◌, ◌++◌, length, get_or, refl, ap, sym, subst, ◌∙◌, arith, append_assoc, length-append, ⊎_elim}
use Rattle.std.specs.Prelude.{All, Contains}
use Rattle.std.proofs.lemmas.List.{append-nil}
use Rattle.std.proofs.lemmas.List.Elements.{All-nil, All-cons, All-head, All-append, All-weaker, Contains-append_left}
use mathlib.Core.List.{IsPrefix}
use Rattle.wb_names.specs.Values.{DrawopValue}
use Rattle.wb_names.specs.Arrivals.{New, Again, Clash, Left}
use Rattle.wb_names.proofs.Listings.{Contains-here, Contains-there, Contains-cases, Contains-none}
use Rattle.wb_board.specs.Desks.{PassValue, KeepsRows, AddsNothing, IsSound, IsWhole}
use Rattle.wb_board.specs.Replies.{outcome}
use Rattle.wb_board.specs.declared.reply.Reply.{Reply}
use Rattle.wb_feed.specs.Accepts.{Keeps, Loses, HasOneOf, Accepts, Entry, drawops}
use Rattle.wb_feed.proofs.Prefixes.{prefix_get, prefix_whole}
use Rattle.wb_feed.proofs.Log.{places, places_many, AreAnswered, Leaves, accept_leaves, keeps_is, keeps_trans}

-- the drawops of one list stand in the other
abbrev pub Among : List DrawopValue → List DrawopValue → Type 0
Among ds es = (d : DrawopValue) → Contains ds d → Contains es d

pub prefix_among : (ds es : List DrawopValue) → IsPrefix ds es → Among ds es
prefix_among ds es p d c = subst (λ (l : List DrawopValue). Contains l d) p.1 (Contains-append_left ds p.0 d c)

wider : (ds es h : List DrawopValue) (ks : List ℕ) → Among ds es → All (HasOneOf ds h) ks → All (HasOneOf es h) ks
wider ds es h ks a all = All-weaker (HasOneOf ds h) (HasOneOf es h) (λ i x. (x.0, x.1, a x.0 x.2)) ks all

pub longer : (ds g h : List DrawopValue) (ks : List ℕ) → IsPrefix g h → All (HasOneOf ds g) ks → All (HasOneOf ds h) ks
longer ds g h ks p all = All-weaker (HasOneOf ds g) (HasOneOf ds h) (λ i x. (x.0, prefix_get g h i x.0 p x.1, x.2)) ks all

pub loses_wider : (n : ℕ) (ds es : List DrawopValue) (p q : PassValue) → Among ds es → Loses n ds p q → Loses n es p q
loses_wider n ds es p q a l = record { kept = l.kept; gained = l.gained; mine = l.mine; each = wider ds es q.seen l.gained a l.each; rows = l.rows }

rows_stay : (ds : List DrawopValue) (p q : PassValue) → Keeps p q → KeepsRows p q → Loses 0 ds p q
rows_stay ds p q k r = record { kept = k; gained = []; mine = r.0 ∙ sym (append-nil p.mine); each = All-nil (HasOneOf ds q.seen); rows = omega (arith, r.1) }

pub loses_is : (ds : List DrawopValue) (p q : PassValue) → q ≡ p → Loses 0 ds p q
loses_is ds p q e = rows_stay ds p q (keeps_is p q e) (ap (λ (x : PassValue). x.mine) e, ap (λ (x : PassValue). x.free) e)

-- one loss after another
pub lost_both : (m n : ℕ) (ds : List DrawopValue) (p q r : PassValue) → Loses m ds p q → Loses n ds q r → Loses (m + n) ds p r
lost_both m n ds p q r a b = record {
  kept = keeps_trans p q r a.kept b.kept;
  gained = a.gained ++ b.gained;
  mine = b.mine ∙ (ap (λ l. l ++ b.gained) a.mine ∙ append_assoc p.mine a.gained b.gained);
  each = All-append (HasOneOf ds r.seen) a.gained b.gained (longer ds q.seen r.seen a.gained b.kept.seen a.each) b.each;
  rows = omega (arith, a.rows, b.rows, length-append a.gained b.gained);
}

placed : (h : List DrawopValue) (es : List Entry) → AreAnswered h es → All (HasOneOf (drawops es) h) (places es)
placed h [] t = All-nil (HasOneOf [] h)
placed h ((d, New i) ∷ es) t =
    All-cons (HasOneOf (d ∷ drawops es) h) i (places es) (d, t.0, Contains-here d (drawops es)) (wider (drawops es) (d ∷ drawops es) h (places es) (λ x c. Contains-there d x (drawops es) c) (placed h es t.1))
placed h ((d, Again i) ∷ es) t = wider (drawops es) (d ∷ drawops es) h (places es) (λ x c. Contains-there d x (drawops es) c) (placed h es t.1)
placed h ((d, Clash i) ∷ es) t = wider (drawops es) (d ∷ drawops es) h (places es) (λ x c. Contains-there d x (drawops es) c) (placed h es t.1)
placed h ((d, Left) ∷ es) t = wider (drawops es) (d ∷ drawops es) h (places es) (λ x c. Contains-there d x (drawops es) c) (placed h es t.1)

-- no row is lost by the accepts of one desk
pub leaves_lose : (p q : PassValue) (es : List Entry) → Leaves p es q → Loses 0 (drawops es) p q
leaves_lose p q es l = record { kept = l.kept; gained = places es; mine = l.mine; each = placed q.seen es l.answered; rows = omega (arith, l.free, places_many es) }

pub accepts_lose : (p q : PassValue) (d : DrawopValue) (r : Reply) → Accepts p d (outcome r) q → Loses 0 (d ∷ []) p q
accepts_lose p q d r a = leaves_lose p q ((d, outcome r) ∷ []) (accept_leaves p q d (outcome r) a)

-- one drawop of a list was taken after others of it
pub one_more_loses : (ds : List DrawopValue) (p q r : PassValue) (i : ℕ) (d : DrawopValue) → i < length ds → d ≡ get_or ds i d → Loses 0 ds p q → Loses 0 (d ∷ []) q r → Loses 0 ds p r
one_more_loses ds p q r i d lt at l k =
    let here : Contains ds d = (i, lt, sym at) in
    lost_both 0 0 ds p q r l (loses_wider 0 (d ∷ []) ds q r (λ x c. ⊎_elim (λ (e : d ≡ x). subst (Contains ds) e here) (λ (n : Contains [] x). absurd (Contains-none x n)) (Contains-cases d x [] c)) k)

none_gained : (h : List DrawopValue) (ks : List ℕ) → All (HasOneOf [] h) ks → ks ≡ []
none_gained h [] all = refl
none_gained h (k ∷ ks) all = let x = All-head (HasOneOf [] h) k ks all in absurd (Contains-none x.0 x.2)

-- if no drawop was given, none was added
pub adds_none : (p q : PassValue) → IsSound p → IsSound q → Loses 0 [] p q → AddsNothing p q
adds_none p q sp sq l =
    let none = none_gained q.seen l.gained l.each in
    let mine : q.mine ≡ p.mine = l.mine ∙ (ap (λ g. p.mine ++ g) none ∙ append-nil p.mine) in
    let free : q.free ≡ p.free = omega (arith, l.rows, ap length none) in (
      (mine, free),
      λ w.
          let whole : IsWhole q = omega (arith, w, free, ap length mine, l.kept.same.1) in
          sym (prefix_whole p.seen q.seen l.kept.seen (omega (arith, sp.as_many w, sq.as_many whole, ap length mine))),
    )
