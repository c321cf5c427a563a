-- Each step keeps the rule of the channel.
use Rattle.std.proofs.Common.{◌≡◌, ◌≢◌, ◌⊎◌, ℕ, zero, suc, ◌+◌, ◌-◌, ◌≤◌, ◌<◌, ◌==◌, true, false, true≢false, cond, List, [], ◌∷◌, ◌++◌, length, set, Some, slice_get, sym, refl, ap, ◌∙◌, subst, inl, inr, ⊎_elim, arith, length-append}
use Rattle.std.proofs.lemmas.List.{append-nil}
use Rattle.std.proofs.lemmas.Bool.Decides.{nat_tests}
use mathlib.Core.Option.{some, some-injective, some-ne-none}
use mathlib.Core.List.{IsPrefix}
use lib.ListN.{get_elem?}
use Rattle.crossbeam_channel.specs.Fifo.{Pushes, Pops, Forks, Merges, Learns}
use Rattle.wb_names.specs.Values.{DrawopValue}
use Rattle.wb_feed.proofs.Numbers.{once_step}
use Rattle.wb_feed.proofs.Prefixes.{prefix_get}
use Rattle.wb_feed.specs.declared.channel.Message.{Message}
use Rattle.wb_feed.specs.declared.channel.Message.TheVariants.{Take, End}
use Rattle.wb_feed.specs.declared.channel.ChannelView.{ChannelView}
use Rattle.wb_feed.specs.Inside.Sent.{IsNext}
use Rattle.wb_feed.specs.Inside.Channel.{channel_view, sent_with, sends, receives, spots, IsRight, AreRight, IsBelow, AreBelow, Follows, IsRow, total, Fits, Kept, IsComplete}

-- what stands in a list after one element was set, and after one was put at the end
at_set : (views : List ChannelView) (pass j : ℕ) (v w : ChannelView) → get_elem? (set views pass v) j ≡ some w → ((j ≡ pass) × (v ≡ w)) ⊎ ((j ≢ pass) × (get_elem? views j ≡ some w))
at_set [] pass j v w e = absurd (some-ne-none w (sym e))
at_set (u ∷ us) zero zero v w e = inl (refl, some-injective v w e)
at_set (u ∷ us) zero (suc j) v w e = inr ((λ q. absurd (omega (arith, q))), e)
at_set (u ∷ us) (suc pass) zero v w e = inr ((λ q. absurd (omega (arith, q))), e)
at_set (u ∷ us) (suc pass) (suc j) v w e =
    ⊎_elim (λ (x : (j ≡ pass) × (v ≡ w)). inl (ap suc x.0, x.1))
    (λ (x : (j ≢ pass) × (get_elem? us j ≡ some w)). inr ((λ q. x.0 (omega (arith, q))), x.1)) (at_set us pass j v w e)

at_snoc : (views : List ChannelView) (r w : ChannelView) (j : ℕ) → get_elem? (views ++ r ∷ []) j ≡ some w → (get_elem? views j ≡ some w) ⊎ (r ≡ w)
at_snoc [] r w zero e = inr (some-injective r w e)
at_snoc [] r w (suc j) e = absurd (some-ne-none w (sym e))
at_snoc (u ∷ us) r w zero e = inl e
at_snoc (u ∷ us) r w (suc j) e = at_snoc us r w j e

total_set : (f : ChannelView → ℕ) (views : List ChannelView) (pass : ℕ) (v w : ChannelView) → get_elem? views pass ≡ some v → total f (set views pass w) + f v ≡ total f views + f w
total_set f [] pass v w at = absurd (some-ne-none v (sym at))
total_set f (u ∷ us) zero v w at = omega (arith, ap f (some-injective u v at))
total_set f (u ∷ us) (suc pass) v w at = omega (arith, total_set f us pass v w at)

total_snoc : (f : ChannelView → ℕ) (views : List ChannelView) (v : ChannelView) → total f (views ++ v ∷ []) ≡ total f views + f v
total_snoc f [] v = omega arith
total_snoc f (u ∷ us) v = omega (arith, total_snoc f us v)

total_at : (f : ChannelView → ℕ) (views : List ChannelView) (pass : ℕ) (v : ChannelView) → get_elem? views pass ≡ some v → f v ≤ total f views
total_at f [] pass v at = absurd (some-ne-none v (sym at))
total_at f (u ∷ us) zero v at = omega (arith, ap f (some-injective u v at))
total_at f (u ∷ us) (suc pass) v at = omega (arith, total_at f us pass v at)

total_none : (f g : ChannelView → ℕ) (views : List ChannelView) → total f views ≡ 0 → ((j : ℕ) (u : ChannelView) → get_elem? views j ≡ some u → f u ≡ 0 → g u ≡ 0) → total g views ≡ 0
total_none f g [] all none = refl
total_none f g (u ∷ us) all none = omega (arith, none 0 u refl (omega (arith, all)), total_none f g us (omega (arith, all)) (λ j w e z. none (suc j) w e z))

-- where a pass has all that f counts, the others have none
total_alone : (f g : ChannelView → ℕ) (views : List ChannelView) (pass : ℕ) (v : ChannelView) → get_elem? views pass ≡ some v → total f views ≡ f v
    → ((j : ℕ) (u : ChannelView) → get_elem? views j ≡ some u → f u ≡ 0 → g u ≡ 0) → total g views ≡ g v
total_alone f g [] pass v at all none = absurd (some-ne-none v (sym at))
total_alone f g (u ∷ us) zero v at all none =
    let here : u ≡ v = some-injective u v at in
    let rest : total f us ≡ 0 = omega (arith, all, ap f here) in
    omega (arith, ap g here, total_none f g us rest (λ j w e z. none (suc j) w e z))
total_alone f g (u ∷ us) (suc pass) v at all none =
    let some' = total_at f us pass v at in
    let z : f u ≡ 0 = omega (arith, all, some') in
    omega (arith, none 0 u refl z, total_alone f g us pass v at (omega (arith, all, z)) (λ j w e zz. none (suc j) w e zz))

pub spots-append : (p : ℕ) (xs ys : List Message) → spots p (xs ++ ys) ≡ spots p xs + spots p ys
spots-append p [] ys = omega arith
spots-append p (x ∷ xs) ys = omega (arith, spots-append p xs ys)

longer : (sent : List DrawopValue) (x : Message) → IsPrefix sent (sent_with sent x)
longer sent (Take p d) = (d ∷ [], refl)
longer sent End = ([], append-nil sent)

right_longer : (g h : List DrawopValue) (m : Message) → IsPrefix g h → IsRight g m → IsRight h m
right_longer g h (Take p d) e r = prefix_get g h p d e r
right_longer g h End e r = tt

all_right_longer : (g h : List DrawopValue) (ms : List Message) → IsPrefix g h → AreRight g ms → AreRight h ms
all_right_longer g h [] e r = tt
all_right_longer g h (m ∷ ms) e r = (right_longer g h m e r.0, all_right_longer g h ms e r.1)

all_right_append : (sent : List DrawopValue) (xs ys : List Message) → AreRight sent xs → AreRight sent ys → AreRight sent (xs ++ ys)
all_right_append sent [] ys a b = b
all_right_append sent (x ∷ xs) ys a b = (a.0, all_right_append sent xs ys a.1 b)

below_more : (m n : ℕ) (x : Message) → m ≤ n → IsBelow m x → IsBelow n x
below_more m n (Take p d) le b = omega (arith, le, b)
below_more m n End le b = tt

all_below_more : (m n : ℕ) (xs : List Message) → m ≤ n → AreBelow m xs → AreBelow n xs
all_below_more m n [] le b = tt
all_below_more m n (x ∷ xs) le b = (below_more m n x le b.0, all_below_more m n xs le b.1)

all_below_append : (n : ℕ) (xs ys : List Message) → AreBelow n xs → AreBelow n ys → AreBelow n (xs ++ ys)
all_below_append n [] ys a b = b
all_below_append n (x ∷ xs) ys a b = (a.0, all_below_append n xs ys a.1 b)

slice_last : (xs : List DrawopValue) (d : DrawopValue) (p : ℕ) → p ≡ length xs → slice_get (xs ++ d ∷ []) p ≡ Some d
slice_last [] d p e = rw e refl
slice_last (x ∷ xs) d zero e = absurd (omega (arith, e))
slice_last (x ∷ xs) d (suc p) e = slice_last xs d p (omega (arith, e))

row_more : (sent : List DrawopValue) (low : ℕ) (items : List Message) (x : Message) → IsRow sent low items → IsNext sent x → IsRow (sent_with sent x) low (items ++ x ∷ [])
row_more sent low [] (Take p d) r n = (n ∙ sym r, slice_last sent d p n, omega (arith, r, length-append sent (d ∷ [])))
row_more sent low [] End r n = r
row_more sent low (Take q e ∷ items) x r n = (r.0, prefix_get sent (sent_with sent x) q e (longer sent x) r.1, row_more sent (low + 1) items x r.2 n)
row_more sent low (End ∷ items) x r n = row_more sent low items x r n

row_most : (sent : List DrawopValue) (low : ℕ) (items : List Message) → IsRow sent low items → low ≤ length sent
row_most sent low [] r = omega (arith, r)
row_most sent low (Take q e ∷ items) r = omega (arith, row_most sent (low + 1) items r.2)
row_most sent low (End ∷ items) r = row_most sent low items r

each_set : (seat : ℕ) (sent : List DrawopValue) (low : ℕ) (views : List ChannelView) (pass : ℕ) (w : ChannelView) → Fits seat sent low pass w
    → ((j : ℕ) (u : ChannelView) → j ≢ pass → get_elem? views j ≡ some u → Fits seat sent low j u) → (j : ℕ) (u : ChannelView) → get_elem? (set views pass w) j ≡ some u → Fits seat sent low j u
each_set seat sent low views pass w mine others j u e =
    ⊎_elim (λ (x : (j ≡ pass) × (w ≡ u)). subst (λ (y : ℕ × ChannelView). Fits seat sent low y.0 y.1) (λ i. (sym x.0 i, x.1 i)) mine)
    (λ (x : (j ≢ pass) × (get_elem? views j ≡ some u)). others j u x.0 x.1) (at_set views pass j w u e)

only : (i : ℕ) (w : ChannelView) → get_elem? (channel_view 16 true [] [] ∷ []) i ≡ some w → i ≡ 0
only zero w at = refl
only (suc i) w at = absurd (some-ne-none w (sym at))

pub begins : Kept [] (channel_view 16 true [] [] ∷ [])
begins = record {
  seat = 0;
  sent = [];
  low = 0;
  row = refl;
  each = λ j u e. each_set 0 [] 0 (channel_view 16 true [] [] ∷ []) 0 (channel_view 16 true [] []) (record { sender = λ _. (refl, refl); right = tt; below = tt; idle = λ _. refl })
      (λ i w apart at. absurd (apart (only i w at))) j u e;
  parts = refl;
  once = λ p. grind (arith, nat_tests);
}

pub sends_kept : (n pass : ℕ) (v : ChannelView) (x : Message) → v.sends ≡ true → IsNext v.sent x → Pushes Kept n pass v x (λ w. w ≡ sends v x)
sends_kept n pass v x may next items views room h at =
    let mine = h.each pass v at in
    let who = mine.sender may in
    let w = sends v x in
    let next' : IsNext h.sent x = subst (λ (s : List DrawopValue). IsNext s x) who.1 next in (
      w,
      record {
        seat = h.seat;
        sent = sent_with h.sent x;
        low = h.low;
        row = row_more h.sent h.low items x h.row next';
        each = each_set h.seat (sent_with h.sent x) h.low views pass w
            (record { sender = λ _. (who.0, ap (λ s. sent_with s x) who.1); right = all_right_longer h.sent (sent_with h.sent x) v.got (longer h.sent x) mine.right; below = mine.below; idle = mine.idle })
            (λ j u other e. let theirs = h.each j u e in record {
              sender = λ p. absurd (other ((theirs.sender p).0 ∙ sym who.0));
              right = all_right_longer h.sent (sent_with h.sent x) u.got (longer h.sent x) theirs.right;
              below = theirs.below;
              idle = theirs.idle;
            });
        parts = omega (arith, total_set (λ u. u.parts) views pass v w at, h.parts);
        once = λ p. omega (arith, total_set (λ u. spots p u.got) views pass v w at, h.once p);
      },
      refl,
    )

abbrev one_at : ℕ → ℕ → ℕ
one_at a b = cond (a == b) 1 0

pub receives_kept : (pass : ℕ) (v : ChannelView) → 0 < v.parts → Pops Kept pass v (λ x w. (w ≡ receives v x) × Follows v.got x)
receives_kept pass v some_part (Take p d) items views h at =
    let mine = h.each pass v at in
    let x = Take p d in
    let w = receives v x in
    let up : h.low ≤ h.low + 1 = omega arith in
    let here : p < h.low + 1 = omega (arith, h.row.0) in (
      w,
      record {
        seat = h.seat;
        sent = h.sent;
        low = h.low + 1;
        row = h.row.2;
        each = each_set h.seat h.sent (h.low + 1) views pass w
            (record {
              sender = mine.sender;
              right = all_right_append h.sent v.got (x ∷ []) mine.right (h.row.1, tt);
              below = all_below_append (h.low + 1) v.got (x ∷ []) (all_below_more h.low (h.low + 1) v.got up mine.below) (here, tt);
              idle = λ none. absurd (omega (arith, none, some_part));
            })
            (λ j u other e. let theirs = h.each j u e in record { sender = theirs.sender; right = theirs.right; below = all_below_more h.low (h.low + 1) u.got up theirs.below; idle = theirs.idle });
        parts = omega (arith, total_set (λ u. u.parts) views pass v w at, h.parts);
        once = λ q. let same : one_at h.low q ≡ one_at p q = ap (λ k. one_at k q) (sym h.row.0) in
            omega (arith, total_set (λ u. spots q u.got) views pass v w at, h.once q, spots-append q v.got (x ∷ []), once_step q h.low, same);
      },
      (refl, subst (λ (k : ℕ). AreBelow k v.got) (sym h.row.0) mine.below),
    )
receives_kept pass v some_part End items views h at =
    let mine = h.each pass v at in
    let w = receives v End in (
      w,
      record {
        seat = h.seat;
        sent = h.sent;
        low = h.low;
        row = h.row;
        each = each_set h.seat h.sent h.low views pass w
            (record {
              sender = mine.sender;
              right = all_right_append h.sent v.got (End ∷ []) mine.right (tt, tt);
              below = all_below_append h.low v.got (End ∷ []) mine.below (tt, tt);
              idle = λ none. absurd (omega (arith, none, some_part));
            })
            (λ j u other e. h.each j u e);
        parts = omega (arith, total_set (λ u. u.parts) views pass v w at, h.parts);
        once = λ q. omega (arith, total_set (λ u. spots q u.got) views pass v w at, h.once q, spots-append q v.got (End ∷ []));
      },
      (refl, tt),
    )

pub forks_kept : (pass : ℕ) (v : ChannelView) → 1 < v.parts → Forks Kept pass v (channel_view (v.parts - 1) v.sends v.sent v.got) (channel_view 1 false [] [])
forks_kept pass v some_parts items views h at =
    let mine = h.each pass v at in
    let l = channel_view (v.parts - 1) v.sends v.sent v.got in
    let r = channel_view 1 false [] [] in
    let vs : List ChannelView = set views pass l in
    let old = each_set h.seat h.sent h.low views pass l (record { sender = mine.sender; right = mine.right; below = mine.below; idle = λ none. absurd (omega (arith, none, some_parts)) }) (λ j u other e. h.each j u e) in
    record {
      seat = h.seat;
      sent = h.sent;
      low = h.low;
      row = h.row;
      each = λ j u e. ⊎_elim (λ x. old j u x)
          (λ (is : r ≡ u). subst (λ (y : ChannelView). Fits h.seat h.sent h.low j y) is (record { sender = λ p. absurd (true≢false (sym p)); right = tt; below = tt; idle = λ _. refl })) (at_snoc vs r u j e);
      parts = omega (arith, total_set (λ u. u.parts) views pass v l at, total_snoc (λ u. u.parts) vs r, h.parts, some_parts);
      once = λ q. omega (arith, total_set (λ u. spots q u.got) views pass v l at, total_snoc (λ u. spots q u.got) vs r, h.once q);
    }

pub merges_kept : (pass : ℕ) (v : ChannelView) (other : ℕ) (u : ChannelView) → Merges Kept pass v other u (channel_view (v.parts + u.parts) v.sends v.sent (v.got ++ u.got)) (channel_view 0 false [] [])
merges_kept pass v other u items views h at two at' =
    let mine = h.each pass v at in
    let both = channel_view (v.parts + u.parts) v.sends v.sent (v.got ++ u.got) in
    let gone = channel_view 0 false [] [] in
    let vs : List ChannelView = set views pass both in
    let was : get_elem? views other ≡ some u = ⊎_elim (λ x. absurd (two x.0)) (λ x. x.1) (at_set views pass other both u at') in
    let theirs = h.each other u was in
    let now = each_set h.seat h.sent h.low views pass both (record {
      sender = mine.sender;
      right = all_right_append h.sent v.got u.got mine.right theirs.right;
      below = all_below_append h.low v.got u.got mine.below theirs.below;
      idle = λ none. let a : v.parts ≡ 0 = omega (arith, none) in let b : u.parts ≡ 0 = omega (arith, none) in ap (λ l. l ++ u.got) (mine.idle a) ∙ theirs.idle b;
    }) (λ j y apart e. h.each j y e) in
    record {
      seat = h.seat;
      sent = h.sent;
      low = h.low;
      row = h.row;
      each = each_set h.seat h.sent h.low vs other gone (record { sender = λ p. absurd (true≢false (sym p)); right = tt; below = tt; idle = λ _. refl }) (λ j y apart e. now j y e);
      parts = omega (arith, total_set (λ y. y.parts) views pass v both at, total_set (λ y. y.parts) vs other u gone at', h.parts);
      once = λ q. omega (arith, total_set (λ y. spots q y.got) views pass v both at, total_set (λ y. spots q y.got) vs other u gone at', h.once q, spots-append q v.got u.got);
    }

pub learns_kept : (pass : ℕ) (v : ChannelView) → v.sends ≡ true → v.parts ≡ 16 → Learns Kept pass v (λ items. IsComplete v)
learns_kept pass v may all items views h at =
    let mine = h.each pass v at in
    let who = mine.sender may in
    record {
      low = h.low;
      most = omega (arith, row_most h.sent h.low items h.row, ap length who.1);
      right = subst (λ (s : List DrawopValue). AreRight s v.got) (sym who.1) mine.right;
      once = λ p. sym (total_alone (λ u. u.parts) (λ u. spots p u.got) views pass v at (h.parts ∙ sym all) (λ j u e none. ap (spots p) ((h.each j u e).idle none))) ∙ h.once p;
    }
