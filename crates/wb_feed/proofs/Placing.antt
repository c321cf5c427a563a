-- The drawops that workers accepted and those taken again are the drawops arrived.
use Rattle.std.proofs.Common.{◌≡◌, ℕ, zero, suc, ◌+◌, ◌≤◌, ◌<◌, ◌==◌, ◌||◌, Bool, true, false, true≢false, cond, List, [], ◌∷◌, ◌++◌, length, map, get_or, refl, ap, ap₂, sym, subst, ◌∙◌, arith, ⊎_elim, append_assoc, length-append}
use Rattle.std.proofs.lemmas.List.{map-append}
use Rattle.std.proofs.lemmas.Option.{get_or_from_slice_get}
use Rattle.std.proofs.lemmas.Bool.{cases_Bool, cases_lt}
use Rattle.std.specs.List.{range_with_len}
use Rattle.std.specs.List.Sorted.{IsPermutation}
use Rattle.std.proofs.lemmas.List.Sorted.{IsPermutation-map}
use mathlib.Core.List.{IsPrefix}
use Rattle.wb_names.specs.Values.{DrawopValue}
use Rattle.wb_names.specs.Arrivals.{New, Again, Clash, Left}
use Rattle.wb_board.specs.Desks.{PassValue}
use Rattle.wb_feed.specs.Accepts.{drawops}
use Rattle.wb_feed.proofs.Prefixes.{prefix_get}
use Rattle.wb_feed.proofs.Numbers.{times, times-append, times_apart, test_same, once_under, once_past, IsPermutation-times, times-range}
use Rattle.std.proofs.Math.Seq.{get_or-append_seam}
use Rattle.wb_feed.proofs.Drawops.{nothing, map_range}
use Rattle.wb_feed.proofs.Log.{is_taken, chosen, Gathers, gathers_none, gathers_level}
use Rattle.wb_feed.proofs.OneThread.{zero_plus}
use Rattle.wb_feed.specs.declared.channel.Message.{Message}
use Rattle.wb_feed.specs.declared.channel.Message.TheVariants.{Take, End}
use Rattle.wb_feed.specs.Inside.Channel.{spots, AreRight}
use Rattle.wb_feed.specs.Served.{once_below, Spot, entries, accepted_at, takes, offered, OffersRight, times_offered, Serves}
use Rattle.wb_feed.specs.Marks.{has, unmarked, Marks}
use Rattle.wb_feed.specs.Workers.{Workers, nobody, worker}
use Rattle.wb_feed.proofs.Rules.{spots-append}

abbrev free_places : ℕ → List Bool → List ℕ
free_places k [] = []
free_places k (m ∷ ms) = cond m (free_places (k + 1) ms) (k ∷ free_places (k + 1) ms)

unmarked_at : (a r : List DrawopValue) (ms : List Bool) (k : ℕ) → k ≡ length a → length ms ≡ length r → unmarked ms r ≡ map (λ i. get_or (a ++ r) i nothing) (free_places k ms)
unmarked_at a [] [] k e l = refl
unmarked_at a [] (m ∷ ms) k e l = absurd (omega (arith, l))
unmarked_at a (x ∷ r) [] k e l = absurd (omega (arith, l))
unmarked_at a (x ∷ r) (m ∷ ms) k e l =
    let b : List DrawopValue = a ++ x ∷ [] in
    let at = λ (i : ℕ). get_or (a ++ x ∷ r) i nothing in
    let here : at k ≡ x = rw e (get_or-append_seam a x r nothing) in
    let more : k + 1 ≡ length b = omega (arith, e, length-append a (x ∷ [])) in
    let same' : b ++ r ≡ a ++ x ∷ r = append_assoc a (x ∷ []) r in
    let rest : unmarked ms r ≡ map at (free_places (k + 1) ms) = unmarked_at b r ms (k + 1) more (omega (arith, l)) ∙ ap (λ l. map (λ i. get_or l i nothing) (free_places (k + 1) ms)) same' in
    elim m as (λ c. cond c (unmarked ms r) (x ∷ unmarked ms r) ≡ map at (cond c (free_places (k + 1) ms) (k ∷ free_places (k + 1) ms)))
    [ true ↦ rest | false ↦ ap₂ (λ y ys. y ∷ ys) (sym here) rest ]

here_once : (p k : ℕ) (ks : List ℕ) → k ≡ p → times p (k ∷ ks) ≡ 1 + times p ks
here_once p k ks e = ap (λ b. cond b 1 0 + times p ks) (test_same k p e)

free_low : (p k : ℕ) (ms : List Bool) → p < k → times p (free_places k ms) ≡ 0
free_low p k [] lt = refl
free_low p k (m ∷ ms) lt =
    let rest = free_low p (k + 1) ms (omega (arith, lt)) in
    elim m as (λ c. times p (cond c (free_places (k + 1) ms) (k ∷ free_places (k + 1) ms)) ≡ 0)
    [ true ↦ rest | false ↦ times_apart p k (free_places (k + 1) ms) (λ e. absurd (omega (arith, e, lt))) ∙ rest ]

free_high : (p k : ℕ) (ms : List Bool) → k + length ms ≤ p → times p (free_places k ms) ≡ 0
free_high p k [] le = refl
free_high p k (m ∷ ms) le =
    let rest = free_high p (k + 1) ms (omega (arith, le)) in
    elim m as (λ c. times p (cond c (free_places (k + 1) ms) (k ∷ free_places (k + 1) ms)) ≡ 0)
    [ true ↦ rest | false ↦ times_apart p k (free_places (k + 1) ms) (λ e. absurd (omega (arith, e, le))) ∙ rest ]

-- how often p stands among the places that are free, where p is the j-th of them
free_at : (p k j : ℕ) (ms : List Bool) → p ≡ k + j → j < length ms → times p (free_places k ms) ≡ cond (get_or ms j false) 0 1
free_at p k j [] e lt = absurd (omega (arith, lt))
free_at p k zero (m ∷ ms) e lt =
    let low = free_low p (k + 1) ms (omega (arith, e)) in
    let here : k ≡ p = omega (arith, e) in
    elim m as (λ c. times p (cond c (free_places (k + 1) ms) (k ∷ free_places (k + 1) ms)) ≡ cond c 0 1)
    [ true ↦ low | false ↦ omega (arith, low, here_once p k (free_places (k + 1) ms) here) ]
free_at p k (suc j) (m ∷ ms) e lt =
    let rest = free_at p (k + 1) j ms (omega (arith, e)) (omega (arith, lt)) in
    elim m as (λ c. times p (cond c (free_places (k + 1) ms) (k ∷ free_places (k + 1) ms)) ≡ cond (get_or ms j false) 0 1)
    [ true ↦ rest | false ↦ times_apart p k (free_places (k + 1) ms) (λ q. absurd (omega (arith, e, q))) ∙ rest ]

pub has_not : (p : ℕ) (ps : List ℕ) → has p ps ≡ false → times p ps ≡ 0
has_not p [] h = refl
has_not p (q ∷ ps) h = elim (q == p) as (λ b. (b || has p ps) ≡ false → cond b 1 0 + times p ps ≡ zero)
    [ true ↦ λ e. absurd (true≢false e) | false ↦ λ e. zero_plus (times p ps) ∙ has_not p ps e ] h

has_some : (p : ℕ) (ps : List ℕ) → has p ps ≡ true → (times p ps ≡ 0 → ⊥)
has_some p [] h = absurd (true≢false (sym h))
has_some p (q ∷ ps) h = elim (q == p) as (λ b. (b || has p ps) ≡ true → (cond b 1 0 + times p ps ≡ zero → ⊥))
    [ true ↦ λ e z. absurd (omega (arith, z)) | false ↦ λ e z. has_some p ps e (sym (zero_plus (times p ps)) ∙ z) ] h

each_once : (ps : List ℕ) (n : ℕ) (ms : List Bool) (p : ℕ) → Marks ps n ms → times p ps ≤ once_below p n → times p ps + times p (free_places 0 ms) ≡ once_below p n
each_once ps n ms p m most = ⊎_elim
    (λ (lt : p < n).
    let free = free_at p 0 p ms (sym (zero_plus p)) (omega (arith, lt, m.long)) in
    let mark = m.each p lt in
    ⊎_elim
    (λ (e : has p ps ≡ true). omega (arith, free ∙ ap (λ b. cond b 0 1) (mark ∙ e), has_some p ps e, most, once_under p n lt))
    (λ (e : has p ps ≡ false). omega (arith, free ∙ ap (λ b. cond b 0 1) (mark ∙ e), has_not p ps e, once_under p n lt)) (cases_Bool (has p ps)))
    (λ (le : n ≤ p). omega (arith, free_high p 0 ms (omega (arith, le, m.long)), most, once_past p n le)) (cases_lt p n)

-- what stands at the places, and what is not marked, is the whole list
pub places_and_rest : (ds : List DrawopValue) (ps : List ℕ) (ms : List Bool) → Marks ps (length ds) ms → ((p : ℕ) → times p ps ≤ once_below p (length ds))
    → IsPermutation ds (map (λ i. get_or ds i nothing) ps ++ unmarked ms ds)
places_and_rest ds ps ms m most =
    let n = length ds in
    let at = λ (i : ℕ). get_or ds i nothing in
    let free = free_places 0 ms in
    let all : IsPermutation (range_with_len 0 n) (ps ++ free) =
    IsPermutation-times (range_with_len 0 n) (ps ++ free) (λ p. omega (arith, times-range p 0 n, times-append p ps free, each_once ps n ms p m (most p), once_past p 0 (omega arith), ap (λ k. once_below p k) (zero_plus n))) in
    let whole : map at (range_with_len 0 n) ≡ ds = map_range [] ds 0 refl in
    let rest : unmarked ms ds ≡ map at free = unmarked_at [] ds ms 0 refl m.long in
    let moved : IsPermutation ds (map at (ps ++ free)) = subst (λ l. IsPermutation l (map at (ps ++ free))) whole (IsPermutation-map at (range_with_len 0 n) (ps ++ free) all) in
    subst (λ l. IsPermutation ds (map at ps ++ l)) (sym rest) (subst (λ l. IsPermutation ds l) (map-append at ps free) moved)

offers_append : (ds : List DrawopValue) (xs ys : List (ℕ × DrawopValue)) → OffersRight ds xs → OffersRight ds ys → OffersRight ds (xs ++ ys)
offers_append ds [] ys a b = b
offers_append ds (x ∷ xs) ys a b = (a.0, offers_append ds xs ys a.1 b)

offers_from : (sent ds : List DrawopValue) (ms : List Message) → IsPrefix sent ds → AreRight sent ms → OffersRight ds (takes ms)
offers_from sent ds [] p r = tt
offers_from sent ds (Take q d ∷ ms) p r = (prefix_get sent ds q d p r.0, offers_from sent ds ms p r.1)
offers_from sent ds (End ∷ ms) p r = offers_from sent ds ms p r.1

right_front : (sent : List DrawopValue) (xs ys : List Message) → AreRight sent (xs ++ ys) → AreRight sent xs × AreRight sent ys
right_front sent [] ys r = (tt, r)
right_front sent (x ∷ xs) ys r = let h = right_front sent xs ys r.1 in ((r.0, h.0), h.1)

pub serves_offer : {v w : PassValue} {log : List Spot} {gots : List Message} → (sent ds : List DrawopValue) → IsPrefix sent ds → AreRight sent gots → Serves v log gots w → OffersRight ds (offered log)
serves_offer {gots = gots} sent ds p r s = subst (λ l. OffersRight ds l) (sym s.offered) (offers_from sent ds gots p r)

pub workers_offer : {rows n : ℕ} {v w : PassValue} {log : List Spot} {gots : List Message} → (sent ds : List DrawopValue) → IsPrefix sent ds → AreRight sent gots → Workers rows n v log gots w → OffersRight ds (offered log)
workers_offer sent ds p r nobody = tt
workers_offer sent ds p r (worker es others got gots _ s c _) =
    let h = right_front sent gots got r in
    subst (λ l. OffersRight ds l) (sym (map-append (λ (s : Spot). (s.0, s.1.0)) es others)) (offers_append ds (offered es) (offered others) (serves_offer sent ds p h.1 s) (workers_offer sent ds p h.0 c))

offered_append : (p : ℕ) (xs ys : List (ℕ × DrawopValue)) → times_offered p (xs ++ ys) ≡ times_offered p xs + times_offered p ys
offered_append p [] ys = omega arith
offered_append p (x ∷ xs) ys = omega (arith, offered_append p xs ys)

pub accepted_few : (p : ℕ) (log : List Spot) → times p (accepted_at log) ≤ times_offered p (offered log)
accepted_few p [] = omega arith
accepted_few p ((q, (d, Left)) ∷ ss) = omega (arith, accepted_few p ss)
accepted_few p ((q, (d, New i)) ∷ ss) = omega (arith, accepted_few p ss)
accepted_few p ((q, (d, Again i)) ∷ ss) = omega (arith, accepted_few p ss)
accepted_few p ((q, (d, Clash i)) ∷ ss) = omega (arith, accepted_few p ss)

pub takes_spots : (p : ℕ) (ms : List Message) → times_offered p (takes ms) ≡ spots p ms
takes_spots p [] = refl
takes_spots p (Take q d ∷ ms) = omega (arith, takes_spots p ms)
takes_spots p (End ∷ ms) = omega (arith, takes_spots p ms)

-- what was offered stands among the messages that were received, each as often
pub serves_offered : {v w : PassValue} {log : List Spot} {gots : List Message} → (p : ℕ) → Serves v log gots w → times_offered p (offered log) ≡ spots p gots
serves_offered {gots = gots} p s = ap (times_offered p) s.offered ∙ takes_spots p gots

pub workers_offered : {rows n : ℕ} {v w : PassValue} {log : List Spot} {gots : List Message} → (p : ℕ) → Workers rows n v log gots w → times_offered p (offered log) ≡ spots p gots
workers_offered p nobody = refl
workers_offered p (worker es others got gots _ s c _) =
    omega (arith, ap (times_offered p) (map-append (λ (s : Spot). (s.0, s.1.0)) es others), offered_append p (offered es) (offered others), serves_offered p s, workers_offered p c, spots-append p gots got)

pub workers_gather : {rows n : ℕ} {v w : PassValue} {log : List Spot} {gots : List Message} → Workers rows n v log gots w → Gathers v (entries log) w
workers_gather {v = v} nobody = gathers_none v
workers_gather {rows = rows} (worker {p = v} {rest = x} {back = y} {q = w} {desk = u₀} {done = u} es others got gots p s c b) =
    subst (λ l. Gathers v l w) (sym (map-append (λ (s : Spot). s.1) es others)) (gathers_level v x y w u₀ u rows (entries es) (entries others) p s.runs (workers_gather c) b)

pub taken_at : (ds : List DrawopValue) (log : List Spot) → OffersRight ds (offered log) → drawops (chosen is_taken (entries log)) ≡ map (λ i. get_or ds i nothing) (accepted_at log)
taken_at ds [] o = refl
taken_at ds ((q, (d, Left)) ∷ ss) o = taken_at ds ss o.1
taken_at ds ((q, (d, New i)) ∷ ss) o = ap₂ (λ x xs. x ∷ xs) (sym (get_or_from_slice_get ds q d nothing o.0)) (taken_at ds ss o.1)
taken_at ds ((q, (d, Again i)) ∷ ss) o = ap₂ (λ x xs. x ∷ xs) (sym (get_or_from_slice_get ds q d nothing o.0)) (taken_at ds ss o.1)
taken_at ds ((q, (d, Clash i)) ∷ ss) o = ap₂ (λ x xs. x ∷ xs) (sym (get_or_from_slice_get ds q d nothing o.0)) (taken_at ds ss o.1)
