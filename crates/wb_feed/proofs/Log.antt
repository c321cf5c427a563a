-- What a log tells of the desks that made it.
use Rattle.std.proofs.Common.{◌≡◌, ℕ, ◌+◌, ◌≤◌, ◌<◌, Bool, true, false, not, sum_by, filter, map, List, [], ◌∷◌, ◌++◌, length, refl, ap, sym, subst, ◌∙◌, arith, append_assoc, length-append}
use Rattle.std.proofs.lemmas.List.{append-nil, map-append}
use Rattle.std.specs.List.Sorted.{IsPermutation}
use Rattle.std.proofs.lemmas.List.Sums.{sum_by-cons}
use Rattle.std.proofs.lemmas.List.Sorted.{IsPermutation-map, IsPermutation-filter_both, sum_by-IsPermutation}
use mathlib.Core.List.{IsPrefix}
use Rattle.wb_names.specs.Values.{DrawopValue}
use Rattle.wb_names.specs.History.{IsAgainAt, IsClashAt}
use Rattle.wb_names.specs.Arrivals.{Outcome, New, Again, Clash, Left, Counts, counts, counts_of}
use Rattle.wb_board.specs.Desks.{PassValue, AddsNothing, IsSound, IsWhole, IsSplit}
use Rattle.wb_feed.specs.Accepts.{Keeps, Accepts, Entry, drawops, outcomes, tally, Runs}
use Rattle.wb_feed.proofs.Prefixes.{prefix_self, prefix_is, prefix_trans, prefix_get}
use Rattle.wb_feed.specs.Served.{once_below, is_left}
use Rattle.wb_feed.specs.Workers.{IsBack}
use Rattle.wb_feed.proofs.Numbers.{times, times-append, each_once}
use Rattle.wb_feed.proofs.OneThread.{plus, same_counts, counts_of-append}

-- what was not left
abbrev pub is_taken : Outcome → Bool
is_taken o = not (is_left o)

-- the entries with such an outcome
abbrev pub chosen : (Outcome → Bool) → List Entry → List Entry
chosen p es = filter (λ e. p e.1) es

-- the places that were gained
abbrev pub place : Outcome → List ℕ
place (New i) = i ∷ []
place (Again i) = []
place (Clash i) = []
place Left = []

abbrev pub places : List Entry → List ℕ
places [] = []
places (e ∷ es) = place e.1 ++ places es

-- what an outcome says of a list, and so of each longer one
abbrev pub Says : List DrawopValue → DrawopValue → Outcome → Type 0
Says h d (New i) = IsAgainAt h d i
Says h d (Again i) = IsAgainAt h d i
Says h d (Clash i) = IsClashAt h d i
Says h d Left = Unit {0}

abbrev pub AreAnswered : List DrawopValue → List Entry → Type 0
AreAnswered h [] = Unit {0}
AreAnswered h (e ∷ es) = Says h e.0 e.1 × AreAnswered h es

pub record Sum (m n s : Counts) : Type 0 where
  pub fresh : s.fresh ≡ m.fresh + n.fresh
  pub again : s.again ≡ m.again + n.again
  pub clash : s.clash ≡ m.clash + n.clash
  pub left : s.left ≡ m.left + n.left

pub tally-append : (xs ys : List Entry) → Sum (tally xs) (tally ys) (tally (xs ++ ys))
tally-append [] ys = record { fresh = omega arith; again = omega arith; clash = omega arith; left = omega arith }
tally-append ((d, New i) ∷ xs) ys = let s = tally-append xs ys in record { fresh = omega arith; again = s.again; clash = s.clash; left = s.left }
tally-append ((d, Again i) ∷ xs) ys = let s = tally-append xs ys in record { fresh = s.fresh; again = omega arith; clash = s.clash; left = s.left }
tally-append ((d, Clash i) ∷ xs) ys = let s = tally-append xs ys in record { fresh = s.fresh; again = s.again; clash = omega arith; left = s.left }
tally-append ((d, Left) ∷ xs) ys = let s = tally-append xs ys in record { fresh = s.fresh; again = s.again; clash = s.clash; left = omega arith }

tally_sum : (pick : Counts → ℕ) → pick (counts 0 0 0 0) ≡ 0 → ((m n : Counts) → pick (plus m n) ≡ pick m + pick n) → (es : List Entry) → pick (tally es) ≡ sum_by (λ e. pick (tally (e ∷ []))) es
tally_sum pick zero adds [] = zero
tally_sum pick zero adds (e ∷ es) = ap pick (counts_of-append (e.1 ∷ []) (outcomes es)) ∙ (adds (tally (e ∷ [])) (tally es) ∙ (ap (λ n. pick (tally (e ∷ [])) + n) (tally_sum pick zero adds es) ∙ sym (sum_by-cons (λ (e : Entry). pick (tally (e ∷ []))) e es)))

-- in another order the counts are the same
pub tally_moved : (xs ys : List Entry) → IsPermutation xs ys → tally ys ≡ tally xs
tally_moved xs ys moved = same_counts (one (λ c. c.fresh) refl (λ m n. refl)) (one (λ c. c.again) refl (λ m n. refl)) (one (λ c. c.clash) refl (λ m n. refl)) (one (λ c. c.left) refl (λ m n. refl))
  where
    one : (pick : Counts → ℕ) → pick (counts 0 0 0 0) ≡ 0 → ((m n : Counts) → pick (plus m n) ≡ pick m + pick n) → pick (tally ys) ≡ pick (tally xs)
    one pick zero adds = tally_sum pick zero adds ys ∙ (sum_by-IsPermutation (λ (e : Entry). pick (tally (e ∷ []))) xs ys moved ∙ sym (tally_sum pick zero adds xs))

pub taken_tally : (es : List Entry) → tally (chosen is_taken es) ≡ counts (tally es).fresh (tally es).again (tally es).clash 0
taken_tally [] = refl
taken_tally ((d, New i) ∷ es) = ap (λ (k : Counts). record k { fresh = k.fresh + 1 }) (taken_tally es)
taken_tally ((d, Again i) ∷ es) = ap (λ (k : Counts). record k { again = k.again + 1 }) (taken_tally es)
taken_tally ((d, Clash i) ∷ es) = ap (λ (k : Counts). record k { clash = k.clash + 1 }) (taken_tally es)
taken_tally ((d, Left) ∷ es) = taken_tally es

pub one_kind : (o : Outcome) → (counts_of (o ∷ [])).fresh + (counts_of (o ∷ [])).again + (counts_of (o ∷ [])).clash + (counts_of (o ∷ [])).left ≡ 1
one_kind (New i) = omega arith
one_kind (Again i) = omega arith
one_kind (Clash i) = omega arith
one_kind Left = omega arith

drawops-map : (es : List Entry) → map (λ e. e.0) es ≡ drawops es
drawops-map [] = refl
drawops-map (e ∷ es) = ap (λ l. e.0 ∷ l) (drawops-map es)

pub moved_drawops : (xs ys : List Entry) → IsPermutation xs ys → IsPermutation (drawops xs) (drawops ys)
moved_drawops xs ys moved = subst (λ (l : List DrawopValue × List DrawopValue). IsPermutation l.0 l.1) (λ i. (drawops-map xs i, drawops-map ys i)) (IsPermutation-map (λ (e : Entry). e.0) xs ys moved)

-- each drawop was taken or left
pub taken_or_left : (log : List Entry) → IsPermutation (drawops log) (drawops (chosen is_taken log) ++ drawops (chosen is_left log))
taken_or_left log =
    let parts = IsPermutation-filter_both (λ (e : Entry). is_taken e.1) (λ (e : Entry). is_left e.1) (λ e. back (is_left e.1)) log in
    subst (λ l. IsPermutation (drawops log) l) (map-append (λ (e : Entry). e.0) (chosen is_taken log) (chosen is_left log)) (moved_drawops log (chosen is_taken log ++ chosen is_left log) parts)
  where
    back : (b : Bool) → b ≡ not (not b)
    back true = refl
    back false = refl

pub places-append : (xs ys : List Entry) → places (xs ++ ys) ≡ places xs ++ places ys
places-append [] ys = refl
places-append (x ∷ xs) ys = ap (λ l. place x.1 ++ l) (places-append xs ys) ∙ sym (append_assoc (place x.1) (places xs) (places ys))

pub places_many : (es : List Entry) → length (places es) ≡ (tally es).fresh
places_many [] = refl
places_many ((d, New i) ∷ es) = omega (arith, places_many es)
places_many ((d, Again i) ∷ es) = places_many es
places_many ((d, Clash i) ∷ es) = places_many es
places_many ((d, Left) ∷ es) = places_many es

pub left_many : (es : List Entry) → (tally es).left ≡ length (drawops (chosen is_left es))
left_many [] = refl
left_many ((d, New i) ∷ es) = left_many es
left_many ((d, Again i) ∷ es) = left_many es
left_many ((d, Clash i) ∷ es) = left_many es
left_many ((d, Left) ∷ es) = omega (arith, left_many es)

says_longer : (g h : List DrawopValue) (d : DrawopValue) (o : Outcome) → IsPrefix g h → Says g d o → Says h d o
says_longer g h d (New i) p s = prefix_get g h i d p s
says_longer g h d (Again i) p s = prefix_get g h i d p s
says_longer g h d (Clash i) p s = (s.0, prefix_get g h i s.0 p s.1, s.2, s.3)
says_longer g h d Left p s = tt

pub answered_longer : (g h : List DrawopValue) (es : List Entry) → IsPrefix g h → AreAnswered g es → AreAnswered h es
answered_longer g h [] p t = tt
answered_longer g h (e ∷ es) p t = (says_longer g h e.0 e.1 p t.0, answered_longer g h es p t.1)

pub answered_append : (h : List DrawopValue) (xs ys : List Entry) → AreAnswered h xs → AreAnswered h ys → AreAnswered h (xs ++ ys)
answered_append h [] ys s t = t
answered_append h (x ∷ xs) ys s t = (s.0, answered_append h xs ys s.1 t)

-- a run and one accept more
pub runs_more : (p q r : PassValue) (es : List Entry) (d : DrawopValue) (o : Outcome) → Runs p es q → Accepts q d o r → Runs p (es ++ (d, o) ∷ []) r
runs_more p q r [] d o run a = (r, rw (← run) a, refl)
runs_more p q r (e ∷ es) d o run a = (run.0, run.1, runs_more run.0 q r es d o run.2 a)

-- what the accepts of one desk leave
pub record Leaves (p : PassValue) (es : List Entry) (q : PassValue) : Type 0 where
  pub kept : Keeps p q
  pub mine : q.mine ≡ p.mine ++ places es
  pub free : q.free + (tally es).fresh ≡ p.free
  pub answered : AreAnswered q.seen es

-- an outcome that gained nothing
leaves_rows : (p q : PassValue) (d : DrawopValue) (o : Outcome) → place o ≡ [] → (tally ((d, o) ∷ [])).fresh ≡ 0 → Keeps p q → AddsNothing p q → Says q.seen d o → Leaves p ((d, o) ∷ []) q
leaves_rows p q d o none zero k a says = record {
  kept = k;
  mine = a.0.0 ∙ sym (ap (λ l. p.mine ++ (l ++ [])) none ∙ append-nil p.mine);
  free = omega (arith, a.0.1, zero);
  answered = (says, tt);
}

pub accept_leaves : (p q : PassValue) (d : DrawopValue) (o : Outcome) → Accepts p d o q → Leaves p ((d, o) ∷ []) q
accept_leaves p q d (New i) a = record { kept = a.kept; mine = a.becomes.gains; free = a.becomes.row; answered = (a.becomes.drawop, tt) }
accept_leaves p q d (Again i) a = leaves_rows p q d (Again i) refl refl a.kept a.becomes.1 a.becomes.0
accept_leaves p q d (Clash i) a = leaves_rows p q d (Clash i) refl refl a.kept a.becomes.1 a.becomes.0
accept_leaves p q d Left a = leaves_rows p q d Left refl refl a.kept a.becomes.kept tt

pub keeps_self : (p : PassValue) → Keeps p p
keeps_self p = record { same = (refl, refl); seen = prefix_self p.seen }

pub keeps_is : (p q : PassValue) → q ≡ p → Keeps p q
keeps_is p q e = rw e (keeps_self p)

pub keeps_trans : (p q r : PassValue) → Keeps p q → Keeps q r → Keeps p r
keeps_trans p q r a b = record { same = (b.same.0 ∙ a.same.0, b.same.1 ∙ a.same.1); seen = prefix_trans p.seen q.seen r.seen a.seen b.seen }

pub runs_leave : (p q : PassValue) (es : List Entry) → Runs p es q → Leaves p es q
runs_leave p q [] r = record {
  kept = keeps_is p q r;
  mine = ap (λ (x : PassValue). x.mine) r ∙ sym (append-nil p.mine);
  free = omega (arith, ap (λ (x : PassValue). x.free) r);
  answered = tt;
}
runs_leave p q (e ∷ es) r =
    let a = accept_leaves p r.0 e.0 e.1 r.1 in
    let b = runs_leave r.0 q es r.2 in
    let s = tally-append (e ∷ []) es in
    record {
      kept = keeps_trans p r.0 q a.kept b.kept;
      mine = b.mine ∙ (ap (λ l. l ++ places es) (a.mine ∙ ap (λ l. p.mine ++ l) (append-nil (place e.1))) ∙ append_assoc p.mine (place e.1) (places es));
      free = omega (arith, a.free, b.free, s.fresh);
      answered = (says_longer r.0.seen q.seen e.0 e.1 b.kept.seen a.answered.0, b.answered);
    }

-- a desk that owns all rows still does
pub leaves_whole : (p q : PassValue) (es : List Entry) → Leaves p es q → IsWhole p → IsWhole q
leaves_whole p q es l w = omega (arith, l.free, ap length l.mine, length-append p.mine (places es), places_many es, l.kept.same.1, w)

pub runs_sound : (p q : PassValue) (es : List Entry) → IsSound p → Runs p es q → IsSound q
runs_sound p q [] s r = subst IsSound (sym r) s
runs_sound p q (e ∷ es) s r = runs_sound r.0 q es r.1.sound r.2

-- From the desk p to the desk q, by the entries of all desks that came back
pub record Gathers (p : PassValue) (log : List Entry) (q : PassValue) : Type 0 where
  pub kept : Keeps p q
  pub mine : (i : ℕ) → times i q.mine ≡ times i p.mine + times i (places log)
  pub many : length q.mine ≡ length p.mine + (tally log).fresh
  pub free : q.free + (tally log).fresh ≡ p.free
  pub answered : AreAnswered q.seen log

pub gathers_none : (p : PassValue) → Gathers p [] p
gathers_none p = record { kept = keeps_self p; mine = λ i. omega arith; many = omega arith; free = omega arith; answered = tt }

-- a split keeps all but the rows
pub split_keeps : (p rest desk : PassValue) (n : ℕ) → IsSplit p n rest desk → Keeps p rest
split_keeps p rest desk n s = record {
  same = (ap (λ (x : PassValue). x.table) s.rest, ap (λ (x : PassValue). x.cells) s.rest);
  seen = prefix_is p.seen rest.seen (ap (λ (x : PassValue). x.seen) s.rest);
}

pub split_mine : (p rest desk : PassValue) (n : ℕ) → IsSplit p n rest desk → rest.mine ≡ p.mine
split_mine p rest desk n s = ap (λ (x : PassValue). x.mine) s.rest

-- a worker's desk, which is cut off before the other workers start and comes back after them
pub gathers_level : (p rest back q desk done : PassValue) (n : ℕ) (es others : List Entry) → IsSplit p n rest desk → Runs desk es done → Gathers rest others back → IsBack back done q
    → Gathers p (es ++ others) q
gathers_level p rest back q desk done n es others s r g b =
    let j = b.joined in
    let l = runs_leave desk done es r in
    let mine : q.mine ≡ back.mine ++ places es = j.mine ∙ ap (λ m. back.mine ++ m) (l.mine ∙ ap (λ m. m ++ places es) s.mine) in
    let sum = tally-append es others in
    record {
      kept = keeps_trans p rest q (split_keeps p rest desk n s) (keeps_trans rest back q g.kept (record { same = b.same; seen = j.first }));
      mine = λ i. ap (times i) mine ∙ omega (arith, times-append i back.mine (places es), g.mine i, ap (times i) (split_mine p rest desk n s), times-append i (places es) (places others), ap (times i) (places-append es others));
      many = omega (arith, ap length mine, length-append back.mine (places es), places_many es, g.many, ap length (split_mine p rest desk n s), sum.fresh);
      free = omega (arith, j.free, l.free, s.rows, s.free, g.free, sum.fresh);
      answered = answered_append q.seen es others (answered_longer done.seen q.seen es j.second l.answered) (answered_longer back.seen q.seen others j.first g.answered);
    }

-- the desk takes more itself
pub gathers_run : (p q r : PassValue) (log es : List Entry) → Gathers p log q → Runs q es r → Gathers p (log ++ es) r
gathers_run p q r log es g run =
    let l = runs_leave q r es run in
    let sum = tally-append log es in
    record {
      kept = keeps_trans p q r g.kept l.kept;
      mine = λ i. ap (times i) l.mine ∙ omega (arith, times-append i q.mine (places es), g.mine i, times-append i (places log) (places es), ap (times i) (places-append log es));
      many = omega (arith, ap length l.mine, length-append q.mine (places es), places_many es, g.many, sum.fresh);
      free = omega (arith, l.free, g.free, sum.fresh);
      answered = answered_append r.seen log es (answered_longer q.seen r.seen log l.kept.seen g.answered) l.answered;
    }

-- after one refusal for want of a row there is none
pub runs_empty : (p q : PassValue) (es : List Entry) → Runs p es q → 0 < (tally es).left → q.free ≡ 0
runs_empty p q [] r some = absurd (omega arith)
runs_empty p q ((d, Left) ∷ es) r some = omega (arith, (runs_leave r.0 q es r.2).free, r.1.becomes.none_left)
runs_empty p q ((d, New i) ∷ es) r some = runs_empty r.0 q es r.2 some
runs_empty p q ((d, Again i) ∷ es) r some = runs_empty r.0 q es r.2 some
runs_empty p q ((d, Clash i) ∷ es) r some = runs_empty r.0 q es r.2 some

-- the own places of a desk, each once
pub sound_once : (p : PassValue) → IsSound p → (i : ℕ) → times i p.mine ≤ once_below i (length p.seen)
sound_once p s = each_once (length p.seen) p.mine s.own s.once
