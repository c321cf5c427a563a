-- The replies, filed by their places, and the drawops for which nothing is filed.
use Rattle.std.proofs.Common.{◌≡◌, ◌≢◌, ℕ, zero, suc, ◌+◌, ◌≤◌, ◌<◌, ◌==◌, ◌||◌, Bool, true, false, cond, List, [], ◌∷◌, ◌++◌, length, take, get_or, set, refl, ap, ap₂, sym, subst, ◌∙◌, arith, length-take, length-set, get_or-set_same, get_or-set_other, Option, Some, None, ⊎_elim}
use Rattle.std.proofs.lemmas.Bool.{cases_lt}
use Rattle.std.proofs.lemmas.List.{append-nil, length-replicate, take_more, length-map, map-append, map-set}
use Rattle.std.specs.Prelude.{replicate, is_some, Contains}
use Rattle.wb_names.proofs.Listings.{Contains-here, Contains-there, Contains-cases, Contains-none, Contains-from_take}
use Rattle.wb_names.specs.Values.{DrawopValue}
use Rattle.wb_names.specs.Arrivals.{Outcome, Counts, counts, counts_of}
use Rattle.wb_board.specs.Desks.{PassValue}
use Rattle.wb_board.specs.Replies.{outcome}
use Rattle.wb_board.specs.declared.reply.Reply.{Reply}
use Rattle.wb_feed.specs.Accepts.{Loses, Accepts, Entry, drawops}
use Rattle.wb_feed.specs.declared.batch.Batch.{Batch}
use Rattle.std.proofs.lemmas.Bool.{cases_eq}
use Rattle.std.proofs.Math.Bool.{or-false, or-true}
use Rattle.std.proofs.Math.Nat.{add_comm, add_left_comm}
use Rattle.wb_feed.proofs.Numbers.{test_apart, test_same, times-append, has_false, once_past, once_under}
use Rattle.wb_feed.proofs.OneThread.{plus, same_counts, counts_of-append}
use Rattle.wb_feed.proofs.Log.{one_kind, runs_more, runs_leave, tally-append}
use Rattle.wb_feed.proofs.Rows.{Among, loses_wider, leaves_lose}
use Rattle.wb_feed.specs.Marks.{has, unmarked, Marks}
use Rattle.wb_feed.specs.Inside.Filing.{CountsOne, told_at, told_outcomes, times, AreOnce, filled, filed_outcomes, Files, IsPut, Settles}

has-append : (p : ℕ) (xs ys : List ℕ) → has p (xs ++ ys) ≡ (has p xs || has p ys)
has-append p [] ys = refl
has-append p (x ∷ xs) ys = elim (x == p) as (λ b. (b || has p (xs ++ ys)) ≡ ((b || has p xs) || has p ys)) [ true ↦ refl | false ↦ has-append p xs ys ]

unmarked-append : (ms ns : List Bool) (ds es : List DrawopValue) → length ms ≡ length ds → unmarked (ms ++ ns) (ds ++ es) ≡ unmarked ms ds ++ unmarked ns es
unmarked-append [] ns [] es e = refl
unmarked-append [] ns (d ∷ ds) es e = absurd (omega (arith, e))
unmarked-append (m ∷ ms) ns [] es e = absurd (omega (arith, e))
unmarked-append (m ∷ ms) ns (d ∷ ds) es e =
    elim m as (λ b. cond b (unmarked (ms ++ ns) (ds ++ es)) (d ∷ unmarked (ms ++ ns) (ds ++ es)) ≡ cond b (unmarked ms ds) (d ∷ unmarked ms ds) ++ unmarked ns es)
    [ true ↦ unmarked-append ms ns ds es (omega (arith, e)) | false ↦ ap (λ l. d ∷ l) (unmarked-append ms ns ds es (omega (arith, e))) ]

unmarked_among : (ms : List Bool) (ds : List DrawopValue) → Among (unmarked ms ds) ds
unmarked_among [] ds d c = absurd (Contains-none d c)
unmarked_among (m ∷ ms) [] d c = c
unmarked_among (m ∷ ms) (e ∷ ds) d c =
    let rest = λ (k : Contains (unmarked ms ds) d). Contains-there e d ds (unmarked_among ms ds d k) in
    elim m as (λ b. Contains (cond b (unmarked ms ds) (e ∷ unmarked ms ds)) d → Contains (e ∷ ds) d)
    [ true ↦ rest | false ↦ λ k. ⊎_elim (λ (s : e ≡ d). subst (Contains (e ∷ ds)) s (Contains-here e ds)) rest (Contains-cases e d (unmarked ms ds) k) ] c

-- ---- what is filed at the first places

filed-append : (xs ys : List (Option Reply)) → filed_outcomes (xs ++ ys) ≡ filed_outcomes xs ++ filed_outcomes ys
filed-append [] ys = refl
filed-append (None ∷ xs) ys = filed-append xs ys
filed-append (Some r ∷ xs) ys = ap (λ l. outcome r ∷ l) (filed-append xs ys)

-- the drawops for which nothing is filed, with one place more
unfiled_more : (fs : List (Option Reply)) (ds : List DrawopValue) (i : ℕ) (z : DrawopValue) (f : Option Reply) → i < length ds → length fs ≡ length ds → get_or fs i None ≡ f
    → unmarked (filled (take (i + 1) fs)) (take (i + 1) ds) ≡ unmarked (filled (take i fs)) (take i ds) ++ unmarked (filled (f ∷ [])) (get_or ds i z ∷ [])
unfiled_more fs ds i z f lt e is =
    let same : length (filled (take i fs)) ≡ length (take i ds) = length-map (take i fs) is_some ∙ omega (arith, length-take i fs, length-take i ds, e) in
    ap₂ unmarked (ap filled (take_more fs i None (omega (arith, lt, e)) ∙ ap (λ x. take i fs ++ x ∷ []) is) ∙ map-append is_some (take i fs) (f ∷ [])) (take_more ds i z lt)
    ∙ unmarked-append (filled (take i fs)) (filled (f ∷ [])) (take i ds) (get_or ds i z ∷ []) same

filed_more : (fs : List (Option Reply)) (i : ℕ) (f : Option Reply) → i < length fs → get_or fs i None ≡ f → counts_of (filed_outcomes (take (i + 1) fs)) ≡ plus (counts_of (filed_outcomes (take i fs))) (counts_of (filed_outcomes (f ∷ [])))
filed_more fs i f lt is = ap (λ l. counts_of (filed_outcomes l)) (take_more fs i None lt ∙ ap (λ x. take i fs ++ x ∷ []) is) ∙ (ap counts_of (filed-append (take i fs) (f ∷ [])) ∙ counts_of-append (filed_outcomes (take i fs)) (filed_outcomes (f ∷ [])))

-- what was settled of the first i drawops
pub record RestSoFar (p : PassValue) (fs : List (Option Reply)) (ds : List DrawopValue) (i : ℕ) (q : PassValue) (b : Batch) : Type 0 where
  pub settled : Settles p (take i fs) (take i ds) q b
  pub few : b.fresh + b.again + b.clash + b.left ≤ i

-- a reply that is filed is counted
pub rest_filed : (p q : PassValue) (fs : List (Option Reply)) (ds : List DrawopValue) (i : ℕ) (b c : Batch) (r : Reply) (z : DrawopValue) → i < length ds → length fs ≡ length ds → get_or fs i None ≡ Some r → RestSoFar p fs ds i q b → CountsOne b (outcome r) c
    → RestSoFar p fs ds (i + 1) q c
rest_filed p q fs ds i b c r z lt e is h one =
    let k = h.settled in
    let more = filed_more fs i (Some r) (omega (arith, lt, e)) is in
    let kind = one_kind (outcome r) in
    record {
      settled = record {
        log = k.log;
        runs = k.runs;
        all = k.all ∙ sym (unfiled_more fs ds i z (Some r) lt e is ∙ append-nil (unmarked (filled (take i fs)) (take i ds)));
        total = record {
          fresh = omega (arith, one.fresh, k.total.fresh, ap (λ n. n.fresh) more);
          again = omega (arith, one.again, k.total.again, ap (λ n. n.again) more);
          clash = omega (arith, one.clash, k.total.clash, ap (λ n. n.clash) more);
          left = omega (arith, one.left, k.total.left, ap (λ n. n.left) more);
        };
        many = omega (arith, k.many, length-take i ds, length-take (i + 1) ds, lt, kind, one.fresh, one.again, one.clash, one.left);
      };
      few = omega (arith, h.few, kind, one.fresh, one.again, one.clash, one.left);
    }

-- a drawop without one is taken
pub rest_more : (p q r : PassValue) (fs : List (Option Reply)) (ds : List DrawopValue) (i : ℕ) (b c : Batch) (d : DrawopValue) → i < length ds → length fs ≡ length ds → get_or fs i None ≡ None → d ≡ get_or ds i d → RestSoFar p fs ds i q b
    → (o : Outcome) × Accepts q d o r × CountsOne b o c → RestSoFar p fs ds (i + 1) r c
rest_more p q r fs ds i b c d lt e free is h one =
    let o = one.0 in
    let k = h.settled in
    let sum = tally-append k.log ((d, o) ∷ []) in
    let same = filed_more fs i None (omega (arith, lt, e)) free in
    let kind = one_kind o in
    record {
      settled = record {
        log = k.log ++ (d, o) ∷ [];
        runs = runs_more p q r k.log d o k.runs one.1;
        all = map-append (λ (e : Entry). e.0) k.log ((d, o) ∷ []) ∙ (ap₂ (λ l x. l ++ x ∷ []) k.all is ∙ sym (unfiled_more fs ds i d None lt e free));
        total = record {
          fresh = omega (arith, one.2.fresh, k.total.fresh, sum.fresh, ap (λ n. n.fresh) same);
          again = omega (arith, one.2.again, k.total.again, sum.again, ap (λ n. n.again) same);
          clash = omega (arith, one.2.clash, k.total.clash, sum.clash, ap (λ n. n.clash) same);
          left = omega (arith, one.2.left, k.total.left, sum.left, ap (λ n. n.left) same);
        };
        many = omega (arith, k.many, length-take i ds, length-take (i + 1) ds, lt, kind, one.2.fresh, one.2.again, one.2.clash, one.2.left);
      };
      few = omega (arith, h.few, kind, one.2.fresh, one.2.again, one.2.clash, one.2.left);
    }

pub rest_keeps : (p q : PassValue) (fs : List (Option Reply)) (ds : List DrawopValue) (i : ℕ) (b : Batch) → RestSoFar p fs ds i q b → Loses 0 ds p q
rest_keeps p q fs ds i b h =
    let k = h.settled in
    loses_wider 0 (drawops k.log) ds p q (λ d c. Contains-from_take i ds d (unmarked_among (filled (take i fs)) (take i ds) d (subst (λ (l : List DrawopValue). Contains l d) k.all c))) (leaves_lose p q k.log (runs_leave p q k.log k.runs))

-- ---- filing

marks_none : (n : ℕ) (ms : List Bool) → length ms ≡ n → ((p : ℕ) → get_or ms p false ≡ false) → Marks [] n ms
marks_none n ms e h = record { long = e; each = λ p lt. h p }

-- a place past the end
marks_past : (ps : List ℕ) (q n : ℕ) (ms : List Bool) → n ≤ q → Marks ps n ms → Marks (ps ++ q ∷ []) n ms
marks_past ps q n ms past h = record {
  long = h.long;
  each = λ p small. h.each p small ∙ sym (has-append p ps (q ∷ []) ∙ (ap (λ b. has p ps || (b || false)) (test_apart q p (λ e. absurd (omega (arith, e, past, small)))) ∙ or-false (has p ps)));
}

marks_more : (ps : List ℕ) (q n : ℕ) (ms : List Bool) → q < n → Marks ps n ms → Marks (ps ++ q ∷ []) n (set ms q true)
marks_more ps q n ms small h =
    let room : q < length ms = omega (arith, h.long, small) in
    record {
      long = length-set ms q true ∙ h.long;
      each = λ p under. ⊎_elim
          (λ (e : p ≡ q). ap (λ k. get_or (set ms q true) k false) e ∙ (get_or-set_same ms q true false room
          ∙ sym (has-append p ps (q ∷ []) ∙ (ap (λ b. has p ps || (b || false)) (test_same q p (sym e)) ∙ or-true (has p ps)))))
          (λ (d : p ≢ q). get_or-set_other ms q p true false d ∙ (h.each p under
          ∙ sym (has-append p ps (q ∷ []) ∙ (ap (λ b. has p ps || (b || false)) (test_apart q p (λ e. d (sym e))) ∙ or-false (has p ps))))) (cases_eq p q);
    }

not_filled : (fs : List (Option Reply)) (q : ℕ) → get_or (filled fs) q false ≡ false → get_or fs q None ≡ None
not_filled [] q e = refl
not_filled (None ∷ fs) zero e = refl
not_filled (Some s ∷ fs) zero e = absurd (cc (e))
not_filled (None ∷ fs) (suc q) e = not_filled fs q e
not_filled (Some s ∷ fs) (suc q) e = not_filled fs q e

plus-swap : (a b c : Counts) → plus a (plus b c) ≡ plus b (plus a c)
plus-swap a b c = same_counts (add_left_comm a.fresh b.fresh c.fresh) (add_left_comm a.again b.again c.again) (add_left_comm a.clash b.clash c.clash) (add_left_comm a.left b.left c.left)

plus_turned : (a b : Counts) → plus a b ≡ plus b a
plus_turned a b = same_counts (add_comm a.fresh b.fresh) (add_comm a.again b.again) (add_comm a.clash b.clash) (add_comm a.left b.left)

-- a reply that is filed at a free place is counted with the others
filed-set : (fs : List (Option Reply)) (q : ℕ) (r : Reply) → q < length fs → get_or fs q None ≡ None → counts_of (filed_outcomes (set fs q (Some r))) ≡ plus (counts_of (outcome r ∷ [])) (counts_of (filed_outcomes fs))
filed-set [] q r lt e = absurd (omega (arith, lt))
filed-set (None ∷ fs) zero r lt e = counts_of-append (outcome r ∷ []) (filed_outcomes fs)
filed-set (Some s ∷ fs) zero r lt e = absurd (cc (e))
filed-set (None ∷ fs) (suc q) r lt e = filed-set fs q r (omega (arith, lt)) e
filed-set (Some s ∷ fs) (suc q) r lt e =
    let one = counts_of (outcome s ∷ []) in
    counts_of-append (outcome s ∷ []) (filed_outcomes (set fs q (Some r))) ∙ (ap (plus one) (filed-set fs q r (omega (arith, lt)) e)
    ∙ (plus-swap one (counts_of (outcome r ∷ [])) (counts_of (filed_outcomes fs)) ∙ ap (plus (counts_of (outcome r ∷ []))) (sym (counts_of-append (outcome s ∷ []) (filed_outcomes fs)))))

files_front : (n : ℕ) (xs : List (ℕ × Reply)) (x : ℕ × Reply) → AreOnce n (told_at (xs ++ x ∷ [])) → AreOnce n (told_at xs) × (times x.0 (told_at xs) ≡ 0) × (x.0 < n)
files_front n xs x once =
    let split : (p : ℕ) → times p (told_at (xs ++ x ∷ [])) ≡ times p (told_at xs) + times p (x.0 ∷ []) = λ p. ap (times p) (map-append (λ (t : ℕ × Reply). t.0) xs (x ∷ [])) ∙ times-append p (told_at xs) (x.0 ∷ []) in
    let here : times x.0 (x.0 ∷ []) ≡ 1 = ap (λ b. cond b 1 0 + 0) (test_same x.0 x.0 refl) in
    let low : x.0 < n = ⊎_elim (λ (h : x.0 < n). h) (λ (h : n ≤ x.0). absurd (omega (arith, once x.0, split x.0, here, once_past x.0 n h))) (cases_lt x.0 n) in
    (λ p. omega (arith, once p, split p), omega (arith, once x.0, split x.0, here, once_under x.0 n low), low)

pub files_none : (n : ℕ) (fs : List (Option Reply)) → fs ≡ replicate n None → Files [] n fs
files_none n fs is = subst (Files [] n) (sym is) (none n) where
  each : (n p : ℕ) → get_or (filled (replicate n None)) p false ≡ false
  each zero p = refl
  each (suc n) zero = refl
  each (suc n) (suc p) = each n p

  many : (n : ℕ) → length (filled (replicate n None)) ≡ n
  many zero = refl
  many (suc n) = ap suc (many n)

  counted : (n : ℕ) → counts_of (filed_outcomes (replicate n None)) ≡ counts 0 0 0 0
  counted zero = refl
  counted (suc n) = counted n

  none : (n : ℕ) → Files [] n (replicate n None)
  none n = record { long = length-replicate n None; marks = marks_none n (filled (replicate n None)) (many n) (each n); counted = λ once. counted n }

module _ (told : List (ℕ × Reply)) (i n : ℕ) (fs : List (Option Reply)) (e : ℕ × Reply) (lt : i < length told) (h : Files (take i told) n fs) where
  abbrev x : ℕ × Reply
  x = get_or told i e

  next : take (i + 1) told ≡ take i told ++ x ∷ []
  next = take_more told i e lt

  places : told_at (take (i + 1) told) ≡ told_at (take i told) ++ x.0 ∷ []
  places = ap told_at next ∙ map-append (λ (t : ℕ × Reply). t.0) (take i told) (x ∷ [])

  -- a place past the end
  files_past : n ≤ x.0 → Files (take (i + 1) told) n fs
  files_past past = record {
    long = h.long;
    marks = subst (λ l. Marks l n (filled fs)) (sym places) (marks_past (told_at (take i told)) x.0 n (filled fs) past h.marks);
    counted = λ once. let f = files_front n (take i told) x (subst (λ l. AreOnce n (told_at l)) next once) in absurd (omega (arith, f.2, past));
  }

  files_low : x.0 < n → Files (take (i + 1) told) n (set fs x.0 (Some x.1))
  files_low low =
      let marked = marks_more (told_at (take i told)) x.0 n (filled fs) low h.marks in
      record {
        long = length-set fs x.0 (Some x.1) ∙ h.long;
        marks = subst (λ (k : List ℕ × List Bool). Marks k.0 n k.1) (λ j. (sym places j, sym (map-set is_some fs x.0 (Some x.1)) j)) marked;
        counted = λ once.
            let f = files_front n (take i told) x (subst (λ l. AreOnce n (told_at l)) next once) in
            let free : get_or fs x.0 None ≡ None = not_filled fs x.0 (h.marks.each x.0 low ∙ has_false x.0 (told_at (take i told)) f.1) in
            let rest = counts_of-append (told_outcomes (take i told)) (outcome x.1 ∷ []) in
            filed-set fs x.0 x.1 (omega (arith, low, h.long)) free ∙ (ap (plus (counts_of (outcome x.1 ∷ []))) (h.counted f.0)
            ∙ (plus_turned (counts_of (outcome x.1 ∷ [])) (counts_of (told_outcomes (take i told))) ∙ (sym rest ∙ ap counts_of (sym (ap told_outcomes next ∙ map-append (λ (t : ℕ × Reply). outcome t.1) (take i told) (x ∷ []))))));
      }

  pub files_more : (gs : List (Option Reply)) → IsPut fs x.0 x.1 gs → Files (take (i + 1) told) n gs
  files_more gs put = ⊎_elim
      (λ (low : x.0 < n). subst (Files (take (i + 1) told) n) (sym (put.0 (omega (arith, low, h.long)))) (files_low low))
      (λ (past : n ≤ x.0). subst (Files (take (i + 1) told) n) (sym (put.1 (omega (arith, past, h.long)))) (files_past past))
      (cases_lt x.0 n)
