-- What a batch answered its callers was answered at points of one history, so it is one run; and one thread takes the drawops in the order
-- of that run.
use Rattle.std.proofs.Common.{◌≡◌, ℕ, suc, ◌+◌, ◌≤◌, ◌<◌, ◌==◌, true, false, cond, List, [], ◌∷◌, ◌++◌, length, take, map, filter, refl, ap, sym, subst, ◌∙◌, arith, length-append, get_or}
use Rattle.std.proofs.lemmas.Bool.Decides.{nat_tests}
use Rattle.std.specs.Prelude.{nat_le, All, AllPairs}
use Rattle.std.specs.List.Sorted.{IsPermutation}
use Rattle.std.proofs.lemmas.List.{map-append, take-append-le}
use Rattle.std.proofs.lemmas.List.Elements.{All-nil, All-cons, All-append, All-head, All-tail, filter-append}
use Rattle.std.proofs.lemmas.List.Kept.{AllPairs-cons}
use Rattle.std.proofs.lemmas.List.Sorted.{IsPermutation-refl, IsPermutation-sym, IsPermutation-cons, IsPermutation-trans, IsPermutation-middle, IsPermutation-map, IsPermutation-append_left, All-permutation}
use mathlib.Core.List.{IsPrefix}
use Rattle.wb_names.specs.Values.{DrawopValue}
use Rattle.wb_names.specs.History.{IsNewAt, IsAgainAt, IsClashAt}
use Rattle.wb_names.specs.Arrivals.{Outcome, New, Again, Clash, Left, counts, AreTaken, IsBatch}
use Rattle.wb_board.specs.Desks.{PassValue, IsSound, IsWhole}
use Rattle.wb_board.specs.declared.reply.Reply.{Reply}
use Rattle.wb_board.specs.declared.reply.Reply.TheVariants as replies
use Rattle.wb_board.specs.Replies.{IsReply}
use Rattle.wb_board.specs.Board.{Call, Accept, Answer, Replied, Step, IsAnswer, after_call, IsLegalFrom}
use Rattle.wb_board.specs.Replies.{outcome}
use Rattle.wb_board.specs.Runs.{Answered, AreAnsweredSince, Precedes, IsAnsweredSince, is_new_at, rank, placed, in_order, end_of, IsOneRun, OneRun, run_of}
use Rattle.wb_feed.specs.declared.batch.Batch.{Batch}
use Rattle.wb_feed.specs.declared.channel.Message.{Message}
use Rattle.wb_feed.specs.Accepts.{Entry, Accepts, Runs, drawops, outcomes, tally}
use Rattle.wb_feed.specs.Batches.{counts_in, IsInSomeOrder, IsShared}
use Rattle.wb_feed.specs.Calls.{answered, answered_of, answered_by, answered_workers, answered_in, BatchIsOneRun}
use Rattle.wb_feed.specs.Served.{Spot, entries}
use Rattle.wb_feed.specs.Workers.{Workers, nobody, worker, started, Work}
use Rattle.wb_feed.proofs.Log.{is_taken, chosen, place, places, places-append, runs_leave, Gathers, gathers_run, moved_drawops, tally_moved, taken_tally}
use Rattle.wb_feed.proofs.Drawops.{nothing}
use Rattle.wb_feed.proofs.Numbers.{times, times-append, once_under, once_past}
use Rattle.wb_feed.proofs.OneThread.{Lacks, takes_none, both_batches, counted_as, same_counts, plus}
use Rattle.wb_feed.proofs.Placing.{workers_gather}
use Rattle.wb_feed.proofs.Prefixes.{prefix_self, prefix_trans, prefix_length, prefix_get, prefix_take}
use Rattle.wb_feed.proofs.WholeDesks.{whole_mine, stays_whole}

-- ---- each reply is the answer at its point

-- a reply to an accept of such a caller, answered at a point from k on
record IsOne (h : List DrawopValue) (k : ℕ) (By : ℕ → Type 0) (t : Answered) : Type 0 where
  since : IsAnsweredSince h k t
  by : By t.step.caller
  drawop : DrawopValue
  reply : Reply
  call : t.step.call ≡ Accept drawop
  answer : t.step.answer ≡ Replied reply

single : (P : Answered → Type 0) (t : Answered) → P t → All P (t ∷ [])
single P t p = All-cons P t [] p (All-nil P)

take_within : (g h : List DrawopValue) (i : ℕ) → IsPrefix g h → i ≤ length g → take i h ≡ take i g
take_within g h i p le = ap (λ (l : List DrawopValue). take i l) (sym p.1) ∙ take-append-le i g p.0 le

one_answered : (h : List DrawopValue) (k caller : ℕ) (e : Entry) (p r : PassValue) → Accepts p e.0 e.1 r → k ≤ length p.seen → IsPrefix r.seen h → All (IsOne h k (λ c. c ≡ caller)) (answered_of caller e (length r.seen))
one_answered h k caller (d, New i) p r a le g =
    let b = a.becomes in
    let answer = subst (λ (l : List DrawopValue). IsNewAt l d i) (sym (take_within r.seen h i g (omega (arith, b.last)))) b.new in
    let since : IsAnsweredSince h k (answered caller d (replies.New i) i) = record { since = omega (arith, le, b.later); within = omega (arith, b.last, prefix_length r.seen h g); answer = answer; new = prefix_get r.seen h i d g b.drawop } in
    single (IsOne h k (λ c. c ≡ caller)) (answered caller d (replies.New i) i) (record { since = since; by = refl; drawop = d; reply = replies.New i; call = refl; answer = refl })
one_answered h k caller (d, Again i) p r a le g =
    let n = length r.seen in
    let answer = subst (λ (l : List DrawopValue). IsAgainAt l d i) (sym (prefix_take r.seen h g)) a.becomes.0 in
    let since : IsAnsweredSince h k (answered caller d (replies.Again i) n) = record { since = omega (arith, le, prefix_length p.seen r.seen a.kept.seen); within = prefix_length r.seen h g; answer = answer; new = tt } in
    single (IsOne h k (λ c. c ≡ caller)) (answered caller d (replies.Again i) n) (record { since = since; by = refl; drawop = d; reply = replies.Again i; call = refl; answer = refl })
one_answered h k caller (d, Clash i) p r a le g =
    let n = length r.seen in
    let answer = subst (λ (l : List DrawopValue). IsClashAt l d i) (sym (prefix_take r.seen h g)) a.becomes.0 in
    let since : IsAnsweredSince h k (answered caller d (replies.Clash i) n) = record { since = omega (arith, le, prefix_length p.seen r.seen a.kept.seen); within = prefix_length r.seen h g; answer = answer; new = tt } in
    single (IsOne h k (λ c. c ≡ caller)) (answered caller d (replies.Clash i) n) (record { since = since; by = refl; drawop = d; reply = replies.Clash i; call = refl; answer = refl })
one_answered h k caller (d, Left) p r a le g = All-nil (IsOne h k (λ c. c ≡ caller))

desk_answered : (h : List DrawopValue) (k caller : ℕ) (p : PassValue) (es : List Entry) (q : PassValue) (run : Runs p es q) → k ≤ length p.seen → IsPrefix q.seen h → All (IsOne h k (λ c. c ≡ caller)) (answered_by caller p es q run)
desk_answered h k caller p [] q run le g = All-nil (IsOne h k (λ c. c ≡ caller))
desk_answered h k caller p (e ∷ es) q run le g =
    let r = run.0 in
    let l = runs_leave r q es run.2 in
    All-append (IsOne h k (λ c. c ≡ caller)) (answered_of caller e (length r.seen)) (answered_by caller r es q run.2) (one_answered h k caller e p r run.1 le (prefix_trans r.seen q.seen h l.kept.seen g))
    (desk_answered h k caller r es q run.2 (omega (arith, le, prefix_length p.seen r.seen run.1.kept.seen)) g)

by_others : (h : List DrawopValue) (k : ℕ) (P Q : ℕ → Type 0) (ts : List Answered) → ((c : ℕ) → P c → Q c) → All (IsOne h k P) ts → All (IsOne h k Q) ts
by_others h k P Q ts f all i d below =
    let one = all i d below in
    record { since = one.since; by = f (get_or ts i d).step.caller one.by; drawop = one.drawop; reply = one.reply; call = one.call; answer = one.answer }

workers_answered : {rows n : ℕ} {p q : PassValue} {log : List Spot} {gots : List Message} → (h : List DrawopValue) (k : ℕ) (w : Workers rows n p log gots q) → k ≤ length p.seen → IsPrefix q.seen h → All (IsOne h k (λ c. c < n)) (answered_workers w)
workers_answered h k nobody le g = All-nil (IsOne h k (λ c. c < 0))
workers_answered h k (worker {n = n} {p = p} {rest = rest} {back = back} {q = q} {desk = desk} {done = done} log others got gots split serves w b) le g =
    let mine = desk_answered h k n desk (entries log) done serves.runs (omega (arith, le, ap length split.seen)) (prefix_trans done.seen q.seen h b.joined.second g) in
    let theirs = workers_answered h k w (omega (arith, le, ap (λ (x : PassValue). length x.seen) split.rest)) (prefix_trans back.seen q.seen h b.joined.first g) in
    All-append (IsOne h k (λ c. c < suc n)) (answered_by n desk (entries log) done serves.runs) (answered_workers w)
    (by_others h k (λ c. c ≡ n) (λ c. c < suc n) (answered_by n desk (entries log) done serves.runs) (λ c e. omega (arith, e)) mine)
    (by_others h k (λ c. c < n) (λ c. c < suc n) (answered_workers w) (λ c l. omega (arith, l)) theirs)

-- ---- each caller's replies stand in their order

abbrev InTurn : Answered → Answered → Type 0
InTurn t u = t.step.caller ≡ u.step.caller → Precedes t u

no_pairs : AllPairs InTurn []
no_pairs i j d lt within = absurd (omega arith)

append_pairs : (xs ys : List Answered) → AllPairs InTurn xs → AllPairs InTurn ys → ((i k : ℕ) (d : Answered) → i < length xs → k < length ys → InTurn (get_or xs i d) (get_or ys k d)) → AllPairs InTurn (xs ++ ys)
append_pairs [] ys first second across = second
append_pairs (x ∷ xs) ys first second across =
    AllPairs-cons InTurn x (xs ++ ys)
    (All-append (InTurn x) xs ys (λ k d h. first 0 (suc k) d (omega arith) (omega arith)) (λ k d h. across 0 k d (omega arith) h))
    (append_pairs xs ys (λ i j d lt h. first (suc i) (suc j) d (omega arith) (omega arith)) second (λ i k d l h. across (suc i) k d (omega arith) h))

-- one accept before those that were answered later
one_in_turn : (h : List DrawopValue) (caller : ℕ) (e : Entry) (p r : PassValue) (ts : List Answered) → Accepts p e.0 e.1 r → All (IsOne h (length r.seen) (λ c. c ≡ caller)) ts → AllPairs InTurn ts
    → AllPairs InTurn (answered_of caller e (length r.seen) ++ ts)
one_in_turn h caller (d, New i) p r ts a later pairs =
    AllPairs-cons InTurn _ ts (λ k x below same. let since = (later k x below).since.since in (omega (arith, since, a.becomes.last), λ new. omega (arith, since, a.becomes.last))) pairs
one_in_turn h caller (d, Again i) p r ts a later pairs = AllPairs-cons InTurn _ ts (λ k x below same. ((later k x below).since.since, λ new. absurd (cc new))) pairs
one_in_turn h caller (d, Clash i) p r ts a later pairs = AllPairs-cons InTurn _ ts (λ k x below same. ((later k x below).since.since, λ new. absurd (cc new))) pairs
one_in_turn h caller (d, Left) p r ts a later pairs = pairs

desk_in_turn : (caller : ℕ) (p : PassValue) (es : List Entry) (q : PassValue) (run : Runs p es q) → AllPairs InTurn (answered_by caller p es q run)
desk_in_turn caller p [] q run = no_pairs
desk_in_turn caller p (e ∷ es) q run =
    one_in_turn q.seen caller e p run.0 (answered_by caller run.0 es q run.2) run.1 (desk_answered q.seen (length run.0.seen) caller run.0 es q run.2 (omega arith) (prefix_self q.seen)) (desk_in_turn caller run.0 es q run.2)

-- what callers of lower numbers were answered, and then what the caller n was
apart_pairs : (n : ℕ) (h : List DrawopValue) (k : ℕ) (xs ys : List Answered) → AllPairs InTurn xs → AllPairs InTurn ys → All (IsOne h k (λ c. c < n)) xs → All (IsOne h k (λ c. c ≡ n)) ys → AllPairs InTurn (xs ++ ys) × AllPairs InTurn (ys ++ xs)
apart_pairs n h k xs ys first second lower here = (
  append_pairs xs ys first second (λ i j d l m same. absurd (omega (arith, (lower i d l).by, (here j d m).by, same))),
  append_pairs ys xs second first (λ i j d l m same. absurd (omega (arith, (lower j d m).by, (here i d l).by, same))),
)

workers_in_turn : {rows n : ℕ} {p q : PassValue} {log : List Spot} {gots : List Message} → (w : Workers rows n p log gots q) → AllPairs InTurn (answered_workers w)
workers_in_turn nobody = no_pairs
workers_in_turn (worker {n = n} {rest = rest} {back = back} {q = q} {desk = desk} {done = done} log others got gots split serves w b) =
    let mine = desk_answered q.seen 0 n desk (entries log) done serves.runs (omega arith) b.joined.second in
    (apart_pairs n q.seen 0 (answered_workers w) (answered_by n desk (entries log) done serves.runs) (workers_in_turn w) (desk_in_turn n desk (entries log) done serves.runs) (workers_answered q.seen 0 w (omega arith) b.joined.first) mine).1

-- ---- each place was gained once, and what was answered are the entries that were taken

many_append : (i : ℕ) (xs ys : List Answered) → length (filter (is_new_at i) (xs ++ ys)) ≡ length (filter (is_new_at i) xs) + length (filter (is_new_at i) ys)
many_append i xs ys = ap length (filter-append (is_new_at i) xs ys) ∙ length-append (filter (is_new_at i) xs) (filter (is_new_at i) ys)

one_many : (i caller : ℕ) (e : Entry) (seen : ℕ) → length (filter (is_new_at i) (answered_of caller e seen)) ≡ times i (place e.1)
one_many i caller (d, New j) seen = elim (j == i) as (λ b. length (cond b (answered_of caller (d, New j) seen) []) ≡ cond b 1 0 + 0) [ true ↦ refl | false ↦ refl ]
one_many i caller (d, Again j) seen = refl
one_many i caller (d, Clash j) seen = refl
one_many i caller (d, Left) seen = refl

abbrev drawop_in : Call → DrawopValue
drawop_in (Accept d) = d
drawop_in call = nothing

abbrev outcome_in : Answer → Outcome
outcome_in (Replied reply) = outcome reply
outcome_in answer = Left

abbrev entry : Answered → Entry
entry t = (drawop_in t.step.call, outcome_in t.step.answer)

-- the drawops among what was answered are the places of these entries, and the replies are those to what was taken
record Answers (es : List Entry) (ts : List Answered) : Type 0 where
  many : (i : ℕ) → length (filter (is_new_at i) ts) ≡ times i (places es)
  taken : map entry ts ≡ chosen is_taken es

answers_append : (es fs : List Entry) (ts us : List Answered) → Answers es ts → Answers fs us → Answers (es ++ fs) (ts ++ us)
answers_append es fs ts us a b = record {
  many = λ i. omega (arith, many_append i ts us, a.many i, b.many i, times-append i (places es) (places fs), ap (times i) (places-append es fs));
  taken = map-append entry ts us ∙ (ap (λ l. l ++ map entry us) a.taken ∙ (ap (λ l. chosen is_taken es ++ l) b.taken ∙ sym (filter-append (λ (e : Entry). is_taken e.1) es fs)));
}

one_answers : (caller : ℕ) (e : Entry) (seen : ℕ) → Answers (e ∷ []) (answered_of caller e seen)
one_answers caller (d, New j) seen = record { many = λ i. omega (arith, one_many i caller (d, New j) seen); taken = refl }
one_answers caller (d, Again j) seen = record { many = λ i. refl; taken = refl }
one_answers caller (d, Clash j) seen = record { many = λ i. refl; taken = refl }
one_answers caller (d, Left) seen = record { many = λ i. refl; taken = refl }

desk_answers : (caller : ℕ) (p : PassValue) (es : List Entry) (q : PassValue) (run : Runs p es q) → Answers es (answered_by caller p es q run)
desk_answers caller p [] q run = record { many = λ i. refl; taken = refl }
desk_answers caller p (e ∷ es) q run = answers_append (e ∷ []) es (answered_of caller e (length run.0.seen)) (answered_by caller run.0 es q run.2) (one_answers caller e (length run.0.seen)) (desk_answers caller run.0 es q run.2)

workers_answer : {rows n : ℕ} {p q : PassValue} {log : List Spot} {gots : List Message} → (w : Workers rows n p log gots q) → Answers (entries log) (answered_workers w)
workers_answer nobody = record { many = λ i. refl; taken = refl }
workers_answer (worker {n = n} {desk = desk} {done = done} log others got gots split serves w b) =
    let mine = answered_by n desk (entries log) done serves.runs in
    subst (λ es. Answers es (mine ++ answered_workers w)) (sym (map-append (λ (s : Spot). s.1) log others)) (answers_append (entries log) (entries others) mine (answered_workers w) (desk_answers n desk (entries log) done serves.runs) (workers_answer w))

-- ---- the workers, and the batch

-- what was answered of these entries, by callers below n, on the way from the desk p to the desk q
record IsAnsweredSo (n : ℕ) (p : PassValue) (es : List Entry) (q : PassValue) (ts : List Answered) : Type 0 where
  answered : (h : List DrawopValue) → IsPrefix q.seen h → All (IsOne h (length p.seen) (λ c. c < n)) ts
  turns : AllPairs InTurn ts
  answers : Answers es ts
  gathers : Gathers p es q

started_few : (n : ℕ) → started n ≤ n
started_few n = grind (arith, nat_tests)

answered_so : (n : ℕ) (p : PassValue) (log : List Spot) (gots : List Message) (q : PassValue) (w : Work n p log gots q) → IsAnsweredSo n p (entries log) q (answered_workers w)
answered_so n p log gots q w = record {
  answered = λ h g. by_others h (length p.seen) (λ c. c < started n) (λ c. c < n) (answered_workers w) (λ c l. omega (arith, l, started_few n)) (workers_answered h (length p.seen) w (omega arith) g);
  turns = workers_in_turn w;
  answers = workers_answer w;
  gathers = workers_gather w;
}

abbrev all_of : (n : ℕ) (p : PassValue) (given : List DrawopValue) (q : PassValue) → IsShared n p given q → List Entry
all_of n p given q s = entries s.log ++ s.left_over

batch_answered : (n : ℕ) (p : PassValue) (given : List DrawopValue) (q : PassValue) (s : IsShared n p given q) → IsAnsweredSo (suc n) p (all_of n p given q s) q (answered_in n p given q s)
batch_answered n p given q s =
    let so = answered_so n p s.log s.gots s.joined s.work in
    let by_workers = answered_workers s.work in
    let by_desk = answered_by n s.joined s.left_over q s.rest in
    let k = length p.seen in
    let on = (runs_leave s.joined q s.left_over s.rest).kept.seen in
    let theirs = λ (h : List DrawopValue) (g : IsPrefix q.seen h). so.answered h (prefix_trans s.joined.seen q.seen h on g) in
    let own = λ (h : List DrawopValue) (g : IsPrefix q.seen h). desk_answered h k n s.joined s.left_over q s.rest (prefix_length p.seen s.joined.seen so.gathers.kept.seen) g in record {
      answered = λ h g. All-append (IsOne h k (λ c. c < suc n)) by_workers by_desk (by_others h k (λ c. c < n) (λ c. c < suc n) by_workers (λ c l. omega (arith, l)) (theirs h g)) (by_others h k (λ c. c ≡ n) (λ c. c < suc n) by_desk (λ c e. omega (arith, e)) (own h g));
      turns = (apart_pairs n q.seen k by_workers by_desk so.turns (desk_in_turn n s.joined s.left_over q s.rest) (theirs q.seen (prefix_self q.seen)) (own q.seen (prefix_self q.seen))).0;
      answers = answers_append (entries s.log) s.left_over by_workers by_desk so.answers (desk_answers n s.joined s.left_over q s.rest);
      gathers = gathers_run p s.joined q (entries s.log) s.left_over so.gathers s.rest;
    }

pub batch_is_one_run : OneRun → BatchIsOneRun
batch_is_one_run law n p given q sp wp sq s =
    let t = batch_answered n p given q s in
    let old = whole_mine p sp wp in
    let new = whole_mine q sq (stays_whole p q (all_of n p given q s) t.gathers wp) in
    let k = length p.seen in
    let each = t.answered q.seen (prefix_self q.seen) in
    let answered : AreAnsweredSince q.seen k (answered_in n p given q s) = record {
      each = λ i d below. (each i d below).since;
      once = λ i from below. omega (arith, t.answers.many i, t.gathers.mine i, old.each i, new.each i, once_past i k from, once_under i (length q.seen) below);
      ordered = t.turns;
    } in
    (answered, law q.seen k (answered_in n p given q s) (prefix_length p.seen q.seen t.gathers.kept.seen) answered)

-- ---- one thread takes the drawops in the order of the run

one_longer : (h : List DrawopValue) (call : Call) (answer : Answer) → length h ≤ length (after_call h call answer)
one_longer h (Accept d) (Replied (replies.New i)) = omega (arith, length-append h (d ∷ []))
one_longer h call answer = omega arith

longer : (h : List DrawopValue) (steps : List Step) → length h ≤ length (end_of h steps)
longer h [] = omega arith
longer h (s ∷ ss) = omega (arith, one_longer h s.call s.answer, longer (after_call h s.call s.answer) ss)

one_taken : (cells : ℕ) (h end : List DrawopValue) (d : DrawopValue) (reply : Reply) (es : List Entry) → IsReply h d reply → length (after_call h (Accept d) (Replied reply)) ≤ cells → AreTaken cells (after_call h (Accept d) (Replied reply)) (drawops es) (outcomes es) end
    → AreTaken cells h (d ∷ drawops es) (outcome reply ∷ outcomes es) end
one_taken cells h end d (replies.New i) es a le rest = ((a, omega (arith, le, length-append h (d ∷ []))), rest)
one_taken cells h end d (replies.Again i) es a le rest = (a, rest)
one_taken cells h end d (replies.Clash i) es a le rest = (a, rest)

legal_taken : (cells : ℕ) (h : List DrawopValue) (k : ℕ) (By : ℕ → Type 0) (g : List DrawopValue) (ts : List Answered) → All (IsOne g k By) ts → IsLegalFrom h (map (λ t. t.step) ts) → length (end_of h (map (λ t. t.step) ts)) ≤ cells
    → AreTaken cells h (drawops (map entry ts)) (outcomes (map entry ts)) (end_of h (map (λ t. t.step) ts))
legal_taken cells h k By g [] all legal le = refl
legal_taken cells h k By g (t ∷ ts) all legal le =
    let one = All-head (IsOne g k By) t ts all in
    let after = after_call h t.step.call t.step.answer in
    let end = end_of after (map (λ t. t.step) ts) in
    let rest = legal_taken cells after k By g ts (All-tail (IsOne g k By) t ts all) legal.1 le in
    let room : length after ≤ cells = omega (arith, le, longer after (map (λ t. t.step) ts)) in
    let Takes : Call → Answer → Type 0 = λ call answer. IsAnswer h call answer → length (after_call h call answer) ≤ cells → AreTaken cells (after_call h call answer) (drawops (map entry ts)) (outcomes (map entry ts)) end
    → AreTaken cells h (drawop_in call ∷ drawops (map entry ts)) (outcome_in answer ∷ outcomes (map entry ts)) end in
    let here : Takes (Accept one.drawop) (Replied one.reply) = one_taken cells h end one.drawop one.reply (map entry ts) in
    subst (λ (x : Call × Answer). Takes x.0 x.1) (λ i. (sym one.call i, sym one.answer i)) here legal.0 room rest

placed_moves : (t : Answered) (us : List Answered) → IsPermutation (t ∷ us) (placed t us)
placed_moves t [] = IsPermutation-refl (t ∷ [])
placed_moves t (u ∷ us) = elim (nat_le (rank t) (rank u)) as (λ b. IsPermutation (t ∷ u ∷ us) (cond b (t ∷ u ∷ us) (u ∷ placed t us)))
    [ true ↦ IsPermutation-refl (t ∷ u ∷ us) | false ↦ IsPermutation-trans (t ∷ u ∷ us) (u ∷ t ∷ us) (u ∷ placed t us) (IsPermutation-sym (u ∷ t ∷ us) (t ∷ u ∷ us) (IsPermutation-middle (u ∷ []) t us)) (IsPermutation-cons u (t ∷ us) (placed t us) (placed_moves t us)) ]

in_order_moves : (ts : List Answered) → IsPermutation ts (in_order ts)
in_order_moves [] = IsPermutation-refl []
in_order_moves (t ∷ ts) = IsPermutation-trans (t ∷ ts) (t ∷ in_order ts) (in_order (t ∷ ts)) (IsPermutation-cons t ts (in_order ts) (in_order_moves ts)) (placed_moves t (in_order ts))

-- and then what was left, for which no cell is free
pub in_some_order : OneRun → (n : ℕ) (p : PassValue) (given : List DrawopValue) (q : PassValue) (s : IsShared n p given q) (lefts : List DrawopValue) (b : Batch) → IsSound p → IsWhole p → IsSound q
    → IsPermutation given (drawops (chosen is_taken (all_of n p given q s)) ++ lefts) → Lacks q.seen lefts → (0 < length lefts → q.free ≡ 0)
    → ((tally (all_of n p given q s)).fresh ≡ b.fresh) × ((tally (all_of n p given q s)).again ≡ b.again) × ((tally (all_of n p given q s)).clash ≡ b.clash) × (length lefts ≡ b.left) → IsInSomeOrder p given q b
in_some_order law n p given q s lefts b sp wp sq moved lack none same =
    let all = all_of n p given q s in
    let ts = answered_in n p given q s in
    let t = batch_answered n p given q s in
    let run : IsOneRun q.seen (length p.seen) ts (run_of ts) = (batch_is_one_run law n p given q sp wp sq s).1 in
    let new = whole_mine q sq (stays_whole p q all t.gathers wp) in
    let held = map entry (in_order ts) in
    let each = All-permutation (IsOne q.seen (length p.seen) (λ c. c < suc n)) ts (in_order ts) (in_order_moves ts) (t.answered q.seen (prefix_self q.seen)) in
    let start : take (length p.seen) q.seen ≡ p.seen = prefix_take p.seen q.seen t.gathers.kept.seen in
    let room : length (end_of (take (length p.seen) q.seen) (run_of ts)) ≤ p.cells = omega (arith, ap length run.end, sq.room, t.gathers.kept.same.1) in
    let from_there = subst (λ (l : List DrawopValue). AreTaken p.cells (take (length p.seen) q.seen) (drawops held) (outcomes held) l) run.end (legal_taken p.cells (take (length p.seen) q.seen) (length p.seen) (λ c. c < suc n) q.seen (in_order ts) each run.legal room) in
    let first : IsBatch p.cells p.seen (drawops held) q.seen (tally held) = (outcomes held, subst (λ (l : List DrawopValue). AreTaken p.cells l (drawops held) (outcomes held) q.seen) start from_there, refl) in
    let full : 0 < length lefts → p.cells ≤ length q.seen = λ some. omega (arith, none some, stays_whole p q all t.gathers wp, new.many, t.gathers.kept.same.1) in
    let last = takes_none p.cells q.seen lefts lack full in
    let ordered : IsPermutation (map entry ts) held = IsPermutation-map entry ts (in_order ts) (in_order_moves ts) in
    let taken : IsPermutation (chosen is_taken all) held = subst (λ l. IsPermutation l held) t.answers.taken ordered in
    let counted : tally held ≡ counts (tally all).fresh (tally all).again (tally all).clash 0 = tally_moved (chosen is_taken all) held taken ∙ taken_tally all in
    let sum : plus (tally held) (counts 0 0 0 (length lefts)) ≡ counts_in b = ap (λ k. plus k (counts 0 0 0 (length lefts))) counted ∙ same_counts (omega (arith, same.0)) (omega (arith, same.1)) (omega (arith, same.2)) (omega (arith, same.3)) in
    record {
      order = drawops held ++ lefts;
      moved = IsPermutation-trans given (drawops (chosen is_taken all) ++ lefts) (drawops held ++ lefts) moved
          (IsPermutation-append_left lefts (drawops (chosen is_taken all)) (drawops held) (moved_drawops (chosen is_taken all) held taken));
      taken = counted_as p.cells p.seen q.seen (drawops held ++ lefts) (plus (tally held) (counts 0 0 0 (length lefts))) (counts_in b) sum
          (both_batches p.cells p.seen q.seen q.seen (drawops held) lefts (tally held) (counts 0 0 0 (length lefts)) first last);
    }
