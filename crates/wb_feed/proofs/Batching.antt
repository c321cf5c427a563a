-- What the workers accepted and what was taken again, as one batch.
use Rattle.std.proofs.Common.{◌≡◌, ℕ, ◌+◌, ◌≤◌, ◌<◌, List, [], ◌∷◌, ◌++◌, length, map, get_or, refl, ap, sym, subst, ◌∙◌, ⊎_elim, arith, append_assoc, Option, Result, Err, take}
use Rattle.std.proofs.lemmas.List.{map-append}
use Rattle.std.specs.Prelude.{◌/◌, All, Contains}
use Rattle.std.proofs.lemmas.Option.{get_or_from_slice_get, slice_get_within}
use Rattle.wb_names.proofs.Listings.{Contains-cases, Contains-none}
use Rattle.std.proofs.lemmas.Bool.Decides.{nat_tests}
use Rattle.std.proofs.lemmas.List.Elements.{All-nil, All-cons, filter-append}
use Rattle.std.specs.List.Sorted.{IsPermutation}
use Rattle.std.proofs.lemmas.List.Sorted.{IsPermutation-trans, IsPermutation-append_right}
use mathlib.Core.List.{IsPrefix}
use Rattle.wb_names.specs.Values.{DrawopValue}
use Rattle.wb_names.specs.History.{HoldsName}
use Rattle.wb_names.specs.Arrivals.{New, Again, Clash, Left, Counts, counts, counts_of}
use Rattle.wb_board.specs.Desks.{PassValue, IsSound, AddsNothing}
use Rattle.wb_feed.specs.declared.channel.ChannelView.{ChannelView}
use Rattle.wb_board.specs.declared.reply.Reply.{Reply}
use Rattle.wb_feed.specs.declared.channel.Message.{Message}
use Rattle.wb_feed.specs.declared.channel.Message.TheVariants.{Take, End}
use Rattle.wb_feed.specs.declared.workers.WorkFault.{WorkFault}
use Rattle.wb_feed.specs.declared.workers.WorkFault.TheVariants.{Start}
use Rattle.wb_feed.specs.declared.batch.Batch.{Batch}
use Rattle.wb_feed.specs.Accepts.{Loses, Entry, drawops, tally}
use Rattle.wb_feed.specs.Batches.{counted, counts_in, Takes, IsShared, IsSettled}
use Rattle.wb_feed.specs.Workers.{Workers, nobody, worker, started, Work}
use Rattle.wb_feed.specs.Inside.Working.{Worked, MayLose, lost_in}
use Rattle.wb_feed.specs.Served.{once_below, Spot, is_left, entries, accepted_at, offered, OffersRight, times_offered}
use Rattle.wb_feed.specs.Inside.Channel.{IsComplete, AreRight, spots}
use Rattle.wb_feed.specs.Marks.{unmarked, Marks}
use Rattle.wb_feed.specs.Inside.Filing.{told_at, told_outcomes, AreOnce, filled, filed_outcomes, Files, Settles}
use Rattle.wb_feed.specs.Inside.Serving.{told_of, received}
use Rattle.wb_board.proofs.InOrder.{one_run}
use Rattle.wb_feed.proofs.Log.{is_taken, chosen, taken_or_left, tally-append, left_many, AreAnswered, Gathers, gathers_run, runs_empty, runs_sound}
use Rattle.wb_feed.proofs.Drawops.{nothing, at_named}
use Rattle.wb_feed.proofs.Numbers.{times}
use Rattle.wb_feed.proofs.OneThread.{counted_as, same_counts}
use Rattle.wb_feed.proofs.OneWorker.{in_given_order}
use Rattle.wb_feed.proofs.Placing.{places_and_rest, accepted_few, workers_offer, workers_offered, workers_gather, taken_at}
use Rattle.wb_feed.proofs.Prefixes.{prefix_length, take_prefix}
use Rattle.wb_feed.proofs.Rows.{Among, prefix_among, loses_wider, lost_both, adds_none}
use Rattle.wb_feed.proofs.OneRun.{in_some_order}
use Rattle.wb_feed.proofs.WholeDesks.{left_lacks, stays_whole}

told_places : (log : List Spot) → told_at (told_of log) ≡ accepted_at log
told_places [] = refl
told_places ((p, (d, New i)) ∷ ss) = ap (λ l. p ∷ l) (told_places ss)
told_places ((p, (d, Again i)) ∷ ss) = ap (λ l. p ∷ l) (told_places ss)
told_places ((p, (d, Clash i)) ∷ ss) = ap (λ l. p ∷ l) (told_places ss)
told_places ((p, (d, Left)) ∷ ss) = told_places ss

told_counts : (log : List Spot) → counts_of (told_outcomes (told_of log)) ≡ counts (tally (entries log)).fresh (tally (entries log)).again (tally (entries log)).clash 0
told_counts [] = refl
told_counts ((p, (d, New i)) ∷ ss) = ap (λ (k : Counts). record k { fresh = k.fresh + 1 }) (told_counts ss)
told_counts ((p, (d, Again i)) ∷ ss) = ap (λ (k : Counts). record k { again = k.again + 1 }) (told_counts ss)
told_counts ((p, (d, Clash i)) ∷ ss) = ap (λ (k : Counts). record k { clash = k.clash + 1 }) (told_counts ss)
told_counts ((p, (d, Left)) ∷ ss) = told_counts ss

-- the names of what was taken are held
taken_names : (h : List DrawopValue) (log : List Entry) → AreAnswered h log → All (λ d. HoldsName h d.name) (drawops (chosen is_taken log))
taken_names h [] t = All-nil (λ (d : DrawopValue). HoldsName h d.name)
taken_names h ((d, Left) ∷ es) t = taken_names h es t.1
taken_names h ((d, New i) ∷ es) t = All-cons (λ (d : DrawopValue). HoldsName h d.name) d (drawops (chosen is_taken es)) (at_named h i d d t.0 refl) (taken_names h es t.1)
taken_names h ((d, Again i) ∷ es) t = All-cons (λ (d : DrawopValue). HoldsName h d.name) d (drawops (chosen is_taken es)) (at_named h i d d t.0 refl) (taken_names h es t.1)
taken_names h ((d, Clash i) ∷ es) t = All-cons (λ (d : DrawopValue). HoldsName h d.name) d (drawops (chosen is_taken es)) (at_named h i t.0.0 d t.0.1 t.0.2) (taken_names h es t.1)

-- what was received was sent
right_among : (sent : List DrawopValue) (ms : List Message) → AreRight sent ms → Among (received ms) sent
right_among sent [] right d c = absurd (Contains-none d c)
right_among sent (Take p e ∷ ms) right d c = ⊎_elim
    (λ (is : e ≡ d). subst (Contains sent) is (p, slice_get_within sent p e right.0, get_or_from_slice_get sent p e e right.0))
    (λ (more : Contains (received ms) d). right_among sent ms right.1 d more) (Contains-cases e d (received ms) c)
right_among sent (End ∷ ms) right d c = right_among sent ms right.1 d c

received_came : (h : ChannelView) (arrived : List DrawopValue) → IsComplete h → IsPrefix h.sent arrived → Among (received h.got) arrived
received_came h arrived complete sent d c = prefix_among h.sent arrived sent d (right_among h.sent h.got complete.right d c)

-- nothing was lost since all passes came back, and the answers tell of one loss
pub kept_since : {X Y : Type 0} (out : ℕ) (h k : ChannelView) (arrived : List DrawopValue) (p q s : PassValue) (r : Result X WorkFault) (o : Result Y WorkFault) → IsComplete h → k ≡ h → take (length k.sent) arrived ≡ k.sent → lost_in o ≡ lost_in r
    → MayLose out (received h.got) p r q → Loses 0 arrived q s → MayLose out arrived p o s
kept_since out h k arrived p q s r o complete is first same l since =
    let among = received_came h arrived complete (take_prefix h.sent arrived (subst (λ (v : ChannelView). take (length v.sent) arrived ≡ v.sent) is first)) in
    let zero : lost_in r + 0 ≡ lost_in o = omega (arith, same) in
    record { rows = subst (λ n. Loses n arrived p s) zero (lost_both (lost_in r) 0 arrived p q s (loses_wider (lost_in r) (received h.got) arrived p q among l.rows) since); few = omega (arith, same, l.few) }

-- after a refused thread nothing was added, since nothing came
pub none_started : {X : Type 0} (out : ℕ) (arrived : List DrawopValue) (p q : PassValue) (r : Result X WorkFault) → IsSound p → IsSound q → r ≡ Err Start → arrived ≡ [] → MayLose out arrived p r q → AddsNothing p q
none_started out arrived p q r sp sq start none l = adds_none p q sp sq (subst (λ (ds : List DrawopValue). Loses 0 ds p q) none (subst (λ n. Loses n arrived p q) (ap lost_in start) l.rows))

once_rises : (i m n : ℕ) → m ≤ n → once_below i m ≤ once_below i n
once_rises i m n h = grind (arith, nat_tests)

-- What the workers did that were started: p is the desk before, q the desk after
record Gained (p : PassValue) (log : List Spot) (gots : List Message) (q : PassValue) : Type 0 where
  gathers : Gathers p (entries log) q
  many : (i : ℕ) → times_offered i (offered log) ≡ spots i gots
  offers : (sent ds : List DrawopValue) → IsPrefix sent ds → AreRight sent gots → OffersRight ds (offered log)

gained : (n : ℕ) (p q : PassValue) (log : List Spot) (gots : List Message) → Work n p log gots q → Gained p log gots q
gained n p q log gots w = record { gathers = workers_gather w; many = λ i. workers_offered i w; offers = λ sent ds h right. workers_offer sent ds h right w }

workers_sound : {rows n : ℕ} {p q : PassValue} {log : List Spot} {gots : List Message} → IsSound p → Workers rows n p log gots q → IsSound q
workers_sound s nobody = s
workers_sound s (worker es others got more split serves rest back) = back.sound

-- the same, with the replies to n workers
abbrev pub AllWorked : ℕ → PassValue → PassValue → ChannelView → ChannelView → List (ℕ × Reply) → Type 0
AllWorked n p q g h told = Worked (λ log gots. Work n p log gots q) g h told

module _ (n : ℕ) (p q r : PassValue) (g h : ChannelView) (told : List (ℕ × Reply)) (arrived : List DrawopValue) (filed : List (Option Reply)) (b : Batch) (c : AllWorked n p q g h told)
    (none : g.got ≡ []) (complete : IsComplete h) (sent : IsPrefix h.sent arrived) (files : Files told (length arrived) filed) (m : Settles q filed arrived r b) where
  work : Gained p c.log c.gots q
  work = gained n p q c.log c.gots c.did

  got : h.got ≡ c.gots
  got = c.got ∙ ap (λ l. l ++ c.gots) none

  few : complete.low ≤ length arrived
  few = omega (arith, complete.most, prefix_length h.sent arrived sent)

  places : told_at told ≡ accepted_at c.log
  places = ap told_at c.tells ∙ told_places c.log

  once : AreOnce (length arrived) (told_at told)
  once i = omega (arith, ap (times i) places, accepted_few i c.log, work.many i, ap (λ l. spots i l) got, complete.once i, once_rises i complete.low (length arrived) few)

  right : OffersRight arrived (offered c.log)
  right = work.offers h.sent arrived sent (subst (λ l. AreRight h.sent l) got complete.right)

  -- what the workers accepted, as drawops, and what is not filed are the drawops arrived
  moved : IsPermutation arrived (drawops (chosen is_taken (entries c.log)) ++ unmarked (filled filed) arrived)
  moved =
      let e : map (λ i. get_or arrived i nothing) (told_at told) ≡ drawops (chosen is_taken (entries c.log)) = ap (map (λ i. get_or arrived i nothing)) places ∙ sym (taken_at arrived c.log right) in
      subst (λ l. IsPermutation arrived (l ++ unmarked (filled filed) arrived)) e (places_and_rest arrived (told_at told) (filled filed) files.marks once)

  shares : IsShared n p arrived r
  shares = record {
    log = c.log;
    right = right;
    received = complete.low;
    few = few;
    once = λ i. work.many i ∙ (sym (ap (λ l. spots i l) got) ∙ complete.once i);
    gots = c.gots;
    joined = q;
    work = c.did;
    marks = filled filed;
    marked = subst (λ l. Marks l (length arrived) (filled filed)) places files.marks;
    left_over = m.log;
    rest = m.runs;
    all = m.all;
  }

  tallied : counts_in b ≡ counted shares
  unfolding shares
  tallied =
      let log = entries c.log in
      let more = m.log in
      let sum = tally-append log more in
      let filed' : counts_of (filed_outcomes filed) ≡ counts (tally log).fresh (tally log).again (tally log).clash 0 = files.counted once ∙ (ap (λ l. counts_of (told_outcomes l)) c.tells ∙ told_counts c.log) in
      let fresh : (tally (log ++ more)).fresh ≡ b.fresh = omega (arith, sum.fresh, m.total.fresh, ap (λ k. k.fresh) filed') in
      let again : (tally (log ++ more)).again ≡ b.again = omega (arith, sum.again, m.total.again, ap (λ k. k.again) filed') in
      let clash : (tally (log ++ more)).clash ≡ b.clash = omega (arith, sum.clash, m.total.clash, ap (λ k. k.clash) filed') in
      let left : (tally more).left ≡ b.left = omega (arith, m.total.left, ap (λ k. k.left) filed') in
      sym (same_counts fresh again clash left)

  takes_all : IsSound p → IsSound r → Takes p arrived n r b
  unfolding shares
  takes_all sp sr =
      let log = entries c.log in
      let more = m.log in
      let all = log ++ more in
      let sum = tally-append log more in
      let gs : Gathers p all r = gathers_run p q r log more work.gathers m.runs in
      let filed' : counts_of (filed_outcomes filed) ≡ counts (tally log).fresh (tally log).again (tally log).clash 0 = files.counted once ∙ (ap (λ l. counts_of (told_outcomes l)) c.tells ∙ told_counts c.log) in
      let fresh : (tally all).fresh ≡ b.fresh = omega (arith, sum.fresh, m.total.fresh, ap (λ k. k.fresh) filed') in
      let again : (tally all).again ≡ b.again = omega (arith, sum.again, m.total.again, ap (λ k. k.again) filed') in
      let clash : (tally all).clash ≡ b.clash = omega (arith, sum.clash, m.total.clash, ap (λ k. k.clash) filed') in
      let left : (tally more).left ≡ b.left = omega (arith, m.total.left, ap (λ k. k.left) filed') in
      let lefts = drawops (chosen is_left more) in
      let left' : length lefts ≡ b.left = sym (left_many more) ∙ left in
      let taken = drawops (chosen is_taken log) in
      let retaken = drawops (chosen is_taken more) in
      let rest : IsPermutation (unmarked (filled filed) arrived) (retaken ++ lefts) = subst (λ l. IsPermutation l (retaken ++ lefts)) m.all (taken_or_left more) in
      let both : IsPermutation arrived ((taken ++ retaken) ++ lefts) = subst (λ l. IsPermutation arrived l) (sym (append_assoc taken retaken lefts))
      (IsPermutation-trans arrived (taken ++ unmarked (filled filed) arrived) (taken ++ (retaken ++ lefts)) moved (IsPermutation-append_right taken (unmarked (filled filed) arrived) (retaken ++ lefts) rest)) in
      let in_all : drawops (chosen is_taken all) ≡ taken ++ retaken = ap drawops (filter-append (λ (e : Entry). is_taken e.1) log more) ∙ map-append (λ (e : Entry). e.0) (chosen is_taken log) (chosen is_taken more) in
      let named : IsPermutation arrived (drawops (chosen is_taken all) ++ lefts) = subst (λ l. IsPermutation arrived (l ++ lefts)) (sym in_all) both in
      let full : 0 < length lefts → r.free ≡ 0 = λ some. runs_empty q r more m.runs (omega (arith, left_many more)) in
      record {
        counted = m.many;
        rows = omega (arith, gs.free, fresh);
        named = record { held = drawops (chosen is_taken all); others = lefts; moved = named; names = taken_names r.seen all gs.answered; few = left' };
        full = λ some. full (omega (arith, left'));
        whole = stays_whole p r all gs;
        settled = λ w. in_some_order one_run n p arrived r shares lefts b sp w sr named (left_lacks q r more sr (stays_whole p r all gs w) m.runs) full (fresh, again, clash, left');
        in_order = λ is w.
            counted_as p.cells p.seen r.seen arrived (counts (tally all).fresh (tally all).again (tally all).clash (tally more).left) (counts_in b) (same_counts fresh again clash left)
            (in_given_order (p.free / n) p q r c.log c.gots more arrived (filled filed) sp w (subst (λ k. Workers (p.free / n) (started k) p c.log c.gots q) is c.did) m.runs m.all shares.marked);
      }

  pub settles : IsSound p → IsSettled n p arrived r b
  settles sp = record { taken = takes_all sp (runs_sound q r m.log (workers_sound sp c.did) m.runs); shared = (shares, tallied) }
