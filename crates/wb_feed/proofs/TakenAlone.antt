-- What the one worker has taken so far, and what it leaves.
use Rattle.std.proofs.Common.{◌≡◌, ◌+◌, true, List, [], ◌∷◌, ◌++◌, length, refl, ap, sym, subst, ◌∙◌, arith, length-append, Option, None}
use Rattle.std.specs.Prelude.{replicate, Contains}
use Rattle.std.proofs.lemmas.List.{map-append}
use Rattle.std.proofs.lemmas.List.Elements.{Contains-append_right}
use Rattle.wb_names.specs.Values.{DrawopValue}
use Rattle.wb_names.specs.Arrivals.{Outcome, counts}
use Rattle.wb_board.specs.Desks.{PassValue, IsSound}
use Rattle.wb_board.specs.declared.reply.Reply.{Reply}
use Rattle.wb_feed.specs.declared.batch.Batch.{Batch}
use Rattle.wb_feed.specs.declared.channel.ChannelView.{ChannelView}
use Rattle.wb_feed.specs.Accepts.{Accepts, Entry, Loses, Runs, drawops, tally}
use Rattle.wb_feed.specs.Batches.{IsSettled}
use Rattle.wb_feed.specs.Workers.{nobody}
use Rattle.wb_feed.specs.Inside.Channel.{IsComplete, channel_view}
use Rattle.wb_feed.specs.Inside.Filing.{CountsOne, Files, IsTotal, Settles, filled}
use Rattle.wb_feed.proofs.Batching.{AllWorked, settles}
use Rattle.wb_feed.proofs.Filing.{files_none}
use Rattle.wb_feed.proofs.Log.{one_kind, runs_more, runs_leave, tally-append}
use Rattle.wb_feed.proofs.Numbers.{once_past}
use Rattle.wb_feed.proofs.OneWorker.{nothing_marked}
use Rattle.wb_feed.proofs.Rows.{leaves_lose, loses_wider, lost_both, prefix_among}

-- the desk p took these drawops, in order, and is q; b counts what they became
pub record AloneSoFar (p : PassValue) (ds : List DrawopValue) (q : PassValue) (b : Batch) : Type 0 where
  pub log : List Entry
  pub runs : Runs p log q
  pub all : drawops log ≡ ds
  pub total : IsTotal (counts 0 0 0 0) (tally log) b
  pub many : b.fresh + b.again + b.clash + b.left ≡ length ds

pub alone_none : (p : PassValue) (ds : List DrawopValue) (b : Batch) → ds ≡ [] → b ≡ record { fresh = 0; again = 0; clash = 0; left = 0 } → AloneSoFar p ds p b
alone_none p ds b none zero = record {
  log = [];
  runs = refl;
  all = sym none;
  total = record { fresh = ap (λ (x : Batch). x.fresh) zero; again = ap (λ (x : Batch). x.again) zero; clash = ap (λ (x : Batch). x.clash) zero; left = ap (λ (x : Batch). x.left) zero };
  many = omega (arith, ap length none, ap (λ (x : Batch). x.fresh) zero, ap (λ (x : Batch). x.again) zero, ap (λ (x : Batch). x.clash) zero, ap (λ (x : Batch). x.left) zero);
}

pub alone_more : (p q r : PassValue) (was now : List DrawopValue) (b c : Batch) (d e : DrawopValue) → AloneSoFar p was q b → (o : Outcome) × Accepts q d o r × CountsOne b o c → now ≡ was ++ e ∷ [] → e ≡ d → AloneSoFar p now r c
alone_more p q r was now b c d e s one came same =
    let o = one.0 in
    let more : now ≡ was ++ d ∷ [] = came ∙ ap (λ (x : DrawopValue). was ++ x ∷ []) same in
    let sum = tally-append s.log ((d, o) ∷ []) in
    let kind = one_kind o in
    record {
      log = s.log ++ (d, o) ∷ [];
      runs = runs_more p q r s.log d o s.runs one.1;
      all = map-append (λ (e : Entry). e.0) s.log ((d, o) ∷ []) ∙ (ap (λ l. l ++ d ∷ []) s.all ∙ sym more);
      total = record {
        fresh = omega (arith, one.2.fresh, s.total.fresh, sum.fresh);
        again = omega (arith, one.2.again, s.total.again, sum.again);
        clash = omega (arith, one.2.clash, s.total.clash, sum.clash);
        left = omega (arith, one.2.left, s.total.left, sum.left);
      };
      many = omega (arith, s.many, ap length more, length-append was (d ∷ []), kind, one.2.fresh, one.2.again, one.2.clash, one.2.left);
    }

pub alone_keeps : (p q : PassValue) (ds : List DrawopValue) (b : Batch) → AloneSoFar p ds q b → Loses 0 ds p q
alone_keeps p q ds b s = subst (λ l. Loses 0 l p q) s.all (leaves_lose p q s.log (runs_leave p q s.log s.runs))

-- the last was refused memory
pub alone_failed : (p q r : PassValue) (was now : List DrawopValue) (b : Batch) (d e : DrawopValue) → AloneSoFar p was q b → Loses 0 (d ∷ []) q r → now ≡ was ++ e ∷ [] → e ≡ d → Loses 0 now p r
alone_failed p q r was now b d e s one came same =
    let more : now ≡ was ++ d ∷ [] = came ∙ ap (λ (x : DrawopValue). was ++ x ∷ []) same in
    lost_both 0 0 now p q r (loses_wider 0 was now p q (prefix_among was now (d ∷ [], sym more)) (alone_keeps p q was b s))
    (loses_wider 0 (d ∷ []) now q r (λ x c. subst (λ (l : List DrawopValue). Contains l x) (sym more) (Contains-append_right was (d ∷ []) x c)) one)

-- a channel that nobody used
abbrev unused : ChannelView
unused = channel_view 16 true [] []

pub alone_settles : (p r : PassValue) (ds : List DrawopValue) (b : Batch) → IsSound p → AloneSoFar p ds r b → IsSettled 1 p ds r b
alone_settles p r ds b sound s =
    let filed : List (Option Reply) = replicate (length ds) None in
    let files : Files [] (length ds) filed = files_none (length ds) filed refl in
    let zero = files.counted (λ i. omega arith) in
    let worked : AllWorked 1 p p unused unused [] = record { log = []; gots = []; did = nobody; got = refl; tells = refl } in
    let complete : IsComplete unused = record { low = 0; most = omega arith; right = tt; once = λ i. sym (once_past i 0 (omega arith)) } in
    let settled : Settles p filed ds r b = record {
      log = s.log;
      runs = s.runs;
      all = s.all ∙ sym (nothing_marked (filled filed) ds files.marks);
      total = record {
        fresh = omega (arith, s.total.fresh, ap (λ n. n.fresh) zero);
        again = omega (arith, s.total.again, ap (λ n. n.again) zero);
        clash = omega (arith, s.total.clash, ap (λ n. n.clash) zero);
        left = omega (arith, s.total.left, ap (λ n. n.left) zero);
      };
      many = s.many;
    } in
    settles 1 p p r unused unused [] ds filed b worked refl complete (ds, refl) files settled sound
