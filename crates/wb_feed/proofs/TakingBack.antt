-- What several workers did, put together.
use Rattle.std.proofs.Common.{◌≡◌, ℕ, suc, ◌+◌, ◌-◌, ◌*◌, Bool, true, List, [], ◌++◌, Result, Ok, Err, refl, ap, ap₂, sym, subst, ◌∙◌, arith, append_assoc, length-append, ⊎_elim}
use Rattle.std.proofs.lemmas.Grind.{flat_map-append}
use Rattle.std.specs.Prelude.{IfOk, OnOk}
use Rattle.std.proofs.lemmas.List.{append-nil}
use Rattle.std.proofs.lemmas.List.Elements.{All-nil, All-append}
use Rattle.crossbeam_channel.specs.Claims.{view}
use Rattle.wb_names.specs.Values.{DrawopValue}
use Rattle.wb_board.specs.Desks.{PassValue, IsSplit}
use Rattle.wb_board.specs.declared.reply.Reply.{Reply}
use Rattle.wb_feed.specs.Accepts.{Loses, HasOneOf}
use Rattle.wb_feed.specs.declared.channel.ChannelView.{ChannelView}
use Rattle.wb_feed.specs.declared.channel.Message.{Message}
use Rattle.wb_feed.specs.declared.sender.Feeding.{Feeding}
use Rattle.wb_feed.specs.declared.worker.Told.{Told}
use Rattle.wb_feed.specs.declared.worker.GivenBack.{GivenBack}
use Rattle.wb_feed.specs.declared.workers.WorkFault.{WorkFault}
use Rattle.wb_feed.specs.declared.workers.WorkFault.TheVariants.{Start, Memory}
use Rattle.wb_feed.specs.Inside.Channel.{channel_view}
use Rattle.wb_feed.specs.Inside.Serving.{Served, received, noted}
use Rattle.wb_feed.specs.Served.{Spot}
use Rattle.wb_feed.specs.Inside.Arriving.{HasArrived}
use Rattle.wb_feed.specs.Inside.Feeding.{IsWith, IsMerged, HasFed}
use Rattle.wb_feed.specs.Workers.{IsBack, Workers, nobody, worker}
use Rattle.wb_feed.specs.Inside.Working.{Worked, MayLose, lost_in, TakesBack}
use Rattle.wb_feed.proofs.Log.{split_keeps, split_mine, keeps_trans}
use Rattle.wb_feed.proofs.Rows.{longer, loses_wider, lost_both}
use Rattle.wb_feed.proofs.Serving.{received_before, received_next}
use Rattle.wb_feed.proofs.Sending.{arrived_none}

-- ---- the rows

-- rows are handed out with a desk
split_loses : (n : ℕ) (ds : List DrawopValue) (p rest desk : PassValue) → IsSplit p n rest desk → Loses n ds p rest
split_loses n ds p rest desk s = record { kept = split_keeps p rest desk n s; gained = []; mine = split_mine p rest desk n s ∙ sym (append-nil p.mine); each = All-nil (HasOneOf ds rest.seen); rows = omega (arith, s.rows) }

-- and come back with it
back_loses : (n m : ℕ) (ds : List DrawopValue) (p rest back q desk done : PassValue) → IsSplit p n rest desk → Loses m ds rest back → Loses 0 ds desk done → IsBack back done q → Loses m ds p q
back_loses n m ds p rest back q desk done s l d b =
    let j = b.joined in
    record {
      kept = keeps_trans p rest q (split_keeps p rest desk n s) (keeps_trans rest back q l.kept (record { same = b.same; seen = j.first }));
      gained = l.gained ++ d.gained;
      mine = j.mine ∙ (ap₂ (λ x y. x ++ y) (l.mine ∙ ap (λ x. x ++ l.gained) (split_mine p rest desk n s)) (d.mine ∙ ap (λ x. x ++ d.gained) s.mine) ∙ append_assoc p.mine l.gained d.gained);
      each = All-append (HasOneOf ds q.seen) l.gained d.gained (longer ds back.seen q.seen l.gained j.first l.each) (longer ds done.seen q.seen d.gained j.second d.each);
      rows = omega (arith, length-append l.gained d.gained, j.free, l.rows, d.rows, s.rows, s.free);
    }

-- or are lost
dropped : (n m : ℕ) (ds : List DrawopValue) (p rest back q desk : PassValue) → IsSplit p n rest desk → Loses m ds rest back → q ≡ back → Loses (n + m) ds p q
dropped n m ds p rest back q desk s l e = lost_both n m ds p rest q (split_loses n ds p rest desk s) (subst (λ (x : PassValue). Loses m ds rest x) (sym e) l)

module _ (rows n m : ℕ) (p rest back q desk : PassValue) (d : GivenBack) (j : ChannelView) (before got : List Message) (next : m ≡ suc n) (all : got ≡ before ++ j.got) (s : IsSplit p rows rest desk)
    (w : Served desk d.desk j d.told.replies.items d.failed) where
  theirs : Loses 0 (received got) desk d.desk
  theirs = loses_wider 0 (received j.got) (received got) desk d.desk (received_next before j.got got all) w.kept

  others_lose : (lost : ℕ) → Loses lost (received before) rest back → Loses lost (received got) rest back
  others_lose lost l = loses_wider lost (received before) (received got) rest back (received_before before j.got got all) l

  came_back : (lost : ℕ) → Loses lost (received before) rest back → IsBack back d.desk q → Loses lost (received got) p q
  came_back lost l b = back_loses rows lost (received got) p rest back q desk d.desk s (others_lose lost l) theirs b

  pub several_kept : (others r : Result Told WorkFault) → MayLose (rows * n) (received before) rest others back → TakesBack back rows d others q r → MayLose (rows * m) (received got) p r q
  several_kept others (Ok all) l t =
      let none : lost_in others ≡ 0 = ap lost_in t.3 in
      record { rows = came_back 0 (subst (λ k. Loses k (received before) rest back) none l.rows) t.1; few = omega arith }
  several_kept others (Err Start) l t =
      let none : lost_in others ≡ 0 = ap lost_in t.0 in
      record { rows = came_back 0 (subst (λ k. Loses k (received before) rest back) none l.rows) t.1; few = omega arith }
  several_kept others (Err (Memory lost)) l t =
      let few = l.few in
      let sum : rows * m ≡ rows + rows * n = ap (λ k. rows * k) next ∙ omega arith in
      ⊎_elim
      (λ (b : IsBack back d.desk q × (lost ≡ lost_in others)). record { rows = subst (λ k. Loses k (received got) p q) (sym b.1) (came_back (lost_in others) l.rows b.0); few = omega (arith, few, sum, b.1) })
      (λ (e : (q ≡ back) × (lost ≡ rows + lost_in others)).
      record { rows = subst (λ k. Loses k (received got) p q) (sym e.1) (dropped rows (lost_in others) (received got) p rest back q desk s (others_lose (lost_in others) l.rows) e.0); few = omega (arith, few, sum, e.1) }) t

pub kept_whole : {X : Type 0} (out : ℕ) (ds : List DrawopValue) (p q : PassValue) (o : Result X WorkFault) → lost_in o ≡ 0 → Loses 0 ds p q → MayLose out ds p o q
kept_whole out ds p q o zero k = record { rows = subst (λ n. Loses n ds p q) (sym zero) k; few = omega (arith, zero) }

-- ---- the feeding

pub fed_none : {A X : Type 0} (gives : A → List DrawopValue → A → Type 0) (most : A → ℕ) (ended : A → Bool) (f g : Feeding) (a : A) (r : Result X WorkFault) → g.channel ≡ f.channel → g.arrived.items ≡ f.arrived.items → gives a [] a → OnOk r (ended a ≡ true)
    → HasFed gives most ended f a g a r
fed_none gives most ended f g a r channel arrived itself none = record {
  channel = channel;
  arrived = subst (λ (l : List DrawopValue). HasArrived gives most a f.arrived.items a l) (sym arrived) (arrived_none gives most a f.arrived.items itself);
  ended = none;
  untouched = λ _. (refl, arrived);
}

-- the same, seen from where a pass was cut off until it was taken back
fed_within : {A X Y : Type 0} (gives : A → List DrawopValue → A → Type 0) (most : A → ℕ) (ended : A → Bool) (f f' g' g : Feeding) (v w : ChannelView) (a b : A) (o : Result X WorkFault) (r : Result Y WorkFault)
    → IsWith f v f' → HasFed gives most ended f' a g' b o → IsWith g' w g → OnOk r (ended b ≡ true) → (r ≡ Err Start → o ≡ Err Start) → HasFed gives most ended f a g b r
fed_within gives most ended f f' g' g v w a b o r cut h back ok start = record {
  channel = back.channel ∙ (h.channel ∙ cut.channel);
  arrived = subst (λ (l : List DrawopValue). HasArrived gives most a f.arrived.items b l) (sym (ap (λ k. k.items) back.arrived)) (subst (λ (l : List DrawopValue). HasArrived gives most a l b g'.arrived.items) (ap (λ k. k.items) cut.arrived) h.arrived);
  ended = ok;
  untouched = λ e. let u = h.untouched (start e) in (u.0, ap (λ k. k.items) back.arrived ∙ (u.1 ∙ ap (λ k. k.items) cut.arrived));
}

pub several_fed : {A : Type 0} (gives : A → List DrawopValue → A → Type 0) (most : A → ℕ) (ended : A → Bool) (f f' g' g : Feeding) (v w : ChannelView) (a b : A) (p q : PassValue) (rows : ℕ) (d : GivenBack) (others r : Result Told WorkFault)
    → IsWith f v f' → HasFed gives most ended f' a g' b others → IsWith g' w g → TakesBack p rows d others q r → HasFed gives most ended f a g b r
several_fed gives most ended f f' g' g v w a b p q rows d others (Ok all) cut h back t = fed_within gives most ended f f' g' g v w a b others (Ok all) cut h back (subst (λ o. OnOk o (ended b ≡ true)) t.3 h.ended) (λ e. absurd (cc (e)))
several_fed gives most ended f f' g' g v w a b p q rows d others (Err Start) cut h back t = fed_within gives most ended f f' g' g v w a b others (Err Start) cut h back tt (λ e. t.0)
several_fed gives most ended f f' g' g v w a b p q rows d others (Err (Memory lost)) cut h back t = fed_within gives most ended f f' g' g v w a b others (Err (Memory lost)) cut h back tt (λ e. absurd (cc (e)))

-- ---- what was done

pub nobody_worked : (rows n : ℕ) (p : PassValue) (g h : ChannelView) (told : List (ℕ × Reply)) → n ≡ 0 → h.got ≡ g.got → told ≡ [] → Worked (λ log gots. Workers rows n p log gots p) g h told
nobody_worked rows n p g h told none got t = record {
  log = [];
  gots = [];
  did = subst (λ (k : ℕ). Workers rows k p [] [] p) (sym none) nobody;
  got = got ∙ sym (append-nil g.got);
  tells = t;
}

pub several_worked : (rows n m : ℕ) (p rest back q desk : PassValue) (d : GivenBack) (f f' g' g : Feeding) (others r : Result Told WorkFault) → m ≡ suc n → IsSplit p rows rest desk
    → IsWith f (channel_view ((view f.pass).parts - 1) (view f.pass).sends (view f.pass).sent (view f.pass).got) f' → Served desk d.desk (view d.pass) d.told.replies.items d.failed
    → IfOk others (λ told. Worked (λ log gots. Workers rows n rest log gots back) (view f'.pass) (view g'.pass) told.replies.items) → IsMerged g' (view d.pass) g → TakesBack back rows d others q r
    → IfOk r (λ told. Worked (λ log gots. Workers rows m p log gots q) (view f.pass) (view g.pass) told.replies.items)
several_worked rows n m p rest back q desk d f f' g' g others (Err e) next s cut served w merged t = tt
several_worked rows n m p rest back q desk d f f' g' g others (Ok all) next s cut served w merged t =
    let o : Worked (λ log gots. Workers rows n rest log gots back) (view f'.pass) (view g'.pass) t.2.replies.items = subst (λ x. IfOk x (λ told. Worked (λ log gots. Workers rows n rest log gots back) (view f'.pass) (view g'.pass) told.replies.items)) t.3 w in
    let k = served.took t.0 in
    let got = (view d.pass).got in
    record {
      log = k.log ++ o.log;
      gots = o.gots ++ got;
      did = subst (λ (x : ℕ). Workers rows x p (k.log ++ o.log) (o.gots ++ got) q) (sym next) (worker k.log o.log got o.gots s k.serves o.did t.1);
      got = ap (λ (z : ChannelView). z.got) merged.view ∙ (ap (λ l. l ++ got) (o.got ∙ ap (λ (z : ChannelView). z.got ++ o.gots) cut.view) ∙ append_assoc (view f.pass).got o.gots got);
      tells = t.4 ∙ (ap₂ (λ a b. a ++ b) k.tells o.tells ∙ sym (flat_map-append (λ (s : Spot). noted s.0 s.1.1) k.log o.log));
    }

-- a worker whose thread was refused did nothing that counts
pub refused_back : (P : Told → Type 0) (p : PassValue) (rows : ℕ) (d : GivenBack) (q : PassValue) (f : WorkFault) (r : Result Told WorkFault) → TakesBack p rows d (Err f) q r → IfOk r P
refused_back P p rows d q f (Ok all) t = absurd (cc (t.3))
refused_back P p rows d q f (Err e) t = tt

pub nobody_all : (rows n : ℕ) (p : PassValue) (g h : ChannelView) (r : Result Told WorkFault) → n ≡ 0 → h.got ≡ g.got → IfOk r (λ told. told.replies.items ≡ [])
    → IfOk r (λ told. Worked (λ log gots. Workers rows n p log gots p) g h told.replies.items)
nobody_all rows n p g h (Ok a) none same t = nobody_worked rows n p g h a.replies.items none same t
nobody_all rows n p g h (Err e) none same t = tt
