-- What the calls inside a batch leave of the desk and its rows, and of the replies.
use Rattle.std.specs.Prelude.{◌≡◌, ◌⊎◌, ℕ, ◌+◌, ◌≤◌, false, List, ◌++◌, Result, Ok, Err, IfOk}
use Rattle.crossbeam_channel.specs.Claims.{view}
use Rattle.wb_names.specs.Values.{DrawopValue}
use Rattle.wb_board.specs.Desks.{PassValue}
use Rattle.wb_board.specs.declared.reply.Reply.{Reply}
use Rattle.wb_feed.specs.declared.channel.Message.{Message}
use Rattle.wb_feed.specs.declared.channel.ChannelView.{ChannelView}
use Rattle.wb_feed.specs.declared.sender.Feeding.{Feeding}
use Rattle.wb_feed.specs.declared.worker.GivenBack.{GivenBack}
use Rattle.wb_feed.specs.declared.worker.Told.{Told}
use Rattle.wb_feed.specs.declared.workers.WorkFault.{WorkFault}
use Rattle.wb_feed.specs.declared.workers.WorkFault.TheVariants.{Start, Memory}
use Rattle.wb_feed.specs.Accepts.{Loses}
use Rattle.wb_feed.specs.Served.{Spot}
use Rattle.wb_feed.specs.Inside.Serving.{told_of}
use Rattle.wb_feed.specs.Workers.{IsBack}

-- how many rows are lost: none, unless an allocation failed
abbrev pub lost_in : {X : Type 0} → Result X WorkFault → ℕ
lost_in (Ok x) = 0
lost_in (Err Start) = 0
lost_in (Err (Memory lost)) = lost

-- What the workers did, and the replies to it. The pass h of the channel has what they received
pub record Worked (Did : List Spot → List Message → Type 0) (g h : ChannelView) (told : List (ℕ × Reply)) : Type 0 where
  pub log : List Spot
  pub gots : List Message
  pub did : Did log gots
  pub got : h.got ≡ g.got ++ gots
  pub tells : told ≡ told_of log

-- The workers did this, up to the desk q, and r has the replies to it: f is how far the batch had got before, and g after
abbrev pub HasWorked : (List Spot → List Message → PassValue → Type 0) → Feeding → Feeding → PassValue → Result Told WorkFault → Type 0
HasWorked Did f g q r = IfOk r (λ told. Worked (λ log gots. Did log gots q) (view f.pass) (view g.pass) told.replies.items)

-- the desk p is q, gained places of given drawops, and has lost as many rows as the answer r tells, of those that were handed out
pub record MayLose {X : Type 0} (out : ℕ) (given : List DrawopValue) (p : PassValue) (r : Result X WorkFault) (q : PassValue) : Type 0 where
  pub rows : Loses (lost_in r) given p q
  pub few : lost_in r ≤ out

-- The desk p took back a worker's, and is q; or an allocation failed, and the rows of the worker are lost. others is what the others
-- were told, and the last what all were
abbrev pub TakesBack : PassValue → ℕ → GivenBack → Result Told WorkFault → PassValue → Result Told WorkFault → Type 0
TakesBack p rows d others q (Ok all) = (d.failed ≡ false) × IsBack p d.desk q × (o : Told) × (others ≡ Ok o) × (all.replies.items ≡ d.told.replies.items ++ o.replies.items)
TakesBack p rows d others q (Err Start) = (others ≡ Err Start) × IsBack p d.desk q
TakesBack p rows d others q (Err (Memory lost)) = (IsBack p d.desk q × (lost ≡ lost_in others)) ⊎ ((q ≡ p) × (lost ≡ rows + lost_in others))
