-- What feeding leaves: f is how far a batch had got before a call, and g after it.
use Rattle.std.specs.Prelude.{◌≡◌, ℕ, ◌+◌, ◌<◌, Bool, true, List, [], ◌++◌, Result, Err, OnOk}
use Rattle.crossbeam_channel.specs.Claims.{view}
use Rattle.wb_names.specs.Values.{DrawopValue}
use Rattle.wb_feed.specs.declared.channel.ChannelView.{ChannelView}
use Rattle.wb_feed.specs.declared.sender.Feeding.{Feeding}
use Rattle.wb_feed.specs.declared.workers.WorkFault.{WorkFault}
use Rattle.wb_feed.specs.declared.workers.WorkFault.TheVariants.{Start}
use Rattle.wb_feed.specs.Inside.Channel.{channel_view}
use Rattle.wb_feed.specs.Inside.Arriving.{HasArrived}

-- the same, but that the pass knows v
pub record IsWith (f : Feeding) (v : ChannelView) (g : Feeding) : Type 0 where
  pub channel : g.channel ≡ f.channel
  pub arrived : g.arrived ≡ f.arrived
  pub going : g.going ≡ f.going
  pub view : view g.pass ≡ v

-- the pass took another in, which knows w
abbrev pub IsMerged : Feeding → ChannelView → Feeding → Type 0
IsMerged f w g = let v = view f.pass in IsWith f (channel_view (v.parts + w.parts) v.sends v.sent (v.got ++ w.got)) g

-- nothing came or was sent, and more than `workers` passes may be cut off
pub record IsReady (workers : ℕ) (f : Feeding) : Type 0 where
  pub parts : workers < (view f.pass).parts
  pub sent : (view f.pass).sent ≡ []
  pub arrived : f.arrived.items ≡ []
  pub going : f.going ≡ true

-- The source a was fed from, is b since, and r was answered: nothing came if no thread could be started, and b has ended if
-- all went well. `gives`, `most` and `has_ended` are its trait's
pub record HasFed {A X : Type 0} (gives : A → List DrawopValue → A → Type 0) (most : A → ℕ) (has_ended : A → Bool) (f : Feeding) (a : A) (g : Feeding) (b : A) (r : Result X WorkFault) : Type 0 where
  pub channel : g.channel ≡ f.channel
  pub arrived : HasArrived gives most a f.arrived.items b g.arrived.items
  pub ended : OnOk r (has_ended b ≡ true)
  pub untouched : r ≡ Err Start → (b ≡ a) × (g.arrived.items ≡ f.arrived.items)
