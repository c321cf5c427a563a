-- The rule of the channel: what is sent is received in its order, each message once at most.
use Rattle.std.specs.Prelude.{◌≡◌, ℕ, ◌+◌, ◌<◌, ◌≤◌, ◌==◌, Bool, true, cond, List, [], ◌∷◌, ◌++◌, length, slice_get, Some}
use mathlib.Core.Option.{some}
use lib.ListN.{get_elem?}
use Rattle.wb_names.specs.Values.{DrawopValue}
use Rattle.wb_feed.specs.declared.channel.Message.{Message}
use Rattle.wb_feed.specs.declared.channel.Message.TheVariants.{Take, End}
use Rattle.wb_feed.specs.declared.channel.ChannelView.{ChannelView}
use Rattle.wb_feed.specs.Served.{once_below}

abbrev pub channel_view : ℕ → Bool → List DrawopValue → List Message → ChannelView
channel_view n b sent got = record { parts = n; sends = b; sent = sent; got = got }

-- the drawops sent, after a message
abbrev pub sent_with : List DrawopValue → Message → List DrawopValue
sent_with sent (Take p d) = sent ++ d ∷ []
sent_with sent End = sent

abbrev pub sends : ChannelView → Message → ChannelView
sends v x = channel_view v.parts v.sends (sent_with v.sent x) v.got

abbrev pub receives : ChannelView → Message → ChannelView
receives v x = channel_view v.parts v.sends v.sent (v.got ++ x ∷ [])

-- how often the position stands in a message, and in some
abbrev pub spot : ℕ → Message → ℕ
spot p (Take q d) = cond (q == p) 1 0
spot p End = 0

abbrev pub spots : ℕ → List Message → ℕ
spots p [] = 0
spots p (m ∷ ms) = spot p m + spots p ms

-- the message has the drawop that was sent with its position
abbrev pub IsRight : List DrawopValue → Message → Type 0
IsRight sent (Take p d) = slice_get sent p ≡ Some d
IsRight sent End = Unit {0}

abbrev pub AreRight : List DrawopValue → List Message → Type 0
AreRight sent [] = Unit {0}
AreRight sent (m ∷ ms) = IsRight sent m × AreRight sent ms

-- all positions are below n
abbrev pub IsBelow : ℕ → Message → Type 0
IsBelow n (Take p d) = p < n
IsBelow n End = Unit {0}

abbrev pub AreBelow : ℕ → List Message → Type 0
AreBelow n [] = Unit {0}
AreBelow n (m ∷ ms) = IsBelow n m × AreBelow n ms

-- the position of a message is above those of all of these
abbrev pub Follows : List Message → Message → Type 0
Follows ms (Take p d) = AreBelow p ms
Follows ms End = Unit {0}

-- what is in the channel, oldest first, are the drawops sent from position low on, in order
abbrev pub IsRow : List DrawopValue → ℕ → List Message → Type 0
IsRow sent low [] = low ≡ length sent
IsRow sent low (Take p d ∷ ms) = (p ≡ low) × (slice_get sent p ≡ Some d) × IsRow sent (low + 1) ms
IsRow sent low (End ∷ ms) = IsRow sent low ms

abbrev pub total : (ChannelView → ℕ) → List ChannelView → ℕ
total f [] = 0
total f (v ∷ vs) = f v + total f vs

-- What a pass may know: one pass at most sends, and it knows what was sent. What a pass received was sent so, and is below low. A
-- pass with no part received nothing
pub record Fits (seat : ℕ) (sent : List DrawopValue) (low : ℕ) (pass : ℕ) (v : ChannelView) : Type 0 where
  pub sender : v.sends ≡ true → (pass ≡ seat) × (v.sent ≡ sent)
  pub right : AreRight sent v.got
  pub below : AreBelow low v.got
  pub idle : v.parts ≡ 0 → v.got ≡ []

-- The rule: all positions below low were received, each once, and no other; those from low on are in the channel
pub record Kept (items : List Message) (views : List ChannelView) : Type 0 where
  pub seat : ℕ
  pub sent : List DrawopValue
  pub low : ℕ
  pub row : IsRow sent low items
  pub each : (pass : ℕ) (v : ChannelView) → get_elem? views pass ≡ some v → Fits seat sent low pass v
  pub parts : total (λ v. v.parts) views ≡ 16
  pub once : (p : ℕ) → total (λ v. spots p v.got) views ≡ once_below p low

-- a pass that has all parts received the first drawops that were sent, each once
pub record IsComplete (v : ChannelView) : Type 0 where
  pub low : ℕ
  pub most : low ≤ length v.sent
  pub right : AreRight v.sent v.got
  pub once : (p : ℕ) → spots p v.got ≡ once_below p low
