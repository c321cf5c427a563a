-- What the sender sent.
use Rattle.std.specs.Prelude.{◌≡◌, Bool, true, List, length, take}
use Rattle.wb_names.specs.Values.{DrawopValue}
use Rattle.wb_feed.specs.declared.channel.Message.{Message}
use Rattle.wb_feed.specs.declared.channel.Message.TheVariants.{Take, End}
use Rattle.wb_feed.specs.declared.channel.ChannelView.{ChannelView}

-- the message may be sent next
abbrev pub IsNext : List DrawopValue → Message → Type 0
IsNext sent (Take p d) = p ≡ length sent
IsNext sent End = Unit {0}

-- no part is cut off or taken back, and nothing more is received
abbrev pub Stays : ChannelView → ChannelView → Type 0
Stays h i = (i.parts ≡ h.parts) × (i.got ≡ h.got)

-- what was sent are the first of the drawops arrived, and all of them while the channel is open
pub record IsSent (h : ChannelView) (arrived : List DrawopValue) (going : Bool) : Type 0 where
  pub sends : h.sends ≡ true
  pub first : take (length h.sent) arrived ≡ h.sent
  pub all : going ≡ true → h.sent ≡ arrived
