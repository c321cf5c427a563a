-- What a relay does: p and q are the teller before and after it, h and k the hearer, d is the drawop.
use Rattle.std.specs.Prelude.{◌≡◌, ◌⊎◌, [], List, Result, Ok, Err}
use mathlib.Core.List.{IsPrefix}
use Rattle.wb_names.specs.Values.{DrawopValue}
use Rattle.wb_names.specs.History.{IsAgainAt, IsClashAt}
use Rattle.wb_board.specs.Desks.{longer, PassValue, IsSamePass, KeepsRows, AddsNothing, HasNoRow, IsJoined}
use Rattle.wb_board.specs.Replies.{Accepted}
use Rattle.wb_board.specs.declared.reply.Reply.{Reply}
use Rattle.wb_board.specs.declared.reply.Reply.TheVariants.{New, Again, Clash}
use Rattle.wb_feed.specs.declared.relays.RelayFault.{RelayFault}
use Rattle.wb_feed.specs.declared.relays.RelayFault.TheVariants.{NoRow, Memory}

-- the history has the drawop at the place of the reply, or after a clash another one of its name
abbrev pub StandsAt : List DrawopValue → DrawopValue → Reply → Type 0
StandsAt history d (New i) = IsAgainAt history d i
StandsAt history d (Again i) = IsAgainAt history d i
StandsAt history d (Clash i) = IsClashAt history d i

-- the reply is the teller's, the hearer has seen what the teller has, and keeps its places and rows
pub record Relayed (p h : PassValue) (d : DrawopValue) (q k : PassValue) (r : Reply) : Type 0 where
  pub accepted : Accepted p d q r
  pub heard : k.seen ≡ longer h.seen q.seen
  pub all : IsPrefix q.seen k.seen
  pub teller : StandsAt q.seen d r
  pub hearer : StandsAt k.seen d r
  pub rows : KeepsRows h k

-- the teller added nothing, or it accepted the drawop
abbrev pub MayHaveAccepted : PassValue → DrawopValue → PassValue → Type 0
MayHaveAccepted p d q = AddsNothing p q ⊎ ((r : Reply) × Accepted p d q r)

-- the hearer learned nothing
abbrev pub NotRelayed : PassValue → PassValue → DrawopValue → PassValue → PassValue → RelayFault → Type 0
NotRelayed p h d q k NoRow = HasNoRow p d q × (k ≡ h)
NotRelayed p h d q k Memory = MayHaveAccepted p d q × (k ≡ h)

-- the teller accepted the drawop, and m is a desk without rows that has seen the same
pub record TellsOf (p : PassValue) (d : DrawopValue) (q : PassValue) (r : Reply) (m : PassValue) : Type 0 where
  pub accepted : Accepted p d q r
  pub same : IsSamePass q m
  pub seen : m.seen ≡ q.seen
  pub mine : m.mine ≡ []
  pub free : m.free ≡ 0

abbrev pub NotTold : PassValue → DrawopValue → PassValue → RelayFault → Type 0
NotTold p d q NoRow = HasNoRow p d q
NotTold p d q Memory = MayHaveAccepted p d q

-- the hearer took in the desk that it was sent, or it is as it was: it was sent a fault, or an allocation failed
abbrev pub Hears : Result (Reply × PassValue) RelayFault → PassValue → PassValue → Result Reply RelayFault → Type 0
Hears (Ok t) h k (Ok r) = (t.0 ≡ r) × IsSamePass h k × IsJoined h t.1 k
Hears (Ok t) h k (Err e) = (e ≡ Memory) × (k ≡ h)
Hears (Err f) h k (Ok r) = ⊥
Hears (Err f) h k (Err e) = (f ≡ e) × (k ≡ h)
