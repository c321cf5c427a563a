-- What a worker notes of what it accepts, and gives back.
use Rattle.wb_board.specs.declared.reply.Reply.TheVariants as replies
use Rattle.std.specs.Prelude.{◌≡◌, ℕ, Bool, false, List, [], ◌∷◌, ◌++◌, map}
use Rattle.std.specs.List.{flat_map}
use Rattle.wb_names.specs.Values.{DrawopValue}
use Rattle.wb_names.specs.Arrivals.{Outcome, New, Again, Clash, Left}
use Rattle.wb_board.specs.Desks.{PassValue}
use Rattle.wb_board.specs.declared.reply.Reply.{Reply}
use Rattle.wb_feed.specs.Accepts.{Accepts, Loses}
use Rattle.wb_feed.specs.declared.channel.Message.{Message}
use Rattle.wb_feed.specs.declared.channel.ChannelView.{ChannelView}
use Rattle.wb_feed.specs.Inside.Channel.{channel_view}
use Rattle.wb_feed.specs.Served.{Spot, takes, Rises, Serves}

-- the drawops that were received
abbrev pub received : List Message → List DrawopValue
received ms = map (λ x. x.1) (takes ms)

-- what a worker notes of an outcome at a position: the reply, and nothing if the drawop was left
abbrev pub noted : ℕ → Outcome → List (ℕ × Reply)
noted p (New i) = (p, replies.New i) ∷ []
noted p (Again i) = (p, replies.Again i) ∷ []
noted p (Clash i) = (p, replies.Clash i) ∷ []
noted p Left = []

-- the desk p accepted the drawop of this position and is q, and what was noted of it comes after what was noted before
abbrev pub NotesOne : PassValue → ℕ → DrawopValue → PassValue → List (ℕ × Reply) → List (ℕ × Reply) → Type 0
NotesOne p position d q before after = (o : Outcome) × Accepts p d o q × (after ≡ before ++ noted position o)

-- the replies of a log, each with its position
abbrev pub told_of : List Spot → List (ℕ × Reply)
told_of ss = flat_map (λ s. noted s.0 s.1.1) ss

-- the worker took all that it received, and these are the replies to it
pub record TookAll (p q : PassValue) (got : List Message) (told : List (ℕ × Reply)) : Type 0 where
  pub log : List Spot
  pub serves : Serves p log got q
  pub tells : told ≡ told_of log

pub record Served (p q : PassValue) (h : ChannelView) (told : List (ℕ × Reply)) (failed : Bool) : Type 0 where
  pub kept : Loses 0 (received h.got) p q
  pub one_part : h ≡ channel_view 1 false [] h.got
  pub rises : Rises 0 (takes h.got)
  pub took : failed ≡ false → TookAll p q h.got told
