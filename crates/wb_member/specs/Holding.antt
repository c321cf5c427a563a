-- What the code of a member holds, and which member that is.
use Rattle.std.specs.Prelude.{◌≡◌, ◌<◌, ℕ, List, Option, Some, None}
use Rattle.wb_names.specs.Values.{DrawopValue}
use Rattle.wb_names.specs.Arrivals.{Outcome, Left, history_after}
use Rattle.wb_names.specs.History.{IsHeld}
use Rattle.wb_names.specs.declared.name.PageId.{PageId}
use Rattle.wb_random.specs.Words.{Lcg}
use Rattle.wb_board.specs.declared.reply.Reply.{Reply}
use Rattle.wb_keeper.specs.Keeping.{KeeperValue, StandsFor}
use Rattle.wb_keeper.specs.KeeperLaws.{IsReported}
use Rattle.wb_board.specs.Replies.{outcome}
use Rattle.wb_member.specs.Board.{Held}
use Rattle.wb_member.specs.Opened.{Opened, board_of}

-- a board, the keeper at it, and the random words that were not taken yet
pub record MemberValue : Type 0 where
  pub board : Held
  pub keeper : KeeperValue
  pub words : Lcg

-- The board holds the same, the keeper stands for the calls, and the words are those that come next.
pub record IsOpenAt (v : MemberValue) (host : Opened) : Type 0 where
  pub board : v.board ≡ board_of host
  pub keeper : StandsFor host.is.number host.is.constants host.is.calls v.keeper
  pub words : v.words ≡ host.random

abbrev pub MayBeOpenAt : Option MemberValue → Option Opened → Type 0
MayBeOpenAt None None = Unit {0}
MayBeOpenAt (Some v) (Some host) = IsOpenAt v host
MayBeOpenAt member host = ⊥

-- what became of a drawop, by the reply to it: there is none if the board is full
abbrev pub outcome_in : Option Reply → Outcome
outcome_in None = Left
outcome_in (Some reply) = outcome reply

-- what a board holds once it has taken drawops in this order
abbrev pub board_after : Held → List DrawopValue → Held
board_after board order = record { cells = board.cells; drawops = history_after board.cells board.drawops order }

-- Its own drawops on a page that are held, and the marks of them that others told, are all below the number.
pub record IsUnreached (page : PageId) (host : Opened) (number : ℕ) : Type 0 where
  pub held : (n : ℕ) → IsHeld host.is.held page host.is.number n → n < number
  pub reported : (n : ℕ) → IsReported host.is.number host.is.calls page host.is.number n → n < number
