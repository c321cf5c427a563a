-- What a call leaves as it was.
use Rattle.std.proofs.Common.{Bool, true, false, cond, [], ◌∷◌, refl}
use Rattle.wb_member.specs.Calls.{CallsKeepBoards, KeepsBoard}
use Rattle.wb_member.specs.Members.{Misses}
use Rattle.wb_member.specs.Opened.{doing, has_room_for, heard, may_ask, present}
use Rattle.wb_member.specs.Random.{word_of}
use Rattle.wb_member.specs.declared.calls.Call.TheVariants.{Tick, Hear, SetDelay, Tune, Look, Session, Ask, Stop}

pub calls_keep_boards : CallsKeepBoards
calls_keep_boards (Tick now) host = record { board = refl; number = refl }
calls_keep_boards (Hear v) host = by (has_room_for v host) where
  by : (b : Bool) → KeepsBoard host (cond b (heard v host) host)
  by true = record { board = refl; number = refl }
  by false = record { board = refl; number = refl }
calls_keep_boards (SetDelay source micros) host = record { board = refl; number = refl }
calls_keep_boards (Tune constants) host = record { board = refl; number = refl }
calls_keep_boards (Look page) host = record { board = refl; number = refl }
calls_keep_boards (Session page) host = record { board = refl; number = refl }
calls_keep_boards (Ask name) host = by (may_ask name host) where
  by : (b : Bool) → KeepsBoard host (cond b (doing (Misses (present host) (name ∷ []) (word_of host.random ∷ [])) 1 host) host)
  by true = record { board = refl; number = refl }
  by false = record { board = refl; number = refl }
calls_keep_boards (Stop name) host = record { board = refl; number = refl }
