-- What happens to a self-managing member: its program starts, or it is handed a line.
use Rattle.std.specs.Prelude.{◌≡◌, List, [], ◌∷◌, ◌++◌, Option, None, Some, map}
use Rattle.std.specs.List.{filter_map}
use Rattle.wb_names.specs.Values.{DrawopValue}
use Rattle.wb_codec.specs.declared.datagram.Datagram.{Datagram}
use Rattle.wb_codec.specs.declared.datagram.Datagram.TheVariants.{AskPages, Draw, PageState, Request, Session}
use Rattle.wb_member.specs.Lines.{Line, ticks_at}
use Rattle.wb_member.specs.Opened.{present}
use Rattle.wb_keeping.specs.Laws.{AreTaken as AreLinesTaken, KeptLine, Came, after_kept, doing_of, expand, fault_of}
use Rattle.wb_keeping.specs.Performing.{Keeping, after_doing, sees}
use Rattle.wb_laws_kept.specs.Openings.{IsOpening, Opening, opened}
use Rattle.wb_laws_sessions.specs.Members.{Deed, Opens}

-- a program starts with what its record has, or is handed a line: `came`, `tick`, `add`, `tuning`
pub data Call : Type 0 where
  Begins : (opening : Opening) (given : List Datagram) → Call
  Handed : (line : KeptLine) → Call

-- what the record has comes at the moment of the start
abbrev pub given_lines : Keeping → List Datagram → List KeptLine
given_lines k given = map (Came (present k.host)) given

-- what a member is after a call
abbrev pub after_call : Call → Keeping → Keeping
after_call (Begins o given) k =
    let first = opened k.host.is.number o in
    after_kept (given_lines first given) first
after_call (Handed line) k = after_doing (doing_of line) k

-- the lines that the member performs in a call
abbrev pub lines_of_call : Call → Keeping → List Line
lines_of_call (Begins o given) k =
    let first = opened k.host.is.number o in
    ticks_at o.moments ++ expand (given_lines first given) first
lines_of_call (Handed line) k = (doing_of line (sees k.host) k.policy).lines

-- before these, a program that starts opens a board
abbrev pub opens_of_call : Call → List Deed
opens_of_call (Begins o given) = Opens o.constants o.cells o.seed ∷ []
opens_of_call (Handed line) = []

-- No line of a call is refused, nor one of a record. `wb host` refuses a `board`, `tick` or `keep`
-- that is none (tests/host).
abbrev pub IsTaken : Call → Keeping → Type 0
IsTaken (Begins o given) k =
    let first = opened k.host.is.number o in
    IsOpening o × AreLinesTaken (given_lines first given) first
IsTaken (Handed line) k = fault_of line k ≡ None

-- the drawops that a record has
abbrev pub drawop_in : Datagram → Option DrawopValue
drawop_in (Draw d) = Some d
drawop_in (Session sender sent page marks echoes) = None
drawop_in (Request asker name) = None
drawop_in (AskPages asker) = None
drawop_in (PageState sender page marks) = None

abbrev pub drawops_in : List Datagram → List DrawopValue
drawops_in given = filter_map drawop_in given
