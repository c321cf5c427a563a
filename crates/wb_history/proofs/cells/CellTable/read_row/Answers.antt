use Rattle.std.proofs.lemmas.Grind.{common_steps}
use Rattle.std.proofs.Common.{◌≡◌, ◌∙◌, ◌-◌, arith, Some}
use Rattle.wb_history.proofs.Keeps.{reads_word, reads_last}
use Rattle.wb_history.proofs.Rows.{read_all, read_row_is, length-some}
use Rattle.wb_names.specs.Values.{DrawopValue}
use Rattle.wb_history.proofs.cells.CellTable.read_row.Goals as goal

pub load-requires : goal.load-requires
load-requires c =
    let i = c.loop-i.invariant in
    let same = c.requires.seat.1 in
    let size = c.args.self.now.sized in
    let b = c.args.self.now.bounded in
    let r = c.requires.row in
    let s = i.2 in
    let start = c.row_start-start.ensures in
    let cells = s.cells in
    let looking = s.looking in
    let key = c.args.self.now.keyed in
    let done = length-some _ _ _ s.read (omega arith) in
    (i.0.0 ∙ c.requires.seat.0, omega arith, reads_word _ _ _ _ _ (omega arith) (omega arith) (omega arith) (let back : c.loop-i.seat.me.0.looking - 1 ≡ c.args.row = omega arith in omega arith))

pub load-requires-2 : goal.load-requires-2
load-requires-2 c =
    let i = c.loop-i.invariant in
    let same = c.requires.seat.1 in
    let size = c.args.self.now.sized in
    let b = c.args.self.now.bounded in
    let r = c.requires.row in
    let s = i.2 in
    let start = c.row_start-start.ensures in
    let cells = s.cells in
    let looking = s.looking in
    let key = c.args.self.now.keyed in
    let f = c.loop-i-test.false in
    let done = length-some _ _ _ s.read (omega arith) in
    (i.0.0 ∙ c.requires.seat.0, omega arith, reads_last _ _ _ _ _ (omega arith) (omega arith) (omega arith) (let back : c.loop-i.seat.me.0.looking - 1 ≡ c.args.row = omega arith in omega arith))

pub unreachable-requires : goal.unreachable-requires
unreachable-requires c = grind (arith, common_steps, read_row_is)

same_some : (d e : DrawopValue) → Some e ≡ Some d → d ≡ e
same_some d e h = cc

pub returns : goal.returns
returns c = grind (arith, common_steps, same_some, read_row_is, read_all)
