use Rattle.std.proofs.Common.{◌≡◌, ℕ, Result, Ok, Err, IfOk, refl, sym, subst, ◌∙◌, arith}
use Rattle.std.specs.Prelude.{nat_lt}
use Rattle.wb_names.specs.declared.moment.TheConstants.{MOMENT_LIMIT}
use Rattle.wb_codec.specs.Reading.{reading}
use Rattle.wb_codec.specs.declared.datagram.Datagram.{Datagram}
use Rattle.wb_c.specs.Serving.{InTime, Adds, read_by}
use Rattle.wb_c.proofs.Served.{all_in_time, in_time, not_in_time}
use Rattle.wb_c.proofs.room.Room.add.Goals as goal

pub returns-then-now-ge-MOMENT_LIMIT : goal.returns-then-now-ge-MOMENT_LIMIT
returns-then-now-ge-MOMENT_LIMIT c = not_in_time (Adds c.args.now (read_by (reading c.args.bytes.now))) c.args.self.now c.args.self.now 8 c.args.now c.if-now-ge-MOMENT_LIMIT.true (refl, refl)

pub returns-in-Ok : goal.returns-in-Ok
returns-in-Ok c =
    let now = c.args.now in
    let r = c.add_drawop.result in
    let is : Ok c.in-Ok.datagram ≡ read_by (reading c.args.bytes.now) = sym c.in-Ok.is ∙ c.in_ok-datagram.ensures in
    subst (λ (v : Result Datagram ℕ). IfOk r (InTime (nat_lt now MOMENT_LIMIT) (Adds now v) c.args.self.now c.add_drawop.new.self)) is
    (all_in_time (Adds now (Ok c.in-Ok.datagram)) c.args.self.now c.add_drawop.new.self now r (omega (arith, c.if-now-ge-MOMENT_LIMIT.false)) c.add_drawop.ensures)

pub returns-in-Err : goal.returns-in-Err
returns-in-Err c =
    let now = c.args.now in
    let is : Err c.in-Err.status ≡ read_by (reading c.args.bytes.now) = sym c.in-Err.is ∙ c.in_ok-datagram.ensures in
    subst (λ (v : Result Datagram ℕ). InTime (nat_lt now MOMENT_LIMIT) (Adds now v) c.args.self.now c.args.self.now c.in-Err.status) is
    (in_time (Adds now (Err c.in-Err.status)) c.args.self.now c.args.self.now c.in-Err.status now (omega (arith, c.if-now-ge-MOMENT_LIMIT.false)) (refl, refl))
