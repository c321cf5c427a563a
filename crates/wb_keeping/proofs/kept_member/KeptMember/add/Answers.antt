use Rattle.std.proofs.Common.{◌≡◌, [], ◌++◌, ◌∙◌, ap, rules, subst, sym}
use Rattle.std.specs.Prelude.{None, nat_le, nat_lt, Err}
use Rattle.wb_names.specs.Values.{DrawopValue}
use Rattle.wb_keeping.specs.Kept.{Transition, performs, and_then, ends_full, timed, adds, draws, draws_it, drawing, Calls}
use Rattle.wb_keeping.specs.Performing.{IsKeptAt, Keeping, KeptValue, LeavesSome, after_doing, sent_by_doing, view_of}
use Rattle.wb_policy.specs.Policy.{Policy}
use Rattle.wb_keeping.proofs.Performed.{then_at, at_inside, does_then}
use Rattle.wb_keeping.proofs.LeftSome.{LeftAt, on_err, left_first_at, left_second_at, left_later, left_none}
use Rattle.wb_member.specs.Opened.{becomes, present}
use Rattle.wb_member.specs.declared.calls.Call.TheVariants.{Tick}
use Rattle.wb_keeping.proofs.Refused.{failed_by, fault_is, refused_by, taken_by, then_fault, value_is}
use Rattle.wb_names.specs.Shapes.{op_of}
use Rattle.wb_keeping.specs.Refusing.{add_fault, drawing_fault}
use Rattle.wb_keeper.specs.declared.keep_fault.KeepFault.TheVariants.{Memory}
use Rattle.wb_keeping.specs.declared.kept_fault.KeptFault.TheVariants.{Host}
use Rattle.wb_keeping.specs.declared.kept_member.KeptDone.{KeptDone}
use Rattle.wb_keeping.proofs.kept_member.KeptMember.add.Goals as goal
use Rattle.wb_keeping.proofs.kept_member.KeptMember.add.Goals.{After-drawing, After-go_on, After-end_where_full}

-- ---- the faults are those of the drawing, and where there is none, it is the next one

fine : (c : After-drawing) (k : Keeping) → IsKeptAt c.args.self.now k
    → add_fault c.args.now c.args.page c.args.time (op_of c.args.shape) k ≡ drawing_fault c.args.page c.args.time (op_of c.args.shape) k
fine c k at =
    then_fault (nat_le (present k.host) c.args.now) (nat_lt c.args.now k.policy.ready) (drawing_fault c.args.page c.args.time (op_of c.args.shape) k)
    (sym (c.if-not-is_time.ensures k at))
    (ap (λ (p : Policy). nat_lt c.args.now p.ready) (sym (at_inside k c.self.view_is at).policy) ∙ sym c.is_listening.ensures ∙ c.if-is_listening.false)

drawn : (c : After-go_on) (k : Keeping) → IsKeptAt c.args.self.now k
    → (drawing_fault c.args.page c.args.time (op_of c.args.shape) k ≡ None) × (c.in_ok-drawop.drawop ≡ drawing (view_of k.host) c.args.page c.args.time (op_of c.args.shape))
drawn c k at =
    value_is (drawing_fault c.args.page c.args.time (op_of c.args.shape) k) (drawing (view_of k.host) c.args.page c.args.time (op_of c.args.shape)) c.in_ok-drawop.drawop
    (c.in_ok-drawop.ensures k at)

pub returns-clause-became : goal.returns-clause-became
returns-clause-became c = λ k at.
    c.in_ok-became.ensures.became (after_doing (performs (Calls (Tick c.args.now))) k) (c.in_ok-sent.ensures.does.at k at).1
    ∙ ap (λ (d : DrawopValue). becomes d k.host) (drawn (goal.at.returns-clause-became c).After-go_on k at).1

pub returns-in_err-drawop-clause-fault : goal.returns-in_err-drawop-clause-fault
returns-in_err-drawop-clause-fault c = λ k at.
    let op = op_of c.args.shape in
    let e = c.in_err-drawop.field-0.0 in
    let is = fault_is (drawing_fault c.args.page c.args.time op k) (drawing (view_of k.host) c.args.page c.args.time op) e (c.in_err-drawop.ensures k at) in
    let gives : c.from_residual.result ≡ Err e = search rules in
    refused_by (add_fault c.args.now c.args.page c.args.time op k) e c.from_residual.result (fine (goal.at.returns-in_err-drawop-clause-fault c).After-drawing k at ∙ is) gives

pub returns-in_err-end_where_full-clause-fault : goal.returns-in_err-end_where_full-clause-fault
returns-in_err-end_where_full-clause-fault c = λ k at.
    let at_goal = goal.at.returns-in_err-end_where_full-clause-fault c in
    let gives : c.from_residual-in_err-end_where_full.result ≡ Err (Host Memory) = search rules in
    failed_by KeptDone (add_fault c.args.now c.args.page c.args.time (op_of c.args.shape) k) c.from_residual-in_err-end_where_full.result
    (fine at_goal.After-drawing k at ∙ (drawn at_goal.After-go_on k at).0) gives

pub returns-in_err-timed-clause-fault : goal.returns-in_err-timed-clause-fault
returns-in_err-timed-clause-fault c = λ k at.
    let at_goal = goal.at.returns-in_err-timed-clause-fault c in
    let gives : c.from_residual-in_err-timed.result ≡ Err (Host Memory) = search rules in
    failed_by KeptDone (add_fault c.args.now c.args.page c.args.time (op_of c.args.shape) k) c.from_residual-in_err-timed.result
    (fine at_goal.After-drawing k at ∙ (drawn at_goal.After-go_on k at).0) gives

pub returns-clause-fault : goal.returns-clause-fault
returns-clause-fault c = λ k at.
    let at_goal = goal.at.returns-clause-fault c in
    taken_by (add_fault c.args.now c.args.page c.args.time (op_of c.args.shape) k) _ (fine at_goal.After-drawing k at ∙ (drawn at_goal.After-go_on k at).0)

-- ---- what was performed

abbrev first : After-go_on → Transition
first c = performs (Calls (Tick c.args.now))

abbrev second : After-go_on → Transition
second c = draws_it c.args.page c.args.time (op_of c.args.shape)

pub returns-in_err-became-clause-left : goal.returns-in_err-became-clause-left
returns-in_err-became-clause-left c =
    let here = (goal.at.returns-in_err-became-clause-left c).After-go_on in
    let left : LeavesSome (adds c.args.now c.args.page c.args.time (op_of c.args.shape)) c.args.self.now c.take_drawing.new.self = record {
      at = λ k at.
          let one = after_doing (first here) k in
          let left = c.in_err-became.ensures.left.at one (c.in_ok-sent.ensures.does.at k at).1 in
          let drew : LeftAt (second here) one c.take_drawing.new.self = subst (λ (d : DrawopValue). LeftAt (draws d) one c.take_drawing.new.self) (drawn here k at).1 left in
          left_second_at (first here) (and_then (second here) (and_then ends_full timed)) k c.take_drawing.new.self (left_first_at (second here) (and_then ends_full timed) one c.take_drawing.new.self drew);
    } in
    on_err _ left

did : (c : After-end_where_full) (k : Keeping) → IsKeptAt c.args.self.now k → c.in_ok-drawop.drawop ≡ drawing (view_of k.host) c.args.page c.args.time (op_of c.args.shape)
    → let one = after_doing (performs (Calls (Tick c.args.now))) k in
    let draws = draws_it c.args.page c.args.time (op_of c.args.shape) in
    (c.take_drawing.new.sent.items ≡ c.in_ok-sent.sent.items ++ sent_by_doing draws one) × IsKeptAt c.take_drawing.new.self (after_doing draws one)
did c k at is =
    let one = after_doing (performs (Calls (Tick c.args.now))) k in
    subst (λ (d : DrawopValue). (c.take_drawing.new.sent.items ≡ c.in_ok-sent.sent.items ++ sent_by_doing (draws d) one) × IsKeptAt c.take_drawing.new.self (after_doing (draws d) one)) is
    (c.in_ok-became.ensures.does.at one (c.in_ok-sent.ensures.does.at k at).1)

pub returns-clause-sent : goal.returns-clause-sent
returns-clause-sent c = λ k at.
    let at_goal = goal.at.returns-clause-sent c in
    let here = at_goal.After-go_on in
    let one = after_doing (first here) k in
    let drew = did at_goal.After-end_where_full k at (drawn here k at).1 in
    let rest = (does_then ends_full timed (c.in_ok-end_where_full.ensures.does.sends c.take_drawing.new.sent.items) c.in_ok-timed.ensures.does).at (after_doing (second here) one) drew.1 in
    then_at (first here) (and_then (second here) (and_then ends_full timed)) k c.go_on.new.self c.timed.new.self [] c.in_ok-sent.sent.items c.timed.new.sent.items (c.in_ok-sent.ensures.does.at k at)
    (then_at (second here) (and_then ends_full timed) one c.take_drawing.new.self c.timed.new.self c.in_ok-sent.sent.items c.take_drawing.new.sent.items c.timed.new.sent.items drew rest)

pub returns-in_err-end_where_full-clause-left : goal.returns-in_err-end_where_full-clause-left
returns-in_err-end_where_full-clause-left c =
    let at_goal = goal.at.returns-in_err-end_where_full-clause-left c in
    let here = at_goal.After-go_on in
    let left : LeavesSome (adds c.args.now c.args.page c.args.time (op_of c.args.shape)) c.args.self.now c.end_where_full.new.self = record {
      at = λ k at.
          let one = after_doing (first here) k in
          let none : LeavesSome ends_full c.take_drawing.new.self c.end_where_full.new.self = left_none ends_full (ap (λ (v : KeptValue). v.member) c.in_err-end_where_full.ensures.err) in
          let left = none.at (after_doing (second here) one) (did at_goal.After-end_where_full k at (drawn here k at).1).1 in
          left_second_at (first here) (and_then (second here) (and_then ends_full timed)) k c.end_where_full.new.self
          (left_second_at (second here) (and_then ends_full timed) one c.end_where_full.new.self
          (left_first_at ends_full timed (after_doing (second here) one) c.end_where_full.new.self left));
    } in
    on_err _ left

pub returns-in_err-timed-clause-left : goal.returns-in_err-timed-clause-left
returns-in_err-timed-clause-left c =
    let at_goal = goal.at.returns-in_err-timed-clause-left c in
    let here = at_goal.After-go_on in
    let left : LeavesSome (adds c.args.now c.args.page c.args.time (op_of c.args.shape)) c.args.self.now c.timed.new.self = record {
      at = λ k at.
          let one = after_doing (first here) k in
          let left = (left_later ends_full timed c.in_ok-end_where_full.ensures.does c.in_err-timed.ensures.left).at (after_doing (second here) one) (did at_goal.After-end_where_full k at (drawn here k at).1).1 in
          left_second_at (first here) (and_then (second here) (and_then ends_full timed)) k c.timed.new.self (left_second_at (second here) (and_then ends_full timed) one c.timed.new.self left);
    } in
    on_err _ left
