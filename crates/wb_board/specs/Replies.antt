-- The reply to an arrival, and what it says of the desk: d is the drawop, p the desk before the call, and q the desk after it.
use Rattle.std.specs.Prelude.{◌≤◌, List, take}
use Rattle.wb_names.specs.Values.{DrawopValue}
use Rattle.wb_names.specs.History.{IsNewAt, IsAgainAt, IsClashAt}
use Rattle.wb_names.specs.Arrivals.{Outcome, New, Again, Clash, Left}
use Rattle.wb_history.specs.Passes.{PassValue, AddsNothing, brought}
use Rattle.wb_history.specs.Replies.{Becomes, OutcomeSteps, most_steps}
use Rattle.wb_board.specs.declared.reply.Reply.{Reply}
use Rattle.wb_board.specs.declared.reply.Reply.TheVariants as replies
use Rattle.wb_board.specs.declared.reply.BoardFault.{BoardFault}
use Rattle.wb_board.specs.declared.reply.BoardFault.TheVariants.{NoRow, Memory}

-- the reply of a whiteboard that holds this history
abbrev pub IsReply : List DrawopValue → DrawopValue → Reply → Type 0
IsReply history d (replies.New i) = IsNewAt history d i
IsReply history d (replies.Again i) = IsAgainAt history d i
IsReply history d (replies.Clash i) = IsClashAt history d i

-- the history at the point of a reply: for a new drawop what stands before it, else all that the desk has then seen
abbrev pub point_of : PassValue → Reply → List DrawopValue
point_of q (replies.New i) = take i q.seen
point_of q (replies.Again i) = q.seen
point_of q (replies.Clash i) = q.seen

-- the outcome that a reply tells
abbrev pub outcome : Reply → Outcome
outcome (replies.New i) = New i
outcome (replies.Again i) = Again i
outcome (replies.Clash i) = Clash i

abbrev pub Accepted : PassValue → DrawopValue → PassValue → Reply → Type 0
Accepted p d q reply = Becomes p d (outcome reply) q

abbrev pub NotAccepted : PassValue → DrawopValue → PassValue → BoardFault → Type 0
NotAccepted p d q NoRow = Becomes p d Left q
NotAccepted p d q Memory = AddsNothing p q

-- how many steps on words the call took: 13 for each drawop of others that it brought, and at most 14 more
abbrev pub AcceptSteps : PassValue → PassValue → Reply → Type 0
AcceptSteps p q reply = OutcomeSteps p q (outcome reply)

abbrev pub RefusalSteps : PassValue → PassValue → BoardFault → Type 0
RefusalSteps p q NoRow = OutcomeSteps p q Left
RefusalSteps p q Memory = q.steps ≤ most_steps (brought p q)
