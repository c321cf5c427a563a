-- What a batch answered its callers: each of its workers is one, and so is the desk, which takes what they left.
use Rattle.std.specs.Prelude.{ℕ, List, [], ◌∷◌, ◌++◌, length}
use Rattle.wb_names.specs.Values.{DrawopValue}
use Rattle.wb_names.specs.Arrivals.{New, Again, Clash, Left}
use Rattle.wb_board.specs.Desks.{PassValue, IsSound, IsWhole}
use Rattle.wb_board.specs.declared.reply.Reply.{Reply}
use Rattle.wb_board.specs.declared.reply.Reply.TheVariants as replies
use Rattle.wb_board.specs.Board.{Accept, Replied}
use Rattle.wb_board.specs.Runs.{Answered, AreAnsweredSince, IsOneRun, run_of}
use Rattle.wb_feed.specs.declared.channel.Message.{Message}
use Rattle.wb_feed.specs.Accepts.{Entry, Runs}
use Rattle.wb_feed.specs.Served.{Spot, entries}
use Rattle.wb_feed.specs.Workers.{Workers, nobody, worker}
use Rattle.wb_feed.specs.Batches.{IsShared}

-- the caller was given this reply to d when the history had `point` drawops
abbrev pub answered : ℕ → DrawopValue → Reply → ℕ → Answered
answered caller d reply point = record { step = record { caller = caller; call = Accept d; answer = Replied reply }; point = point }

-- one accept: a new drawop is answered at its place, another at the `seen` drawops of the desk, and what was left not at all
abbrev pub answered_of : ℕ → Entry → ℕ → List Answered
answered_of caller (d, New i) seen = answered caller d (replies.New i) i ∷ []
answered_of caller (d, Again i) seen = answered caller d (replies.Again i) seen ∷ []
answered_of caller (d, Clash i) seen = answered caller d (replies.Clash i) seen ∷ []
answered_of caller (d, Left) seen = []

-- the accepts of one desk, in their order
abbrev pub answered_by : (caller : ℕ) (p : PassValue) (es : List Entry) (q : PassValue) → Runs p es q → List Answered
answered_by caller p [] q run = []
answered_by caller p (e ∷ es) q run = answered_of caller e (length run.0.seen) ++ answered_by caller run.0 es q run.2

-- the number of a worker is how many were started after it
abbrev pub answered_workers : {rows n : ℕ} {p q : PassValue} {log : List Spot} {gots : List Message} → Workers rows n p log gots q → List Answered
answered_workers nobody = []
answered_workers (worker {n = n} {desk = desk} {done = done} log others got gots split serves rest back) = answered_by n desk (entries log) done serves.runs ++ answered_workers rest

-- the whole batch of n workers, in which the desk has the number n
abbrev pub answered_in : (n : ℕ) (p : PassValue) (given : List DrawopValue) (q : PassValue) → IsShared n p given q → List Answered
answered_in n p given q s = answered_workers s.work ++ answered_by n s.joined s.left_over q s.rest

-- what a batch on a desk that owns all rows answered is one run of a whiteboard of one thread, from the list before it to the list after it
abbrev pub BatchIsOneRun : Type 0
BatchIsOneRun = (n : ℕ) (p : PassValue) (given : List DrawopValue) (q : PassValue) → IsSound p → IsWhole p → IsSound q → (s : IsShared n p given q)
    → AreAnsweredSince q.seen (length p.seen) (answered_in n p given q s) × IsOneRun q.seen (length p.seen) (answered_in n p given q s) (run_of (answered_in n p given q s))
