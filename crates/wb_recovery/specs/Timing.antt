-- What each call makes of the timers of one name.
use Rattle.std.specs.Prelude.{ℕ, ◌+◌, ◌-◌, ◌*◌, ◌/◌, ◌%◌, ◌^◌, Bool, true, false, ◌&&◌, ◌||◌, Option, Some, None, IfSome, is_some, is_none, min, nat_eq, nat_le, if◌then◌else◌}
use Rattle.wb_recovery.specs.Delays.{IsDelay}
use Rattle.wb_recovery.specs.declared.tuning.TheConstants.{MAX_CONSTANT}
use Rattle.wb_recovery.specs.declared.tuning.Tuning.{Tuning}
use Rattle.wb_recovery.specs.declared.timers.AskTimer.{AskTimer}
use Rattle.wb_recovery.specs.declared.timers.AnswerTimer.{AnswerTimer}
use Rattle.wb_recovery.specs.declared.timers.Timers.{Timers}

-- each constant is 1 to 16
abbrev pub is_constant : ℕ → Bool
is_constant n = nat_le 1 n && nat_le n MAX_CONSTANT

abbrev pub are_constants : Tuning → Bool
are_constants t = is_constant t.c1 && is_constant t.c2 && is_constant t.d1 && is_constant t.d2

-- A moment drawn at random: after the lead of 2^level * a delays, within the next 2^level * b delays.
abbrev pub expiry : ℕ → ℕ → ℕ → ℕ → ℕ → ℕ → ℕ
expiry now level a b delay word = now + 2 ^ level * a * delay + word % (2 ^ level * b * delay + 1)

-- a request timer as a notice sets it
abbrev pub new_ask : Tuning → ℕ → ℕ → ℕ → AskTimer
new_ask t now delay word = record { level = 0; due = expiry now 0 t.c1 t.c2 delay word; deaf = 0; delay = delay }

-- The wait of each level is twice that of the one below, up to level 16. For the first half of it, requests are ignored.
abbrev pub backed_off : Tuning → AskTimer → ℕ → ℕ → ℕ → AskTimer
backed_off t ask now delay word =
    let level = min (ask.level + 1) 16 in
    let due = expiry now level t.c1 t.c2 delay word in
    record { level = level; due = due; deaf = now + (due - now) / 2; delay = delay }

-- an answer timer as a request for a held name sets it
abbrev pub new_answer : Tuning → ℕ → ℕ → ℕ → AnswerTimer
new_answer t now delay word = record { due = expiry now 0 t.d1 t.d2 delay word; delay = delay }

-- no timer stands, and nothing is quiet
abbrev pub no_timers : Timers
no_timers = record { ask = None; answer = None; quiet = 0 }

-- the moment at which a name's request timer is due, and its answer timer
abbrev pub ask_moment : Option AskTimer → Option ℕ
ask_moment None = None
ask_moment (Some ask) = Some ask.due

abbrev pub answer_moment : Option AnswerTimer → Option ℕ
answer_moment None = None
answer_moment (Some answer) = Some answer.due

abbrev pub ask_due : Timers → Option ℕ
ask_due s = ask_moment s.ask

abbrev pub answer_due : Timers → Option ℕ
answer_due s = answer_moment s.answer

-- a timer that is due at this very moment
abbrev pub is_set_to : ℕ → Option ℕ → Bool
is_set_to d None = false
is_set_to d (Some e) = nat_eq e d

-- a timer stands
abbrev pub is_standing : Timers → Bool
is_standing s = is_some s.ask || is_some s.answer

abbrev pub is_ask_due : ℕ → Option AskTimer → Bool
is_ask_due now None = false
is_ask_due now (Some ask) = nat_le ask.due now

abbrev pub is_answer_due : ℕ → Option AnswerTimer → Bool
is_answer_due now None = false
is_answer_due now (Some answer) = nat_le answer.due now

-- a request of another member backs a request timer off, unless it is deaf
abbrev pub heard_ask : Tuning → ℕ → ℕ → ℕ → Option AskTimer → Option AskTimer
heard_ask t now delay word None = None
heard_ask t now delay word (Some ask) = Some (if nat_le ask.deaf now then backed_off t ask now delay word else ask)

-- a request timer that fires backs off with its own delay
abbrev pub fired_ask : Tuning → ℕ → ℕ → Option AskTimer → Option AskTimer
fired_ask t now word None = None
fired_ask t now word (Some ask) = Some (if nat_le ask.due now then backed_off t ask now ask.delay word else ask)

-- an answer timer that fires ends
abbrev pub fired_answer : ℕ → Option AnswerTimer → Option AnswerTimer
fired_answer now None = None
fired_answer now (Some answer) = if nat_le answer.due now then None else Some answer

-- an answer that fires leaves its name quiet for three of its delays
abbrev pub quiet_after : ℕ → ℕ → Option AnswerTimer → ℕ
quiet_after now quiet None = quiet
quiet_after now quiet (Some answer) = if nat_le answer.due now then now + 3 * answer.delay else quiet

-- The name is missed: a request timer is set, unless one stands.
abbrev pub noticed : Tuning → ℕ → ℕ → ℕ → Timers → Timers
noticed t now delay word s = if is_none s.ask then record s { ask = Some (new_ask t now delay word) } else s

-- Another member asks for a name that is not held: a request timer that stands backs off. If the name is held,
-- an answer timer is set, unless one stands or the name is quiet.
abbrev pub asked : Tuning → Bool → ℕ → ℕ → ℕ → Timers → Timers
asked t false now delay word s = record s { ask = heard_ask t now delay word s.ask }
asked t true now delay word s = if is_none s.answer && nat_le s.quiet now then record s { answer = Some (new_answer t now delay word) } else s

-- The name has come: its timers end, and if one stood the name is quiet for three delays.
abbrev pub got : ℕ → ℕ → Timers → Timers
got now delay s = if is_standing s then record { ask = None; answer = None; quiet = now + 3 * delay } else s

-- Time goes on: what is due fires. The word is that of this name's request.
abbrev pub ticked : Tuning → ℕ → ℕ → Timers → Timers
ticked t now word s = record {
  ask = fired_ask t now word s.ask;
  answer = fired_answer now s.answer;
  quiet = quiet_after now s.quiet s.answer;
}

-- the timers with another request timer, or with another answer timer, where there is one
abbrev pub with_ask : Timers → Option AskTimer → Timers
with_ask s None = s
with_ask s (Some ask) = record s { ask = Some ask }

abbrev pub with_answer : Timers → Option AnswerTimer → Timers
with_answer s None = s
with_answer s (Some answer) = record s { answer = Some answer }

-- the timers' delays are below 2^24 microseconds
abbrev pub AreDelays : Timers → Type 0
AreDelays s = IfSome s.ask (λ ask. IsDelay ask.delay) × IfSome s.answer (λ answer. IsDelay answer.delay)
