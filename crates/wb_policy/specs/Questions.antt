-- Questions for pages: a newcomer asks which there are, and asks less often from time to time; about one member answers.
use Rattle.std.specs.Prelude.{ℕ, ◌+◌, ◌*◌, ◌/◌, Bool, false, ◌&&◌, Option, Some, None, is_none, max, min, nat_le}
use Rattle.wb_policy.specs.declared.limits.TheConstants.{FIRST_WAIT, LONGEST_MEAN, MOST_PAGES, MOST_WAIT, QUIET, SECOND, STATE_BYTES}
use Rattle.wb_policy.specs.declared.questions.Questions.{Questions}

-- a moment is due
abbrev pub is_due : ℕ → Option ℕ → Bool
is_due now None = false
is_due now (Some moment) = nat_le moment now

-- at first it asks within a fifth of a second
abbrev pub opened_at : ℕ → ℕ → Questions
opened_at now drawn = record { ask = Some (now + drawn); wait = FIRST_WAIT; answer = None; quiet = 0 }

-- once it asked, it asks again after half of its wait up to one and a half, and its wait doubles up to 64 seconds
abbrev pub asked_at : ℕ → ℕ → Questions → Questions
asked_at now drawn q = record q { ask = Some (now + q.wait / 2 + drawn); wait = min (2 * q.wait) MOST_WAIT }

-- Another member asks: whoever holds something answers within half a second, unless it is to answer already, or somebody
-- answered within the last second.
abbrev pub is_to_answer : ℕ → Bool → Questions → Bool
is_to_answer now holds q = holds && is_none q.answer && nat_le q.quiet now

abbrev pub to_answer : ℕ → ℕ → Questions → Questions
to_answer now drawn q = record q { answer = Some (now + drawn) }

-- Page states take `rate` bytes a second, each counted with its most bytes: after some it takes up no question for this time, from 1 to 64 seconds.
abbrev pub answer_pause : ℕ → ℕ → ℕ
answer_pause rate states = min (max (min states MOST_PAGES * STATE_BYTES * SECOND / rate) QUIET) LONGEST_MEAN

-- it answered
abbrev pub answered_at : ℕ → ℕ → Questions → Questions
answered_at now pause q = record q { answer = None; quiet = now + pause }

-- somebody answered: it asks and answers no more
abbrev pub heard_at : ℕ → Questions → Questions
heard_at now q = record q { ask = None; answer = None; quiet = max q.quiet (now + QUIET) }
