-- What the lines that a judged host alone has say, or their first fault.
use Rattle.std.specs.Prelude.{◌≡◌, ◌≤◌, ◌<◌, true, ℕ, ◌-◌, ◌^◌, List, Option, Some, None, Result, Ok, Err, if◌then◌else◌, codes}
use Rattle.std.specs.Str.{bytes_eq}
use Rattle.wb_names.specs.Moments.{IsMoment}
use Rattle.wb_names.specs.declared.moment.TheConstants.{MAX_MOMENT}
use Rattle.wb_codec.specs.declared.datagram.Datagram.{Datagram}
use Rattle.wb_words.specs.declared.digits_fault.DigitsFault.TheVariants as digit_faults
use Rattle.wb_display.specs.Canvas.{is_canvas_size}
use Rattle.wb_display.specs.declared.canvas.TheConstants.Canvas.{MAX_WIDTH, MAX_HEIGHT}
use Rattle.wb_commands.specs.declared.fault.LineFault.{LineFault}
use Rattle.wb_commands.specs.declared.fault.LineFault.TheVariants as faults
use Rattle.wb_commands.specs.Parsing.{◌>>=◌, datagram, four_of, none_of, number, one_of, or_fault, page, two_of}
use Rattle.wb_judge.specs.declared.limits.TheConstants.{TIME_LIMIT}
use Rattle.wb_judge.specs.declared.origin.Origin.{Origin}
use Rattle.wb_judging.specs.Calling.{IsWithin as IsCallWithin}
use Rattle.wb_judging.specs.declared.call.Call.{Call}
use Rattle.wb_judging.specs.declared.call.Call.TheVariants.{CameFrom, Held, Passed}
use Rattle.wb_judging.specs.declared.news.News.TheVariants.{Day, Garbled, Gone}
use Rattle.wb_judging.specs.declared.record.RecordLine.{RecordLine}
use Rattle.wb_dialog.specs.declared.judged_line.JudgeLine.{JudgeLine}
use Rattle.wb_dialog.specs.declared.judged_line.JudgedLine.{JudgedLine}
use Rattle.wb_dialog.specs.declared.judged_line.JudgedLine.TheVariants.{Call as Calls, Skip, Members, List as Lists, Paint, Since, Lacks, Words}
use Rattle.wb_dialog.specs.Records.{record_of}
use Rattle.wb_dialog.specs.Words.{behind, most64, number_or_none, origin, six_of, three_of}
use Rattle.wb_policy.specs.declared.limits.TheConstants.{MAX_RATE}

-- a time of day, in microseconds since 1970
abbrev pub day_time : List ℕ → Result ℕ LineFault
day_time word = number 0 (TIME_LIMIT - 1) word

-- how many drawops of strangers are taken, or none for `-`
abbrev pub strangers : List ℕ → Result (Option ℕ) LineFault
strangers word = number_or_none (2 ^ 16 - 1) word

-- the moment, the rate of reports, for how long nothing is drawn, the time of day, our own owner, and the share of strangers
unfoldable pub judge_line : List (List ℕ) → Result JudgeLine LineFault
judge_line arguments = do
  words' ← or_fault faults.Words (six_of arguments)
  now ← number 0 MAX_MOMENT words'.0
  rate ← number 1 MAX_RATE words'.1
  listen ← number 0 (2 ^ 32 - 1) words'.2
  wall ← day_time words'.3
  here ← number_or_none most64 words'.4
  strangers' ← strangers words'.5
  Ok (record { now = now; rate = rate; listen = listen; wall = wall; here = here; strangers = strangers' })

-- ---- lines of a host that is judged

-- Bytes that spell no datagram come in too.
abbrev pub arrived : Result Datagram LineFault → Result (Option Datagram) LineFault
arrived (Ok v) = Ok (Some v)
arrived (Err (faults.Digits (digit_faults.Datagram e))) = Ok None
arrived (Err e) = Err e

abbrev pub arrival : List (List ℕ) → Result (Option Datagram) LineFault
arrival arguments = arrived (datagram arguments)

abbrev pub came_of : ℕ → Origin → Option Datagram → Call
came_of now o None = Passed now Garbled
came_of now o (Some v) = CameFrom now o v

-- bytes that came in at a moment, from an origin
unfoldable pub came_from : List ℕ → List ℕ → List (List ℕ) → Result JudgedLine LineFault
came_from now place digits = do
  now' ← number 0 MAX_MOMENT now
  origin' ← origin place
  datagram' ← arrival digits
  Ok (Calls (came_of now' origin' datagram'))

unfoldable pub wall_line : List (List ℕ) → Result JudgedLine LineFault
wall_line arguments = do
  words' ← or_fault faults.Words (two_of arguments)
  now ← number 0 MAX_MOMENT words'.0
  wall ← day_time words'.1
  Ok (Calls (Passed now (Day wall)))

unfoldable pub gone_line : List (List ℕ) → Result JudgedLine LineFault
gone_line arguments = do
  words' ← or_fault faults.Words (two_of arguments)
  now ← number 0 MAX_MOMENT words'.0
  origin' ← origin words'.1
  Ok (Calls (Passed now (Gone origin')))

unfoldable pub list_line : List (List ℕ) → Result JudgedLine LineFault
list_line arguments = do
  word ← or_fault faults.Words (one_of arguments)
  most ← number 0 (2 ^ 32 - 1) word
  Ok (Lists most)

-- the page, the width and the height of a canvas
unfoldable pub paint_line : List (List ℕ) → Result JudgedLine LineFault
paint_line arguments = do
  words' ← or_fault faults.Words (four_of arguments)
  creator ← number 0 (2 ^ 32 - 1) words'.0
  number' ← number 0 (2 ^ 32 - 1) words'.1
  width ← number 1 MAX_WIDTH words'.2
  height ← number 1 MAX_HEIGHT words'.3
  Ok (Paint (record { creator = creator; number = number' }) width height)

-- the page, and how many drawops were held
unfoldable pub since_line : List (List ℕ) → Result JudgedLine LineFault
since_line arguments = do
  words' ← or_fault faults.Words (three_of arguments)
  last ← or_fault faults.Words (one_of words'.2)
  creator ← number 0 (2 ^ 32 - 1) words'.0
  number' ← number 0 (2 ^ 32 - 1) words'.1
  count ← number 0 (2 ^ 32 - 1) last
  Ok (Since (record { creator = creator; number = number' }) count)

abbrev pub held_by : Option RecordLine → JudgedLine
held_by None = Skip
held_by (Some line) = Calls (Held line)

abbrev pub held_line : List ℕ → Result JudgedLine LineFault
held_line line = record_of line >>= λ record'. Ok (held_by record')

-- The line with this first word and these further ones. What follows `held` begins one space after it, so if it does not, it is wrong.
unfoldable pub own_row : List ℕ → List ℕ → List (List ℕ) → Result JudgedLine LineFault
own_row line word arguments =
    if bytes_eq word (codes "held") then or_fault faults.Words (behind (codes "held") line) >>= held_line
    else (if bytes_eq word (codes "wall") then wall_line arguments
    else (if bytes_eq word (codes "gone") then gone_line arguments
    else (if bytes_eq word (codes "members") then or_fault faults.Words (none_of arguments) >>= (λ nothing. Ok Members)
    else (if bytes_eq word (codes "list") then list_line arguments
    else (if bytes_eq word (codes "paint") then paint_line arguments
    else (if bytes_eq word (codes "since") then since_line arguments
    else (if bytes_eq word (codes "lacks") then page arguments >>= (λ p. Ok (Lacks p))
    else (if bytes_eq word (codes "words") then datagram arguments >>= (λ v. Ok (Words v))
    else Err faults.Unknown))))))))

-- ---- what the code answers

-- what a line carries is in its range
pub record IsJudgeLine (line : JudgeLine) : Type 0 where
  pub moment : IsMoment line.now
  pub rate : 1 ≤ line.rate
  pub listen : line.listen < 2 ^ 32
  pub wall : line.wall < TIME_LIMIT

abbrev pub IsWithin : JudgedLine → Type 0
IsWithin (Calls call) = IsCallWithin call
IsWithin Skip = Unit {0}
IsWithin Members = Unit {0}
IsWithin (Lists most) = Unit {0}
IsWithin (Lacks page) = Unit {0}
IsWithin (Since page count) = Unit {0}
IsWithin (Words v) = Unit {0}
IsWithin (Paint page width height) = is_canvas_size width height ≡ true
