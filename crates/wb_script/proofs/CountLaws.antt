-- That a check counts the lines where each of them parses.
use Rattle.std.proofs.Common.{◌≡◌, ℕ, ◌+◌, ◌<◌, ◌≤◌, Bool, true, false, cond, List, [], ◌∷◌, length, Result, Ok, Err, refl, ap, ◌∙◌, arith, nat_le, nat_lt, ◌||◌, not, All, IsOk}
use Rattle.std.proofs.lemmas.Bool.Decides.{nat_tests}
use Rattle.std.proofs.lemmas.List.Elements.{All-nil, All-cons, All-head, All-tail}
use Rattle.wb_lines.specs.declared.fault.DriveFault.TheVariants as drive_faults
use Rattle.wb_lines.specs.Input.{InputLine, input_lines, content, most_bytes}
use Rattle.wb_lines.specs.Handling.{Met, whole, too_long, Step, ends}
use Rattle.wb_lines.specs.Taking.{most_passed}
use Rattle.wb_lines.specs.Driving.{Outcome, writes, rules_of, before, stop, proceed, outcome_from}
use Rattle.wb_lines.proofs.Outcomes.{few_lines, short_line, passed_line}
use Rattle.wb_commands.specs.declared.fault.LineFault.{LineFault}
use Rattle.wb_script.specs.declared.fault.RunFault.{RunFault}
use Rattle.wb_commands.specs.declared.command.Command.{Command}
use Rattle.wb_commands.specs.Parsing.{script_line_of}
use Rattle.wb_script.specs.Script.{most_lines}
use Rattle.wb_script.specs.Checking.{parsed_step, check_step, answer_at_end, CountsLines}

abbrev IsShort : InputLine → Type 0
IsShort line = length line.bytes ≤ most_bytes

abbrev IsParsed : InputLine → Type 0
IsParsed line = IsOk (script_line_of (content line))

-- ---- one line, which is short or not, by what the handler does with it

abbrev Does : Type 0
Does = Met → Step (Unit {0}) LineFault

record Parses (does : Does) (line : InputLine) (said : Result Command LineFault) : Type 0 where
  on_whole : does (whole line) ≡ parsed_step said
  on_long : does too_long ≡ ends []

-- one line and the rest, if nothing is cut off
abbrev course : Bool → Bool → Bool → ℕ → Does → InputLine → Outcome LineFault → Outcome LineFault
course few short passed number does line rest =
    cond few (cond (not short || (line.ended || not false)) (proceed number (does (cond short (whole line) too_long)) (λ next. cond passed rest (stop (Err drive_faults.Endless)))) (stop (Err drive_faults.Read))) (stop (Err drive_faults.Endless))

taken_on : (ended short : Bool) → not short || (ended || not false) ≡ true
taken_on true true = refl
taken_on true false = refl
taken_on false true = refl
taken_on false false = refl

pub answer_before : (text : List ℕ) (o : Outcome LineFault) → answer_at_end (before text o) ≡ answer_at_end o
answer_before text (writes rest end) = refl

record GoesOn (few short : Bool) (said : Result Command LineFault) (rest : Outcome LineFault) (m : ℕ) : Type 0 where
  is_few : few ≡ true
  is_short : short ≡ true
  parses : IsOk said
  on : answer_at_end rest ≡ Ok m

goes_on : (few short passed : Bool) (number : ℕ) (does : Does) (line : InputLine) (said : Result Command LineFault) (rest : Outcome LineFault) (m : ℕ)
    → Parses does line said → answer_at_end (course few short passed number does line rest) ≡ Ok m → GoesOn few short said rest m
goes_on false short passed number does line said rest m p e = absurd cc
goes_on true false passed number does line said rest m p e = absurd (let h = rw p.on_long at e in cc)
goes_on true true true number does line (Ok parsed) rest m p e =
    let h = rw (taken_on line.ended true, p.on_whole, answer_before) at e in
    record { is_few = refl; is_short = refl; parses = refl; on = h }
goes_on true true false number does line (Ok parsed) rest m p e = absurd (let h = rw (taken_on line.ended true, p.on_whole) at e in cc)
goes_on true true passed number does line (Err f) rest m p e = absurd (let h = rw (taken_on line.ended true, p.on_whole) at e in cc)

passes : (few short passed : Bool) (number : ℕ) (does : Does) (line : InputLine) (said : Result Command LineFault) (rest : Outcome LineFault)
    → Parses does line said → few ≡ true → short ≡ true → passed ≡ true → IsOk said → answer_at_end (course few short passed number does line rest) ≡ answer_at_end rest
passes true true true number does line (Ok parsed) rest p few short passed parses = rw (taken_on line.ended true, p.on_whole) (answer_before [] rest)
passes few short passed number does line said rest p is_few is_short is_passed parses = absurd cc

-- ---- all lines

-- the answer of the lines that are left, after `n`
abbrev checked_from : ℕ → List InputLine → Result ℕ RunFault
checked_from n lines = answer_at_end (outcome_from (rules_of check_step most_lines) false n tt lines)

parses_line : (number : ℕ) (line : InputLine) → Parses (check_step tt number) line (script_line_of (content line))
parses_line number line = record { on_whole = refl; on_long = refl }

few_of : (n : ℕ) → nat_lt n most_lines ≡ true → n < most_lines
few_of n e = grind (arith, nat_tests)

short_of : (k : ℕ) → nat_le k most_bytes ≡ true → k ≤ most_bytes
short_of k e = grind (arith, nat_tests)

ok_of : (n m : ℕ) (a b : Result ℕ RunFault) → a ≡ Ok n → b ≡ Ok m → a ≡ b → m ≡ n
ok_of n m a b p q e = cc

record IsCounted (n : ℕ) (lines : List InputLine) (m : ℕ) : Type 0 where
  number : m ≡ n + length lines
  few : n + length lines ≤ most_lines
  short : All IsShort lines
  parsed : All IsParsed lines

counted : (n : ℕ) (lines : List InputLine) (m : ℕ) → n ≤ most_lines → checked_from n lines ≡ Ok m → IsCounted n lines m
counted n [] m few e = record { number = let same = ok_of n m (Ok n) (Ok m) refl refl e in omega arith; few = omega arith; short = All-nil IsShort; parsed = All-nil IsParsed }
counted n (line ∷ lines) m few e =
    let on = goes_on (nat_lt n most_lines) (nat_le (length line.bytes) most_bytes) (nat_lt (length line.bytes) most_passed) (n + 1) (check_step tt (n + 1)) line (script_line_of (content line)) (outcome_from (rules_of check_step most_lines) false (n + 1) tt lines) m (parses_line (n + 1) line) e in
    let below = few_of n on.is_few in
    let rest = counted (n + 1) lines m (omega (arith, below)) on.on in
    record {
      number = omega (arith, rest.number);
      few = omega (arith, rest.few);
      short = All-cons IsShort line lines (short_of (length line.bytes) on.is_short) rest.short;
      parsed = All-cons IsParsed line lines on.parses rest.parsed;
    }

counts : (n : ℕ) (lines : List InputLine) → n + length lines ≤ most_lines → All IsShort lines → All IsParsed lines → checked_from n lines ≡ Ok (n + length lines)
counts n [] few short parsed = let e : n ≡ n + 0 = omega arith in ap (λ (k : ℕ). Ok k) e
counts n (line ∷ lines) few short parsed =
    let here = All-head IsShort line lines short in
    let rest = counts (n + 1) lines (omega arith) (All-tail IsShort line lines short) (All-tail IsParsed line lines parsed) in
    let all : n + 1 + length lines ≡ n + length (line ∷ lines) = omega arith in
    passes (nat_lt n most_lines) (nat_le (length line.bytes) most_bytes) (nat_lt (length line.bytes) most_passed) (n + 1) (check_step tt (n + 1)) line (script_line_of (content line)) (outcome_from (rules_of check_step most_lines) false (n + 1) tt lines) (parses_line (n + 1) line)
    (few_lines most_lines n (omega arith)) (short_line line.bytes here) (passed_line line.bytes here) (All-head IsParsed line lines parsed)
    ∙ rest ∙ ap (λ (k : ℕ). Ok k) all

pub counts_lines : CountsLines
counts_lines input n = (
  λ e. let all = counted 0 (input_lines input) n (omega arith) e in (omega (arith, all.number), record { few = omega (arith, all.few); short = all.short }, all.parsed),
  λ all. let zero_more : 0 + length (input_lines input) ≡ n = omega (arith, all.0) in counts 0 (input_lines input) (omega (arith, all.1.few)) all.1.short all.2 ∙ ap (λ (k : ℕ). Ok k) zero_more,
)
