use Rattle.std.proofs.Common.{◌≡◌, sym, ap, ◌∙◌, List, ℕ, Some, Ok, option_map}
use Rattle.std.specs.Borrow.{Bor}
use Rattle.std.proofs.lemmas.Result.{err_from_is_err_and}
use Rattle.wb_lines.specs.Words.{words}
use Rattle.wb_commands.specs.Parsing.{one_of}
use Rattle.wb_commands.proofs.Arrivals.{datagram-not_hex, datagram-late, datagram-spelled}
use Rattle.wb_commands.proofs.parsing.datagram.Goals as goal

pub returns-in_err-bytes : goal.returns-in_err-bytes
returns-in_err-bytes c =
    let one : one_of (words c.args.rest.now) ≡ Some c.in_ok-digits.digits.now = sym c.one_word.ensures ∙ ap (option_map (λ (x : Bor (List ℕ)). x.now)) c.in_ok-digits.ensures.ok_part in
    let p = err_from_is_err_and c.from_residual-in_err-bytes.result c.from_residual-in_err-bytes.ensures.1 in
    rw (p.1, p.2) (datagram-late (words c.args.rest.now) c.in_ok-digits.digits.now one c.in_err-bytes.ensures.memory)

pub returns-in_default : goal.returns-in_default
returns-in_default c =
    let one : one_of (words c.args.rest.now) ≡ Some c.in_ok-digits.digits.now = sym c.one_word.ensures ∙ ap (option_map (λ (x : Bor (List ℕ)). x.now)) c.in_ok-digits.ensures.ok_part in
    let none = rw c.in_default.is at c.in_ok-bytes.ensures.bytes in
    datagram-not_hex (words c.args.rest.now) c.in_ok-digits.digits.now one none

pub returns-in-Ok : goal.returns-in-Ok
returns-in-Ok c =
    let one : one_of (words c.args.rest.now) ≡ Some c.in_ok-digits.digits.now = sym c.one_word.ensures ∙ ap (option_map (λ (x : Bor (List ℕ)). x.now)) c.in_ok-digits.ensures.ok_part in
    let found = rw c.in-Some.is at c.in_ok-bytes.ensures.bytes in
    datagram-spelled (words c.args.rest.now) c.in_ok-digits.digits.now c.deref.result.now c.in-Ok.datagram one (found.1 ∙ ap (λ (bytes : List ℕ). Ok bytes) (sym c.deref.ensures.value)) c.in-Ok.ensures.found
