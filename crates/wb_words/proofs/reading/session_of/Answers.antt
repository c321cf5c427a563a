use Rattle.std.proofs.Common.{◌≡◌, ◌+◌, length, List, Result, Ok, Err, ap, refl}
use Rattle.std.proofs.lemmas.Result.{err_from_is_err_and}
use Rattle.wb_names.specs.declared.echo.Echo.{Echo}
use Rattle.wb_words.specs.declared.fault.WrongWord.{WrongWord}
use Rattle.wb_words.specs.declared.fault.WordsFault.{WordsFault}
use Rattle.wb_words.specs.declared.fault.WordsFault.TheVariants.{Word, Memory}
use Rattle.wb_words.specs.Rests.{words_left}
use Rattle.wb_words.specs.Reading.{◌>>=◌, MayGive, session_at, marks_at, echoes_at}
use Rattle.wb_words.proofs.reading.session_of.Goals as goal

-- what stops a step stops what follows it
stopped : {X Y : Type 0} (fault : WordsFault) (read : Result X WrongWord) (f : X → Result Y WrongWord) → MayGive {X = X} {Y = X} (λ x. x) (Err fault) read → MayGive {X = Y} {Y = Y} (λ y. y) (Err fault) (read >>= f)
stopped (Word wrong) read f e = ap (λ (r : Result _ WrongWord). r >>= f) e
stopped Memory read f e = tt

pub returns-in_err-echoes : goal.returns-in_err-echoes
unfolding session_at
returns-in_err-echoes c =
    let marks : marks_at 5 (words_left c.in_ok-page.rest) ≡ Ok c.in_ok-marks.marks = c.in_ok-marks.ensures in
    let echoes : MayGive {X = List Echo} {Y = List Echo} (λ x. x) (Err c.in_err-echoes.field-0.0) (echoes_at (5 + length c.as_slice.result.now) (words_left c.after_marks.result)) = c.in_err-echoes.ensures in
    let p = err_from_is_err_and c.from_residual-in_err-echoes.result c.from_residual-in_err-echoes.ensures.1 in
    rw (c.in_ok-sender.ensures, c.in_ok-sent.ensures, c.in_ok-page.ensures, marks, ← c.after_marks.ensures, ← c.as_slice.ensures.entries, p.1, p.2) (stopped _ _ _ echoes)

pub returns : goal.returns
unfolding session_at
returns c =
    let marks : marks_at 5 (words_left c.in_ok-page.rest) ≡ Ok c.in_ok-marks.marks = c.in_ok-marks.ensures in
    let echoes : echoes_at (5 + length c.as_slice.result.now) (words_left c.after_marks.result) ≡ Ok c.in_ok-echoes.echoes = c.in_ok-echoes.ensures in
    rw (c.in_ok-sender.ensures, c.in_ok-sent.ensures, c.in_ok-page.ensures, marks, ← c.after_marks.ensures, ← c.as_slice.ensures.entries, echoes) refl
