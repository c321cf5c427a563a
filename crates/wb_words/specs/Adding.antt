-- What the words of a drawing say that is to be added, or the first word from the left that is wrong.
use Rattle.std.specs.Prelude.{ℕ, ◌-◌, List, Result, Ok, Err}
use Rattle.wb_names.specs.Values.{NameValue}
use Rattle.wb_names.specs.declared.name.PageId.{PageId}
use Rattle.wb_words.specs.declared.adding.Adding.{Adding}
use Rattle.wb_words.specs.declared.fault.WrongWord.{WrongWord}
use Rattle.wb_words.specs.declared.fault.WordsFault.{WordsFault}
use Rattle.wb_words.specs.declared.fault.WordsFault.TheVariants as words_faults
use Rattle.wb_names.specs.declared.moment.TheConstants.{MAX_MOMENT}
use Rattle.wb_words.specs.Words.{words, most64}
use Rattle.wb_words.specs.Reading.{◌>>=◌, word_at, number_at, page_at, op_at}

-- the name of a drawing, which has no number yet: so nothing is its own target
abbrev pub numberless : PageId → NameValue
numberless page = record { source = 0; page = page; seq = 0 }

-- The operation of a drawing stands two words before that of a drawop.
abbrev pub earlier_wrong : WrongWord → WrongWord
earlier_wrong wrong = record { place = wrong.place - 2; fault = wrong.fault }

abbrev pub earlier : {A : Type 0} → Result A WrongWord → Result A WrongWord
earlier (Ok x) = Ok x
earlier (Err wrong) = Err (earlier_wrong wrong)

abbrev pub earlier_fault : WordsFault → WordsFault
earlier_fault (words_faults.Word wrong) = words_faults.Word (earlier_wrong wrong)
earlier_fault words_faults.Memory = words_faults.Memory

unfoldable pub adding_at : List (List ℕ) → Result Adding WrongWord
adding_at ws = do
  moment ← number_at 1 MAX_MOMENT ws
  time ← number_at 2 most64 moment.1
  page ← page_at 3 time.1
  word ← word_at 4 page.1
  drawop ← earlier (op_at (numberless page.0) time.0 word.0 word.1)
  Ok (record { moment = moment.0; time = time.0; page = page.0; op = drawop.op })

abbrev pub adding_reading : List ℕ → Result Adding WrongWord
adding_reading line = adding_at (words line)
