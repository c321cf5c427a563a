-- The comment that stands in the place of a line that can't be turned.
use Rattle.std.specs.Prelude.{ℕ, List, ◌++◌, codes, decimal}
use Rattle.wb_words.specs.FaultText.{digits_text, wrong_text}
use Rattle.wb_filters.specs.declared.fault.LineFault.{LineFault}
use Rattle.wb_filters.specs.declared.fault.LineFault.TheVariants as faults

abbrev pub fault_text : LineFault → List ℕ
fault_text (faults.Word wrong) = wrong_text wrong
fault_text (faults.Digits fault) = codes "word 2: " ++ digits_text fault

-- `# line NUMBER: FAULT`
abbrev pub comment : ℕ → LineFault → List ℕ
comment number fault = codes "# line " ++ (decimal number ++ (codes ": " ++ fault_text fault))
