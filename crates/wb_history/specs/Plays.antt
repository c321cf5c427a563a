-- What each kind of step tells its caller: of the step, what the pass knew, the number found, and what it knows then.
use Rattle.std.specs.Prelude.{◌≡◌, ◌≢◌, ℕ, ◌≤◌, [], ◌∷◌, ◌++◌, length}
use mathlib.Core.List.{IsPrefix}
use mathlib.Core.Option.{some}
use Rattle.atomic_table.specs.Table.{Me, Step}
use Rattle.wb_history.specs.declared.knowledge.Knowledge.{Knowledge}
use Rattle.wb_names.specs.Values.{DrawopValue}
use Rattle.wb_codec.specs.Rows.{row}
use Rattle.wb_codec.specs.Ranges.{IsDrawop}
use Rattle.wb_history.specs.Lawful.{IsConsistent}
use Rattle.wb_history.specs.Views.{HasAllRows, after_look, after_read, after_drawop, after_store, after_win, after_loss, after_confirm}

-- what a seat knows, and its slots
abbrev pub SeatState : Type 0
SeatState = Me DrawopValue Knowledge

abbrev pub looked : Step DrawopValue → SeatState → ℕ → SeatState → Type 0
looked st m found m' = (m'.1 ≡ m.1) × (m'.0 ≡ after_look m.0 st.word found) × (found ≤ m.0.cells) × (HasAllRows m.0 → found ≡ 0) × IsConsistent m'.0

abbrev pub read_word : Step DrawopValue → SeatState → ℕ → SeatState → Type 0
read_word st m found m' = (m'.1 ≡ m.1) × (m'.0 ≡ after_read m.0 st.word found) × IsConsistent m'.0

abbrev pub read_last : Step DrawopValue → SeatState → ℕ → SeatState → Type 0
read_last st m found m' = (m'.1 ≡ m.1) × ((d : DrawopValue) × (row d ≡ m.0.read ++ found ∷ []) × IsDrawop d × (m'.0 ≡ after_drawop m.0 d st.word found)) × IsConsistent m'.0

abbrev pub stored_word : Step DrawopValue → SeatState → ℕ → SeatState → Type 0
stored_word st m n m' = (m'.1 ≡ m.1) × (m'.0 ≡ after_store m.0 st.word n) × IsConsistent m'.0

abbrev pub published : Step DrawopValue → SeatState → ℕ → SeatState → Type 0
published st m found m' =
    (m'.1 ≡ m.1) × (found ≡ 0 → (d : DrawopValue) × (st.said ≡ some d) × (m'.0 ≡ after_win m.0 d st.word)) × (found ≢ 0 → m'.0 ≡ after_loss m.0 st.word found) × (found ≤ m.0.cells)
    × (HasAllRows m.0 → found ≡ 0) × IsConsistent m'.0

-- what was seen begins with the shorter list of the last join, where that is not longer
abbrev pub confirmed : Step DrawopValue → SeatState → ℕ → SeatState → Type 0
confirmed st m found m' = (m'.1 ≡ m.1) × (m'.0 ≡ after_confirm m.0 st.word found) × (length m.0.joined ≤ length m.0.seen → IsPrefix m.0.joined m.0.seen) × IsConsistent m'.0
