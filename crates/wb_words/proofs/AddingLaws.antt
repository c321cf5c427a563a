-- What the words of a figure or a text say does not depend on the name of the drawop.
use Rattle.std.proofs.Common.{◌≡◌, ℕ, List, [], ◌∷◌, Option, Some, None, Result, Ok, Err, refl, ap, ◌∙◌}
use Rattle.wb_names.specs.Values.{NameValue, DrawopValue}
use Rattle.wb_names.specs.Drawing.{stroke_fault, text_fault}
use Rattle.wb_names.specs.declared.fault.FieldFault.{FieldFault}
use Rattle.wb_names.specs.declared.parts.Figure.{Figure}
use Rattle.wb_names.specs.declared.parts.Stroke.{Stroke}
use Rattle.wb_names.specs.declared.parts.Op.{Op}
use Rattle.wb_names.specs.declared.parts.Op.TheVariants.{Drawn, Text}
use Rattle.wb_words.specs.declared.fault.WrongWord.{WrongWord}
use Rattle.wb_words.specs.Reading.{◌>>=◌, in_range, end_at, number_at, text_at, drawn, stroke_at, figure_at, written_at}

-- the drawop of another name and time
abbrev pub renamed : NameValue → ℕ → Result DrawopValue WrongWord → Result DrawopValue WrongWord
renamed name time (Ok d) = Ok (record { name = name; time = time; op = d.op })
renamed name time (Err wrong) = Err wrong

abbrev pub of : NameValue → ℕ → Op → DrawopValue
of name time op = record { name = name; time = time; op = op }

module _ (name other : NameValue) (time later : ℕ) where
  ended : (op : Op) (fault : Option FieldFault) (ws : List (List ℕ)) → (in_range 11 fault (of other later op) >>= λ d. end_at 12 ws d) ≡ renamed other later (in_range 11 fault (of name time op) >>= λ d. end_at 12 ws d)
  ended op None [] = refl
  ended op None (w ∷ ws) = refl
  ended op (Some fault) ws = refl

  stroke_free : (figure : Figure) (read : Result (Stroke × List (List ℕ)) WrongWord)
      → (read >>= λ s. drawn 11 other later (Drawn figure s.0) >>= λ d. end_at 12 s.1 d) ≡ renamed other later (read >>= λ s. drawn 11 name time (Drawn figure s.0) >>= λ d. end_at 12 s.1 d)
  stroke_free figure (Ok s) = ended (Drawn figure s.0) (stroke_fault s.0) s.1
  stroke_free figure (Err wrong) = refl

  figure_free : (figure : Figure) (ws : List (List ℕ)) → figure_at figure other later ws ≡ renamed other later (figure_at figure name time ws)
  unfolding figure_at
  figure_free figure ws = stroke_free figure (stroke_at ws)

  named : (op : Op) (fault : Option FieldFault) → in_range 9 fault (of other later op) ≡ renamed other later (in_range 9 fault (of name time op))
  named op None = refl
  named op (Some fault) = refl

  text_free : (x y : ℕ) (read : Result (List ℕ) WrongWord) → (read >>= λ text. drawn 9 other later (Text x y text)) ≡ renamed other later (read >>= λ text. drawn 9 name time (Text x y text))
  text_free x y (Ok text) = named (Text x y text) (text_fault x y text)
  text_free x y (Err wrong) = refl

  y_free : (x : ℕ) (read : Result (ℕ × List (List ℕ)) WrongWord)
      → (read >>= λ y. text_at 9 y.1 >>= λ text. drawn 9 other later (Text x y.0 text)) ≡ renamed other later (read >>= λ y. text_at 9 y.1 >>= λ text. drawn 9 name time (Text x y.0 text))
  y_free x (Ok y) = text_free x y.0 (text_at 9 y.1)
  y_free x (Err wrong) = refl

  x_free : (read : Result (ℕ × List (List ℕ)) WrongWord)
      → (read >>= λ x. number_at 8 4095 x.1 >>= λ y. text_at 9 y.1 >>= λ text. drawn 9 other later (Text x.0 y.0 text)) ≡ renamed other later (read >>= λ x. number_at 8 4095 x.1 >>= λ y. text_at 9 y.1 >>= λ text. drawn 9 name time (Text x.0 y.0 text))
  x_free (Ok x) = y_free x.0 (number_at 8 4095 x.1)
  x_free (Err wrong) = refl

  written_free : (ws : List (List ℕ)) → written_at other later ws ≡ renamed other later (written_at name time ws)
  unfolding written_at
  written_free ws = x_free (number_at 7 4095 ws)

  -- what was read under one name is read under another
  pub figure_drawn : (figure : Figure) (ws : List (List ℕ)) (d : DrawopValue) → figure_at figure name time ws ≡ Ok d → figure_at figure other later ws ≡ Ok (of other later d.op)
  figure_drawn figure ws d is = figure_free figure ws ∙ ap (renamed other later) is

  pub figure_wrong : (figure : Figure) (ws : List (List ℕ)) (wrong : WrongWord) → figure_at figure name time ws ≡ Err wrong → figure_at figure other later ws ≡ Err wrong
  figure_wrong figure ws wrong is = figure_free figure ws ∙ ap (renamed other later) is

  pub written_drawn : (ws : List (List ℕ)) (d : DrawopValue) → written_at name time ws ≡ Ok d → written_at other later ws ≡ Ok (of other later d.op)
  written_drawn ws d is = written_free ws ∙ ap (renamed other later) is

  pub written_wrong : (ws : List (List ℕ)) (wrong : WrongWord) → written_at name time ws ≡ Err wrong → written_at other later ws ≡ Err wrong
  written_wrong ws wrong is = written_free ws ∙ ap (renamed other later) is
