-- What the words of a drawing say that is to be added is in range.
use Rattle.std.proofs.Common.{◌^◌, ◌<◌, ◌≤◌, ℕ, List, [], ◌∷◌, Option, Some, None, Result, Ok, Err, arith}
use Rattle.wb_names.specs.Drawing.{op_fault}
use Rattle.wb_names.specs.Values.{DrawopValue, NameValue}
use Rattle.wb_names.specs.declared.fault.FieldFault.{FieldFault}
use Rattle.wb_names.specs.declared.parts.Op.{Op}
use Rattle.wb_names.specs.declared.parts.Op.TheVariants.{Drawn, Text, Aimed}
use Rattle.wb_names.specs.declared.parts.OpKind.{OpKind}
use Rattle.wb_names.specs.declared.parts.OpKind.TheVariants as kinds
use Rattle.wb_names.specs.declared.parts.Target.{Target}
use Rattle.wb_codec.specs.Ranges.{HasTarget, IsPage}
use Rattle.wb_words.specs.Words.{most32, words}
use Rattle.wb_words.specs.Reading.{◌>>=◌, change_at, end_at, fields_at, figure_at, in_range, kind_in, number_at, op_at, page_at, said, stroke_at, text_at, word_at, written_at}
use Rattle.wb_words.specs.Adding.{adding_at, adding_reading, earlier, numberless}
use Rattle.wb_words.specs.declared.adding.Adding.{Adding}
use Rattle.wb_words.specs.declared.fault.WordFault.TheVariants as faults
use Rattle.wb_words.specs.declared.fault.WrongWord.{WrongWord}
use Rattle.wb_words.proofs.EntryLists.{Reads, step, weaker}
use Rattle.wb_words.proofs.WordLaws.{number_finds, page_finds, said_step}

-- the page and the target of a drawing are in range, and its moment
pub record IsAdding (a : Adding) : Type 0 where
  pub moment : a.moment < 2 ^ 48
  pub page : IsPage a.page
  pub target : HasTarget a.op

-- ---- words that are read

free_step : {A B : Type 0} {Q : B → Type 0} (r : Result A WrongWord) (f : A → Result B WrongWord) → ((x : A) → Reads Q (f x)) → Reads Q (r >>= f)
free_step (Ok x) f h = h x
free_step (Err wrong) f h = record { it = tt }

number_most : (place most : ℕ) (ws : List (List ℕ)) → Reads (λ x. x.0 ≤ most) (number_at place most ws)
unfolding number_at
number_most place most ws = free_step (word_at place ws) _ (λ word. said_step _ _ _ (number_finds most word.0) (λ n t. record { it = t.1 }))

number_small : (place : ℕ) (ws : List (List ℕ)) → Reads (λ x. x.0 < 2 ^ 32) (number_at place most32 ws)
number_small place ws = weaker (number_most place most32 ws) (λ x le. omega (arith, le))

page_small : (place : ℕ) (ws : List (List ℕ)) → Reads (λ x. IsPage x.0) (page_at place ws)
unfolding page_at
page_small place ws = free_step (word_at place ws) _ (λ word. said_step _ _ _ (page_finds word.0) (λ p t. record { it = t.1 }))

-- ---- what is to be drawn

target_fits : (name : NameValue) (time : ℕ) (word : List ℕ) (ws : List (List ℕ)) → Reads (λ (d : DrawopValue). HasTarget d.op) (op_at name time word ws)
unfolding op_at figure_at written_at change_at
target_fits name time word ws = by (kind_in word) where
  drawn_free : (place : ℕ) (op : Op) (fault : Option FieldFault) → HasTarget op → Reads (λ (d : DrawopValue). HasTarget d.op) (in_range place fault (record { name = name; time = time; op = op }))
  drawn_free place op None has = record { it = has }
  drawn_free place op (Some fault) has = record { it = tt }

  ended : (place : ℕ) (rest : List (List ℕ)) (d : DrawopValue) → HasTarget d.op → Reads (λ (d : DrawopValue). HasTarget d.op) (end_at place rest d)
  ended place [] d has = record { it = has }
  ended place (w ∷ rest) d has = record { it = tt }

  fields : (kind : OpKind) → Reads (λ (d : DrawopValue). HasTarget d.op) (fields_at kind name time ws)
  fields (kinds.Drawn figure) = free_step (stroke_at ws) _ (λ s. step _ (drawn_free 11 (Drawn figure s.0) (op_fault name (Drawn figure s.0)) tt) (λ d has. ended 12 s.1 d has))
  fields kinds.Text = free_step (number_at 7 4095 ws) _ (λ x. free_step (number_at 8 4095 x.1) _ (λ y. free_step (text_at 9 y.1) _ (λ text. drawn_free 9 (Text x.0 y.0 text) (op_fault name (Text x.0 y.0 text)) tt)))
  fields (kinds.Aimed change) = step _ (number_small 7 ws) (λ s small. step _ (number_small 8 s.1) (λ n few.
      let t : Target = record { source = s.0; seq = n.0 } in
      step _ (drawn_free 8 (Aimed change t) (op_fault name (Aimed change t)) (small, few)) (λ d has. ended 9 n.1 d has)))

  by : (kind : Option OpKind) → Reads (λ (d : DrawopValue). HasTarget d.op) (said 6 faults.Operation kind >>= λ k. fields_at k name time ws)
  by None = record { it = tt }
  by (Some kind) = fields kind

pub adding_fits : (line : List ℕ) → Reads IsAdding (adding_reading line)
unfolding adding_at
adding_fits line = step _ (number_most 1 281474976710655 (words line)) (λ moment early. free_step (number_at 2 _ moment.1) _ (λ time. step _ (page_small 3 time.1) (λ page small. free_step (word_at 4 page.1) _ (λ word.
    step _ (earlier_fits (op_at (numberless page.0) time.0 word.0 word.1) (target_fits (numberless page.0) time.0 word.0 word.1)) (λ d has.
    record { it = record { moment = omega (arith, early); page = small; target = has } })))))
  where
    earlier_fits : (r : Result DrawopValue WrongWord) → Reads (λ (d : DrawopValue). HasTarget d.op) r → Reads (λ (d : DrawopValue). HasTarget d.op) (earlier r)
    earlier_fits (Ok d) has = has
    earlier_fits (Err wrong) has = record { it = tt }
