-- If no arrivals clash and there are cells for all names, every order of the workers has the outcome of one thread.
use Rattle.std.proofs.Common.{◌≡◌, ℕ, ◌+◌, Bool, List, refl, sym, subst, ◌∙◌, IsPermutation}
use Rattle.std.proofs.lemmas.List.Elements.{Contains-append_left, Contains-append_right}
use Rattle.std.proofs.lemmas.List.Sorted.{IsPermutation-sym}
use Rattle.wb_names.specs.Values.{DrawopValue}
use Rattle.wb_script.specs.FreeWorkers.{OrdersAreFree, WorkersAreFree}
use Rattle.wb_script.specs.Laws.{NoneClash, HasCells}
use Rattle.wb_lines.specs.Input.{InputLine, input_lines}
use Rattle.wb_script.specs.Script.{RunState, run_start, Part, part_in, RunStep, moves_on, refused, part_step, finish}
use Rattle.wb_script.specs.Shows.{arrived_by, arrivals_of, cells_of}
use Rattle.wb_script.proofs.AlikeLines.{AreCells, StatesAlike, StepsAlike as LinesAlike, part_alike, ends_alike}
use Rattle.wb_script.proofs.FreeArrivals.{none_among}
use Rattle.wb_script.proofs.Members.{Among, rearranged}
use Rattle.wb_script.proofs.OneWorker.{one_thread_is_free}
use Rattle.wb_script.proofs.ReorderedLines.{state}
use Rattle.wb_script.proofs.Simulations.{EndsAlike, StepsAlike, Simulates, simulated}

module _ (cells : ℕ) (all : List DrawopValue) (clash : NoneClash all) (room : HasCells cells all) where
  -- an order of what waits, and what waits as it came
  order_within : (s : RunState) (order : List DrawopValue) → Among s.waiting all → IsPermutation s.waiting order → Among order all
  order_within s order within moved x c = within x (rearranged s.waiting order moved x c)

  ends_within : (s t : RunState) → StatesAlike cells all s t → EndsAlike s t
  ends_within s t a = λ order may ending.
      subst (λ (l : List DrawopValue). finish s order ending ≡ finish (state t.workers t.host l) l ending) a.waiting
      (ends_alike cells all clash room s.workers t.workers s.host t.host s.waiting order s.waiting ending a.hosts (order_within s order a.within may.moved) (IsPermutation-sym s.waiting order may.moved))

  -- before these lines
  abbrev Alike : ℕ → List InputLine → RunState → RunState → Type 0
  Alike n lines s t = StatesAlike cells all s t × AreCells cells s.host (cells_of lines) × Among (arrivals_of lines) all

  alike_on : (n : ℕ) (lines : List InputLine) (step other : RunStep) → Among (arrivals_of lines) all → LinesAlike cells all (cells_of lines) step other → StepsAlike (Alike n lines) step other
  alike_on n lines (moves_on s text) (moves_on t text') more a = ((a.0, a.1, more), a.2)
  alike_on n lines (refused s text e) (refused t text' e') more a = (ends_within s t a.0, a.1, a.2)
  alike_on n lines step other more a = absurd a

  alike_simulates : (cut : Bool) → Simulates cut Alike
  alike_simulates cut = record {
    ends = λ n lines s t a. ends_within s t a.0;
    steps = λ n line lines s t order a free may.
        let part : Part = part_in line in
        let within = a.0.within in
        alike_on (n + 1) lines (part_step s order part) (part_step t t.waiting part) (λ x c. a.2 x (Contains-append_right (arrived_by part) (arrivals_of lines) x c))
        (subst (λ (l : List DrawopValue). LinesAlike cells all (cells_of lines) (part_step s order part) (part_step (state t.workers t.host l) l part)) a.0.waiting
        (part_alike cells all clash room (cells_of lines) s.workers t.workers s.host t.host s.waiting order s.waiting part a.0.hosts a.1 within (λ x c. a.2 x (Contains-append_left (arrived_by part) (arrivals_of lines) x c))
        (order_within s order within may.moved) (IsPermutation-sym s.waiting order may.moved)));
  }

pub orders_are_free : OrdersAreFree
orders_are_free workers cut input o holds h =
    let lines : List InputLine = input_lines input in
    let cells : ℕ = cells_of lines in
    let all : List DrawopValue = arrivals_of lines in
    simulated cut (Alike cells all holds.clash holds.room) (alike_simulates cells all holds.clash holds.room cut) 0 (run_start workers) (run_start workers) lines o
    (record { hosts = tt; waiting = refl; within = none_among all }, refl, λ x c. c) h

pub workers_are_free : WorkersAreFree
workers_are_free workers others cut input o p holds a b = orders_are_free workers cut input o holds a ∙ one_thread_is_free workers others cut input ∙ sym (orders_are_free others cut input p holds b)
