-- Two states that differ in the order of what is held, at most: each line prints the same there, whatever the order of the batch that it ends.
use Rattle.std.proofs.Common.{◌≡◌, ℕ, List, [], ◌∷◌, ◌++◌, Result, Ok, Err, refl, sym, ap, subst, ◌∙◌, ⊎_elim, Option, Some, None, Contains, IsPermutation}
use Rattle.std.proofs.lemmas.List.Elements.{Contains-push_cases}
use Rattle.std.proofs.lemmas.List.Sorted.{IsPermutation-refl, length_permutation}
use Rattle.wb_names.specs.Values.{DrawopValue}
use Rattle.wb_names.proofs.Listings.{Contains-here}
use Rattle.wb_script.specs.declared.fault.RunFault.{RunFault}
use Rattle.wb_script.specs.declared.running.Summary.{Summary}
use Rattle.wb_commands.specs.declared.command.Command.{Command}
use Rattle.wb_member.specs.Board.{Held}
use Rattle.wb_member.specs.Opened.{Opened, board_of}
use Rattle.wb_script.specs.Hosts.{script_host, taken, batch_text}
use Rattle.wb_commands.specs.Acts.{Act, does, fails, act}
use Rattle.wb_script.specs.Laws.{NoneClash, HasCells}
use Rattle.wb_script.specs.Script.{RunState, after_batch, Closing, Opens, Acts, Faulty, Part, Arrival, Nothing, End, RunStep, moves_on, refused, step_by, closing_step, part_step, prints, run_answer, finish}
use Rattle.wb_script.specs.Shows.{arrived_by, cells_by}
use Rattle.wb_script.proofs.AlikeActs.{DoAlike, act_alike}
use Rattle.wb_script.proofs.AlikeBatches.{HostsAlike, hosts_alike, batch_taken, same_text}
use Rattle.wb_script.proofs.FreeArrivals.{AreAlike, no_history, none_among}
use Rattle.wb_script.proofs.Members.{Among}
use Rattle.wb_script.proofs.ReorderedLines.{state}

abbrev pub MayBeAlike : ℕ → List DrawopValue → Option Opened → Option Opened → Type 0
MayBeAlike cells all None None = Unit {0}
MayBeAlike cells all (Some one) (Some other) = HostsAlike cells all one other
MayBeAlike cells all one other = ⊥

-- the board is open, or the lines that follow open it with `cells` cells
abbrev pub AreCells : ℕ → Option Opened → ℕ → Type 0
AreCells cells None later = later ≡ cells
AreCells cells (Some host) later = Unit {0}

-- the same but for the order of what is held, and for the number of workers
pub record StatesAlike (cells : ℕ) (all : List DrawopValue) (s t : RunState) : Type 0 where
  pub hosts : MayBeAlike cells all s.host t.host
  pub waiting : s.waiting ≡ t.waiting
  pub within : Among s.waiting all

abbrev pub StepsAlike : ℕ → List DrawopValue → ℕ → RunStep → RunStep → Type 0
StepsAlike cells all later (moves_on s text) (moves_on t text') = StatesAlike cells all s t × AreCells cells s.host later × (text ≡ text')
StepsAlike cells all later (refused s text e) (refused t text' e') = StatesAlike cells all s t × (text ≡ text') × (e ≡ e')
StepsAlike cells all later one other = ⊥

-- ---- a line at a host

module _ (cells : ℕ) (all : List DrawopValue) (clash : NoneClash all) (room : HasCells cells all) where
  act_done : (later : ℕ) (k j : Option ℕ) (text text' : List ℕ) (one other : Opened) (a b : Act) → HostsAlike cells all one other → text ≡ text' → DoAlike one other.is.held a b → StepsAlike cells all later (step_by k text a one) (step_by j text' b other)
  act_done later k j text text' one other (does next printed) (does next' printed') h same d = (
    record {
      hosts = hosts_alike cells all next next' other.is.held d.1 (subst (λ (b : Held). AreAlike b.drawops other.is.held) (sym d.0) h.held) (ap (λ (b : Held). b.cells) d.0 ∙ h.cells_are) (subst (λ (b : Held). Among b.drawops all) (sym d.0) h.within);
      waiting = refl;
      within = none_among all;
    },
    tt,
    ap (λ (t : List ℕ). t ++ printed) same ∙ ap (λ (t : List ℕ). text' ++ t) d.2,
  )
  act_done later k j text text' one other (fails e) (fails e') h same d = (record { hosts = h; waiting = refl; within = none_among all }, same, d)
  act_done later k j text text' one other a b h same d = absurd d

  line_done : (later : ℕ) (k j : Option ℕ) (text text' : List ℕ) (line : Command) (one other : Opened) → HostsAlike cells all one other → text ≡ text' → StepsAlike cells all later (step_by k text (act line one) one) (step_by j text' (act line other) other)
  line_done later k j text text' line one other h same =
      act_done later k j text text' one other (act line one) (act line other) h same
      (subst (λ (o : Opened). DoAlike one other.is.held (act line one) (act line o)) (sym h.same) (act_alike one other.is.held h.held line))

  -- ---- the end of a batch

  batch_ended : (one other : Opened) (order order' : List DrawopValue) → HostsAlike cells all one other → Among order all → IsPermutation order order' → HostsAlike cells all (taken order one) (taken order' other)
  batch_ended one other order order' h here moved =
      subst (λ (o : Opened). HostsAlike cells all (taken order one) (taken order' o)) (sym h.same) (batch_taken cells all clash room one other.is.held h.held h.cells_are h.within order order' here moved)

  texts_alike : (one other : Opened) (order order' : List DrawopValue) → HostsAlike cells all one other → Among order all → IsPermutation order order' → batch_text (board_of one) order ≡ batch_text (board_of other) order'
  texts_alike one other order order' h here moved = same_text cells all clash room one other.is.held h.held h.cells_are h.within order order' here moved ∙ ap (λ (o : Opened). batch_text (board_of o) order') (sym h.same)

  -- ---- a line at a state

  nothing_held : AreAlike [] []
  nothing_held = record { once = no_history; again = no_history; moved = IsPermutation-refl [] }

  closes_alike : (later : ℕ) (k j : Option ℕ) (one other : Option Opened) (text text' : List ℕ) (c : Closing) → MayBeAlike cells all one other → AreCells cells one (cells_by (End c) later) → text ≡ text'
      → StepsAlike cells all later (closing_step (state k one []) text c) (closing_step (state j other []) text' c)
  closes_alike later k j None None text text' (Opens member cells' workers seed) h opens same =
      (record { hosts = hosts_alike cells all (script_host member cells' seed) (script_host member cells' seed) [] refl nothing_held opens (none_among all); waiting = refl; within = none_among all }, tt, same)
  closes_alike later k j None None text text' (Acts line) h opens same = (record { hosts = tt; waiting = refl; within = none_among all }, same, refl)
  closes_alike later k j (Some one) (Some other) text text' (Acts line) h opens same = line_done later k j text text' line one other h same
  closes_alike later k j None None text text' (Faulty e) h opens same = (record { hosts = tt; waiting = refl; within = none_among all }, same, refl)
  closes_alike later k j None (Some other) text text' c h opens same = absurd h
  closes_alike later k j (Some one) None text text' c h opens same = absurd h
  closes_alike later k j (Some one) (Some other) text text' c h opens same = (record { hosts = h; waiting = refl; within = none_among all }, same, refl)

  arrives_alike : (later : ℕ) (k j : Option ℕ) (one other : Option Opened) (waiting order order' : List DrawopValue) (d : DrawopValue) → MayBeAlike cells all one other → Among waiting all → Among (d ∷ []) all
      → StepsAlike cells all later (part_step (state k one waiting) order (Arrival d)) (part_step (state j other waiting) order' (Arrival d))
  arrives_alike later k j None None waiting order order' d h within more = (record { hosts = tt; waiting = refl; within = within }, refl, refl)
  arrives_alike later k j (Some one) (Some other) waiting order order' d h within more = (
    record {
      hosts = h;
      waiting = refl;
      within = λ x c. ⊎_elim (λ (a : Contains waiting x). within x a) (λ (e : d ≡ x). subst (Contains all) e (more d (Contains-here d []))) (Contains-push_cases waiting d x c);
    },
    tt,
    refl,
  )
  arrives_alike later k j one other waiting order order' d h within more = absurd h

  -- by the hosts, at the end of a batch
  ended_alike : (later : ℕ) (k j : Option ℕ) (one other : Option Opened) (waiting order order' : List DrawopValue) (c : Closing) → MayBeAlike cells all one other → AreCells cells one (cells_by (End c) later) → Among order all → IsPermutation order order'
      → StepsAlike cells all later (part_step (state k one waiting) order (End c)) (part_step (state j other waiting) order' (End c))
  ended_alike later k j None None waiting order order' c h opens here moved = closes_alike later k j None None [] [] c tt opens refl
  ended_alike later k j (Some one) (Some other) waiting order order' c h opens here moved =
      closes_alike later k j (Some (taken order one)) (Some (taken order' other)) (batch_text (board_of one) order) (batch_text (board_of other) order') c
      (batch_ended one other order order' h here moved) tt (texts_alike one other order order' h here moved)
  ended_alike later k j one other waiting order order' c h opens here moved = absurd h

  pub part_alike : (later : ℕ) (k j : Option ℕ) (one other : Option Opened) (waiting order order' : List DrawopValue) (part : Part) → MayBeAlike cells all one other → AreCells cells one (cells_by part later)
      → Among waiting all → Among (arrived_by part) all → Among order all → IsPermutation order order' → StepsAlike cells all later (part_step (state k one waiting) order part) (part_step (state j other waiting) order' part)
  part_alike later k j one other waiting order order' Nothing h opens within more here moved = (record { hosts = h; waiting = refl; within = within }, opens, refl)
  part_alike later k j one other waiting order order' (Arrival d) h opens within more here moved = arrives_alike later k j one other waiting order order' d h within more
  part_alike later k j one other waiting order order' (End c) h opens within more here moved = ended_alike later k j one other waiting order order' c h opens here moved

  -- ---- the end

  pub ends_alike : (k j : Option ℕ) (one other : Option Opened) (waiting order order' : List DrawopValue) (ending : Result ℕ RunFault) → MayBeAlike cells all one other → Among order all → IsPermutation order order'
      → finish (state k one waiting) order ending ≡ finish (state j other waiting) order' ending
  ends_alike k j (Some one) (Some other) waiting order order' (Err e) h here moved = ap (λ (text : List ℕ). prints text (Err e)) (texts_alike one other order order' h here moved)
  ends_alike k j (Some one) (Some other) waiting order order' (Ok n) h here moved =
      let ended : HostsAlike cells all (taken order one) (taken order' other) = batch_ended one other order order' h here moved in
      ap (λ (text : List ℕ). prints text (run_answer (after_batch (state k (Some one) waiting) order) (Ok n))) (texts_alike one other order order' h here moved)
      ∙ ap (λ (held : ℕ). let sum : Summary = record { lines = n; held = held } in prints (batch_text (board_of other) order') (Ok sum)) (sym (length_permutation (taken order one).is.held (taken order' other).is.held ended.held.moved))
  ends_alike k j None (Some other) waiting order order' ending h here moved = absurd h
  ends_alike k j (Some one) None waiting order order' ending h here moved = absurd h
  ends_alike k j None None waiting order order' ending h here moved = refl
