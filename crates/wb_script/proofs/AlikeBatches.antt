-- A batch that two hosts take in two orders: where no arrivals clash and there are cells for all, they hold the same then, and print the same.
use Rattle.std.proofs.Common.{◌≡◌, ℕ, Bool, List, [], ◌∷◌, refl, sym, ap, subst, ◌∙◌, arith, IsPermutation, filter}
use Rattle.std.proofs.lemmas.List.Sorted.{length_permutation}
use Rattle.wb_names.specs.Values.{NameValue, DrawopValue}
use Rattle.wb_names.specs.Arrivals.{counts_of, outcomes_of, history_after}
use Rattle.wb_names.specs.Orders.{name_cmp}
use Rattle.wb_gaps.specs.Sorting.{sorted}
use Rattle.wb_keeper.specs.Keeper.{Arrive, holds}
use Rattle.wb_commands.specs.Answers.{batch_line}
use Rattle.wb_member.specs.Members.{names_of}
use Rattle.wb_member.specs.Opened.{Opened, present, board_of}
use Rattle.wb_script.specs.Hosts.{taken, batch_text}
use Rattle.wb_script.specs.Laws.{NoneClash, HasCells}
use Rattle.wb_script.proofs.AlikeActs.{holding}
use Rattle.wb_script.proofs.AlikeHistories.{same_holds}
use Rattle.wb_script.proofs.FreeArrivals.{AreAlike, after_alike, after_within, counts_alike}
use Rattle.wb_script.proofs.Members.{Among}
use Rattle.wb_script.proofs.Telling.{told_alike}

-- They differ in the order of what is held, at most. The board has `cells` cells, and what it holds is among these arrivals.
pub record HostsAlike (cells : ℕ) (all : List DrawopValue) (one other : Opened) : Type 0 where
  pub same : other ≡ holding one other.is.held
  pub held : AreAlike one.is.held other.is.held
  pub cells_are : one.is.cells ≡ cells
  pub within : Among one.is.held all

-- by what is held in the one
pub hosts_alike : (cells : ℕ) (all : List DrawopValue) (one other : Opened) (drawops : List DrawopValue) → other ≡ holding one drawops → AreAlike one.is.held drawops → one.is.cells ≡ cells → Among one.is.held all → HostsAlike cells all one other
hosts_alike cells all one other drawops same held is within = subst (HostsAlike cells all one) (sym same) (record { same = refl; held = held; cells_are = is; within = within })

module _ (cells : ℕ) (all : List DrawopValue) (clash : NoneClash all) (room : HasCells cells all) where
  module _ (one : Opened) (drawops : List DrawopValue) (a : AreAlike one.is.held drawops) (is : one.is.cells ≡ cells) (within : Among one.is.held all) (order order' : List DrawopValue) (here : Among order all) (moved : IsPermutation order order') where
    space : HasCells one.is.cells all
    space = subst (λ (n : ℕ). HasCells n all) (sym is) room

    after : AreAlike (history_after one.is.cells one.is.held order) (history_after one.is.cells drawops order')
    after = after_alike one.is.cells all clash space one.is.held drawops order order' a within here moved

    pub batch_taken : HostsAlike cells all (taken order one) (taken order' (holding one drawops))
    batch_taken =
        hosts_alike cells all (taken order one) (taken order' (holding one drawops)) (history_after one.is.cells drawops order') (told_same order order' moved after) after is
        (after_within one.is.cells all clash space one.is.held drawops order order' a within here moved) where
          told_same : (order order' : List DrawopValue) → IsPermutation order order' → AreAlike (history_after one.is.cells one.is.held order) (history_after one.is.cells drawops order')
              → taken order' (holding one drawops) ≡ holding (taken order one) (history_after one.is.cells drawops order')
          told_same [] [] moved a = refl
          told_same [] (e ∷ es) moved a = let size = length_permutation [] (e ∷ es) moved in absurd (omega (arith, size))
          told_same (d ∷ ds) [] moved a = let size = length_permutation (d ∷ ds) [] moved in absurd (omega (arith, size))
          told_same (d ∷ ds) (e ∷ es) moved a =
              let held : List DrawopValue = history_after one.is.cells one.is.held (d ∷ ds) in
              let held' : List DrawopValue = history_after one.is.cells drawops (e ∷ es) in
              ap (λ (names : List NameValue). let h : Opened = record { is = record one.is { held = held'; calls = Arrive (present one) names ∷ one.is.calls }; random = one.random } in h)
              (sym (told_alike (holds held) (d ∷ ds) (e ∷ es) moved ∙ ap (λ (p : NameValue → Bool). sorted name_cmp (filter p (names_of (e ∷ es)))) (same_holds held held' a)))

    pub same_text : batch_text (board_of one) order ≡ batch_text (board_of (holding one drawops)) order'
    same_text = at order order' moved (counts_alike one.is.cells all clash space one.is.held drawops order order' a within here moved) where
      at : (order order' : List DrawopValue) → IsPermutation order order' → counts_of (outcomes_of one.is.cells one.is.held order) ≡ counts_of (outcomes_of one.is.cells drawops order') → batch_text (board_of one) order ≡ batch_text (board_of (holding one drawops)) order'
      at [] [] moved e = refl
      at [] (e ∷ es) moved c = let size = length_permutation [] (e ∷ es) moved in absurd (omega (arith, size))
      at (d ∷ ds) [] moved c = let size = length_permutation (d ∷ ds) [] moved in absurd (omega (arith, size))
      at (d ∷ ds) (e ∷ es) moved c = ap batch_line c
