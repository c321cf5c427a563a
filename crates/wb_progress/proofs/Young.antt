-- A request timer for what can be answered is of the lowest level, or it was backed off by a request that is answered to all.
use Rattle.std.proofs.Common.{◌≡◌, ℕ, ◌+◌, ◌<◌, ◌≤◌, List, [], ◌∷◌, ◌++◌, Option, Some, None, refl, sym, ap, ◌∙◌, subst, arith, ◌⊎◌, inl, inr, ⊎_elim, append_assoc}
use Rattle.std.specs.Prelude.{Contains}
use Rattle.std.proofs.lemmas.Option.{none-some}
use Rattle.wb_names.specs.Values.{NameValue}
use Rattle.wb_recovery.specs.declared.timers.AskTimer.{AskTimer}
use Rattle.wb_keeper.specs.Keeper.{KeeperCall}
use Rattle.wb_progress.specs.InTime.{answering_by, known_from}
use Rattle.wb_progress.specs.Repairs.{timers_at}
use Rattle.wb_progress.specs.Turns.{At, longest, Terms, Turn, Places, desk_at, timers_there, time_of, AreInOrder, until, IsAnswerable, AllHoldBehind, KeepTimeBut}
use Rattle.wb_progress.proofs.Answering.{sooner}
use Rattle.wb_progress.proofs.Calls.{requests_begin}
use Rattle.wb_progress.proofs.Giving.{Spares, Called, changes}
use Rattle.wb_progress.proofs.Leading.{Gives, leads_on, not_over}
use Rattle.wb_progress.proofs.Parts.{AreFrom, IsSince, order_of, since, split_at}

module _ {MayStop : List (At Turn) → At Turn → NameValue → Type 0} (places : Places) (terms : Terms) (turns : List (At Turn)) (is : KeepTimeBut MayStop places terms turns) (i : ℕ) (live : Contains terms.live i) (n : NameValue) (a : IsAnswerable places terms turns n) (spares : Spares places MayStop n) (limit : ℕ) where
  abbrev asks : List (At Turn) → Option AskTimer
  asks part = (timers_there places part i n).ask

  -- What stands at a part: nothing; or what stood when requests began to be answered, and the part ends by the limit; or a timer of the lowest
  -- level; or whatever, and all come to hold the name.
  data IsYoung (part : List (At Turn)) : Type 0 where
    Absent : asks part ≡ None → IsYoung part
    Stood : (ask : AskTimer) (stands : asks part ≡ Some ask) (soon : ask.due + terms.late + terms.lag i ≤ limit) (by : time_of part ≤ limit) → IsYoung part
    Lowest : (ask : AskTimer) (stands : asks part ≡ Some ask) (level : ask.level ≡ 0) → IsYoung part
    Answered : AllHoldBehind places terms turns (time_of part + answering_by terms) n → IsYoung part

  -- a timer that begins is of the lowest level
  begins : (newer older : List (At Turn)) (e : At Turn) → turns ≡ newer ++ e ∷ older → asks older ≡ None → IsYoung (e ∷ older)
  begins newer older e split none = from (asks (e ∷ older)) refl where
    at_calls : List KeeperCall → Option AskTimer
    at_calls calls = (timers_at (places.me i) (places.constants i) calls n).ask

    level_of : (ask : AskTimer) → asks (e ∷ older) ≡ Some ask → ask.level ≡ 0
    level_of ask stands = ⊎_elim
        (λ (same : (desk_at places (e ∷ older) i).calls ≡ (desk_at places older i).calls). absurd (none-some ask (sym (ap at_calls same ∙ none) ∙ stands)))
        (λ (c : Called places terms turns is older e i). (requests_begin terms.far (places.me i) (longest terms) (places.constants i) c.call (desk_at places older i).calls n ask none (sym (ap at_calls c.calls) ∙ stands)).2)
        (changes places terms turns is newer older e i split live)

    from : (o : Option AskTimer) → asks (e ∷ older) ≡ o → IsYoung (e ∷ older)
    from None is = Absent is
    from (Some ask) is = Lowest ask is (level_of ask is)

  one_turn : (newer older : List (At Turn)) (e : At Turn) → turns ≡ newer ++ e ∷ older → known_from terms ≤ e.time → IsYoung older → IsYoung (e ∷ older)
  one_turn newer older e split late young = by young where
    goes_on : (ask : AskTimer) → asks older ≡ Some ask → (asks (e ∷ older) ≡ Some ask → IsYoung (e ∷ older)) → IsYoung (e ∷ older)
    goes_on ask stands same = ⊎_elim same
        (λ (r : Gives places terms turns is i live n a spares newer older e split late ⊎ AllHoldBehind places terms turns (e.time + answering_by terms) n). ⊎_elim
        (λ (g : Gives places terms turns is i live n a spares newer older e split late). Absent g.ends)
        (λ (h : AllHoldBehind places terms turns (e.time + answering_by terms) n). Answered h)
        r)
        (leads_on places terms turns is i live n a spares newer older e split late ask stands)

    order : time_of older ≤ e.time
    order = (order_of newer (e ∷ older) (subst AreInOrder split is.order)).0

    by : IsYoung older → IsYoung (e ∷ older)
    by (Absent none) = begins newer older e split none
    by (Stood ask stands soon le) = goes_on ask stands (λ same. Stood ask same soon (let over = not_over places terms turns is i live n a spares newer older e ask split late stands in omega (arith, over, soon)))
    by (Lowest ask stands level) = goes_on ask stands (λ same. Lowest ask same level)
    by (Answered h) = Answered (sooner places terms turns is (time_of older + answering_by terms) (e.time + answering_by terms) n (let o = order in omega (arith, o)) h)

  walk : (front middle base : List (At Turn)) → turns ≡ front ++ (middle ++ base) → AreFrom (known_from terms + 1) middle → IsYoung base → IsYoung (middle ++ base)
  walk front [] base split late young = young
  walk front (e ∷ middle) base split late young =
      let first = late.0 in
      one_turn front (middle ++ base) e split (omega (arith, first)) (walk (front ++ e ∷ []) middle base (split ∙ sym (append_assoc front (e ∷ []) (middle ++ base))) late.1 young)

-- it is so behind the waits of the timers that stood when requests began to be answered
pub timers_are_young : (MayStop : List (At Turn) → At Turn → NameValue → Type 0) (places : Places) (terms : Terms) (turns newer part : List (At Turn)) (i wait : ℕ) (n : NameValue) (ask : AskTimer) → KeepTimeBut MayStop places terms turns → Spares places MayStop n → ((other : AskTimer) → (timers_there places (until (known_from terms) turns) i n).ask ≡ Some other → other.due + terms.lag i ≤ known_from terms + wait)
    → turns ≡ newer ++ part → Contains terms.live i → known_from terms + wait + terms.late < time_of part → IsAnswerable places terms turns n → (timers_there places part i n).ask ≡ Some ask → (ask.level ≡ 0) ⊎ AllHoldBehind places terms turns (time_of part + answering_by terms) n
timers_are_young MayStop places terms turns newer part i wait n ask is spares waits split live lt a stands = ends (subst Young (sym p.split) (walk places terms turns is i live n a spares limit newer p.middle base whole p.behind (begin (timers_there places base i n).ask refl))) where
  s : ℕ
  s = known_from terms

  limit : ℕ
  limit = s + wait + terms.late

  base : List (At Turn)
  base = until s turns

  Young : List (At Turn) → Type 0
  Young back = IsYoung places terms turns is i live n a spares limit back

  p : IsSince s turns part
  p = since s turns newer part is.order split (omega (arith, lt))

  whole : turns ≡ newer ++ (p.middle ++ base)
  whole = split ∙ ap (λ (t : List (At Turn)). newer ++ t) p.split

  begin : (o : Option AskTimer) → (timers_there places base i n).ask ≡ o → Young base
  begin None e = Absent e
  begin (Some ask) e = let due = waits ask e in let by = (split_at s turns).by in Stood ask e (omega (arith, due)) (omega (arith, by))

  ends : Young part → (ask.level ≡ 0) ⊎ AllHoldBehind places terms turns (time_of part + answering_by terms) n
  ends (Absent none) = absurd (none-some ask (sym none ∙ stands))
  ends (Stood other is soon by) = absurd (omega (arith, by, lt))
  ends (Lowest other is level) = inl (ap (λ (k : AskTimer). k.level) (same (timers_there places part i n).ask other stands is) ∙ level) where
    same : (o : Option AskTimer) (other : AskTimer) → o ≡ Some ask → o ≡ Some other → ask ≡ other
    same o other e f = cc
  ends (Answered h) = inr h
