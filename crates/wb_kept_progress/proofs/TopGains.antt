-- Window by window something new comes to a live host that lacks the last number of a source.
use Rattle.std.proofs.Common.{◌≡◌, ℕ, zero, suc, ◌+◌, ◌*◌, ◌<◌, ◌≤◌, true, false, List, [], ◌∷◌, ◌++◌, ◌∙◌, ap, append_assoc, arith, inl, inr, length, refl, subst, sym, true≢false, ⊎_elim}
use Rattle.std.specs.Prelude.{◌⊎◌, Contains}
use Rattle.wb_names.specs.Values.{NameValue}
use Rattle.wb_names.proofs.Listings.{Contains-cases, Contains-none}
use Rattle.wb_keeper.specs.Keeper.{holds}
use Rattle.wb_progress.specs.InTime.{AreApart}
use Rattle.wb_progress.specs.Turns.{Terms}
use Rattle.wb_kept_progress.specs.Sessions.{Opening}
use Rattle.wb_kept_progress.specs.Telling.{HaveSlices, LastNumbersAreTold}
use Rattle.wb_kept_progress.specs.Timed.{AreInOrder, At, time_of}
use Rattle.wb_kept_progress.specs.Topped.{gaining_span, window_span, windows_from}
use Rattle.wb_kept_progress.specs.Whole.{HolesAreHeld, IsHeldBySome, IsTimelySession, ReportWithin, WaitAtMost, request_span, there}
use Rattle.wb_kept_progress.proofs.Becoming.{held_on, lacked_before, one_gains}
use Rattle.wb_kept_progress.proofs.NothingNew.{held_was_held}
use Rattle.wb_kept_progress.proofs.Repairs.{held_once}
use Rattle.wb_kept_progress.proofs.TopWindows as windows
use Rattle.wb_kept_progress.proofs.WindowParts.{in_window}
use Rattle.wb_keeping.specs.Laws.{KeptLine}

module _ (told : LastNumbersAreTold) (hosts : ℕ → Opening) (terms : Terms) (trace : List (At KeptLine)) (since wait slices pause crowds i : ℕ) (n : NameValue) (session : IsTimelySession hosts terms trace) (waits : WaitAtMost hosts terms trace wait)
    (reports : ReportWithin hosts terms trace since pause) (have : HaveSlices hosts terms trace slices) (holes_held : HolesAreHeld hosts terms trace) (enough : 64 * 250000 + (16000000 + terms.late) + crowds * (2 * request_span terms) < crowds * (64 * 250000))
    (live : Contains terms.live i) (held : IsHeldBySome hosts terms trace n) (last : (x : NameValue) → IsHeldBySome hosts terms trace x → x.page ≡ n.page → x.source ≡ n.source → x.seq ≤ n.seq) (counted : 1 ≤ n.seq) (small : n.seq < 2147483648)
    (newest base : List (At KeptLine)) (split_base : trace ≡ newest ++ base) (late_base : windows_from terms since wait ≤ time_of base) where
  abbrev span : ℕ
  span = gaining_span terms slices pause crowds

  abbrev pub at_window : ℕ → ℕ
  at_window k = time_of base + k * span

  long : window_span terms slices pause ≤ span
  long = omega arith

  -- what the windows so far brought, and the number that is lacked
  pub record Gained (part : List (At KeptLine)) (k : ℕ) : Type 0 where
    pub window : List (At KeptLine)
    pub is : part ≡ window ++ base
    pub names : List NameValue
    pub apart : AreApart names
    pub count : length names ≡ k + 1
    pub first : (x : NameValue) → Contains names x → IsHeldBySome hosts terms trace x × (holds (there hosts base i).host.is.held x ≡ false)
    pub then : (x : NameValue) → Contains names x → (x ≡ n) ⊎ (holds (there hosts part i).host.is.held x ≡ true)

  at_first : (newer : List (At KeptLine)) (e : At KeptLine) (part : List (At KeptLine)) → trace ≡ newer ++ e ∷ part → at_window 0 < e.time → holds (there hosts (e ∷ part) i).host.is.held n ≡ false → Gained part 0
  at_first newer e part split lt lacks =
      let w = in_window newest base newer part e (sym split_base ∙ split) (subst AreInOrder split_base session.order) (omega (arith, lt)) in
      record {
        window = w.part;
        is = w.older_is;
        names = n ∷ [];
        apart = (λ c. absurd (Contains-none n c), tt);
        count = refl;
        first = λ x c. ⊎_elim
            (λ (same : n ≡ x). subst (λ (y : NameValue). IsHeldBySome hosts terms trace y × (holds (there hosts base i).host.is.held y ≡ false)) same
            (held, lacked_before hosts (e ∷ w.part) base i n (subst (λ (l : List (At KeptLine)). holds (there hosts (e ∷ l) i).host.is.held n ≡ false) w.older_is lacks)))
            (λ (none : Contains [] x). absurd (Contains-none x none))
            (Contains-cases n x [] c);
        then = λ x c. ⊎_elim (λ (same : n ≡ x). inl (sym same)) (λ (none : Contains [] x). absurd (Contains-none x none)) (Contains-cases n x [] c);
      }

  module _ (k : ℕ) (newer part : List (At KeptLine)) (e : At KeptLine) (split : trace ≡ newer ++ e ∷ part) (ends : time_of part ≤ at_window (suc k)) (goes_on : at_window (suc k) < e.time) (lacks : holds (there hosts (e ∷ part) i).host.is.held n ≡ false) where
    abbrev older : List (At KeptLine)
    older = (windows.p told hosts terms trace since wait slices pause (time_of base) span i n late_base long session waits reports have live held last counted small k newer part e split ends goes_on lacks).part

    abbrev window : List (At KeptLine)
    window = windows.window told hosts terms trace since wait slices pause (time_of base) span i n late_base long session waits reports have live held last counted small k newer part e split ends goes_on lacks

    whole : part ≡ window ++ older
    whole = windows.whole told hosts terms trace since wait slices pause (time_of base) span i n late_base long session waits reports have live held last counted small k newer part e split ends goes_on lacks

    not_same : (there hosts (window ++ older) i).host.is.held ≡ (there hosts older i).host.is.held → ⊥
    not_same same = windows.not_same told hosts terms trace since wait slices pause (time_of base) span i n late_base long session waits reports have live held last counted small k newer part e split ends goes_on lacks
        holes_held crowds (omega arith) enough same

    lacks_part : holds (there hosts part i).host.is.held n ≡ false
    lacks_part = lacked_before hosts (e ∷ []) part i n lacks

    upto : trace ≡ (newer ++ e ∷ []) ++ part
    upto = split ∙ sym (append_assoc newer (e ∷ []) part)

    -- one name more
    gains : Gained older k → (x : NameValue) → holds (there hosts (window ++ older) i).host.is.held x ≡ true → holds (there hosts older i).host.is.held x ≡ false → Gained part (suc k)
    gains c x comes lacked_x = record {
      window = window ++ c.window;
      is = whole ∙ ap (λ (l : List (At KeptLine)). window ++ l) c.is ∙ sym (append_assoc window c.window base);
      names = x ∷ c.names;
      apart = (not_twice, c.apart);
      count = let count = c.count in omega (arith, count);
      first = λ y d. ⊎_elim
          (λ (same : x ≡ y). subst (λ (z : NameValue). IsHeldBySome hosts terms trace z × (holds (there hosts base i).host.is.held z ≡ false)) same (
            held_was_held hosts terms trace (newer ++ e ∷ []) part i x session upto live comes_part,
            lacked_before hosts c.window base i x (subst (λ (l : List (At KeptLine)). holds (there hosts l i).host.is.held x ≡ false) c.is lacked_x),
          ))
          (λ (old : Contains c.names y). c.first y old)
          (Contains-cases x y c.names d);
      then = λ y d. ⊎_elim
          (λ (same : x ≡ y). inr (subst (λ (z : NameValue). holds (there hosts part i).host.is.held z ≡ true) same comes_part))
          (λ (old : Contains c.names y). ⊎_elim
          (λ (same : y ≡ n). inl same)
          (λ (had : holds (there hosts older i).host.is.held y ≡ true). inr (subst (λ (l : List (At KeptLine)). holds (there hosts l i).host.is.held y ≡ true) (sym whole) (held_on hosts window older i y had)))
          (c.then y old))
          (Contains-cases x y c.names d);
    } where
      comes_part : holds (there hosts part i).host.is.held x ≡ true
      comes_part = subst (λ (l : List (At KeptLine)). holds (there hosts l i).host.is.held x ≡ true) (sym whole) comes

      not_twice : Contains c.names x → ⊥
      not_twice old = ⊎_elim
          (λ (same : x ≡ n). true≢false (sym comes_part ∙ ap (λ (y : NameValue). holds (there hosts part i).host.is.held y) same ∙ lacks_part))
          (λ (had : holds (there hosts older i).host.is.held x ≡ true). true≢false (sym had ∙ lacked_x))
          (c.then x old)

    one_window : Gained older k → Gained part (suc k)
    one_window c = ⊎_elim
        (λ (same : (there hosts (window ++ older) i).host.is.held ≡ (there hosts older i).host.is.held). absurd (not_same same))
        (λ (x : (m : NameValue) × (holds (there hosts (window ++ older) i).host.is.held m ≡ true) × (holds (there hosts older i).host.is.held m ≡ false)). gains c x.0 x.1 x.2)
        (one_gains hosts window older i (held_once hosts (window ++ older) i))

  pub gained : (k : ℕ) (newer part : List (At KeptLine)) (e : At KeptLine) → trace ≡ newer ++ e ∷ part → time_of part ≤ at_window k → at_window k < e.time → holds (there hosts (e ∷ part) i).host.is.held n ≡ false → Gained part k
  gained zero newer part e split ends goes_on lacks = at_first newer e part split goes_on lacks
  gained (suc k) newer part e split ends goes_on lacks =
      let first = windows.p told hosts terms trace since wait slices pause (time_of base) span i n late_base long session waits reports have live held last counted small k newer part e split ends goes_on lacks in
      one_window k newer part e split ends goes_on lacks
      (gained k _ first.part first.next (windows.split_p told hosts terms trace since wait slices pause (time_of base) span i n late_base long session waits reports have live held last counted small k newer part e split ends goes_on lacks) first.by first.after
      (windows.lacks_before told hosts terms trace since wait slices pause (time_of base) span i n late_base long session waits reports have live held last counted small k newer part e split ends goes_on lacks))
