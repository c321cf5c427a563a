-- Nothing new comes to live places: what one of them holds, one of them held once what was on its way had arrived.
use Rattle.std.proofs.Common.{◌≡◌, ◌⊎◌, ℕ, ◌<◌, ◌≤◌, Bool, true, false, cond, List, [], ◌∷◌, ◌++◌, ◌∙◌, ap, append_assoc, arith, inl, inr, refl, subst, sym, true≢false, ⊎_elim}
use Rattle.std.specs.Prelude.{Contains, nat_eq, nat_le}
use Rattle.std.proofs.lemmas.Bool.{cases_lt, le-leb}
use Rattle.wb_names.specs.Values.{DrawopValue, NameValue}
use Rattle.wb_codec.specs.declared.datagram.Datagram.TheVariants.{Draw}
use Rattle.wb_keeper.proofs.KeptCalls.{holds_from}
use Rattle.wb_progress.specs.Turns.{Terms, settled_by}
use Rattle.wb_progress.proofs.Giving.{held_as}
use Rattle.wb_member.specs.Judged.{holds}
use Rattle.wb_member.specs.Opened.{Opened, opened_with}
use Rattle.wb_keeping.specs.Kept.{Arrives, Line, Says}
use Rattle.wb_keeping.specs.Performing.{after_line}
use Rattle.wb_kept_progress.specs.Timed.{At, IsAnswerable, IsTimely, Start, WasSent, host_after, performed, start_of, until}
use Rattle.wb_kept_progress.proofs.Begun.{ticks_keep}
use Rattle.wb_kept_progress.proofs.Bringing.{line_brings}
use Rattle.wb_kept_progress.proofs.CallParts.{host_is}
use Rattle.wb_kept_progress.proofs.CallsInTime.{performed_is_timely}
use Rattle.wb_kept_progress.proofs.KeptInTime.{front_of}
use Rattle.wb_kept_progress.proofs.PerLine.{draws}
use Rattle.wb_kept_progress.proofs.Timely.{held_later}
use Rattle.wb_kept_progress.proofs.WholeParts.{HeldWasHeld}
use Rattle.wb_progress.proofs.Parts.{tails, nil_ends}

-- ---- one line

-- it was held before, or comes by the line
abbrev WasOrComes : Line → Opened → NameValue → Type 0
WasOrComes line host n = (holds host n ≡ true) ⊎ ((d : DrawopValue) × (d.name ≡ n) × ((line ≡ Arrives d) ⊎ (line ≡ Says (Draw d))))

line_new : (line : Line) (host : Opened) (n : NameValue) → holds (after_line line host) n ≡ true → WasOrComes line host n
line_new line host n e =
    let x = held_as (after_line line host).is.held n e in
    ⊎_elim
    (λ (c : Contains host.is.held x.0). inl (holds_from host.is.held n x.0 c x.2))
    (λ (comes : (line ≡ Arrives x.0) ⊎ (line ≡ Says (Draw x.0))). inr (x.0, x.2, comes))
    (line_brings line host x.0 x.1)

-- ---- parts of a trace

-- a part that ends in time is within the part up to the time
up_to : (s : ℕ) (newer older : List (At Line)) (e : At Line) → e.time ≤ s → (more : List (At Line)) × (until s (newer ++ e ∷ older) ≡ more ++ e ∷ older)
up_to s [] older e le = ([], ap (λ (b : Bool). cond b (e ∷ older) (until s older)) (le-leb e.time s le))
up_to s (x ∷ newer) older e le = from (up_to s newer older e le) (nat_le x.time s) where
  from : (more : List (At Line)) × (until s (newer ++ e ∷ older) ≡ more ++ e ∷ older) → (b : Bool) → (more : List (At Line)) × (cond b (x ∷ (newer ++ e ∷ older)) (until s (newer ++ e ∷ older)) ≡ more ++ e ∷ older)
  from rest true = (x ∷ newer, refl)
  from rest false = rest

-- ---- each part

module _ (hosts : ℕ → Start) (terms : Terms) (trace : List (At Line)) (timely : IsTimely hosts terms trace) (n : NameValue) where
  abbrev Goal : Type 0
  Goal = IsAnswerable hosts terms trace n

  abbrev Has : List (At Line) → ℕ → Type 0
  Has part i = holds (host_after hosts part i) n ≡ true

  -- each part of the trace that is no longer than this one
  abbrev Up : List (At Line) → Type 0
  Up longest = (between part newer : List (At Line)) (i : ℕ) → longest ≡ between ++ part → trace ≡ newer ++ part → Contains terms.live i → Has part i → Goal

  early : (newer older : List (At Line)) (e : At Line) (i : ℕ) → trace ≡ newer ++ e ∷ older → e.time ≤ settled_by terms → Contains terms.live i → Has (e ∷ older) i → Goal
  early newer older e i split le live held =
      let w = up_to (settled_by terms) newer older e le in
      let same : until (settled_by terms) trace ≡ w.0 ++ e ∷ older = ap (until (settled_by terms)) split ∙ w.1 in
      (i, live, ap (λ (t : List (At Line)). holds (host_after hosts t i) n) same ∙ held_later hosts w.0 (e ∷ older) i n held)

  -- who sent it held it
  from_sender : (newer older : List (At Line)) (e : At Line) (d : DrawopValue) → trace ≡ newer ++ e ∷ older → settled_by terms < e.time → Up older → d.name ≡ n → WasSent hosts older e.time terms.delivery (Draw d) → Goal
  from_sender newer older e d split late up named w = ⊎_elim
      (λ (c : Contains host.is.held d).
      up (w.newer ++ w.e ∷ []) w.before ((newer ++ e ∷ w.newer) ++ w.e ∷ []) w.e.place
      (w.split ∙ sym (append_assoc w.newer (w.e ∷ []) w.before))
      (whole ∙ sym (append_assoc (newer ++ e ∷ w.newer) (w.e ∷ []) w.before))
      (timely.alone (newer ++ e ∷ w.newer) w.before w.e whole quiet)
      (holds_from host.is.held n d c named))
      (λ (t : (x : DrawopValue) × (w.e.event ≡ Says (Draw x))). absurd ((timely.quiet (newer ++ e ∷ w.newer) w.before w.e whole quiet).drawn t.0 t.1))
      (draws w.e.event host d w.sent) where
        host : Opened
        host = host_after hosts w.before w.e.place

        whole : trace ≡ (newer ++ e ∷ w.newer) ++ w.e ∷ w.before
        whole = split ∙ ap (λ (t : List (At Line)). newer ++ e ∷ t) w.split ∙ sym (append_assoc newer (e ∷ w.newer) (w.e ∷ w.before))

        quiet : terms.quiet < w.e.time
        quiet = let soon = w.soon in omega (arith, late, soon)

  late_line : (newer older : List (At Line)) (e : At Line) (i : ℕ) → trace ≡ newer ++ e ∷ older → settled_by terms < e.time → Up older → Contains terms.live i → Has (e ∷ older) i → Goal
  late_line newer older e i split late up live held = by (nat_eq e.place i) held where
    before : Has older i → Goal
    before had = up [] older (newer ++ e ∷ []) i refl (split ∙ sym (append_assoc newer (e ∷ []) older)) live had

    quiet : terms.quiet < e.time
    quiet = omega (arith, late)

    by : (b : Bool) → holds (cond b (after_line e.event (host_after hosts older i)) (host_after hosts older i)) n ≡ true → Goal
    by false had = before had
    by true had = ⊎_elim
        (λ (h : holds (host_after hosts older i) n ≡ true). before h)
        (λ (c : (d : DrawopValue) × (d.name ≡ n) × ((e.event ≡ Arrives d) ⊎ (e.event ≡ Says (Draw d)))). ⊎_elim
        (λ (is : e.event ≡ Arrives c.0). from_sender newer older e c.0 split late up c.1 (timely.fresh_drawops newer older e c.0 split late is))
        (λ (is : e.event ≡ Says (Draw c.0)). absurd ((timely.quiet newer older e split quiet).drawn c.0 is))
        c.2)
        (line_new e.event (host_after hosts older i) n had)

  one_part : (newer older : List (At Line)) (e : At Line) (i : ℕ) → Up older → trace ≡ newer ++ e ∷ older → Contains terms.live i → Has (e ∷ older) i → Goal
  one_part newer older e i up split live held = ⊎_elim
      (λ (late : settled_by terms < e.time). late_line newer older e i split late up live held)
      (λ (le : e.time ≤ settled_by terms). early newer older e i split le live held)
      (cases_lt (settled_by terms) e.time)

  none_at_first : (i : ℕ) → holds (host_after hosts [] i) n ≡ false
  none_at_first i = ticks_keep (λ host. holds host n ≡ false) (λ now host none. none) (hosts i).moments (opened_with (hosts i).constants (hosts i).number (hosts i).cells (hosts i).seed) refl

  each_part : (longest : List (At Line)) → Up longest
  each_part [] [] part newer i is split live held = absurd (true≢false (sym held ∙ ap (λ (t : List (At Line)). holds (host_after hosts t i) n) (sym is) ∙ none_at_first i))
  each_part [] (b ∷ between) part newer i is split live held = absurd (nil_ends [] b (between ++ part) is)
  each_part (e ∷ older) [] part newer i is split live held =
      one_part newer older e i (each_part older) (split ∙ ap (λ (t : List (At Line)). newer ++ t) (sym is)) live (subst (λ (t : List (At Line)). Has t i) (sym is) held)
  each_part (e ∷ older) (b ∷ between) part newer i is split live held = each_part older between part newer i (tails e b older (between ++ part) is) split live held

  pub nothing_new : (front back : List (At Line)) (i : ℕ) → trace ≡ front ++ back → Contains terms.live i → Has back i → Goal
  nothing_new front back i split live held = each_part back [] back front i refl split live held

pub held_was_held : HeldWasHeld
held_was_held hosts terms trace newer older i n s split live held =
    let f = front_of hosts newer older in
    nothing_new (λ j. start_of (hosts j)) terms (performed hosts trace) (performed_is_timely hosts terms trace s) n f.0 (performed hosts older) i (ap (performed hosts) split ∙ f.1) live
    (ap (λ (h : Opened). holds h n) (host_is hosts older i) ∙ held)
