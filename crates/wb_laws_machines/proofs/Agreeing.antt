-- Nothing is invented, and equal reports and no gaps tell agreement, at any two moments, of every lawful machine.
use Rattle.std.proofs.Common.{◌≡◌, ℕ, ◌≤◌, List, [], ◌∙◌, ap, arith, length, subst, sym, ⊎_elim}
use Rattle.std.specs.Prelude.{Contains}
use Rattle.wb_names.specs.History.{HoldsName, IsHistory, highest}
use Rattle.wb_names.specs.Marks.{mark_of}
use Rattle.wb_names.specs.Values.{DrawopValue, MarkValue, NameValue}
use Rattle.wb_names.specs.declared.name.PageId.{PageId}
use Rattle.wb_names.specs.declared.gap.Gap.{Gap}
use Rattle.wb_names.proofs.Listings.{Contains-none}
use Rattle.wb_gaps.specs.Answers.{gaps_of, report_of}
use Rattle.wb_gaps.specs.Gaps.{Covers}
use Rattle.wb_gaps.proofs.MissingRanges.{gaps_of_page}
use Rattle.wb_gaps.proofs.PageAnswers.{report_of_page}
use Rattle.wb_display.specs.Canvas.{canvas_text}
use Rattle.wb_keeper.specs.Hearing.{marks_heard}
use Rattle.wb_keeper.proofs.KeptCalls.{holds_or_not}
use Rattle.wb_member.specs.Opened.{Opened, gaps_at, shown}
use Rattle.wb_board.specs.Counts.{MAX_CELLS}
use Rattle.wb_board.proofs.Agreement.{ShareAPage}
use Rattle.wb_laws_machines.specs.Agreement.{Agree}
use Rattle.wb_laws_machines.specs.Honest.{AreApart, AreHonest, IsLawful, IsOn}
use Rattle.wb_laws_machines.specs.Laws.{HeldOnce, HeldWasDrawn, NamesMeanOne, NoneClashes, NumbersCount, ReportsTellAgreement, WholeBoardsAgree}
use Rattle.wb_laws_machines.specs.Machines.{AreTaken, At, Machine, WasDrawn, member_at, ◌⊑◌, whole}
use Rattle.wb_laws_machines.proofs.Names.{at_most_highest, named, of_name}
use Rattle.wb_laws_machines.proofs.Outcomes.{Found, found}
use Rattle.wb_laws_machines.proofs.Sharing.{view_alike}
use Rattle.wb_laws_machines.proofs.Drawn.{each_was_drawn, has_room_at, held_once_at, names_mean_one, numbers_count}
use Rattle.wb_laws_machines.proofs.Mapped.{TakenAreSmall}
use Rattle.wb_laws_machines.proofs.Traces.{taken_behind}

-- ---- two boards

-- no range covers anything where there is none
covers_none : (gaps : List Gap) (source n : ℕ) → gaps ≡ [] → Covers gaps source n → ⊥
covers_none gaps source n e c = Contains-none c.0 (subst (λ (g : List Gap). Contains g c.0) e c.1)

-- What has a name that one knows of, counts from 1, and means one drawop to both, is held there, where there are no gaps.
over : (one other : Opened) (page : PageId) → ((source : ℕ) → highest page source one.is.held ≡ highest page source other.is.held) → gaps_at page other ≡ []
    → ((d : DrawopValue) → d.name.page ≡ page → Contains one.is.held d → 1 ≤ d.name.seq)
    → ((d e : DrawopValue) → d.name.page ≡ page → Contains one.is.held d → Contains other.is.held e → d.name ≡ e.name → d ≡ e)
    → (d : DrawopValue) → d.name.page ≡ page → Contains one.is.held d → Contains other.is.held d
over one other page tops none counted same d here c = ⊎_elim
    (λ (there : HoldsName held d.name). let x = of_name held d.name there in subst (Contains held) (sym (same d x.0 here c x.1 (sym x.2))) x.1)
    (λ (absent : HoldsName held d.name → ⊥). absurd (missing absent))
    (holds_or_not held d.name) where
      held : List DrawopValue
      held = other.is.held

      marks : List MarkValue
      marks = marks_heard other.is.number other.is.calls d.name.page

      missing : (HoldsName held d.name → ⊥) → ⊥
      missing absent =
          let top : d.name.seq ≤ highest d.name.page d.name.source one.is.held = at_most_highest one.is.held d c in
          let equal : highest d.name.page d.name.source one.is.held ≡ highest d.name.page d.name.source held = subst (λ (p : PageId). highest p d.name.source one.is.held ≡ highest p d.name.source held) (sym here) (tops d.name.source) in
          covers_none (gaps_of held d.name.page marks) d.name.source d.name.seq
          (ap (λ (p : PageId). gaps_at p other) here ∙ none)
          (((gaps_of_page held d.name.page marks).missing d.name.source d.name.seq).1
          (record { counted = counted d here c; below = omega (arith, top, equal); not_held = λ h. absent (subst (HoldsName held) (sym (named d)) h) }))

-- members that share a page agree on it
agreed : (one other : Opened) (page : PageId) → ShareAPage one.is.held other.is.held page → IsHistory one.is.held → IsHistory other.is.held → Agree one other page
agreed one other page share once once' =
    let views : shown page one ≡ shown page other = view_alike one.is.held other.is.held page share once once' in
    record { over = share.over; back = share.back; views = views; canvases = λ width height. ap (λ (ds : List DrawopValue). canvas_text ds width height) views }

-- ---- two moments of a session

module _ {S E : Type 0} (m : Machine S E) (lawful : IsLawful m) (numbers : ℕ → ℕ) (trace : List (At E)) (page : PageId)
    (apart : AreApart numbers) (small : TakenAreSmall m) (taken : AreTaken m numbers trace) (honest : AreHonest (IsOn page) m numbers trace) where
  few : (older : List (At E)) (i : ℕ) → older ⊑ trace → length (member_at m numbers older i).is.held ≤ MAX_CELLS
  few older i behind =
      let a = has_room_at m numbers lawful older i in
      let b = small numbers older i (taken_behind m numbers behind taken) in
      omega (arith, a, b)

  drawn : (older : List (At E)) (i : ℕ) → older ⊑ trace → (d : DrawopValue) → d.name.page ≡ page → Contains (member_at m numbers older i).is.held d → WasDrawn m numbers trace d
  drawn older i behind d here c = each_was_drawn m numbers (IsOn page) lawful trace honest older behind i d here c

  counted : (older : List (At E)) (i : ℕ) → older ⊑ trace → (d : DrawopValue) → d.name.page ≡ page → Contains (member_at m numbers older i).is.held d → 1 ≤ d.name.seq
  counted older i behind d here c = let w = drawn older i behind d here c in (numbers_count m numbers (IsOn page) lawful trace honest w.0 d here w.2).1

  module _ (older older' : List (At E)) (i j : ℕ) (behind : older ⊑ trace) (behind' : older' ⊑ trace)
      (same : report_of (member_at m numbers older i).is.held page ≡ report_of (member_at m numbers older' j).is.held page)
      (none : gaps_at page (member_at m numbers older i) ≡ []) (nothing : gaps_at page (member_at m numbers older' j) ≡ []) where
    abbrev one : Opened
    one = member_at m numbers older i

    abbrev other : Opened
    other = member_at m numbers older' j

    tops : (source : ℕ) → highest page source one.is.held ≡ highest page source other.is.held
    tops source =
        sym ((report_of_page one.is.held page (few older i behind)).1 source)
        ∙ ap (λ (ms : List MarkValue). mark_of ms source) same
        ∙ (report_of_page other.is.held page (few older' j behind')).1 source

    means_one : (d e : DrawopValue) → d.name.page ≡ page → Contains one.is.held d → Contains other.is.held e → d.name ≡ e.name → d ≡ e
    means_one d e here c f alike = names_mean_one m numbers (IsOn page) lawful apart trace honest d e here
        (drawn older i behind d here c) (drawn older' j behind' e (sym (ap (λ (n : NameValue). n.page) alike) ∙ here) f) alike

    share : ShareAPage one.is.held other.is.held page
    share = record {
      over = over one other page tops nothing (counted older i behind) means_one;
      back = over other one page (λ source. sym (tops source)) none (counted older' j behind')
          (λ d e here c f alike. sym (means_one e d (sym (ap (λ (n : NameValue). n.page) alike) ∙ here) f c (sym alike)));
    }

    pub agree : Agree one other page
    agree = agreed one other page share (held_once_at m numbers lawful older i) (held_once_at m numbers lawful older' j)

-- ---- laws

module _ {S E : Type 0} (m : Machine S E) (lawful : IsLawful m) where
  pub reports_tell_agreement : TakenAreSmall m → ReportsTellAgreement m
  reports_tell_agreement small numbers trace older older' i j page apart taken honest behind behind' same none nothing =
      agree m lawful numbers trace page apart small taken honest older older' i j behind behind' same none nothing

  pub held_was_drawn : HeldWasDrawn m
  held_was_drawn numbers trace page d honest here w = each_was_drawn m numbers (IsOn page) lawful trace honest w.older w.behind w.place d here w.held

  pub names_mean_one_there : NamesMeanOne m
  names_mean_one_there numbers trace page d x apart honest here c f same = names_mean_one m numbers (IsOn page) lawful apart trace honest d x here c f same

  pub numbers_count_there : NumbersCount m
  numbers_count_there numbers trace page i d honest here c = numbers_count m numbers (IsOn page) lawful trace honest i d here c

  pub held_once : HeldOnce m
  held_once numbers trace i = held_once_at m numbers lawful trace i

  pub none_clashes : NoneClashes m
  none_clashes numbers trace older i place page d apart honest behind here was clashed =
      let host = member_at m numbers older i in
      let f : (x : DrawopValue) × Contains host.is.held x × (x.name ≡ d.name) × (x ≡ d → ⊥) = subst (Found host.is.held d) clashed (found host.is.cells 0 host.is.held d) in
      let there : f.0.name.page ≡ page = ap (λ (n : NameValue). n.page) f.2 ∙ here in
      f.3 (names_mean_one_there numbers trace page f.0 d apart honest there
      (each_was_drawn m numbers (IsOn page) lawful trace honest older behind i f.0 there f.1)
      (held_was_drawn numbers trace page d honest here was) f.2)

  pub whole_boards_agree : WholeBoardsAgree m
  whole_boards_agree numbers trace i j page honest one_has other_has =
      let one : Opened = member_at m numbers trace i in
      let other : Opened = member_at m numbers trace j in
      let share : ShareAPage one.is.held other.is.held page = record {
        over = λ d here c. other_has d (each_was_drawn m numbers (IsOn page) lawful trace honest trace whole i d here c) here;
        back = λ d here c. one_has d (each_was_drawn m numbers (IsOn page) lawful trace honest trace whole j d here c) here;
      } in
      agreed one other page share (held_once_at m numbers lawful trace i) (held_once_at m numbers lawful trace j)
