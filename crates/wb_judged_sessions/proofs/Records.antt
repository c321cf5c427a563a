-- What a member holds is what its file has. So whoever starts with its file knows its own numbers.
use Rattle.std.proofs.Common.{◌≡◌, ◌≤◌, ℕ, Bool, true, false, cond, List, [], ◌∷◌, ◌++◌, ◌∙◌, ap, arith, eqb-true, map, refl, subst, sym, ⊎_elim}
use Rattle.std.specs.Prelude.{Contains, nat_eq}
use Rattle.std.proofs.lemmas.List.Elements.{Contains-append_cases, Contains-append_left, Contains-append_right}
use Rattle.wb_names.specs.Arrivals.{history_after}
use Rattle.wb_names.specs.History.{highest}
use Rattle.wb_names.specs.Values.{DrawopValue}
use Rattle.wb_names.specs.declared.name.PageId.{PageId}
use Rattle.wb_names.proofs.Listings.{Contains-none}
use Rattle.wb_member.specs.Lines.{ticks_at}
use Rattle.wb_member.specs.Opened.{Opened, opened_with}
use Rattle.wb_keeping.specs.Performing.{Keeping}
use Rattle.wb_judging.specs.Handing.{handed}
use Rattle.wb_judging.specs.Judged.{Judged}
use Rattle.wb_judging.specs.declared.call.Call.{Call}
use Rattle.wb_judging.specs.declared.call.Call.TheVariants.{CameFrom, Held, Passed, UserDrew}
use Rattle.wb_judging.specs.Laws.{after_all, drawops_of, record_of}
use Rattle.wb_judging.specs.Performing.{after_judged}
use Rattle.wb_judging.specs.declared.record.RecordLine.{RecordLine}
use Rattle.wb_judging.proofs.Again.{cells_all, cells_line, cells_of, drawops_both, handed_record, held_by, held_line, the_record_is_the_board}
use Rattle.wb_judging.proofs.Boards.{gained_kept, gains_kept}
use Rattle.wb_judging.proofs.Histories.{after_both}
use Rattle.wb_laws_kept.proofs.Honest.{kept_are_honest, moments_given, number_of_kept}
use Rattle.wb_laws_kept.proofs.Replaying.{lines_stay, none}
use Rattle.wb_laws_kept.specs.Sessions.{steps_of}
use Rattle.wb_laws_sessions.proofs.Drawn.{numbers_count}
use Rattle.wb_laws_machines.proofs.Names.{at_most_highest}
use Rattle.wb_laws_sessions.specs.Drawn.{AreHonest}
use Rattle.wb_judged_sessions.specs.Laws.{BoardsAreFiles, FilesAreWhole, RecordsTell}
use Rattle.wb_judged_sessions.specs.Calls.{after_call, drawn_by, drawn_by_line, JudgedCall, Start, started, Starts, Takes, Tunes}
use Rattle.wb_judged_sessions.specs.Sessions.{At, drawn_at, Holds, judged_at, kept_calls}
use Rattle.wb_judged_sessions.specs.Terms.{AreTaken, DrawopsWereHeld, IsItsFile, IsWholeRecord, KnowTheirOwn, KnowsItsOwn, RecordsAreWhole, file_after, file_at}
use Rattle.wb_judged_sessions.proofs.Drawn.{draws_as_kept}
use Rattle.wb_judged_sessions.proofs.Kept.{judged_is_kept}
use Rattle.wb_judged_sessions.proofs.Terms.{held_kept, know_kept, taken_kept}

-- ---- what is held after a start

module _ (number : ℕ) (start : Start) (given : List RecordLine) where
  abbrev first : Judged
  first = started number start

  abbrev last : Judged
  last = after_all (map Held given) first

  pub start_cells : cells_of last ≡ start.opening.cells
  start_cells =
      let o = start.opening in
      cells_all (map Held given) first ∙ (lines_stay (ticks_at o.moments) (opened_with o.constants number o.cells o.seed) (moments_given none o.moments)).cells

  pub start_held : held_by last ≡ history_after start.opening.cells [] (drawops_of given)
  start_held =
      let o = start.opening in
      let s = lines_stay (ticks_at o.moments) (opened_with o.constants number o.cells o.seed) (moments_given none o.moments) in
      the_record_is_the_board (map Held given) first
      ∙ ap (λ (ls : List RecordLine). history_after (cells_of first) (held_by first) (drawops_of ls)) (handed_record given first)
      ∙ ap (λ (cells : ℕ). history_after cells (held_by first) (drawops_of given)) s.cells
      ∙ ap (λ (held : List DrawopValue). history_after o.cells held (drawops_of given)) s.held

-- ---- a board is what its file has

abbrev pub IsFile : Judged → List RecordLine → Type 0
IsFile h file = held_by h ≡ history_after (cells_of h) [] (drawops_of file)

pub call_files : (call : JudgedCall) (h : Judged) (file : List RecordLine) → IsFile h file → IsFile (after_call call h) (file_after call h file)
call_files (Starts start given) h file is =
    let number = h.kept.host.is.number in
    start_held number start given ∙ ap (λ (cells : ℕ). history_after cells [] (drawops_of given)) (sym (start_cells number start given))
call_files (Takes line) h file is =
    held_line line h
    ∙ ap (λ (held : List DrawopValue). history_after (cells_of h) held (drawops_of (record_of line h))) is
    ∙ sym (after_both (cells_of h) [] (drawops_of file) (drawops_of (record_of line h)))
    ∙ ap (λ (ds : List DrawopValue). history_after (cells_of h) [] ds) (sym (drawops_both file (record_of line h)))
    ∙ ap (λ (cells : ℕ). history_after cells [] (drawops_of (file ++ record_of line h))) (sym (cells_line line h))
call_files (Tunes constants) h file is = is

file_if : (b : Bool) (one other : Judged) (file before : List RecordLine) → IsFile one file → IsFile other before → IsFile (cond b one other) (cond b file before)
file_if true one other file before a c = a
file_if false one other file before a c = c

pub boards_are_files : BoardsAreFiles
boards_are_files numbers [] i = refl
boards_are_files numbers (e ∷ older) i =
    let h = judged_at numbers older i in
    let file = file_at numbers older i in
    let rest = boards_are_files numbers older i in
    file_if (nat_eq e.place i) (after_call e.event h) h (file_after e.event h file) file (call_files e.event h file rest) rest

-- ---- members hold what they drew

line_keeps : (line : Call) (h : Judged) (d : DrawopValue) → Contains (held_by h) d → Contains (held_by (after_judged line h)) d
line_keeps line h d c =
    let g = gains_kept (handed line h) h.kept in
    subst (λ (held : List DrawopValue). Contains held d) (sym g.is) (Contains-append_left (held_by h) g.more d c)

line_gains : (line : Call) (h : Judged) (d : DrawopValue) → Contains (drawn_by_line line h) d → Contains (held_by (after_judged line h)) d
line_gains (CameFrom now o v) h d c = absurd (Contains-none d c)
line_gains (Passed now news) h d c = absurd (Contains-none d c)
line_gains (Held line) h d c = absurd (Contains-none d c)
line_gains (UserDrew now page op) h d c =
    let line = handed (UserDrew now page op) h in
    let g = gains_kept line h.kept in
    subst (λ (held : List DrawopValue). Contains held d) (sym g.is) (Contains-append_right (held_by h) g.more d (subst (λ (ds : List DrawopValue). Contains ds d) (gained_kept line h.kept) c))

module _ (numbers : ℕ → ℕ) where
  call_holds : (call : JudgedCall) (older : List (At JudgedCall)) (i : ℕ) → ((start : Start) (given : List RecordLine) → call ≡ Starts start given → IsWholeRecord numbers older i start given)
      → ((d : DrawopValue) → Contains (drawn_at numbers older i) d → Holds numbers older i d)
      → (d : DrawopValue) → Contains (drawn_by call (judged_at numbers older i) ++ drawn_at numbers older i) d → Contains (held_by (after_call call (judged_at numbers older i))) d
  call_holds (Starts start given) older i whole own d c =
      subst (λ (held : List DrawopValue). Contains held d) (sym (start_held (judged_at numbers older i).kept.host.is.number start given)) (whole start given refl d c)
  call_holds (Takes line) older i whole own d c =
      let h = judged_at numbers older i in
      ⊎_elim
      (λ (now : Contains (drawn_by_line line h) d). line_gains line h d now)
      (λ (before : Contains (drawn_at numbers older i) d). line_keeps line h d (own d before))
      (Contains-append_cases (drawn_by_line line h) (drawn_at numbers older i) d c)
  call_holds (Tunes constants) older i whole own d c = own d c

  whole_for : (e : At JudgedCall) (older : List (At JudgedCall)) (i : ℕ) → RecordsAreWhole numbers (e ∷ older) → e.place ≡ i
      → (start : Start) (given : List RecordLine) → e.event ≡ Starts start given → IsWholeRecord numbers older i start given
  whole_for e older i whole is start given called = subst (λ (p : ℕ). IsWholeRecord numbers older p start given) is (whole.0 start given called)

  pub own_held : (calls : List (At JudgedCall)) → RecordsAreWhole numbers calls → (i : ℕ) (d : DrawopValue) → Contains (drawn_at numbers calls i) d → Holds numbers calls i d
  own_held [] whole i d c = absurd (Contains-none d c)
  own_held (e ∷ older) whole i d c = by (nat_eq e.place i) refl (own_held older whole.1 i) c where
    h : Judged
    h = judged_at numbers older i

    before : List DrawopValue
    before = drawn_at numbers older i

    by : (b : Bool) → nat_eq e.place i ≡ b → ((d : DrawopValue) → Contains before d → Contains (held_by h) d)
        → Contains (cond b (drawn_by e.event h ++ before) before) d → Contains (held_by (cond b (after_call e.event h) h)) d
    by true is own c = call_holds e.event older i (whole_for e older i whole (eqb-true e.place i is)) own d c
    by false is own c = own d c

  -- ---- and know their own numbers

  pub number_at : (calls : List (At JudgedCall)) (i : ℕ) → (judged_at numbers calls i).kept.host.is.number ≡ numbers i
  number_at calls i = ap (λ (k : Keeping). k.host.is.number) (judged_is_kept numbers calls i) ∙ number_of_kept numbers (kept_calls numbers calls) i

  knows : (older : List (At JudgedCall)) → AreHonest numbers (steps_of numbers (kept_calls numbers older)) → RecordsAreWhole numbers older → (i : ℕ) (page : PageId) → KnowsItsOwn numbers older i page
  knows older honest whole i page d c on =
      let host : Opened = (judged_at numbers older i).kept.host in
      let top : d.name.seq ≤ highest d.name.page d.name.source host.is.held = at_most_highest host.is.held d (own_held older whole i d c) in
      let drawn = subst (λ (ds : List DrawopValue). Contains ds d) (draws_as_kept numbers older i) c in
      let source : d.name.source ≡ host.is.number = (numbers_count numbers (steps_of numbers (kept_calls numbers older)) honest i d drawn).0 ∙ sym (number_at older i) in
      let le : d.name.seq ≤ highest page host.is.number host.is.held =
      subst (λ (s : ℕ). d.name.seq ≤ highest page s host.is.held) source (subst (λ (p : PageId). d.name.seq ≤ highest p d.name.source host.is.held) on top) in
      omega (arith, le)

  pub know_all : (calls : List (At JudgedCall)) → AreTaken numbers calls → DrawopsWereHeld numbers calls → RecordsAreWhole numbers calls → KnowTheirOwn numbers calls
  know_all [] taken were whole = tt
  know_all (e ∷ older) taken were whole =
      let rest = know_all older taken.1 were.1 whole.1 in
      let honest : AreHonest numbers (steps_of numbers (kept_calls numbers older)) =
      kept_are_honest numbers (kept_calls numbers older) (taken_kept numbers older taken.1) (held_kept numbers older were.1) (know_kept numbers older rest) in
      (λ now page op is. knows older honest whole.1 e.place page, rest)

pub records_tell : RecordsTell
records_tell numbers calls apart taken were whole = know_all numbers calls taken were whole

-- ---- files are whole

module _ (numbers : ℕ → ℕ) (older : List (At JudgedCall)) (i : ℕ) (start : Start) (given : List RecordLine)
    (own : (d : DrawopValue) → Contains (drawn_at numbers older i) d → Holds numbers older i d) where
  abbrev file : List RecordLine
  file = file_at numbers older i

  its_file : IsItsFile numbers older i start given → IsWholeRecord numbers older i start given
  its_file is d c = ⊎_elim
      (λ (empty : file ≡ []). absurd (Contains-none d (subst (λ (f : List RecordLine). Contains (history_after (cells_of (judged_at numbers older i)) [] (drawops_of f)) d) empty there)))
      (λ (same : (drawops_of given ≡ drawops_of file) × (start.opening.cells ≡ cells_of (judged_at numbers older i))).
      subst (λ (cells : ℕ). Contains (history_after cells [] (drawops_of given)) d) (sym same.1)
      (subst (λ (ds : List DrawopValue). Contains (history_after (cells_of (judged_at numbers older i)) [] ds) d) (sym same.0) there))
      is where
        there : Contains (history_after (cells_of (judged_at numbers older i)) [] (drawops_of file)) d
        there = subst (λ (held : List DrawopValue). Contains held d) (boards_are_files numbers older i) (own d c)

pub files_are_whole : FilesAreWhole
files_are_whole numbers [] keep = tt
files_are_whole numbers (e ∷ older) keep =
    let rest = files_are_whole numbers older keep.1 in
    (λ start given is. its_file numbers older e.place start given (own_held numbers older rest e.place) (keep.0 start given is), rest)
