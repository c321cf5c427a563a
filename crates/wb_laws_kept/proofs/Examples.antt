-- The example computes.
use Rattle.std.proofs.Common.{◌≡◌, ◌⊎◌, ℕ, ◌<◌, ◌≤◌, List, [], ◌∷◌, arith, inl, inr, refl, subst, sym, ⊎_elim}
use Rattle.std.specs.Prelude.{Contains}
use Rattle.wb_names.specs.Values.{DrawopValue}
use Rattle.wb_names.specs.declared.name.PageId.{PageId}
use Rattle.wb_names.specs.declared.parts.Op.{Op}
use Rattle.wb_names.proofs.Listings.{Contains-cases, Contains-here, Contains-none}
use Rattle.wb_codec.specs.declared.datagram.Datagram.{Datagram}
use Rattle.wb_codec.specs.declared.datagram.Datagram.TheVariants.{Draw, Session}
use Rattle.wb_gaps.specs.Answers.{gaps_of, pages_of, report_of}
use Rattle.wb_member.specs.Opened.{last_number}
use Rattle.wb_member.specs.Random.{after_word, started, word_of}
use Rattle.wb_policy.specs.Choices.{near_names}
use Rattle.wb_policy.specs.Words as words
use Rattle.wb_keeping.specs.Laws.{Added, Came, Ticked, Tuned}
use Rattle.wb_laws_kept.specs.Openings.{IsOpening, Opening}
use Rattle.wb_laws_sessions.specs.Drawn.{WasHeld, drawn_at}
use Rattle.wb_laws_kept.specs.Examples.{Forgets, Listens, Restarts, after_first, again, at, cut_off, deletes, first, forgotten, listening, numbers, once, opening, page, restarted, second, third, told, twice}
use Rattle.wb_laws_kept.specs.Restarts.{IsWholeRecord, KnowTheirOwn, KnowsItsOwn, RecordsAreWhole}
use Rattle.wb_laws_kept.specs.Sessions.{AreTaken, At, DrawopsWereHeld, WereHeld, kept_at, steps_of}
use Rattle.wb_laws_sessions.proofs.Sending.{one_of}
use Rattle.wb_laws_kept.specs.Calls.{Begins, Call, Handed}
use Rattle.wb_laws_machines.specs.Machines.{whole}

is_opening : (seed moment : ℕ) → IsOpening (opening seed moment)
is_opening seed moment = record { moments = (omega arith, tt); in_range = refl; small = omega arith }

all_taken : AreTaken numbers restarted
unfolding started word_of after_word words.started report_of gaps_of pages_of near_names
all_taken = (refl, ((is_opening 2 7, (refl, tt)), (refl, ((is_opening 1 1, tt), tt))))

drawn_first : drawn_at numbers (steps_of numbers once) 0 ≡ first ∷ []
unfolding started word_of after_word words.started report_of gaps_of pages_of near_names
drawn_first = refl

held_first : (kept_at numbers once 0).host.is.held ≡ first ∷ []
unfolding started word_of after_word words.started report_of gaps_of pages_of near_names
held_first = refl

all_drawn : drawn_at numbers (steps_of numbers restarted) 0 ≡ second ∷ first ∷ []
unfolding started word_of after_word words.started report_of gaps_of pages_of near_names
all_drawn = refl

one_given : (d x : DrawopValue) → Contains (Draw d ∷ []) (Draw x) → d ≡ x
one_given d x c = ⊎_elim (λ (e : Draw d ≡ Draw x). same e) (λ (n : Contains [] (Draw x)). absurd (Contains-none (Draw x) n)) (Contains-cases (Draw d) (Draw x) [] c) where
  same : Draw d ≡ Draw x → d ≡ x
  same e = cc

module _ (numbers : ℕ → ℕ) (older : List (At Call)) (place : ℕ) where
  -- what a start was given was held
  abbrev WasGiven : Call → Type 0
  WasGiven (Begins o given) = (d : DrawopValue) → Contains given (Draw d) → WasHeld numbers (steps_of numbers older) d
  WasGiven (Handed line) = Unit {0}

  not_handed : (o : Opening) (given : List Datagram) (now : ℕ) (v : Datagram) → Begins o given ≡ Handed (Came now v) → ⊥
  not_handed o given now v e = cc

  begun_held : (time : ℕ) (o : Opening) (given : List Datagram) → WasGiven (Begins o given) → WereHeld numbers older (record { time = time; place = place; event = Begins o given })
  begun_held time o given was = record { handed = λ now d e. absurd (not_handed o given now (Draw d) e); given = λ o' given' d e c. subst WasGiven e was d c }

  not_came : (now : ℕ) (page : PageId) (told : ℕ) (op : Op) (then : ℕ) (v : Datagram) → Handed (Added now page told op) ≡ Handed (Came then v) → ⊥
  not_came now page told op then v e = cc

  not_begun : (now : ℕ) (page : PageId) (told : ℕ) (op : Op) (o : Opening) (given : List Datagram) → Handed (Added now page told op) ≡ Begins o given → ⊥
  not_begun now page told op o given e = cc

  added_held : (time now : ℕ) (page : PageId) (told : ℕ) (op : Op) → WereHeld numbers older (record { time = time; place = place; event = Handed (Added now page told op) })
  added_held time now page told op = record { handed = λ then d e. absurd (not_came now page told op then (Draw d) e); given = λ o given d e. absurd (not_begun now page told op o given e) }

  abbrev HasWhole : Call → Type 0
  HasWhole (Begins o given) = IsWholeRecord numbers older place o given
  HasWhole (Handed line) = Unit {0}

  begun_whole : (o : Opening) (given : List Datagram) → HasWhole (Begins o given) → (o' : Opening) (given' : List Datagram) → Begins o given ≡ Begins o' given' → IsWholeRecord numbers older place o' given'
  begun_whole o given has o' given' e = subst HasWhole e has

none_given : (d : DrawopValue) → Contains [] (Draw d) → WasHeld numbers [] d
none_given d c = absurd (Contains-none (Draw d) c)

first_held : (d : DrawopValue) → Contains (Draw first ∷ []) (Draw d) → WasHeld numbers (steps_of numbers once) d
unfolding started word_of after_word words.started report_of gaps_of pages_of near_names
first_held d c = subst (WasHeld numbers (steps_of numbers once)) (one_given first d c) (record { older = _; behind = whole; place = 0; held = (0, first_of_one, refl) }) where
  first_of_one : 0 < 1
  first_of_one = omega arith

once_held : DrawopsWereHeld numbers once
once_held = (added_held numbers _ 0 2 2 page 5 deletes, (begun_held numbers [] 0 1 (opening 1 1) [] none_given, tt))

restarted_held : DrawopsWereHeld numbers restarted
restarted_held = (added_held numbers _ 0 4 8 page 5 deletes, (begun_held numbers once 0 3 (opening 2 7) (Draw first ∷ []) first_held, once_held))

nothing_whole : IsWholeRecord numbers [] 0 (opening 1 1) []
nothing_whole = record { own = λ d c. absurd (Contains-none d c); few = omega arith }

first_whole : IsWholeRecord numbers once 0 (opening 2 7) (Draw first ∷ [])
first_whole = record {
  own = λ d c. subst (λ (x : DrawopValue). Contains (Draw first ∷ []) (Draw x)) (one_of first d (subst (λ (ds : List DrawopValue). Contains ds d) drawn_first c)) (Contains-here (Draw first) []);
  few = omega arith;
}

restarted_whole : RecordsAreWhole numbers restarted
restarted_whole = (
  λ o given e. absurd (not_begun numbers [] 0 8 page 5 deletes o given e),
  (
    begun_whole numbers once 0 (opening 2 7) (Draw first ∷ []) first_whole,
    (λ o given e. absurd (not_begun numbers [] 0 2 page 5 deletes o given e), (begun_whole numbers [] 0 (opening 1 1) [] nothing_whole, tt)),
  ),
)

pub it_restarts : Restarts
it_restarts = record { taken = all_taken; held = restarted_held; whole = restarted_whole; drawn = all_drawn }

-- ---- without a record

forgotten_taken : AreTaken numbers forgotten
unfolding started word_of after_word words.started report_of gaps_of pages_of near_names
forgotten_taken = (refl, ((is_opening 2 7, tt), (refl, ((is_opening 1 1, tt), tt))))

forgotten_drawn : drawn_at numbers (steps_of numbers forgotten) 0 ≡ again ∷ first ∷ []
unfolding started word_of after_word words.started report_of gaps_of pages_of near_names
forgotten_drawn = refl

drawn_before : drawn_at numbers (steps_of numbers (at 3 (Begins (opening 2 7) []) ∷ once)) 0 ≡ first ∷ []
unfolding started word_of after_word words.started report_of gaps_of pages_of near_names
drawn_before = refl

knows_none : last_number page (kept_at numbers (at 3 (Begins (opening 2 7) []) ∷ once) 0).host ≡ 0
knows_none = refl

forgotten_held : DrawopsWereHeld numbers forgotten
forgotten_held = (added_held numbers _ 0 4 8 page 6 deletes, (begun_held numbers once 0 3 (opening 2 7) [] (λ d c. absurd (Contains-none (Draw d) c)), once_held))

pub it_forgets : Forgets
it_forgets = record {
  taken = forgotten_taken;
  held = forgotten_held;
  drawn = forgotten_drawn;
  unknown = λ know.
      let le : 1 ≤ last_number page (kept_at numbers (at 3 (Begins (opening 2 7) []) ∷ once) 0).host = know.0 8 page 6 deletes refl first (subst (λ (ds : List DrawopValue). Contains ds first) (sym drawn_before) (Contains-here first [])) refl in
      let none = knows_none in
      absurd (omega (arith, le, none));
}

-- ---- while it listens

is_listening : (seed moment : ℕ) → IsOpening (listening seed moment)
is_listening seed moment = record { moments = (omega arith, tt); in_range = refl; small = omega arith }

told_taken : AreTaken numbers told
unfolding started word_of after_word words.started report_of gaps_of pages_of near_names
told_taken = (refl, (refl, ((is_listening 2 7, (refl, tt)), (refl, (refl, ((is_opening 1 1, tt), tt))))))

told_drawn : drawn_at numbers (steps_of numbers told) 0 ≡ third ∷ after_first ∷ first ∷ []
unfolding started word_of after_word words.started report_of gaps_of pages_of near_names
told_drawn = refl

cut_drawn : drawn_at numbers (steps_of numbers cut_off) 0 ≡ after_first ∷ first ∷ []
unfolding started word_of after_word words.started report_of gaps_of pages_of near_names
cut_drawn = refl

cut_last : last_number page (kept_at numbers cut_off 0).host ≡ 2
unfolding started word_of after_word words.started report_of gaps_of pages_of near_names
cut_last = refl

once_last : last_number page (kept_at numbers once 0).host ≡ 1
unfolding started word_of after_word words.started report_of gaps_of pages_of near_names
once_last = refl

module _ (older : List (At Call)) where
  abbrev Knows : Call → Type 0
  Knows (Handed (Added now drawn_on time op)) = KnowsItsOwn numbers older 0 drawn_on
  Knows (Handed (Came now v)) = Unit {0}
  Knows (Handed (Ticked now)) = Unit {0}
  Knows (Handed (Tuned constants)) = Unit {0}
  Knows (Begins o given) = Unit {0}

  known_by : (call : Call) → Knows call → (now : ℕ) (page : PageId) (time : ℕ) (op : Op) → call ≡ Handed (Added now page time op) → KnowsItsOwn numbers older 0 page
  known_by call knows now drawn_on time op e = subst Knows e knows

two_drawn : (a b x : DrawopValue) → Contains (a ∷ b ∷ []) x → (a ≡ x) ⊎ (b ≡ x)
two_drawn a b x c = ⊎_elim (λ (e : a ≡ x). inl e) (λ (r : Contains (b ∷ []) x). inr (one_of b x r)) (Contains-cases a x (b ∷ []) c)

below_2 : (n : ℕ) → n ≡ 2 → (1 ≤ n) × (2 ≤ n)
below_2 n e = (omega (arith, e), omega (arith, e))

below_1 : (n : ℕ) → n ≡ 1 → 1 ≤ n
below_1 n e = omega (arith, e)

cut_knows : KnowsItsOwn numbers cut_off 0 page
cut_knows d c here =
    let b = below_2 (last_number page (kept_at numbers cut_off 0).host) cut_last in
    ⊎_elim
    (λ (e : after_first ≡ d). subst (λ (x : DrawopValue). x.name.seq ≤ last_number page (kept_at numbers cut_off 0).host) e b.1)
    (λ (e : first ≡ d). subst (λ (x : DrawopValue). x.name.seq ≤ last_number page (kept_at numbers cut_off 0).host) e b.0)
    (two_drawn after_first first d (subst (λ (ds : List DrawopValue). Contains ds d) cut_drawn c))

once_knows : KnowsItsOwn numbers once 0 page
once_knows d c here = subst (λ (x : DrawopValue). x.name.seq ≤ last_number page (kept_at numbers once 0).host) (one_of first d (subst (λ (ds : List DrawopValue). Contains ds d) drawn_first c)) (below_1 (last_number page (kept_at numbers once 0).host) once_last)

told_know : KnowTheirOwn numbers told
told_know = (
  known_by cut_off (Handed (Added 6000008 page 5 deletes)) cut_knows,
  (
    known_by (at 4 (Begins (listening 2 7) (Draw first ∷ [])) ∷ twice) (Handed (Came 9 (Session 11 5 page (record { source = 10; high = 2 } ∷ []) []))) tt,
    (
      known_by twice (Begins (listening 2 7) (Draw first ∷ [])) tt,
      (known_by once (Handed (Added 3 page 5 deletes)) once_knows, (known_by (at 1 (Begins (opening 1 1) []) ∷ []) (Handed (Added 2 page 5 deletes)) (λ d c here. absurd (Contains-none d c)), (known_by [] (Begins (opening 1 1) []) tt, tt))),
    ),
  ),
)

came_held : WereHeld numbers (at 4 (Begins (listening 2 7) (Draw first ∷ [])) ∷ twice) (at 5 (Handed (Came 9 (Session 11 5 page (record { source = 10; high = 2 } ∷ []) []))))
came_held = record { handed = λ now d e. absurd (no_draw now d e); given = λ o given d e. absurd (no_start o given e) } where
  no_draw : (now : ℕ) (d : DrawopValue) → Handed (Came 9 (Session 11 5 page (record { source = 10; high = 2 } ∷ []) [])) ≡ Handed (Came now (Draw d)) → ⊥
  no_draw now d e = cc

  no_start : (o : Opening) (given : List Datagram) → Handed (Came 9 (Session 11 5 page (record { source = 10; high = 2 } ∷ []) [])) ≡ Begins o given → ⊥
  no_start o given e = cc

first_held_twice : (d : DrawopValue) → Contains (Draw first ∷ []) (Draw d) → WasHeld numbers (steps_of numbers twice) d
unfolding started word_of after_word words.started report_of gaps_of pages_of near_names
first_held_twice d c = subst (WasHeld numbers (steps_of numbers twice)) (one_given first d c) (record { older = _; behind = whole; place = 0; held = (0, first_of_two, refl) }) where
  first_of_two : 0 < 2
  first_of_two = omega arith

told_held : DrawopsWereHeld numbers told
told_held = (
  added_held numbers _ 0 6 6000008 page 5 deletes,
  (came_held, (begun_held numbers twice 0 4 (listening 2 7) (Draw first ∷ []) first_held_twice, (added_held numbers _ 0 3 3 page 5 deletes, once_held))),
)

pub it_listens : Listens
it_listens = record { taken = told_taken; held = told_held; know = told_know; drawn = told_drawn }
