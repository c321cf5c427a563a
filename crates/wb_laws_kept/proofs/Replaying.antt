-- A member that is given a record holds all that the record has, if there is room, and no name there means two drawops.
use Rattle.std.proofs.Common.{◌≡◌, ◌⊎◌, ℕ, ◌+◌, ◌<◌, ◌≤◌, Bool, true, false, cond, List, [], ◌∷◌, ◌++◌, ◌∙◌, ap, arith, inl, inr, length, length-append, map, refl, subst, sym, ⊎_elim}
use Rattle.std.specs.Prelude.{◌||◌, Contains, nat_lt}
use Rattle.std.proofs.lemmas.Bool.Decides.{nat_tests}
use Rattle.std.proofs.lemmas.List.Elements.{Contains-append_left, Contains-append_right, Contains-push_cases}
use Rattle.wb_names.specs.Arrivals.{Outcome, New, Again, Clash, Left, history_with, outcome_from, outcome_of}
use Rattle.wb_names.specs.Orders.{same_name}
use Rattle.wb_names.specs.Same.{same_drawop}
use Rattle.wb_names.specs.Values.{DrawopValue}
use Rattle.wb_names.proofs.Listings.{Contains-cases, Contains-here, Contains-none, Contains-there}
use Rattle.wb_codec.specs.declared.datagram.Datagram.{Datagram}
use Rattle.wb_codec.specs.declared.datagram.Datagram.TheVariants.{Draw, Session, Request, AskPages, PageState}
use Rattle.wb_member.specs.Board.{Held as HeldBoard}
use Rattle.wb_member.specs.Calls.{after_call}
use Rattle.wb_member.specs.Lines.{Line, Arrives, Says, after_line, after_lines, Calls}
use Rattle.wb_member.specs.Opened.{Opened, accepted}
use Rattle.wb_member.specs.declared.calls.Call.{Call}
use Rattle.wb_member.specs.declared.calls.Call.TheVariants.{Tick}
use Rattle.wb_member.proofs.KeptBoards.{calls_keep_boards}
use Rattle.wb_keeping.specs.Kept.{Doing, Transition, and_then, came, learned, performs, takes, timed}
use Rattle.wb_keeping.specs.Laws.{Came, after_kept}
use Rattle.wb_keeping.specs.Performing.{Keeping, after_doing, sees}
use Rattle.wb_policy.specs.Policy.{Policy}
use Rattle.wb_keeping.specs.Views.{View, holds, is_asked, is_full}
use Rattle.wb_keeping.proofs.EachLine.{Each, each_both, learned_each}
use Rattle.wb_laws_machines.proofs.Outcomes.{Found, found}
use Rattle.wb_laws_kept.specs.Calls.{drawops_in}
use Rattle.wb_laws_kept.proofs.Honest.{came_given, of_policy, timed_given}
use Rattle.wb_laws_sessions.proofs.Honest.{IsGiven}
use Rattle.wb_laws_sessions.proofs.Sending.{one_draw}

-- ---- lines that bring nothing

abbrev pub none : DrawopValue → Type 0
none d = ⊥

pub record Stays (host next : Opened) : Type 0 where
  pub held : next.is.held ≡ host.is.held
  pub cells : next.is.cells ≡ host.is.cells

still : (host : Opened) → Stays host host
still host = record { held = refl; cells = refl }

pub call_stays : (call : Call) (host : Opened) → Stays host (after_call call host)
call_stays call host = let same = (calls_keep_boards call host).board in
    record { held = ap (λ (b : HeldBoard). b.drawops) same; cells = ap (λ (b : HeldBoard). b.cells) same }

line_stays : (line : Line) (host : Opened) → IsGiven none line → Stays host (after_line line host)
line_stays (Arrives d) host is = absurd is
line_stays (Calls call) host is = call_stays call host
line_stays (Says (Draw d)) host is = absurd is
line_stays line host is = still host

pub lines_stay : (lines : List Line) (host : Opened) → Each (IsGiven none) lines → Stays host (after_lines lines host)
lines_stay [] host each = still host
lines_stay (line ∷ lines) host each =
    let one = line_stays line host each.0 in
    let rest = lines_stay lines (after_line line host) each.1 in
    record { held = rest.held ∙ one.held; cells = rest.cells ∙ one.cells }

-- ---- one datagram

takes_first : (d : DrawopValue) (see : List Line → View) (p : Policy) → (rest : List Line) × ((takes d see p).lines ≡ Arrives d ∷ rest) × Each (IsGiven none) rest
takes_first d see p = by (holds (see []) d.name || is_full (see [])) where
  learns : Transition
  learns = learned d.name (is_asked (see []) d.name)

  by : (b : Bool) → (rest : List Line) × ((cond b (performs (Arrives d) see p) (and_then (performs (Arrives d)) learns see p)).lines ≡ Arrives d ∷ rest) × Each (IsGiven none) rest
  by true = ([], refl, tt)
  by false = ((learns (λ (lines : List Line). see (Arrives d ∷ lines)) p).lines, refl, learned_each (IsGiven none) (of_policy none) d.name (is_asked (see []) d.name) (λ (lines : List Line). see (Arrives d ∷ lines)) p)

came_first : (now : ℕ) (d : DrawopValue) (see : List Line → View) (p : Policy) → (rest : List Line) × ((came now (Draw d) see p).lines ≡ Calls (Tick now) ∷ (Arrives d ∷ rest)) × Each (IsGiven none) rest
came_first now d see p =
    let there : List Line → View = λ lines. see (Calls (Tick now) ∷ lines) in
    let one : Doing = takes d there p in
    let f = takes_first d there p in
    let more : List Line = (timed (λ (lines : List Line). there (one.lines ++ lines)) one.policy).lines in (
      f.0 ++ more,
      ap (λ (lines : List Line). Calls (Tick now) ∷ (lines ++ more)) f.1,
      each_both (IsGiven none) f.0 more f.2 (timed_given none (λ (lines : List Line). there (one.lines ++ lines)) one.policy),
    )

pub record Comes (d : DrawopValue) (host next : Opened) : Type 0 where
  pub held : next.is.held ≡ history_with host.is.held d (outcome_of host.is.cells host.is.held d)
  pub cells : next.is.cells ≡ host.is.cells

drawop_comes : (now : ℕ) (d : DrawopValue) (k : Keeping) → Comes d k.host (after_doing (came now (Draw d)) k).host
drawop_comes now d k =
    let f = came_first now d (sees k.host) k.policy in
    let with_it : Opened = accepted d (after_line (Calls (Tick now)) k.host) in
    let s = lines_stay f.0 with_it f.2 in
    let e : (after_doing (came now (Draw d)) k).host ≡ after_lines f.0 with_it = ap (λ (lines : List Line). after_lines lines k.host) f.1 in
    record { held = ap (λ (h : Opened). h.is.held) e ∙ s.held; cells = ap (λ (h : Opened). h.is.cells) e ∙ s.cells }

other_stays : (now : ℕ) (v : Datagram) (k : Keeping) → ((d : DrawopValue) → v ≡ Draw d → ⊥) → Stays k.host (after_doing (came now v) k).host
other_stays now v k other = lines_stay (came now v (sees k.host) k.policy).lines k.host (came_given none now v other (sees k.host) k.policy)

-- ---- a record

full : (cells i : ℕ) (h : List DrawopValue) (d : DrawopValue) → outcome_from cells i h d ≡ Left → cells ≤ i + length h
full cells i [] d e = from (nat_lt i cells) refl e where
  from : (b : Bool) → nat_lt i cells ≡ b → cond b (New i) Left ≡ Left → cells ≤ i + 0
  from true f g = cc
  from false f g = grind (arith, nat_tests, f)
full cells i (x ∷ h) d e = from (full cells (i + 1) h d) (same_name x.name d.name) (same_drawop x d) e where
  from : (outcome_from cells (i + 1) h d ≡ Left → cells ≤ i + 1 + length h) → (b c : Bool) → cond b (cond c (Again i) (Clash i)) (outcome_from cells (i + 1) h d) ≡ Left → cells ≤ i + length (x ∷ h)
  from rest true true g = cc
  from rest true false g = cc
  from rest false c g = let le = rest g in omega (arith, le)

abbrev pub Among : List Datagram → List DrawopValue → DrawopValue → Type 0
Among given held d = Contains held d ⊎ Contains given (Draw d)

-- no name among these means two drawops
abbrev pub MeanOne : List Datagram → List DrawopValue → Type 0
MeanOne given held = (d e : DrawopValue) → Among given held d → Among given held e → d.name ≡ e.name → d ≡ e

module _ (v : Datagram) (given : List Datagram) (held next : List DrawopValue) (over : (x : DrawopValue) → Contains held x → Contains next x) (comes : (x : DrawopValue) → v ≡ Draw x → Contains next x)
    (back : (x : DrawopValue) → Contains next x → Contains held x ⊎ (v ≡ Draw x)) where
  pub ahead : (x : DrawopValue) → Among (v ∷ given) held x → Among given next x
  ahead x a = ⊎_elim
      (λ (c : Contains held x). inl (over x c))
      (λ (c : Contains (v ∷ given) (Draw x)). ⊎_elim
      (λ (is : v ≡ Draw x). inl (comes x is))
      (λ (more : Contains given (Draw x)). inr more)
      (Contains-cases v (Draw x) given c))
      a

  behind : (x : DrawopValue) → Among given next x → Among (v ∷ given) held x
  behind x a = ⊎_elim
      (λ (c : Contains next x). ⊎_elim
      (λ (was : Contains held x). inl was)
      (λ (is : v ≡ Draw x). inr (subst (Contains (v ∷ given)) is (Contains-here v given)))
      (back x c))
      (λ (c : Contains given (Draw x)). inr (Contains-there v (Draw x) given c))
      a

  pub mean_one : MeanOne (v ∷ given) held → MeanOne given next
  mean_one one d e a b same = one d e (behind d a) (behind e b) same

record Taken (d : DrawopValue) (cells : ℕ) (held next : List DrawopValue) : Type 0 where
  over : (x : DrawopValue) → Contains held x → Contains next x
  comes : (x : DrawopValue) → Draw d ≡ Draw x → Contains next x
  back : (x : DrawopValue) → Contains next x → Contains held x ⊎ (Draw d ≡ Draw x)
  longer : length next ≤ length held + 1

taken : (d : DrawopValue) (cells : ℕ) (held : List DrawopValue) (o : Outcome) → outcome_of cells held d ≡ o → Found held d o → length held < cells → ((x : DrawopValue) → Contains held x → x.name ≡ d.name → x ≡ d) → Taken d cells held (history_with held d o)
taken d cells held (New place) is none lt one = record {
  over = λ x c. Contains-append_left held (d ∷ []) x c;
  comes = λ x e. subst (Contains (held ++ d ∷ [])) (one_draw d x e) (Contains-append_right held (d ∷ []) d (Contains-here d []));
  back = λ x c. ⊎_elim (λ (was : Contains held x). inl was) (λ (e : d ≡ x). inr (ap Draw e)) (Contains-push_cases held d x c);
  longer = let e = length-append held (d ∷ []) in omega (arith, e);
}
taken d cells held (Again place) is has lt one = record {
  over = λ x c. c;
  comes = λ x e. subst (Contains held) (one_draw d x e) has;
  back = λ x c. inl c;
  longer = omega arith;
}
taken d cells held (Clash place) is other lt one = absurd (other.3 (one other.0 other.1 other.2))
taken d cells held Left is none lt one = let le = full cells 0 held d is in absurd (omega (arith, le, lt))

module _ (now : ℕ) where
  abbrev Held : List Datagram → Keeping → Type 0
  Held given k = length k.host.is.held + length (drawops_in given) ≤ k.host.is.cells → MeanOne given k.host.is.held → (d : DrawopValue) → Among given k.host.is.held d → Contains (after_kept (map (Came now) given) k).host.is.held d

  plain : (v : Datagram) (given : List Datagram) (k : Keeping) → ((d : DrawopValue) → v ≡ Draw d → ⊥) → length (drawops_in (v ∷ given)) ≡ length (drawops_in given) → Held given (after_doing (came now v) k) → Held (v ∷ given) k
  plain v given k other same rest few one d a =
      let next = after_doing (came now v) k in
      let s = other_stays now v k other in
      let over : (x : DrawopValue) → Contains k.host.is.held x → Contains next.host.is.held x = λ x c. subst (λ (h : List DrawopValue). Contains h x) (sym s.held) c in
      let comes : (x : DrawopValue) → v ≡ Draw x → Contains next.host.is.held x = λ x is. absurd (other x is) in
      let back : (x : DrawopValue) → Contains next.host.is.held x → Contains k.host.is.held x ⊎ (v ≡ Draw x) = λ x c. inl (subst (λ (h : List DrawopValue). Contains h x) s.held c) in
      let held : length next.host.is.held ≡ length k.host.is.held = ap (λ (h : List DrawopValue). length h) s.held in
      let cells : next.host.is.cells ≡ k.host.is.cells = s.cells in
      rest (omega (arith, few, same, held, cells)) (mean_one v given k.host.is.held next.host.is.held over comes back one) d (ahead v given k.host.is.held next.host.is.held over comes back d a)

  drawop : (d : DrawopValue) (given : List Datagram) (k : Keeping) → Held given (after_doing (came now (Draw d)) k) → Held (Draw d ∷ given) k
  drawop d given k rest few one x a =
      let next = after_doing (came now (Draw d)) k in
      let held = k.host.is.held in
      let c = drawop_comes now d k in
      let count : length (drawops_in (Draw d ∷ given)) ≡ length (drawops_in given) + 1 = omega arith in
      let lt : length held < k.host.is.cells = omega (arith, few, count) in
      let t : Taken d k.host.is.cells held (history_with held d (outcome_of k.host.is.cells held d)) = taken d k.host.is.cells held (outcome_of k.host.is.cells held d) refl (found k.host.is.cells 0 held d) lt
      (λ y is same. one y d (inl is) (inr (Contains-here (Draw d) given)) same) in
      let over : (y : DrawopValue) → Contains held y → Contains next.host.is.held y = λ y is. subst (λ (h : List DrawopValue). Contains h y) (sym c.held) (t.over y is) in
      let comes : (y : DrawopValue) → Draw d ≡ Draw y → Contains next.host.is.held y = λ y is. subst (λ (h : List DrawopValue). Contains h y) (sym c.held) (t.comes y is) in
      let back : (y : DrawopValue) → Contains next.host.is.held y → Contains held y ⊎ (Draw d ≡ Draw y) = λ y is. t.back y (subst (λ (h : List DrawopValue). Contains h y) c.held is) in
      let longer : length next.host.is.held ≤ length held + 1 = subst (λ (h : List DrawopValue). length h ≤ length held + 1) (sym c.held) t.longer in
      let cells : next.host.is.cells ≡ k.host.is.cells = c.cells in
      rest (omega (arith, few, count, longer, cells)) (mean_one (Draw d) given held next.host.is.held over comes back one) x (ahead (Draw d) given held next.host.is.held over comes back x a)

  pub replayed : (given : List Datagram) (k : Keeping) → Held given k
  replayed [] k = λ few one d a. ⊎_elim (λ (c : Contains k.host.is.held d). c) (λ (c : Contains [] (Draw d)). absurd (Contains-none (Draw d) c)) a
  replayed (Draw d ∷ given) k = drawop d given k (replayed given (after_doing (came now (Draw d)) k))
  replayed (Session sender sent page marks echoes ∷ given) k = plain _ given k (λ d e. cc) refl (replayed given (after_doing (came now (Session sender sent page marks echoes)) k))
  replayed (Request asker name ∷ given) k = plain _ given k (λ d e. cc) refl (replayed given (after_doing (came now (Request asker name)) k))
  replayed (AskPages asker ∷ given) k = plain _ given k (λ d e. cc) refl (replayed given (after_doing (came now (AskPages asker)) k))
  replayed (PageState sender page marks ∷ given) k = plain _ given k (λ d e. cc) refl (replayed given (after_doing (came now (PageState sender page marks)) k))
