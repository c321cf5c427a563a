-- Each hole has its turn, and each number of it.
use Rattle.std.proofs.Common.{◌≡◌, ℕ, zero, suc, ◌+◌, ◌-◌, ◌*◌, ◌≤◌, ◌<◌, Bool, true, false, cond, List, [], ◌∷◌, ◌∙◌, Option, Some, None, ap, arith, get_or, inl, inr, length, refl, subst, sym, ⊎_elim}
use Rattle.std.specs.Prelude.{◌⊎◌, ◌||◌, ◌/◌, ◌%◌, Contains, min, nat_le}
use Rattle.std.specs.List.{find}
use Rattle.std.proofs.Math.Nat.{add-mod_right, add_comm, mod-eq_of_lt, mul-le-mul_right}
use Rattle.std.proofs.lemmas.Bool.{leb-false, leb-true, lt-leb}
use Rattle.std.proofs.lemmas.List.Elements.{Contains-get_or}
use Rattle.wb_gaps.specs.Starts.{start}
use Rattle.std.specs.Option.{option_map, option_or}
use Rattle.wb_names.specs.History.{name_of}
use Rattle.wb_names.specs.Values.{DrawopValue}
use Rattle.wb_names.specs.declared.gap.Gap.{Gap}
use Rattle.wb_gaps.specs.Holes.{begins_after, hole_after, holes_of}
use Rattle.wb_gaps.specs.declared.holes.Hole.{Hole}
use Rattle.wb_policy.specs.Fairness.{EachHoleHasItsTurn, EachNumberHasItsTurn, EachNumberHasItsTurnSoon, HaveAtMost, after_turn, after_turns, hole_in_turn, in_round, led_to, name_in_turn, numbers_in}
use Rattle.wb_policy.specs.Turns.{after_hole, is_through, name_in, next_round, nowhere, window_in, windows_in}
use Rattle.wb_policy.specs.declared.turns.Turns.{Turns}
use Rattle.wb_policy.proofs.Cycle.{found_at, found_next, found_none}
use Rattle.wb_policy.proofs.HolesRise.{Rise, found_first, holes_ascend, holes_rise, is_behind}

-- the turns stand after a hole, in a round
abbrev behind : ℕ → Hole → Turns
behind round h = record { page = h.page; source = h.gap.source; number = h.gap.last; round = round; step = 0 }

-- A hole that is not through has another turn. One from which no number of a window is left, or 64 had their turn, is through.
not_through : (t : Turns) (g : Gap) → is_through t g ≡ false → (t.step + 1 < 64) × (window_in t.round g + t.step < g.last)
not_through t g e = by (nat_le 64 (t.step + 1)) refl (nat_le g.last (window_in t.round g + t.step)) refl e where
  by : (a : Bool) → nat_le 64 (t.step + 1) ≡ a → (b : Bool) → nat_le g.last (window_in t.round g + t.step) ≡ b → (a || b) ≡ false → (t.step + 1 < 64) × (window_in t.round g + t.step < g.last)
  by false a false b e = (leb-false _ _ a, leb-false _ _ b)
  by false a true b e = absurd (cc)
  by true a b f e = absurd (cc)

-- how many turns a hole has in a round at most: 64, and as many as it has numbers; `lead` had been before
module _ (held : List DrawopValue) (d : Hole) (most lead : ℕ) (some_most : 1 ≤ most) (fits : (h : Hole) → Contains (holes_of held) h
    → (64 ≤ most) ⊎ (numbers_in h ≤ most)) (leads_less : lead + 1 ≤ most) where
  abbrev holes : List Hole
  holes = holes_of held

  abbrev at : ℕ → Hole
  at i = get_or holes i d

  -- turns of which the next is of a hole, in a round
  record IsOf (t : Turns) (i : ℕ) : Type 0 where
    entered : Turns
    next : hole_after held entered.page entered.source entered.number ≡ Some (at i)
    hole : hole_in_turn held t ≡ Some (at i)
    named : name_in_turn held t ≡ Some (name_in entered (at i))
    leads : after_turn held t ≡ after_hole entered (at i)

  abbrev here : (t : Turns) (i : ℕ) → hole_after held t.page t.source t.number ≡ Some (at i) → IsOf t i
  here t i e = record {
    entered = t;
    next = e;
    hole = ap (λ (o : Option Hole). option_or o (hole_after held nowhere 0 0)) e;
    named = ap (λ (o : Option Hole). option_map (name_in (in_round o t)) (option_or o (hole_after held nowhere 0 0))) e;
    leads = ap (λ (o : Option Hole). led_to o (hole_after held nowhere 0 0) t) e;
  }

  -- turns that stand so; a hole begins after them, or none does
  abbrev here_at : (t e : Turns) (i : ℕ) → t ≡ e → hole_after held e.page e.source e.number ≡ Some (at i) → IsOf t i
  here_at t e i is next =
      let it = here e i next in
      record { entered = e; next = next; hole = ap (hole_in_turn held) is ∙ it.hole; named = ap (name_in_turn held) is ∙ it.named; leads = ap (after_turn held) is ∙ it.leads }

  has_first : 0 < length holes → hole_after held nowhere 0 0 ≡ Some (at 0)
  has_first some = by holes refl some where
    by : (hs : List Hole) → hs ≡ holes → 0 < length hs → hole_after held nowhere 0 0 ≡ Some (at 0)
    by [] e lt = absurd (omega (arith, lt))
    by (h ∷ hs) e lt =
        let rise = subst Rise (sym e) (holes_rise held) in
        subst (λ (all : List Hole). find_first all ≡ Some (get_or all 0 d)) e (found_first h hs rise) where
          find_first : List Hole → Option Hole
          find_first all = find (begins_after (start nowhere 0 0)) all

  abbrev around_at : (t e : Turns) → 0 < length holes → t ≡ e → hole_after held e.page e.source e.number ≡ None → IsOf t 0
  around_at t e some is none =
      let first = has_first some in
      record {
        entered = next_round e;
        next = first;
        hole = ap (hole_in_turn held) is ∙ ap (λ (o : Option Hole). option_or o (hole_after held nowhere 0 0)) none ∙ first;
        named = ap (name_in_turn held) is ∙ ap (λ (o : Option Hole). option_map (name_in (in_round o e)) (option_or o (hole_after held nowhere 0 0))) none
            ∙ ap (option_map (name_in (next_round e))) first;
        leads = ap (after_turn held) is ∙ ap (λ (o : Option Hole). led_to o (hole_after held nowhere 0 0) e) none ∙ ap (λ (o : Option Hole). led_to None o e) first;
      }

  -- After some turns the next one is of a hole, in a round. Each hole was passed within `most` turns.
  record Stands (t : Turns) (count round i : ℕ) : Type 0 where
    within : i < length holes
    turns : ℕ
    of : IsOf (after_turns held turns t) i
    in_it : of.entered.round ≡ round
    few : turns + lead ≤ count * most + min of.entered.step (most - 1)

  -- And it is the first of its turns in that round, or the first of all.
  record Visits (t : Turns) (count round i : ℕ) : Type 0 where
    it : Stands t count round i
    fresh : (it.of.entered.step ≡ 0) ⊎ ((count ≡ 0) × (min it.of.entered.step (most - 1) ≤ lead))

  -- a hole that is not through has another turn
  record Further (t : Turns) (count round i : ℕ) (s : Stands t count round i) : Type 0 where
    it : Stands t count round i
    step : it.of.entered.step ≡ s.of.entered.step + 1
    turns : it.turns ≡ suc s.turns

  short : (i : ℕ) → i < length holes → (e : Turns) → e.step + 1 < 64 → window_in e.round (at i).gap + e.step < (at i).gap.last → e.step + 1 < most
  short i lt e few less = ⊎_elim
      (λ (wide : 64 ≤ most). omega (arith, wide, few))
      (λ (all : numbers_in (at i) ≤ most). inside (at i).gap.first (at i).gap.last (64 * (e.round % windows_in (at i).gap)) e.step most less all)
      (fits (at i) (Contains-get_or holes i d lt)) where
        inside : (first last far step most : ℕ) → first + far + step < last → last + 1 - first ≤ most → step + 1 < most
        inside first last far step most few all = omega (arith, few, all)

  one_step : (passed turns step : ℕ) → step + 1 < most → turns + lead ≤ passed + min step (most - 1) → suc turns + lead ≤ passed + min (step + 1) (most - 1)
  one_step passed turns step lt le = omega (arith, lt, le)

  further : (t : Turns) (count round i : ℕ) (s : Stands t count round i) → is_through s.of.entered (at i).gap ≡ false → Further t count round i s
  further t count round i s on =
      let e = s.of.entered in
      let next : Turns = record e { step = e.step + 1 } in
      let is : after_turns held (suc s.turns) t ≡ next = s.of.leads ∙ ap (λ (b : Bool). cond b (behind e.round (at i)) next) on in
      let less = not_through e (at i).gap on in
      record {
        it = record {
          within = s.within;
          turns = suc s.turns;
          of = here_at (after_turns held (suc s.turns) t) next i is s.of.next;
          in_it = s.in_it;
          few = one_step (count * most) s.turns e.step (short i s.within e less.0 less.1) s.few;
        };
        step = refl;
        turns = refl;
      }

  record Ends (t : Turns) (count round i : ℕ) : Type 0 where
    it : Stands t count round i
    through : is_through it.of.entered (at i).gap ≡ true

  -- after 64 turns it is through
  ends : (fuel : ℕ) (t : Turns) (count round i : ℕ) (s : Stands t count round i) → 64 ≤ s.of.entered.step + fuel → Ends t count round i
  ends zero t count round i s le = by (is_through s.of.entered (at i).gap) refl where
    by : (b : Bool) → is_through s.of.entered (at i).gap ≡ b → Ends t count round i
    by true e = record { it = s; through = e }
    by false e = let less = not_through s.of.entered (at i).gap e in let few = less.0 in absurd (omega (arith, le, few))
  ends (suc fuel) t count round i s le = by (is_through s.of.entered (at i).gap) refl (λ next. ends fuel t count round i next) where
    by : (b : Bool) → is_through s.of.entered (at i).gap ≡ b → ((next : Stands t count round i) → 64 ≤ next.of.entered.step + fuel → Ends t count round i) → Ends t count round i
    by true e later = record { it = s; through = e }
    by false e later = let f = further t count round i s e in let step = f.step in later f.it (omega (arith, le, step))

  one_more : (count turns step : ℕ) → turns + lead ≤ count * most + min step (most - 1) → suc turns + lead ≤ suc count * most + min 0 (most - 1)
  one_more count turns step le =
      let next : suc count * most ≡ count * most + most = omega arith in
      omega (arith, le, next, some_most)

  past : (t : Turns) (count round i : ℕ) → (e : Ends t count round i) → after_turns held (suc e.it.turns) t ≡ behind round (at i)
  past t count round i e =
      let s = e.it in
      s.of.leads ∙ ap (λ (b : Bool). cond b (behind s.of.entered.round (at i)) (record s.of.entered { step = s.of.entered.step + 1 })) e.through
      ∙ ap (λ (r : ℕ). behind r (at i)) s.in_it

  end_of : (t : Turns) (count round i : ℕ) → Visits t count round i → Ends t count round i
  end_of t count round i v = ends 64 t count round i v.it (omega arith)

  -- behind a hole that is not the last, the next has its turn, in the same round
  onward : (t : Turns) (count round i : ℕ) → Visits t count round i → i + 1 < length holes → Visits t (suc count) round (suc i)
  onward t count round i v lt =
      let e = end_of t count round i v in
      let s = e.it in
      let next : hole_after held (at i).page (at i).gap.source (at i).gap.last ≡ Some (at (suc i)) = found_next is_behind holes i d (holes_ascend held) lt in
      record {
        it = record {
          within = omega (arith, lt);
          turns = suc s.turns;
          of = here_at (after_turns held (suc s.turns) t) (behind round (at i)) (suc i) (past t count round i e) next;
          in_it = refl;
          few = one_more count s.turns s.of.entered.step s.few;
        };
        fresh = inl refl;
      }

  -- behind the last, the first has its turn, in another round
  around : (t : Turns) (count round i : ℕ) → Visits t count round i → i + 1 ≡ length holes → Visits t (suc count) ((round + 1) % 4294967296) 0
  around t count round i v is =
      let some : 0 < length holes = omega (arith, is) in
      let e = end_of t count round i v in
      let s = e.it in
      let none : hole_after held (at i).page (at i).gap.source (at i).gap.last ≡ None = found_none is_behind holes i d (holes_ascend held) is in
      record {
        it = record {
          within = some;
          turns = suc s.turns;
          of = around_at (after_turns held (suc s.turns) t) (behind round (at i)) some (past t count round i e) none;
          in_it = refl;
          few = one_more count s.turns s.of.entered.step s.few;
        };
        fresh = inl refl;
      }

  -- the same, counted otherwise
  visits_as : (t : Turns) (count other round same i j : ℕ) → count ≡ other → round ≡ same → i ≡ j → Visits t count round i → Visits t other same j
  visits_as t count other round same i j e f g v = subst (λ (n : ℕ). Visits t other same n) g (subst (λ (n : ℕ). Visits t other n i) f (subst (λ (n : ℕ). Visits t n round i) e v))

  onwards : (t : Turns) (count round i more : ℕ) → Visits t count round i → i + more < length holes → Visits t (more + count) round (more + i)
  onwards t count round i zero v lt = visits_as t count (zero + count) round round i (zero + i) (omega arith) refl (omega arith) v
  onwards t count round i (suc more) v lt =
      visits_as t (suc (more + count)) (suc more + count) round round (suc (more + i)) (suc more + i) (omega arith) refl (omega arith)
      (onward t (more + count) round (more + i) (onwards t count round i more v (omega (arith, lt))) (omega (arith, lt)))

  -- from one hole to the first, in the next round
  to_first : (t : Turns) (count round i : ℕ) → Visits t count round i → Visits t (length holes - i + count) ((round + 1) % 4294967296) 0
  to_first t count round i v =
      let lt = v.it.within in
      let more = length holes - 1 - i in
      let last = onwards t count round i more v (omega (arith, lt)) in
      let there = around t (more + count) round (more + i) last (omega (arith, lt)) in
      visits_as t (suc (more + count)) (length holes - i + count) ((round + 1) % 4294967296) ((round + 1) % 4294967296) 0 0 (omega (arith, lt)) refl refl there

  -- the same hole once more, in the next round
  again : (t : Turns) (count round i : ℕ) → Visits t count round i → Visits t (length holes + count) ((round + 1) % 4294967296) i
  again t count round i v =
      let lt = v.it.within in
      let next = (round + 1) % 4294967296 in
      let there = onwards t (length holes - i + count) next 0 i (to_first t count round i v) (omega (arith, lt)) in
      visits_as t (i + (length holes - i + count)) (length holes + count) next next (i + 0) i (omega (arith, lt)) refl (omega arith) there

  small : (n : ℕ) → n < 4294967296 → n % 4294967296 ≡ n
  small n lt = omega (arith, lt)

  product : (m l c : ℕ) → l + (m * l + c) ≡ suc m * l + c
  product m l c = omega arith

  agains : (t : Turns) (count round i more : ℕ) → round + more < 4294967296 → Visits t count round i → Visits t (more * length holes + count) (more + round) i
  agains t count round i zero few v = visits_as t count (zero * length holes + count) round (zero + round) i i (omega arith) (omega arith) refl v
  agains t count round i (suc more) few v =
      let once = again t (more * length holes + count) (more + round) i (agains t count round i more (omega (arith, few)) v) in
      let next : (more + round + 1) % 4294967296 ≡ suc more + round = small (more + round + 1) (omega (arith, few)) ∙ omega arith in
      visits_as t (length holes + (more * length holes + count)) (suc more * length holes + count) ((more + round + 1) % 4294967296) (suc more + round) i i (product more
      (length holes) count) next refl once

  -- ---- the first turn, wherever the turns stand

  record Begins (t : Turns) : Type 0 where
    round : ℕ
    i : ℕ
    soon : round ≤ t.round + 1
    same : (i ≡ 0) ⊎ (round ≤ t.round)
    visits : Visits t 0 round i

  begins : (t : Turns) → lead ≡ min (in_round (hole_after held t.page t.source t.number) t).step (most - 1) → 0 < length holes → Begins t
  begins t lead_is some = by (hole_after held t.page t.source t.number) refl where
    first_few : (step : ℕ) → lead ≡ min step (most - 1) → 0 + lead ≤ 0 * most + min step (most - 1)
    first_few step e = omega (arith, e)

    first_fresh : (step : ℕ) → lead ≡ min step (most - 1) → min step (most - 1) ≤ lead
    first_fresh step e = omega (arith, e)

    led : (o : Option Hole) → hole_after held t.page t.source t.number ≡ o → lead ≡ min (in_round o t).step (most - 1)
    led o e = lead_is ∙ ap (λ (o : Option Hole). min (in_round o t).step (most - 1)) e

    by : (o : Option Hole) → hole_after held t.page t.source t.number ≡ o → Begins t
    by None e = record {
      round = (t.round + 1) % 4294967296;
      i = 0;
      soon = less (t.round + 1);
      same = inl refl;
      visits = record {
        it = record { within = some; turns = 0; of = around_at t t some refl e; in_it = refl; few = first_few 0 (led None e) };
        fresh = inl refl;
      };
    } where
      less : (n : ℕ) → n % 4294967296 ≤ n
      less n = omega arith
    by (Some h) e =
        let found = found_at (begins_after (start t.page t.source t.number)) holes h d e in
        record {
          round = t.round;
          i = found.0;
          soon = omega arith;
          same = inr (omega arith);
          visits = record {
            it = record { within = found.1; turns = 0; of = here_at t t found.0 refl (e ∙ ap Some (sym found.2)); in_it = refl; few = first_few t.step (led (Some h) e) };
            fresh = inr (refl, first_fresh t.step (led (Some h) e));
          };
        }

  -- ---- each hole

  record Soon (t : Turns) (i : ℕ) : Type 0 where
    count : ℕ
    round : ℕ
    few : count < length holes
    early : round ≤ t.round + 1
    visits : Visits t count round i

  -- of a hole that stands before the one that is first now, in the next round
  before : (t : Turns) (b : Begins t) (i : ℕ) → i < length holes → i < b.i → Soon t i
  before t b i lt less =
      let within = b.visits.it.within in
      let there = onwards t (length holes - b.i + 0) ((b.round + 1) % 4294967296) 0 i (to_first t 0 b.round b.i b.visits) (omega (arith, lt)) in
      let early : b.round ≤ t.round = ⊎_elim (λ (first : b.i ≡ 0). absurd (omega (arith, first, less))) (λ (le : b.round ≤ t.round). le) b.same in
      record {
        count = i + (length holes - b.i + 0);
        round = (b.round + 1) % 4294967296;
        few = omega (arith, within, less);
        early = omega (arith, early);
        visits = visits_as t (i + (length holes - b.i + 0)) (i + (length holes - b.i + 0)) ((b.round + 1) % 4294967296) ((b.round + 1) % 4294967296) (i + 0) i refl refl (omega arith) there;
      }

  behind_it : (t : Turns) (b : Begins t) (i : ℕ) → i < length holes → b.i ≤ i → Soon t i
  behind_it t b i lt le =
      let more = i - b.i in
      let soon = b.soon in
      record {
        count = more + 0;
        round = b.round;
        few = omega (arith, lt);
        early = soon;
        visits = visits_as t (more + 0) (more + 0) b.round b.round (more + b.i) i refl refl (omega (arith, le)) (onwards t 0 b.round b.i more b.visits (omega (arith, lt, le)));
      }

  soon : (t : Turns) → lead ≡ min (in_round (hole_after held t.page t.source t.number) t).step (most - 1) → (i : ℕ) → i < length holes → Soon t i
  soon t lead_is i lt = by (nat_le b.i i) refl where
    b : Begins t
    b = begins t lead_is (omega (arith, lt))

    by : (least : Bool) → nat_le b.i i ≡ least → Soon t i
    by true e = behind_it t b i lt (leb-true _ _ e)
    by false e = before t b i lt (leb-false _ _ e)

  -- ---- each number of a hole

  on : (t : Turns) (g : Gap) → t.step + 1 < 64 → window_in t.round g + t.step < g.last → is_through t g ≡ false
  on t g few less = ap (λ (b : Bool). b || nat_le g.last (window_in t.round g + t.step)) (lt-leb 64 (t.step + 1) few) ∙ lt-leb g.last (window_in t.round g + t.step) less

  -- `more` turns later it is at another number of its window
  walks : (more : ℕ) (t : Turns) (count round i : ℕ) (s : Stands t count round i) → s.of.entered.step + more < 64 → window_in round (at i).gap + (s.of.entered.step + more) ≤ (at i).gap.last
      → (next : Stands t count round i) × (next.of.entered.step ≡ s.of.entered.step + more) × (next.turns ≡ s.turns + more)
  walks zero t count round i s few le = (s, omega arith, omega arith)
  walks (suc more) t count round i s few le =
      let in_it = s.in_it in
      let low = window_in round (at i).gap in
      let here : window_in s.of.entered.round (at i).gap ≡ low = ap (λ (r : ℕ). window_in r (at i).gap) in_it in
      let f = further t count round i s (on s.of.entered (at i).gap (omega (arith, few)) (below (window_in s.of.entered.round (at i).gap) low s.of.entered.step more (at i).gap.last here le)) in
      let step = f.step in
      let turns = f.turns in
      let w = walks more t count round i f.it (omega (arith, few, step)) (reach low f.it.of.entered.step s.of.entered.step more (at i).gap.last step le) in
      let a = w.1 in
      let b = w.2 in
      (w.0, omega (arith, a, step), omega (arith, b, turns)) where
        below : (a low step more last : ℕ) → a ≡ low → low + (step + suc more) ≤ last → a + step < last
        below a low step more last e le = omega (arith, e, le)

        reach : (low next step more last : ℕ) → next ≡ step + 1 → low + (step + suc more) ≤ last → low + (next + more) ≤ last
        reach low next step more last e le = omega (arith, e, le)

  -- a number of a hole: its window, and its place in that
  record Place (g : Gap) (number : ℕ) : Type 0 where
    window : ℕ
    far : ℕ
    within : window < windows_in g
    few : far < 64
    is : g.first + 64 * window + far ≡ number

  placed : (g : Gap) (number : ℕ) → g.first ≤ number → number ≤ g.last → Place g number
  placed g number low high = record {
    window = (number - g.first) / 64;
    far = (number - g.first) % 64;
    within = omega (arith, low, high);
    few = omega arith;
    is = omega (arith, low);
  }

  -- a visit in its round, of which some turns are left
  named_at : (t : Turns) (count round i number : ℕ) (s : Stands t count round i) (p : Place (at i).gap number) → number ≤ (at i).gap.last → round % windows_in (at i).gap ≡ p.window
      → s.of.entered.step ≤ p.far
      → name_in_turn held (after_turns held (s.turns + (p.far - s.of.entered.step)) t) ≡ Some (name_of (at i).page (at i).gap.source number)
  named_at t count round i number s p high in_window le =
      let low : window_in round (at i).gap + p.far ≡ number = ap (λ (w : ℕ). (at i).gap.first + 64 * w + p.far) in_window ∙ p.is in
      let few = p.few in
      let there : s.of.entered.step + (p.far - s.of.entered.step) ≡ p.far = omega (arith, le) in
      let w = walks (p.far - s.of.entered.step) t count round i s (omega (arith, few, le)) (fits_in (window_in round (at i).gap) p.far (s.of.entered.step + (p.far - s.of.entered.step)) number
      (at i).gap.last low there high) in
      let step = w.1 in
      let at_it : (window_in w.0.of.entered.round (at i).gap + w.0.of.entered.step) ≡ number = ap (λ (r : ℕ). window_in r (at i).gap + w.0.of.entered.step) w.0.in_it
      ∙ ap (λ (n : ℕ). window_in round (at i).gap + n) (step ∙ there) ∙ low in
      let least : min (window_in w.0.of.entered.round (at i).gap + w.0.of.entered.step) (at i).gap.last ≡ number = lesser (window_in w.0.of.entered.round
      (at i).gap + w.0.of.entered.step) number (at i).gap.last at_it high in
      ap (λ (n : ℕ). name_in_turn held (after_turns held n t)) (sym w.2) ∙ w.0.of.named ∙ ap (λ (n : ℕ). Some (name_of (at i).page (at i).gap.source n)) least where
        fits_in : (low far step number last : ℕ) → low + far ≡ number → step ≡ far → number ≤ last → low + step ≤ last
        fits_in low far step number last e f le = omega (arith, e, f, le)

        lesser : (a number last : ℕ) → a ≡ number → number ≤ last → min a last ≡ number
        lesser a number last e le = omega (arith, e, le)

-- ---- the first turns of each hole, and of each of its numbers

-- of `numbers` numbers, each comes after any one, counted in a circle
record Comes (from numbers wanted : ℕ) : Type 0 where
  more : ℕ
  few : more < numbers
  is : (from + more) % numbers ≡ wanted

one_later : (from numbers wanted more : ℕ) → more < numbers → (from + more) % numbers ≡ wanted → Comes (suc from) numbers wanted
one_later from numbers wanted zero few is = record {
  more = numbers - 1;
  few = omega (arith, few);
  is = ap (λ (n : ℕ). n % numbers) (round from numbers few) ∙ add-mod_right from numbers ∙ ap (λ (n : ℕ). n % numbers) (none from) ∙ is;
} where
  round : (from numbers : ℕ) → 0 < numbers → suc from + (numbers - 1) ≡ from + numbers
  round from numbers some = omega (arith, some)

  none : (from : ℕ) → from ≡ from + 0
  none from = omega arith
one_later from numbers wanted (suc more) few is = record {
  more = more;
  few = omega (arith, few);
  is = ap (λ (n : ℕ). n % numbers) (next from more) ∙ is;
} where
  next : (from more : ℕ) → suc from + more ≡ from + suc more
  next from more = omega arith

comes : (from numbers wanted : ℕ) → wanted < numbers → Comes from numbers wanted
comes zero numbers wanted lt = record { more = wanted; few = lt; is = ap (λ (n : ℕ). n % numbers) (omega arith) ∙ mod-eq_of_lt lt }
comes (suc from) numbers wanted lt = let before = comes from numbers wanted lt in one_later from numbers wanted before.more before.few before.is

module _ (held : List DrawopValue) (hole : Hole) (t : Turns) (bound : ℕ) (some : 1 ≤ bound) (fits : (h : Hole) → Contains (holes_of held) h → (64 ≤ bound) ⊎ (numbers_in h ≤ bound)) where
  abbrev lead : ℕ
  lead = min (in_round (hole_after held t.page t.source t.number) t).step (bound - 1)

  less : lead + 1 ≤ bound
  less = omega (arith, some)

  abbrev Stand : ℕ → ℕ → ℕ → Type 0
  Stand count round i = Stands held hole bound lead some fits less t count round i

  abbrev Visit : ℕ → ℕ → ℕ → Type 0
  Visit count round i = Visits held hole bound lead some fits less t count round i

  abbrev nth : ℕ → Hole
  nth i = get_or (holes_of held) i hole

  first_visits : (i : ℕ) → i < length (holes_of held) → Soon held hole bound lead some fits less t i
  first_visits i lt = soon held hole bound lead some fits less t refl i lt

  -- ---- a number within `most` turns

  record Named (i number most : ℕ) : Type 0 where
    count : ℕ
    few : count ≤ most
    named : name_in_turn held (after_turns held count t) ≡ Some (name_of (nth i).page (nth i).gap.source number)

  module _ (i number : ℕ) (lt : i < length (holes_of held)) (p : Place held hole bound lead some fits less (nth i).gap number) (low : (nth i).gap.first ≤ number) (high : number ≤
      (nth i).gap.last) where
    abbrev windows : ℕ
    windows = windows_in (nth i).gap

    far_less : p.far + 1 ≤ bound
    far_less = ⊎_elim
        (λ (wide : 64 ≤ bound). let few = p.few in omega (arith, wide, few))
        (λ (all : numbers_in (nth i) ≤ bound). let is = p.is in inside (nth i).gap.first (nth i).gap.last (64 * p.window) p.far number bound is high all)
        (fits (nth i) (Contains-get_or (holes_of held) i hole lt)) where
          inside : (first last before far number bound : ℕ) → first + before + far ≡ number → number ≤ last → last + 1 - first ≤ bound → far + 1 ≤ bound
          inside first last before far number bound e le all = omega (arith, e, le, all)

    standing : (count round most : ℕ) (s : Stand count round i) → round % windows ≡ p.window → s.of.entered.step ≤ p.far → s.turns + (p.far - s.of.entered.step) ≤ most → Named i number most
    standing count round most s in_window le few = record {
      count = s.turns + (p.far - s.of.entered.step);
      few = few;
      named = named_at held hole bound lead some fits less t count round i number s p high in_window le;
    }

    in_time : (count all turns step : ℕ) → count + 1 ≤ all → step ≤ p.far → turns + lead ≤ count * bound + min step (bound - 1) → turns + (p.far - step) ≤ all * bound
    in_time count all turns step le before few =
        let more : (count + 1) * bound ≤ all * bound = mul-le-mul_right bound le in
        let next : (count + 1) * bound ≡ count * bound + bound = omega arith in
        let last = far_less in
        omega (arith, before, few, more, next, last)

    some_windows : 1 ≤ windows * length (holes_of held)
    some_windows =
        let le : 1 * length (holes_of held) ≤ windows * length (holes_of held) = mul-le-mul_right (length (holes_of held)) (omega arith) in
        omega (arith, le, lt)

    -- it had its turn just before: all windows have theirs first
    after_all : (round : ℕ) → round + windows < 4294967296 → round % windows ≡ p.window → (step : ℕ) → p.far < step → min step (bound - 1) ≤ lead → Visit 0 round i
        → Named i number (windows * length (holes_of held) * bound)
    after_all round small in_window step late led v =
        let next = agains held hole bound lead some fits less t 0 round i windows small v in
        let s = next.it in
        let same : (windows + round) % windows ≡ p.window = ap (λ (n : ℕ). n % windows) (add_comm windows round) ∙ add-mod_right round windows ∙ in_window in
        let turns = s.few in
        let last = far_less in
        let first : s.of.entered.step ≡ 0 = ⊎_elim (λ (e : s.of.entered.step ≡ 0). e)
        (λ (none : (windows * length (holes_of held) + 0 ≡ 0) × (min s.of.entered.step (bound - 1) ≤ lead)). let is = none.0 in let le = some_windows in absurd (omega (arith, is, le))) next.fresh in
        standing (windows * length (holes_of held) + 0) (windows + round) (windows * length (holes_of held) * bound) s same (omega (arith, first))
        (bounded (windows * length (holes_of held)) s.turns s.of.entered.step first turns) where
          bounded : (all turns step_there : ℕ) → step_there ≡ 0 → turns + lead ≤ (all + 0) * bound + min step_there (bound - 1) → turns + (p.far - step_there) ≤ all * bound
          bounded all turns step_there first few =
              let same : (all + 0) * bound ≡ all * bound = ap (λ (n : ℕ). n * bound) (omega arith) in
              let last = far_less in
              omega (arith, first, few, same, last, late, led)

    visited : (count round : ℕ) → (count ≡ 0 → round + windows < 4294967296) → round % windows ≡ p.window → count + 1 ≤ windows * length (holes_of held) → Visit count round i
        → Named i number (windows * length (holes_of held) * bound)
    visited count round small in_window le v = by (nat_le v.it.of.entered.step p.far) refl where
      by : (b : Bool) → nat_le v.it.of.entered.step p.far ≡ b → Named i number (windows * length (holes_of held) * bound)
      by true e = let before = leb-true _ _ e in
          standing count round (windows * length (holes_of held) * bound) v.it in_window before (in_time count (windows * length (holes_of held)) v.it.turns v.it.of.entered.step le before v.it.few)
      by false e =
          let late = leb-false _ _ e in
          ⊎_elim
          (λ (first : v.it.of.entered.step ≡ 0). absurd (omega (arith, late, first)))
          (λ (none : (count ≡ 0) × (min v.it.of.entered.step (bound - 1) ≤ lead)). after_all round (small none.0) in_window v.it.of.entered.step late none.1 (subst (λ
          (n : ℕ). Visit n round i) none.0 v))
          v.fresh

    -- from any round on
    from_round : (count round : ℕ) → round + windows < 4294967296 → count < length (holes_of held) → Visit count round i → Named i number (windows * length (holes_of held) * bound)
    from_round count round small few v =
        let c = comes round windows p.window p.within in
        let more = c.few in
        let there = agains held hole bound lead some fits less t count round i c.more (omega (arith, small, more)) v in
        let same : (c.more + round) % windows ≡ p.window = ap (λ (n : ℕ). n % windows) (add_comm c.more round) ∙ c.is in
        visited (c.more * length (holes_of held) + count) (c.more + round) (at_once c.more count (length (holes_of held)) few small) same (rounds c.more count windows (length
        (holes_of held)) more few) there where
          at_once : (more count holes : ℕ) → count < holes → round + windows < 4294967296 → more * holes + count ≡ 0 → more + round + windows < 4294967296
          at_once zero count holes some small none = omega (arith, small)
          at_once (suc more) count holes some small none =
              let next : suc more * holes ≡ more * holes + holes = omega arith in
              absurd (omega (arith, none, next, some))

          rounds : (more count windows holes : ℕ) → more < windows → count < holes → more * holes + count + 1 ≤ windows * holes
          rounds more count windows holes lt few =
              let all : (more + 1) * holes ≤ windows * holes = mul-le-mul_right holes (omega (arith, lt)) in
              let next : (more + 1) * holes ≡ more * holes + holes = omega arith in
              omega (arith, all, next, few)

some_turns : 1 ≤ 64
some_turns = omega arith

-- at most 64 turns for each hole
wide : (held : List DrawopValue) (h : Hole) → Contains (holes_of held) h → (64 ≤ 64) ⊎ (numbers_in h ≤ 64)
wide held h c = inl (omega arith)

pub each_hole_has_its_turn : EachHoleHasItsTurn
each_hole_has_its_turn held t hole (i, lt, e) =
    let s = first_visits held hole t 64 some_turns (wide held) i lt in
    let v = s.visits.it in
    (v.turns, few s.count v.turns (length (holes_of held)) v.of.entered.step (lead held hole t 64 some_turns (wide held)) s.few v.few, v.of.hole ∙ ap Some e) where
      few : (count turns holes step lead : ℕ) → count < holes → turns + lead ≤ count * 64 + min step 63 → turns < 64 * holes
      few count turns holes step lead lt le = omega (arith, lt, le)

pub each_number_has_its_turn : EachNumberHasItsTurn
each_number_has_its_turn held t hole number (i, lt, e) low high small =
    let fits = wide held in
    let s = first_visits held hole t 64 some_turns fits i lt in
    let at_i : get_or (holes_of held) i hole ≡ hole = e in
    let early = s.early in
    let lead = lead held hole t 64 some_turns fits in
    let p = subst (λ (h : Hole). Place held hole 64 lead some_turns fits (less held hole t 64 some_turns fits) h.gap number) (sym at_i)
    (placed held hole 64 lead some_turns fits (less held hole t 64 some_turns fits) hole.gap number low high) in
    let n = from_round held hole t 64 some_turns fits i number lt p (subst (λ (h : Hole). h.gap.first ≤ number) (sym at_i) low) (subst (λ (h : Hole). number ≤ h.gap.last)
    (sym at_i) high) s.count s.round
    (subst (λ (h : Hole). s.round + windows_in h.gap < 4294967296) (sym at_i) (rounds s.round t.round (windows_in hole.gap) early small)) s.few s.visits in (
      n.count,
      subst (λ (h : Hole). n.count ≤ windows_in h.gap * length (holes_of held) * 64) at_i n.few,
      n.named ∙ ap (λ (h : Hole). Some (name_of h.page h.gap.source number)) at_i,
    ) where
      rounds : (round first windows : ℕ) → round ≤ first + 1 → first + windows + 1 < 4294967296 → round + windows < 4294967296
      rounds round first windows early small = omega (arith, early, small)

-- as many as it has numbers, if these are fewer
narrow : (held : List DrawopValue) (most : ℕ) → HaveAtMost most held → (h : Hole) → Contains (holes_of held) h → (64 ≤ min 64 most) ⊎ (numbers_in h ≤ min 64 most)
narrow held most all h c = by (nat_le 64 most) refl where
  by : (b : Bool) → nat_le 64 most ≡ b → (64 ≤ min 64 most) ⊎ (numbers_in h ≤ min 64 most)
  by true e = let le = leb-true _ _ e in inl (omega (arith, le))
  by false e = let lt = leb-false _ _ e in let few = all h c in inr (omega (arith, lt, few))

few_windows : (g : Gap) (most : ℕ) → g.first ≤ g.last → g.last + 1 - g.first ≤ most → windows_in g * min 64 most + 1 ≤ 2 * most
few_windows g most filled all = by (nat_le 64 most) refl where
  by : (b : Bool) → nat_le 64 most ≡ b → windows_in g * min 64 most + 1 ≤ 2 * most
  by true e =
      let le = leb-true _ _ e in
      let is : 64 ≡ min 64 most = omega (arith, le) in
      subst (λ (n : ℕ). windows_in g * n + 1 ≤ 2 * most) is (omega (arith, le, filled, all))
  by false e =
      let lt = leb-false _ _ e in
      let is : most ≡ min 64 most = omega (arith, lt) in
      let one : 1 ≡ windows_in g = omega (arith, lt, filled, all) in
      subst (λ (n : ℕ). windows_in g * n + 1 ≤ 2 * most) is (subst (λ (w : ℕ). w * most + 1 ≤ 2 * most) one (omega (arith, filled, all)))

pub each_number_has_its_turn_soon : EachNumberHasItsTurnSoon
each_number_has_its_turn_soon held t hole number most (i, lt, e) low high all few =
    let bound = min 64 most in
    let own = all hole (i, lt, e) in
    let some : 1 ≤ min 64 most = omega (arith, own, low, high) in
    let fits = narrow held most all in
    let s = first_visits held hole t (min 64 most) some fits i lt in
    let at_i : get_or (holes_of held) i hole ≡ hole = e in
    let early = s.early in
    let windows = few_windows hole.gap most (omega (arith, low, high)) own in
    let lead = lead held hole t (min 64 most) some fits in
    let p = subst (λ (h : Hole). Place held hole (min 64 most) lead some fits (less held hole t (min 64 most) some fits) h.gap number) (sym at_i)
    (placed held hole (min 64 most) lead some fits (less held hole t (min 64 most) some fits) hole.gap number low high) in
    let n = from_round held hole t (min 64 most) some fits i number lt p (subst (λ (h : Hole). h.gap.first ≤ number) (sym at_i) low) (subst (λ (h : Hole). number ≤ h.gap.last)
    (sym at_i) high) s.count s.round
    (subst (λ (h : Hole). s.round + windows_in h.gap < 4294967296) (sym at_i) (small hole.gap s.round t.round most early own low high few)) s.few s.visits in (
      n.count,
      below n.count (windows_in (get_or (holes_of held) i hole).gap) (length (holes_of held)) (min 64 most) most n.few (subst (λ (h : Hole). windows_in h.gap * min 64 most + 1 ≤ 2 * most)
          (sym at_i) windows) lt,
      n.named ∙ ap (λ (h : Hole). Some (name_of h.page h.gap.source number)) at_i,
    ) where
      small : (g : Gap) (round first most : ℕ) → round ≤ first + 1 → g.last + 1 - g.first ≤ most → g.first ≤ number → number ≤ g.last → first + 2 * most < 4294967296
          → round + windows_in g < 4294967296
      small g round first most early own low high few = omega (arith, early, own, low, high, few)

      below : (count windows holes bound most : ℕ) → count ≤ windows * holes * bound → windows * bound + 1 ≤ 2 * most → i < holes → count < 2 * most * holes
      below count windows holes bound most le more some =
          let all : (windows * bound + 1) * holes ≤ 2 * most * holes = mul-le-mul_right holes more in
          let next : (windows * bound + 1) * holes ≡ windows * holes * bound + holes = omega arith in
          omega (arith, le, all, next, some)

-- ---- whatever the round is

module _ (held : List DrawopValue) (hole : Hole) (t : Turns) where
  abbrev Wide : ℕ → ℕ → ℕ → Type 0
  Wide count round i = Visit held hole t 64 some_turns (wide held) count round i

  next_first : (count round i : ℕ) → Wide count round i → Wide (length (holes_of held) - i + count) ((round + 1) % 4294967296) 0
  next_first count round i v = to_first held hole 64 (lead held hole t 64 some_turns (wide held)) some_turns (wide held) (less held hole t 64 some_turns (wide held)) t count round i v

  -- rounds are counted with 32 bits, so that they begin again
  begins_again : (more count round : ℕ) → 1 ≤ count → round + suc more ≡ 4294967296 → Wide count round 0 → (later : ℕ) × (1 ≤ later) × Wide later 0 0
  begins_again zero count round some is v =
      let none : (round + 1) % 4294967296 ≡ 0 = omega (arith, is) in
      (length (holes_of held) - 0 + count, omega (arith, some), subst (λ (r : ℕ). Wide (length (holes_of held) - 0 + count) r 0) none (next_first count round 0 v))
  begins_again (suc more) count round some is v =
      let same : (round + 1) % 4294967296 ≡ round + 1 = omega (arith, is) in
      begins_again more (length (holes_of held) - 0 + count) (round + 1) (omega (arith, some)) (omega (arith, is)) (subst (λ (r : ℕ). Wide (length (holes_of held) - 0 + count) r 0) same
      (next_first count round 0 v))

  first_round : (i : ℕ) → i < length (holes_of held) → (later : ℕ) × (1 ≤ later) × Wide later 0 0
  first_round i lt =
      let b = first_visits held hole t 64 some_turns (wide held) i lt in
      let within = b.visits.it.within in
      let next = next_first b.count b.round i b.visits in
      let under_it = under (b.round + 1) in
      begins_again (4294967295 - (b.round + 1) % 4294967296) (length (holes_of held) - i + b.count) ((b.round + 1) % 4294967296) (omega (arith, within)) (omega (arith, under_it)) next where
        under : (n : ℕ) → n % 4294967296 < 4294967296
        under n = omega arith

-- Each number of a hole that is less than 2^31 behind its first has its turn again and again.
pub a_number_has_its_turn : (held : List DrawopValue) (t : Turns) (hole : Hole) (number : ℕ) → Contains (holes_of held) hole → hole.gap.first ≤ number → number ≤ hole.gap.last
    → number < hole.gap.first + 2147483648
    → (count : ℕ) × (name_in_turn held (after_turns held count t) ≡ Some (name_of hole.page hole.gap.source number))
a_number_has_its_turn held t hole number (i, lt, e) low high few =
    let lead_is = lead held hole t 64 some_turns (wide held) in
    let less_is = less held hole t 64 some_turns (wide held) in
    let first = first_round held hole t i lt in
    let there = onwards held hole 64 lead_is some_turns (wide held) less_is t first.0 0 0 i first.2 (omega (arith, lt)) in
    let place : Place held hole 64 lead_is some_turns (wide held) less_is (get_or (holes_of held) (i + 0) hole).gap number = subst (λ (h : Hole). Place held hole 64 lead_is some_turns
    (wide held) less_is h.gap number) (sym (at_i e)) (placed held hole 64 lead_is some_turns (wide held) less_is hole.gap number low high) in
    let within = place.within in
    let is = place.is in
    let above : (get_or (holes_of held) (i + 0) hole).gap.first ≡ hole.gap.first = ap (λ (h : Hole). h.gap.first) (at_i e) in
    let v = agains held hole 64 lead_is some_turns (wide held) less_is t (i + first.0) 0 (i + 0) place.window (omega (arith, few, is, above)) there in
    let some = first.1 in
    let fresh : v.it.of.entered.step ≡ 0 = ⊎_elim (λ (z : v.it.of.entered.step ≡ 0). z)
    (λ (none : (place.window * length (holes_of held) + (i + first.0) ≡ 0) × (min v.it.of.entered.step 63 ≤ lead_is)). let zero_is = none.0 in absurd (omega (arith, zero_is, some))) v.fresh in
    let round : (place.window + 0) % windows_in (get_or (holes_of held) (i + 0) hole).gap ≡ place.window = ap (λ (n : ℕ). n % windows_in (get_or (holes_of held) (i + 0) hole).gap)
    (none_more place.window) ∙ mod-eq_of_lt within in (
      v.it.turns + (place.far - v.it.of.entered.step),
      named_at held hole 64 lead_is some_turns (wide held) less_is t (place.window * length (holes_of held) + (i + first.0)) (place.window + 0) (i + 0) number v.it place (subst (λ
          (h : Hole). number ≤ h.gap.last) (sym (at_i e)) high) round (omega (arith, fresh))
          ∙ ap (λ (h : Hole). Some (name_of h.page h.gap.source number)) (at_i e),
    ) where
      none_more : (n : ℕ) → n + 0 ≡ n
      none_more n = omega arith

      at_i : get_or (holes_of held) i hole ≡ hole → get_or (holes_of held) (i + 0) hole ≡ hole
      at_i e = ap (λ (n : ℕ). get_or (holes_of held) n hole) (none_more i) ∙ e
