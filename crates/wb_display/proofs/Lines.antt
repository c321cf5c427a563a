-- A line, drawn by a running error from the first to the last step at which it is on the canvas.
use Rattle.std.proofs.Common.{◌≡◌, ℕ, ◌+◌, ◌*◌, ◌/◌, ◌<◌, List, [], ◌∷◌, ◌++◌, get_or, refl, ap, ◌∙◌, sym, arith, zero, suc, ◌-◌, ◌%◌, ◌≤◌, ◌⊎◌, inl, inr}
use Rattle.std.specs.Prelude.{Bool, true, false, ◌&&◌, ◌||◌, nat_eq, max, min}
use Rattle.std.specs.List.{list_any, range_with_len}
use Rattle.std.proofs.lemmas.List.{map-id}
use Rattle.std.proofs.lemmas.List.FromFn.{map-range_with_len_more, length-range_with_len, get_or-range_with_len}
use Rattle.std.proofs.lemmas.List.Folds.{list_any-append, list_any_at, list_any_none}
use Rattle.wb_display.specs.Canvas.{distance, toward, share, line_len, line_at, is_line_point, is_on_line}
use Rattle.std.proofs.lemmas.Nat.{div-mul-add, mod-mul-add, div_below, le-div, div-add-mod'}
use Rattle.std.proofs.lemmas.Bool.Decides.{nat_tests}
use Rattle.wb_display.specs.Cells.{is_at, Overlays, is_on_row}
use Rattle.wb_display.proofs.Overlaying.{drawn_over, agreeing, untouched}
use Rattle.std.proofs.Math.Nat.{div-zero, mul-le-mul_right}
use Rattle.std.proofs.Math.Bool.{or-false}
use Rattle.wb_display.specs.Walks.{error_at, IsWalk, AreInside}
use Rattle.wb_display.specs.Walking.{Progress}
use Rattle.wb_display.specs.declared.line_points.Walk.TheInside.{Inside}
use Rattle.std.proofs.lemmas.Bool.{cases_lt}
use Rattle.wb_display.specs.declared.line_points.Steps.{Steps}
use Rattle.std.proofs.lemmas.Grind.{div_ceil_times}

-- ---- a line, drawn a point at a time

pub range_more : (n : ℕ) → range_with_len 0 (n + 1) ≡ range_with_len 0 n ++ n ∷ []
range_more n = sym (map-id _) ∙ map-range_with_len_more (λ (x : ℕ). x) 0 n n (omega arith) ∙ ap (λ (t : List ℕ). t ++ n ∷ []) (map-id _)

-- the first n points of a line of m steps
abbrev pub line_upto : ℕ → ℕ → ℕ → ℕ → ℕ → ℕ → ℕ → ℕ → Bool
line_upto x0 y0 x1 y1 m n x y = list_any (λ k. is_line_point x0 y0 x1 y1 m x y k) (range_with_len 0 n)

pub line_one_more : (x0 y0 x1 y1 m n x y : ℕ) → line_upto x0 y0 x1 y1 m (n + 1) x y ≡ (line_upto x0 y0 x1 y1 m n x y || is_at (line_at x0 x1 m n) (line_at y0 y1 m n) x y)
line_one_more x0 y0 x1 y1 m n x y =
    ap (list_any (λ k. is_line_point x0 y0 x1 y1 m x y k)) (range_more n)
    ∙ list_any-append (λ k. is_line_point x0 y0 x1 y1 m x y k) (range_with_len 0 n) (n ∷ [])
    ∙ ap (λ (b : Bool). line_upto x0 y0 x1 y1 m n x y || b) (or-false (is_line_point x0 y0 x1 y1 m x y n))

pub line_more : (w h x0 y0 x1 y1 m n px py g : ℕ) (old mid new : List ℕ) → px ≡ line_at x0 x1 m n → py ≡ line_at y0 y1 m n → Overlays w h (line_upto x0 y0 x1 y1 m n) (λ _. g) old mid → Overlays w h (is_at px py) (λ _. g) mid new → Overlays w h (line_upto x0 y0 x1 y1 m (n + 1)) (λ _. g) old new
line_more w h x0 y0 x1 y1 m n px py g old mid new ex ey a b =
    drawn_over w h _ _ _ _ _ _ old mid new a b (λ x y. line_one_more x0 y0 x1 y1 m n x y ∙ ap (λ (t : ℕ). line_upto x0 y0 x1 y1 m n x y || is_at t (line_at y0 y1 m n) x y) (sym ex) ∙ ap (λ (t : ℕ). line_upto x0 y0 x1 y1 m n x y || is_at px t x y) (sym ey)) (λ x y p q. refl) (λ x y p. refl)

pub at_step : (p : Progress) (a b m k : ℕ) → p ≡ record { from = a; to = b; steps = m; gone = k } → line_at p.from p.to p.steps p.gone ≡ line_at a b m k
at_step p a b m k e = ap (λ (p : Progress). line_at p.from p.to p.steps p.gone) e

pub same_steps : (p : Progress) (a b s m k : ℕ) → s ≡ m → p ≡ record { from = a; to = b; steps = s; gone = k } → p ≡ record { from = a; to = b; steps = m; gone = k }
same_steps p a b s m k same e = cc

pub before_end : (p q end : ℕ) → p ≡ q → q < end → p < end
before_end p q end same lt = omega arith

-- a quotient and a remainder, by what they make
division : (n w q r : ℕ) → n ≡ q * w + r → r < w → (n / w ≡ q) × (n % w ≡ r)
division n w q r e low = (ap (λ (t : ℕ). t / w) e ∙ div-mul-add q w r low, ap (λ (t : ℕ). t % w) e ∙ mod-mul-add q w r low)

own_share : (d k : ℕ) → 0 < d → share d k d ≡ k
own_share d k pos = (division (2 * k * d + d) (2 * d) k d (omega arith) (omega arith)).0

-- ---- a running error is the remainder of the division, step by step

starts : (d m : ℕ) → (share d 0 m ≡ 0) × ((2 * 0 * d + m) % (2 * m) ≡ m)
starts d zero = let e : 2 * 0 * d + 0 ≡ 0 = omega arith in (ap (λ (n : ℕ). n / (2 * 0)) e, ap (λ (n : ℕ). n % (2 * 0)) e)
starts d (suc m) = division (2 * 0 * d + suc m) (2 * suc m) 0 (suc m) (omega arith) (omega arith)

toward_none : (a b : ℕ) → toward a b 0 ≡ a
toward_none a b = grind (arith, nat_tests)

pub start : (a b m : ℕ) → distance a b ≤ m → let w : Inside = record { from = a; to = b; steps = m; gone = 0; at = a; error = m } in IsWalk w
start a b m reach = record {
  position = sym (ap (toward a b) (starts (distance a b) m).0 ∙ toward_none a b);
  remainder = sym (starts (distance a b) m).1;
  reach = reach;
  within = omega arith;
}

toward_one_more : (a b n at : ℕ) → (a ≤ b → at ≡ toward a b n + 1) → (b < a → at ≡ toward a b n - 1) → at ≡ toward a b (n + 1)
toward_one_more a b n at up down = grind (arith, nat_tests)

module _ (w : Inside) (d s : ℕ) (old : IsWalk w) (room : w.gone < w.steps) (ed : d ≡ distance w.from w.to) (es : s ≡ w.steps) where
  -- what the division gives and leaves after one more step
  divided : (q r : ℕ) → 2 * w.gone * distance w.from w.to + w.steps + 2 * d ≡ q * (2 * w.steps) + r → r < 2 * s → (share (distance w.from w.to) (w.gone + 1) w.steps ≡ q) × (error_at w.from w.to w.steps (w.gone + 1) ≡ r)
  divided q r e low = division _ (2 * w.steps) q r (omega arith) (omega arith)

  -- a step that moves
  pub step_over : (at : ℕ) → 2 * s ≤ w.error + 2 * d → (w.from ≤ w.to → at ≡ w.at + 1) → (w.to < w.from → at ≡ w.at - 1) → let v : Inside = record w { gone = w.gone + 1; at = at; error = w.error + 2 * d - 2 * s } in IsWalk v
  step_over at past up down =
      let r = old.remainder in
      let reach = old.reach in
      let next = divided (share (distance w.from w.to) w.gone w.steps + 1) (w.error + 2 * d - 2 * s) (omega (arith, div-add-mod' (2 * w.gone * distance w.from w.to + w.steps) (2 * w.steps))) (omega arith) in
      record {
        position = toward_one_more w.from w.to _ at (λ le. up le ∙ ap (λ (n : ℕ). n + 1) old.position) (λ lt. down lt ∙ ap (λ (n : ℕ). n - 1) old.position) ∙ ap (toward w.from w.to) (sym next.0);
        remainder = sym next.1;
        reach = reach;
        within = omega arith;
      }

  pub step_along : w.error + 2 * d < 2 * s → let v : Inside = record w { gone = w.gone + 1; error = w.error + 2 * d } in IsWalk v
  step_along low =
      let r = old.remainder in
      let next = divided (share (distance w.from w.to) w.gone w.steps) (w.error + 2 * d) (omega (arith, div-add-mod' (2 * w.gone * distance w.from w.to + w.steps) (2 * w.steps))) low in
      record {
        position = old.position ∙ ap (toward w.from w.to) (sym next.0);
        remainder = sym next.1;
        reach = old.reach;
        within = omega arith;
      }

-- ---- from the first to the last step at which it is on the canvas

missed : (x y px py w h : ℕ) → x < w → y < h → (w ≤ px) ⊎ (h ≤ py) → is_at px py x y ≡ false
missed x y px py w h hx hy (inl past) = grind (arith, nat_tests)
missed x y px py w h hx hy (inr past) = grind (arith, nat_tests)

-- points that are all outside add nothing to what is on the canvas
none_more : (w h x0 y0 x1 y1 m n more end x y : ℕ) → n + more ≡ end → ((k : ℕ) → n ≤ k → k < end → (w ≤ line_at x0 x1 m k) ⊎ (h ≤ line_at y0 y1 m k)) → x < w → y < h → line_upto x0 y0 x1 y1 m end x y ≡ line_upto x0 y0 x1 y1 m n x y
none_more w h x0 y0 x1 y1 m n zero end x y e out hx hy = ap (λ (t : ℕ). line_upto x0 y0 x1 y1 m t x y) (let s : end ≡ n = omega arith in s)
none_more w h x0 y0 x1 y1 m n (suc more) end x y e out hx hy =
    ap (λ (t : ℕ). line_upto x0 y0 x1 y1 m t x y) (let s : end ≡ (n + more) + 1 = omega arith in s)
    ∙ line_one_more x0 y0 x1 y1 m (n + more) x y
    ∙ ap (λ (b : Bool). line_upto x0 y0 x1 y1 m (n + more) x y || b) (missed x y (line_at x0 x1 m (n + more)) (line_at y0 y1 m (n + more)) w h hx hy (out (n + more) (omega arith) (omega arith)))
    ∙ or-false (line_upto x0 y0 x1 y1 m (n + more) x y)
    ∙ none_more w h x0 y0 x1 y1 m n more (n + more) x y refl (λ k le lt. out k le (omega arith)) hx hy

module _ (w h x0 y0 x1 y1 m g : ℕ) (inside : Steps) (are : AreInside w h x0 y0 x1 y1 m inside) where
  -- the first point that is on the canvas shows all of the line so far
  pub line_entered : (px py : ℕ) (old new : List ℕ) → px ≡ line_at x0 x1 m inside.first → py ≡ line_at y0 y1 m inside.first → Overlays w h (is_at px py) (λ _. g) old new → Overlays w h (line_upto x0 y0 x1 y1 m (inside.first + 1)) (λ _. g) old new
  line_entered px py old new ex ey drawn = agreeing w h _ _ _ old new drawn (λ x y hx hy.
      ap (λ (t : ℕ). is_at t py x y) ex
      ∙ ap (λ (t : ℕ). is_at (line_at x0 x1 m inside.first) t x y) ey
      ∙ ap (λ (c : Bool). c || is_at (line_at x0 x1 m inside.first) (line_at y0 y1 m inside.first) x y) (sym (none_more w h x0 y0 x1 y1 m 0 inside.first inside.first x y (omega arith) (λ k le lt. are.before k lt) hx hy))
      ∙ sym (line_one_more x0 y0 x1 y1 m inside.first x y))

  -- the points up to the last that is on the canvas are all of the line
  pub line_done : (n : ℕ) (old new : List ℕ) → m ≡ line_len x0 y0 x1 y1 → n ≡ inside.end → Overlays w h (line_upto x0 y0 x1 y1 m n) (λ _. g) old new → Overlays w h (is_on_line x0 y0 x1 y1) (λ _. g) old new
  line_done n old new steps at drawn = let le = are.within in agreeing w h _ _ _ old new drawn (λ x y hx hy.
      sym (none_more w h x0 y0 x1 y1 m n (m + 1 - n) (m + 1) x y (omega arith) (λ k from lt. are.after k (omega arith) (omega arith)) hx hy)
      ∙ ap (λ (t : ℕ). line_upto x0 y0 x1 y1 t (t + 1) x y) steps)

  -- a line that is nowhere on the canvas
  pub line_missed : (old : List ℕ) → m ≡ line_len x0 y0 x1 y1 → inside.end ≤ inside.first → Overlays w h (is_on_line x0 y0 x1 y1) (λ _. g) old old
  line_missed old steps none = agreeing w h _ _ _ old old (untouched w h (λ _. g) old) (λ x y hx hy.
      sym (none_more w h x0 y0 x1 y1 m 0 (m + 1) (m + 1) x y (omega arith) (λ k le lt. outside k lt (cases_lt k inside.first)) hx hy)
      ∙ ap (λ (t : ℕ). line_upto x0 y0 x1 y1 t (t + 1) x y) steps) where
        outside : (k : ℕ) → k < m + 1 → (k < inside.first) ⊎ (inside.first ≤ k) → (w ≤ line_at x0 x1 m k) ⊎ (h ≤ line_at y0 y1 m k)
        outside k le (inl early) = are.before k early
        outside k le (inr late) = are.after k (omega arith) (omega arith)

-- ---- the steps at which a coordinate is before an edge

-- the first step that moves a coordinate by o, of m that move it by d
abbrev pub step_of : ℕ → ℕ → ℕ → ℕ
step_of d m o = ((2 * o - 1) * m) / (2 * d) + min 1 (((2 * o - 1) * m) % (2 * d))

pub step_is : (d m o r e n : ℕ) → r ≡ ((2 * o - 1) * n) / (2 * e) + min 1 (((2 * o - 1) * n) % (2 * e)) → n ≡ m → e ≡ d → r ≡ step_of d m o
step_is d m o r e n at en ee = at ∙ ap (λ (t : ℕ). step_of e t o) en ∙ ap (λ (t : ℕ). step_of t m o) ee

halves : (o m : ℕ) → 0 < o → (2 * o - 1) * m + m ≡ o * (2 * m)
halves zero m some = elim some [ ]
halves (suc o) m some = (let e : 2 * suc o - 1 ≡ 2 * o + 1 = omega arith in ap (λ (t : ℕ). t * m + m) e) ∙ doubled o m where
  doubled : (o m : ℕ) → (2 * o + 1) * m + m ≡ suc o * (2 * m)
  doubled o m = omega arith

walked : (k d : ℕ) → k * (2 * d) ≡ 2 * k * d
walked k d = omega arith

pub moves_before : (d m o k : ℕ) → 0 < o → o ≤ d → d ≤ m → k < step_of d m o → share d k m < o
moves_before d m o k some fits reach lt =
    let ceil : step_of d m o * (2 * d) < (2 * o - 1) * m + 2 * d = (div_ceil_times ((2 * o - 1) * m) (2 * d) (omega arith)).1 in
    let more : (k + 1) * (2 * d) ≤ step_of d m o * (2 * d) = mul-le-mul_right (2 * d) (omega arith) in
    let one : (k + 1) * (2 * d) ≡ k * (2 * d) + 2 * d = omega arith in
    let short : k * (2 * d) < (2 * o - 1) * m = omega (arith, ceil, more, one) in
    div_below (2 * k * d + m) (2 * m) o (omega arith) (omega (arith, short, walked k d, halves o m some))

pub moves_after : (d m o k : ℕ) → 0 < o → o ≤ d → d ≤ m → step_of d m o ≤ k → o ≤ share d k m
moves_after d m o k some fits reach le =
    let ceil : (2 * o - 1) * m ≤ step_of d m o * (2 * d) = (div_ceil_times ((2 * o - 1) * m) (2 * d) (omega arith)).0 in
    let more : step_of d m o * (2 * d) ≤ k * (2 * d) = mul-le-mul_right (2 * d) le in
    le-div o (2 * k * d + m) (2 * m) (omega arith) (omega (arith, ceil, more, walked k d, halves o m some))

share_within : (d k m : ℕ) → k ≤ m → share d k m ≤ d
share_within d k zero le = omega (arith, div-zero (2 * k * d + 0))
share_within d k (suc m) le =
    let less : k * d ≤ suc m * d = mul-le-mul_right d le in
    let low : share d k (suc m) < d + 1 = div_below (2 * k * d + suc m) (2 * suc m) (d + 1) (omega arith) (omega arith) in
    omega (arith, low)

-- a coordinate on its way is between its ends
pub lies_between : (a b m k : ℕ) → k ≤ m → (min a b ≤ line_at a b m k) × (line_at a b m k ≤ max a b)
lies_between a b m k le = (low a b _ (share_within (distance a b) k m le), high a b _ (share_within (distance a b) k m le)) where
  low : (a b n : ℕ) → n ≤ distance a b → min a b ≤ toward a b n
  low a b n le = grind (arith, nat_tests)

  high : (a b n : ℕ) → n ≤ distance a b → toward a b n ≤ max a b
  high a b n le = grind (arith, nat_tests)

-- where it is by how far it has moved
pub up_before : (a b m k e : ℕ) → a < b → a < e → share (b - a) k m < e - a → line_at a b m k < e
up_before a b m k e up inside lt = let same : distance a b ≡ b - a = omega arith in rw same (grind (arith, nat_tests))

pub up_after : (a b m k e : ℕ) → a < b → a < e → e - a ≤ share (b - a) k m → e ≤ line_at a b m k
up_after a b m k e up inside le = let same : distance a b ≡ b - a = omega arith in rw same (grind (arith, nat_tests))

pub down_before : (a b m k e : ℕ) → b < a → e ≤ a → share (a - b) k m < a - e + 1 → e ≤ line_at a b m k
down_before a b m k e down inside lt = let same : distance a b ≡ a - b = omega arith in rw same (grind (arith, nat_tests))

pub down_after : (a b m k e : ℕ) → b < a → e ≤ a → 0 < e → a - e + 1 ≤ share (a - b) k m → line_at a b m k < e
down_after a b m k e down inside some le = let same : distance a b ≡ a - b = omega arith in rw same (grind (arith, nat_tests))

pub ruleset steps_inside = (lies_between, up_before, up_after, down_before, down_after)

-- ---- a level line is a row

no_share : (k m : ℕ) → share 0 k m ≡ 0
no_share k zero = div-zero (2 * k * 0 + 0)
no_share k (suc m) = (division (2 * k * 0 + suc m) (2 * suc m) 0 (suc m) (omega arith) (omega arith)).0

-- a coordinate that goes nowhere stays
stays : (a m k : ℕ) → line_at a a m k ≡ a
stays a m k =
    ap (λ (d : ℕ). toward a a (share d k m)) (let e : distance a a ≡ 0 = omega arith in e)
    ∙ ap (toward a a) (no_share k m)
    ∙ toward_none a a

-- along the longer distance each point is one step on
pub by_one : (a b k : ℕ) → k ≤ distance a b → line_at a b (distance a b) k ≡ toward a b k
by_one a b k le = sort (cases_lt 0 (distance a b)) where
  sort : (0 < distance a b) ⊎ (distance a b ≤ 0) → line_at a b (distance a b) k ≡ toward a b k
  sort (inl some) = ap (toward a b) (own_share (distance a b) k some)
  sort (inr none) =
      let first : k ≡ 0 = omega arith in
      let far : distance a b ≡ 0 = omega arith in
      ap (λ (d : ℕ). toward a b (share d k d)) far ∙ ap (toward a b) (no_share k 0) ∙ ap (toward a b) (let e : 0 ≡ k = omega arith in e)

pub back_by_one : (a b k r : ℕ) → k ≤ distance a b → b < a → r ≡ a → r - k ≡ line_at a b (distance a b) k
back_by_one a b k r le down same = here ∙ sym (by_one a b k le) where
  here : r - k ≡ toward a b k
  here = grind (arith, nat_tests)

level_is_row : (a b py x y : ℕ) → is_on_line a py b py x y ≡ is_on_row a b py x y
level_is_row a b py x y = at (is_on_row a b py x y) refl where
  n : ℕ
  n = line_len a py b py + 1

  test : ℕ → Bool
  test k = is_line_point a py b py (line_len a py b py) x y k

  far : line_len a py b py ≡ distance a b
  far = omega arith

  point : (k d : ℕ) → k < n → test (get_or (range_with_len 0 n) k d) ≡ (nat_eq x (toward a b k) && nat_eq y py)
  point k d h =
      ap test (get_or-range_with_len 0 n k d h ∙ (let e : 0 + k ≡ k = omega arith in e))
      ∙ ap (λ (m : ℕ). nat_eq x (line_at a b m k) && nat_eq y (line_at py py m k)) far
      ∙ ap (λ (t : ℕ). nat_eq x t && nat_eq y (line_at py py (distance a b) k)) (by_one a b k (omega arith))
      ∙ ap (λ (t : ℕ). nat_eq x (toward a b k) && nat_eq y t) (stays py (distance a b) k)

  hit : is_on_row a b py x y ≡ true → (distance a x < n) × ((nat_eq x (toward a b (distance a x)) && nat_eq y py) ≡ true)
  hit on = (grind (arith, nat_tests, far), grind (arith, nat_tests))

  off : (k : ℕ) → k < n → is_on_row a b py x y ≡ false → (nat_eq x (toward a b k) && nat_eq y py) ≡ false
  off k h out = let near : k ≤ distance a b = omega (arith, far) in grind (arith, nat_tests)

  at : (row : Bool) → is_on_row a b py x y ≡ row → is_on_line a py b py x y ≡ row
  at true on = list_any_at test (range_with_len 0 n) (distance a x) 0 (omega (arith, (hit on).0, length-range_with_len 0 n)) (point (distance a x) 0 (hit on).0 ∙ (hit on).1)
  at false out = list_any_none test (range_with_len 0 n) (λ k d h. let inside : k < n = omega (arith, length-range_with_len 0 n) in point k d inside ∙ off k inside out)

-- a line whose ends are level, drawn as a row
pub level_drawn : (w h x0 y0 x1 y1 g : ℕ) (old new : List ℕ) → y0 ≡ y1 → Overlays w h (is_on_row x0 x1 y0) (λ _. g) old new → Overlays w h (is_on_line x0 y0 x1 y1) (λ _. g) old new
level_drawn w h x0 y0 x1 y1 g old new level drawn = agreeing w h _ _ _ old new drawn (λ x y hx hy. sym (level_is_row x0 x1 y0 x y) ∙ ap (λ (t : ℕ). is_on_line x0 y0 x1 t x y) level)
