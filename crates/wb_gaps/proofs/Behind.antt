-- Where ranges begin that do not begin at 1, as a number is added.
use Rattle.std.proofs.Common.{◌≡◌, ℕ, Bool, true, false, cond, List, Option, ap, ◌∙◌, sym, refl}
use Rattle.std.specs.Prelude.{◌&&◌, nat_lt}
use Rattle.std.specs.BTreeMap.{is_at}
use Rattle.wb_gaps.specs.Starts.{BeginAsBefore, begins_at, is_among, is_next, start_cmp}
use Rattle.wb_gaps.specs.declared.holdings.Start.{Start}
use Rattle.wb_gaps.proofs.Starts.{start_is}

-- those of some starts that are not at 1
abbrev AreBehind : List (Start × ℕ) → List Start → Type 0
AreBehind entries behind = (s : Start) → is_among behind s ≡ (begins_at entries s && nat_lt 1 s.first)

abbrev Noted : List Start → List Start → Start → Type 0
Noted was mid start = (s : Start) → is_among mid s ≡ cond (nat_lt 1 start.first && is_at (start_cmp start) s) true (is_among was s)

none_too : (a : Bool) → (a && false) ≡ false
none_too true = refl
none_too false = refl

-- one of three: where the range begins, where one began that was taken in, or elsewhere
at_start : (l b w : Bool) → w ≡ (b && l) → cond (l && true) true w ≡ l
at_start true b w is = refl
at_start false b w is = is ∙ none_too b

elsewhere : (l w : Bool) → cond (l && false) true w ≡ w
elsewhere true w = refl
elsewhere false w = refl

module _ (old new : List (Start × ℕ)) (was mid : List Start) (start : Start) (kept : AreBehind old was) (noted : Noted was mid start) where
  pub stay_behind : (now : List Start) (next : Option Start) → BeginAsBefore old new start next → ((s : Start) → is_among now s ≡ cond (is_next next s) false (is_among mid s)) → AreBehind new now
  stay_behind now next begin gone s = by (is_next next s) refl where
    begins : (n a : Bool) → is_next next s ≡ n → is_at (start_cmp start) s ≡ a → begins_at new s ≡ cond n false (cond a true (begins_at old s))
    begins n a e f = begin s ∙ ap (λ (b : Bool). cond b false (cond (is_at (start_cmp start) s) true (begins_at old s))) e ∙ ap (λ (b : Bool). cond n false (cond b true (begins_at old s))) f

    here : (a : Bool) → is_next next s ≡ false → is_at (start_cmp start) s ≡ a → is_among now s ≡ (begins_at new s && nat_lt 1 s.first)
    here true e f =
        let same : start ≡ s = start_is start s f in
        gone s ∙ ap (λ (b : Bool). cond b false (is_among mid s)) e
        ∙ noted s
        ∙ ap (λ (b : Bool). cond (nat_lt 1 start.first && b) true (is_among was s)) f
        ∙ ap (λ (t : Start). cond (nat_lt 1 t.first && true) true (is_among was s)) same
        ∙ at_start (nat_lt 1 s.first) (begins_at old s) (is_among was s) (kept s)
        ∙ sym (ap (λ (b : Bool). b && nat_lt 1 s.first) (begins false true e f))
    here false e f =
        gone s ∙ ap (λ (b : Bool). cond b false (is_among mid s)) e
        ∙ noted s
        ∙ ap (λ (b : Bool). cond (nat_lt 1 start.first && b) true (is_among was s)) f
        ∙ elsewhere (nat_lt 1 start.first) (is_among was s)
        ∙ kept s
        ∙ sym (ap (λ (b : Bool). b && nat_lt 1 s.first) (begins false false e f))

    by : (n : Bool) → is_next next s ≡ n → is_among now s ≡ (begins_at new s && nat_lt 1 s.first)
    by true e =
        gone s ∙ ap (λ (b : Bool). cond b false (is_among mid s)) e
        ∙ sym (ap (λ (b : Bool). b && nat_lt 1 s.first) (begins true (is_at (start_cmp start) s) e refl))
    by false e = here (is_at (start_cmp start) s) e refl
