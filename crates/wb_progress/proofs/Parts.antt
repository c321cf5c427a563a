-- Parts of a trace, and times.
use Rattle.std.proofs.Common.{◌≡◌, ℕ, ◌+◌, ◌<◌, ◌≤◌, Bool, true, false, cond, List, [], ◌∷◌, ◌++◌, refl, sym, ap, ◌∙◌, subst, arith, append_assoc, inl, inr, ⊎_elim}
use Rattle.std.specs.Prelude.{◌⊎◌, Contains, nat_le}
use Rattle.wb_progress.specs.Traces.{At, time_of, AreInOrder, until}
use Rattle.std.proofs.lemmas.Bool.{le-leb, leb-false, leb-true, lt-leb}
use Rattle.std.proofs.lemmas.List.{append_cancel_right}
use Rattle.wb_names.proofs.Listings.{Contains-cases, Contains-none}

pub heads : {X : Type 0} (a b : X) (x y : List X) → a ∷ x ≡ b ∷ y → a ≡ b
heads a b x y same = cc

pub tails : {X : Type 0} (a b : X) (x y : List X) → a ∷ x ≡ b ∷ y → x ≡ y
tails a b x y same = cc

pub nil_ends : {X : Type 0} (newer : List X) (e : X) (older : List X) → ◌≡◌ {A = List X} [] (newer ++ e ∷ older) → ⊥
nil_ends [] e older same = cc
nil_ends (x ∷ newer) e older same = cc

-- of two parts of a list one is within the other
pub two_parts : {X : Type 0} (a b c d : List X) → a ++ b ≡ c ++ d → ((m : List X) × (d ≡ m ++ b)) ⊎ ((m : List X) × (b ≡ m ++ d))
two_parts [] b c d same = inr (c, same)
two_parts (x ∷ a) b [] d same = inl (x ∷ a, sym same)
two_parts (x ∷ a) b (y ∷ c) d same = two_parts a b c d (tails x y (a ++ b) (c ++ d) same)

module _ {E : Type 0} where
  pub before_end : (newer later : List (At E)) → AreInOrder (newer ++ later) → time_of later ≤ time_of (newer ++ later)
  before_end [] later order = omega arith
  before_end (e ∷ newer) later order = let r = before_end newer later order.1 in let o = order.0 in omega (arith, r, o)

  pub order_of : (newer later : List (At E)) → AreInOrder (newer ++ later) → AreInOrder later
  order_of [] later order = order
  order_of (e ∷ newer) later order = order_of newer later order.1

  -- a part that ends earlier than another is within it
  pub in_past : (newer later front base : List (At E)) → newer ++ later ≡ front ++ base → AreInOrder (newer ++ later) → time_of base < time_of later → (middle : List (At E)) × (later ≡ middle ++ base)
  in_past [] later front base same order lt = (front, same)
  in_past (e ∷ newer) later [] base same order lt =
      let le : time_of later ≤ time_of (newer ++ later) = before_end newer later order.1 in
      let o = order.0 in
      let is : e.time ≡ time_of base = ap time_of same in
      absurd (omega (arith, le, o, is, lt))
  in_past (e ∷ newer) later (y ∷ front) base same order lt = in_past newer later front base (tails e y (newer ++ later) (front ++ base) same) order.1 lt

  -- ---- the part up to a time, and behind it

  -- each turn is at this time or later
  abbrev pub AreFrom : ℕ → List (At E) → Type 0
  AreFrom s [] = Unit {0}
  AreFrom s (e ∷ es) = (s ≤ e.time) × AreFrom s es

  pub from_at : (s : ℕ) (newer older : List (At E)) → AreInOrder (newer ++ older) → s ≤ time_of older → AreFrom s newer
  from_at s [] older order le = tt
  from_at s (e ∷ newer) older order le =
      let b = before_end newer older order.1 in
      let o = order.0 in
      (omega (arith, le, b, o), from_at s newer older order.1 le)

  pub from_tail : (s : ℕ) (front back : List (At E)) → AreFrom s (front ++ back) → AreFrom s back
  from_tail s [] back h = h
  from_tail s (e ∷ front) back h = from_tail s front back h.1

  pub from_head : (s : ℕ) (front back : List (At E)) → AreFrom s (front ++ back) → AreFrom s front
  from_head s [] back h = tt
  from_head s (e ∷ front) back h = (h.0, from_head s front back h.1)

  -- a list of turns is those behind a time and those up to it
  pub record IsSplitAt (s : ℕ) (turns : List (At E)) : Type 0 where
    pub newer : List (At E)
    pub split : turns ≡ newer ++ until s turns
    pub behind : AreFrom (s + 1) newer
    pub by : time_of (until s turns) ≤ s

  pub split_at : (s : ℕ) (turns : List (At E)) → IsSplitAt s turns
  split_at s [] = record { newer = []; split = refl; behind = tt; by = omega arith }
  split_at s (e ∷ older) = from (split_at s older) (nat_le e.time s) refl where
    from : IsSplitAt s older → (b : Bool) → nat_le e.time s ≡ b → IsSplitAt s (e ∷ older)
    from rest true h = record {
      newer = [];
      split = sym (ap (λ (b : Bool). cond b (e ∷ older) (until s older)) h);
      behind = tt;
      by = subst (λ (t : List (At E)). time_of t ≤ s) (sym (ap (λ (b : Bool). cond b (e ∷ older) (until s older)) h)) (leb-true e.time s h);
    }
    from rest false h =
        let same : until s (e ∷ older) ≡ until s older = ap (λ (b : Bool). cond b (e ∷ older) (until s older)) h in
        let lt = leb-false e.time s h in
        record {
          newer = e ∷ rest.newer;
          split = ap (λ (t : List (At E)). e ∷ t) rest.split ∙ ap (λ (t : List (At E)). (e ∷ rest.newer) ++ t) (sym same);
          behind = (omega (arith, lt), rest.behind);
          by = subst (λ (t : List (At E)). time_of t ≤ s) (sym same) rest.by;
        }

  -- turns behind a time are none of the part up to it
  pub behind : (s : ℕ) (newer older : List (At E)) → AreInOrder (newer ++ older) → s < time_of older → until s (newer ++ older) ≡ until s older
  behind s [] older order lt = refl
  behind s (x ∷ newer) older order lt =
      let le = before_end newer older order.1 in
      let o = order.0 in
      ap (λ (b : Bool). cond b (x ∷ (newer ++ older)) (until s (newer ++ older))) (lt-leb x.time s (omega (arith, le, o, lt))) ∙ behind s newer older order.1 lt

  -- a part behind a time goes on from the part up to it, and so does what stands before its newest turn
  pub goes_on : (s : ℕ) (newer older : List (At E)) (e : At E) → AreInOrder (newer ++ e ∷ older) → s < e.time → (middle : List (At E)) × (older ≡ middle ++ until s (newer ++ e ∷ older))
  goes_on s newer older e order lt =
      let r = split_at s older in
      let one : until s (newer ++ e ∷ older) ≡ until s (e ∷ older) = behind s newer (e ∷ older) order lt in
      let two : until s (e ∷ older) ≡ until s older = ap (λ (b : Bool). cond b (e ∷ older) (until s older)) (lt-leb e.time s lt) in
      (r.newer, r.split ∙ ap (λ (t : List (At E)). r.newer ++ t) (sym (one ∙ two)))

  pub joined : (newer front back : List (At E)) (e : At E) (turns older : List (At E)) → turns ≡ newer ++ older → older ≡ front ++ e ∷ back → turns ≡ (newer ++ front) ++ e ∷ back
  joined newer front back e turns older split is = split ∙ ap (λ (t : List (At E)). newer ++ t) is ∙ sym (append_assoc newer front (e ∷ back))

  -- a part that ends behind a time is turns behind it, over those up to it
  pub record IsSince (s : ℕ) (turns part : List (At E)) : Type 0 where
    pub middle : List (At E)
    pub split : part ≡ middle ++ until s turns
    pub behind : AreFrom (s + 1) middle

  pub since : (s : ℕ) (turns newer part : List (At E)) → AreInOrder turns → turns ≡ newer ++ part → s < time_of part → IsSince s turns part
  since s turns newer part order split lt = record {
    middle = p.0;
    split = p.1;
    behind = from_tail (s + 1) newer p.0 (subst (AreFrom (s + 1)) (append_cancel_right r.newer (newer ++ p.0) base (sym r.split ∙ whole ∙ sym (append_assoc newer p.0 base))) r.behind);
  } where
    base : List (At E)
    base = until s turns

    r : IsSplitAt s turns
    r = split_at s turns

    p : (middle : List (At E)) × (part ≡ middle ++ base)
    p = let by = r.by in in_past newer part r.newer base (sym split ∙ r.split) (subst AreInOrder split order) (omega (arith, by, lt))

    whole : turns ≡ newer ++ (p.0 ++ base)
    whole = split ∙ ap (λ (t : List (At E)). newer ++ t) p.1

  -- an event of a part comes no later than its end
  pub no_later : (part : List (At E)) (e : At E) → AreInOrder part → Contains part e → e.time ≤ time_of part
  no_later [] e order among = absurd (Contains-none e among)
  no_later (x ∷ part) e order among = ⊎_elim
      (λ (now : x ≡ e). subst (λ (y : At E). y.time ≤ x.time) now (omega arith))
      (λ (before : Contains part e). let le = no_later part e order.1 before in let first = order.0 in omega (arith, le, first))
      (Contains-cases x e part among)

  -- a part that ends by a time is all of it up to then
  pub until_whole : (s : ℕ) (part : List (At E)) → time_of part ≤ s → until s part ≡ part
  until_whole s [] le = refl
  until_whole s (x ∷ part) le = ap (λ (b : Bool). cond b (x ∷ part) (until s part)) (le-leb x.time s le)

  -- and what stands up to then, if the next event comes later
  pub until_last : (s : ℕ) (newer older : List (At E)) (e : At E) → AreInOrder (newer ++ e ∷ older) → s < e.time → time_of older ≤ s → until s (newer ++ e ∷ older) ≡ older
  until_last s newer older e order late le =
      behind s newer (e ∷ older) order late
      ∙ ap (λ (b : Bool). cond b (e ∷ older) (until s older)) (lt-leb e.time s late)
      ∙ until_whole s older le
