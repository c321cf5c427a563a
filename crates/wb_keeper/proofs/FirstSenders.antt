-- The senders that are remembered are the first, each with the last that it sent.
use Rattle.std.proofs.Common.{◌≡◌, ℕ, suc, ◌+◌, ◌<◌, ◌≤◌, Bool, true, false, cond, List, [], ◌∷◌, ◌++◌, length, take, Option, Some, None, refl, ap, ◌∙◌, sym, subst, arith, true≢false, eqb-true, ⊎_elim}
use Rattle.std.specs.Prelude.{Contains, nat_eq, nat_le, ◌||◌}
use Rattle.std.specs.List.{list_any, cons_option}
use Rattle.std.specs.Option.{option_or, option_map}
use Rattle.std.proofs.lemmas.Cmp.{nat_eq_equiv}
use Rattle.std.proofs.lemmas.Bool.{cases_lt}
use Rattle.std.proofs.lemmas.Bool.Decides.{nat_tests}
use Rattle.std.proofs.lemmas.List.{take_all, length-append, length-take-le, take-append-le, length-take}
use Rattle.std.proofs.lemmas.Map.Views.{Contains-from_any, list_any-from_Contains}
use Rattle.wb_names.proofs.Listings.{Contains-there, Contains-cases, Contains-here, Contains-none}
use Rattle.wb_keeper.specs.Keeper.{KeeperCall, session_heard, remember, senders_of, heard_by, newest, last_heard}
use Rattle.wb_keeper.specs.KeeperLaws.{all_senders, by_first, first_senders, IsLatest, FirstSendersAreEchoed}
use Rattle.wb_keeper.specs.declared.keeper.Heard.{Heard}
use Rattle.wb_names.specs.declared.entries.TheConstants.{MAX_ENTRIES}

abbrev has : List ℕ → ℕ → Bool
has xs x = list_any (nat_eq x) xs

has_more : (xs : List ℕ) (s x : ℕ) → has (xs ++ s ∷ []) x ≡ (nat_eq x s || has xs x)
has_more [] s x = refl
has_more (y ∷ xs) s x = ap (λ (b : Bool). nat_eq x y || b) (has_more xs s x) ∙ turned (nat_eq x y) (nat_eq x s) (has xs x) where
  turned : (a b c : Bool) → (a || (b || c)) ≡ (b || (a || c))
  turned true true c = refl
  turned true false c = refl
  turned false true c = refl
  turned false false c = refl

-- of the two lists the first holds the newest first, and the second all senders in the order in which they came
module _ (n : ℕ) where
  record Same (kept all : List ℕ) : Type 0 where
    any : (x : ℕ) → has kept x ≡ has (take n all) x
    len : length kept ≡ length (take n all)

  abbrev next : Bool → Bool → ℕ → List ℕ → List ℕ
  next known full s kept = cond (known || full) kept (s ∷ kept)

  abbrev next_all : Bool → ℕ → List ℕ → List ℕ
  next_all known s all = cond known all (all ++ s ∷ [])

  module _ (s : ℕ) (kept all : List ℕ) (same : Same kept all) where
    -- there is room
    in_room : length all < n → (known : Bool) → has kept s ≡ known → has all s ≡ known → (full : Bool) → full ≡ false → Same (next known full s kept) (next_all known s all)
    in_room lt true e f full g = same
    in_room lt false e f true g = absurd (true≢false g)
    in_room lt false e f false g =
        let whole : take n all ≡ all = take_all n all (omega arith) in
        let longer : length (all ++ s ∷ []) ≡ length all + 1 = length-append all (s ∷ []) in
        let more : take n (all ++ s ∷ []) ≡ all ++ s ∷ [] = take_all n (all ++ s ∷ []) (omega arith) in
        let len : length kept ≡ length all = same.len ∙ ap length whole in
        record {
          any = λ x. ap (λ (b : Bool). nat_eq x s || b) (same.any x ∙ ap (λ (xs : List ℕ). has xs x) whole) ∙ sym (has_more all s x) ∙ ap (λ (xs : List ℕ). has xs x) (sym more);
          len = grown (length kept) (length all) _ len longer ∙ ap length (sym more);
        } where
          grown : (a b c : ℕ) → a ≡ b → c ≡ b + 1 → suc a ≡ c
          grown a b c e f = omega arith

    -- there is none
    when_full : n ≤ length all → (known there : Bool) → Same (next known true s kept) (next_all there s all)
    when_full le known there = record {
      any = λ x. ap (λ (xs : List ℕ). has xs x) (stays known) ∙ same.any x ∙ ap (λ (xs : List ℕ). has xs x) (sym (taken there));
      len = ap length (stays known) ∙ same.len ∙ ap length (sym (taken there));
    } where
      stays : (b : Bool) → next b true s kept ≡ kept
      stays true = refl
      stays false = refl

      taken : (b : Bool) → take n (next_all b s all) ≡ take n all
      taken true = refl
      taken false = take-append-le n all (s ∷ []) le

    under : (a b : ℕ) → a ≡ b → b < n → nat_le n a ≡ false
    under a b e lt = grind (arith, nat_tests)

    over : (a : ℕ) → a ≡ n → nat_le n a ≡ true
    over a e = grind (arith, nat_tests)

    one_more : Same (next (has kept s) (nat_le n (length kept)) s kept) (next_all (has all s) s all)
    one_more = ⊎_elim
        (λ (lt : length all < n).
        let whole : take n all ≡ all = take_all n all (omega arith) in
        subst (λ (b : Bool). Same (next b (nat_le n (length kept)) s kept) (next_all (has all s) s all)) (sym (same.any s ∙ ap (λ (xs : List ℕ). has xs s) whole))
        (in_room lt (has all s) (same.any s ∙ ap (λ (xs : List ℕ). has xs s) whole) refl (nat_le n (length kept)) (under (length kept) (length all) (same.len ∙ ap length whole) lt)))
        (λ (le : n ≤ length all).
        subst (λ (b : Bool). Same (next (has kept s) b s kept) (next_all (has all s) s all)) (sym (over (length kept) (same.len ∙ length-take-le n all le)))
        (when_full le (has kept s) (has all s)))
        (cases_lt (length all) n)

remembered : (me : ℕ) (calls : List KeeperCall) → Same MAX_ENTRIES (senders_of me calls) (by_first (all_senders me calls))
remembered me [] = record { any = λ x. refl; len = refl }
remembered me (call ∷ calls) = from (session_heard me call) (remembered me calls) where
  from : (o : Option (ℕ × Heard)) → Same MAX_ENTRIES (senders_of me calls) (by_first (all_senders me calls))
      → Same MAX_ENTRIES (remember o (senders_of me calls)) (by_first (cons_option (option_map (λ (told : ℕ × Heard). told.0) o) (all_senders me calls)))
  from None same = same
  from (Some told) same = one_more MAX_ENTRIES told.0 (senders_of me calls) (by_first (all_senders me calls)) same

pub senders_few : (me : ℕ) (calls : List KeeperCall) → length (senders_of me calls) ≤ MAX_ENTRIES
senders_few me calls = let all = (remembered me calls).len in let few = length-take MAX_ENTRIES (by_first (all_senders me calls)) in omega (arith, all, few)

-- ---- the last that a sender sent
abbrev last_of : ℕ → List KeeperCall → ℕ → Option Heard
last_of me calls source = newest (λ call. heard_by source (session_heard me call)) calls

heard_is : (source : ℕ) (o : Option (ℕ × Heard)) (h : Heard) → heard_by source o ≡ Some h → o ≡ Some (source, h)
heard_is source None h e = cc
heard_is source (Some (s, g)) h e = from (nat_eq s source) refl e where
  from : (b : Bool) → nat_eq s source ≡ b → cond b (Some g) None ≡ Some h → (let o : Option (ℕ × Heard) = Some (s, g) in o ≡ Some (source, h))
  from true p q = let r : s ≡ source = eqb-true s source p in cc
  from false p q = cc

heard_at_once : (source : ℕ) (h : Heard) → heard_by source (Some (source, h)) ≡ Some h
heard_at_once source h = ap (λ (b : Bool). cond b (Some h) None) (nat_eq_equiv.refl source)

latest_from : (me : ℕ) (calls : List KeeperCall) (source : ℕ) (h : Heard) → last_of me calls source ≡ Some h → IsLatest me calls source h
latest_from me [] source h e = cc
latest_from me (call ∷ calls) source h e = from (latest_from me calls source h) (heard_by source (session_heard me call)) refl e where
  from : (last_of me calls source ≡ Some h → IsLatest me calls source h) → (o : Option Heard) → heard_by source (session_heard me call) ≡ o → option_or o (last_of me calls source) ≡ Some h → IsLatest me (call ∷ calls) source h
  from rest None p q = let r = rest q in record {
    newer = call ∷ r.newer;
    call = r.call;
    older = r.older;
    split = ap (λ (cs : List KeeperCall). call ∷ cs) r.split;
    heard = r.heard;
    last = λ c m. ⊎_elim (λ (is : call ≡ c). ap (λ (k : KeeperCall). heard_by source (session_heard me k)) (sym is) ∙ p) (λ (m : Contains r.newer c). r.last c m) (Contains-cases call c r.newer m);
  }
  from rest (Some g) p q = record {
    newer = [];
    call = call;
    older = calls;
    split = refl;
    heard = heard_is source (session_heard me call) h (p ∙ q);
    last = λ c m. absurd (Contains-none c m);
  }

latest_to : (me : ℕ) (newer : List KeeperCall) (call : KeeperCall) (older : List KeeperCall) (source : ℕ) (h : Heard) → session_heard me call ≡ Some (source, h)
    → ((c : KeeperCall) → Contains newer c → heard_by source (session_heard me c) ≡ None) → last_of me (newer ++ call ∷ older) source ≡ Some h
latest_to me [] call older source h told last = ap (λ o. option_or (heard_by source o) (last_of me older source)) told ∙ ap (λ (o : Option Heard). option_or o (last_of me older source)) (heard_at_once source h)
latest_to me (c ∷ newer) call older source h told last =
    ap (λ (o : Option Heard). option_or o (last_of me (newer ++ call ∷ older) source)) (last c (Contains-here c newer))
    ∙ latest_to me newer call older source h told (λ k m. last k (Contains-there c k newer m))

pub first_senders_are_echoed : FirstSendersAreEchoed
first_senders_are_echoed me calls source h = (forth, back) where
  same : has (senders_of me calls) source ≡ has (first_senders me calls) source
  same = (remembered me calls).any source

  forth : last_heard me calls source ≡ Some h → Contains (first_senders me calls) source × IsLatest me calls source h
  forth = from (has (senders_of me calls) source) refl where
    from : (b : Bool) → has (senders_of me calls) source ≡ b → cond b (last_of me calls source) None ≡ Some h → Contains (first_senders me calls) source × IsLatest me calls source h
    from true p q = (Contains-from_any eqb-true source (first_senders me calls) (sym same ∙ p), latest_from me calls source h q)
    from false p q = cc

  back : Contains (first_senders me calls) source × IsLatest me calls source h → last_heard me calls source ≡ Some h
  back (c, l) =
      ap (λ (b : Bool). cond b (last_of me calls source) None) (same ∙ list_any-from_Contains nat_eq_equiv source (first_senders me calls) c)
      ∙ ap (λ (cs : List KeeperCall). last_of me cs source) l.split
      ∙ latest_to me l.newer l.call l.older source h l.heard l.last
