-- The echoes of a session message.
use Rattle.std.proofs.Common.{◌≡◌, ℕ, ◌+◌, ◌-◌, ◌≤◌, List, [], ◌∷◌, length, refl, ap, ◌∙◌, sym, subst, arith, eqb-true, true}
use Rattle.std.specs.Prelude.{map, Contains, Any}
use Rattle.std.specs.Cmp.{eq_by_cmp_equiv, nat_cmp_total}
use Rattle.std.specs.Ordering.{nat_cmp, eq_by_cmp}
use Rattle.std.specs.List.{AllByRecursion}
use Rattle.std.specs.List.Sorted.{IsStrictlySortedBy}
use Rattle.std.specs.Map.{keys_of}
use Rattle.std.specs.declared.cmp.Ordering.TheVariants.{Less}
use Rattle.std.proofs.lemmas.List.{length-map}
use Rattle.std.proofs.lemmas.Map.Keys.{below_from_sorted, IsDistinct-from_sorted}
use Rattle.std.proofs.lemmas.Map.Views.{Contains-from_lookup, lookup-from_Contains}
use Rattle.wb_names.specs.Ascending.{Descends}
use Rattle.wb_names.specs.ListFaults.{IsListFault}
use Rattle.wb_names.specs.Listing.{Lists}
use Rattle.wb_names.specs.declared.echo.Echo.{Echo}
use Rattle.wb_names.specs.declared.fault.ListFault.{ListFault}
use Rattle.wb_names.specs.declared.fault.ListFault.TheVariants.{TooMany, Order}
use Rattle.wb_names.proofs.Orders.{nat_ties}
use Rattle.wb_names.proofs.Listings.{Any-from_map, Contains-map}
use Rattle.wb_keeper.specs.Keeper.{KeeperCall, last_heard}
use Rattle.wb_keeper.specs.Keeping.{heard_at}
use Rattle.wb_keeper.specs.Sessions.{echo_cmp, IsEchoTo, echoes_at}
use Rattle.wb_keeper.specs.declared.keeper.Heard.{Heard}
use Rattle.wb_names.specs.declared.entries.TheConstants.{MAX_ENTRIES}

abbrev pub echo_at : ℕ → ℕ × Heard → Echo
echo_at now p = record { source = p.0; sent = p.1.sent; held = now - p.1.at }

sources_are : (now : ℕ) (heard : List (ℕ × Heard)) → map (λ (e : Echo). e.source) (echoes_at now heard) ≡ keys_of heard
sources_are now [] = refl
sources_are now (p ∷ heard) = ap (λ (xs : List ℕ). p.0 ∷ xs) (sources_are now heard)

-- they are refused for nothing
pub no_fault : (now : ℕ) (heard : List (ℕ × Heard)) (fault : ListFault) → IsStrictlySortedBy nat_cmp (keys_of heard) → length heard ≤ MAX_ENTRIES → IsListFault (map (λ (e : Echo). e.source) (echoes_at now heard)) fault → ⊥
no_fault now heard TooMany rises few h =
    let a = length-map (echoes_at now heard) (λ (e : Echo). e.source) in
    let b = length-map heard (echo_at now) in
    omega arith
no_fault now heard Order rises few h = falls (keys_of heard) rises (subst Descends (sources_are now heard) h.1) where
  falls : (xs : List ℕ) → IsStrictlySortedBy nat_cmp xs → Descends xs → ⊥
  falls xs s (k, within, le) = let lt = below_from_sorted xs k (k + 1) 0 s (omega arith) within in omega arith

rising : (now : ℕ) (heard : List (ℕ × Heard)) → IsStrictlySortedBy nat_cmp (keys_of heard) → IsStrictlySortedBy echo_cmp (echoes_at now heard)
unfolding IsStrictlySortedBy
rising now [] s = tt
rising now (p ∷ heard) s = (below heard s.0, rising now heard s.1) where
  below : (es : List (ℕ × Heard)) → AllByRecursion (λ k. nat_cmp p.0 k ≡ Less) (keys_of es) → AllByRecursion (λ e. echo_cmp (echo_at now p) e ≡ Less) (echoes_at now es)
  below [] a = tt
  below (q ∷ es) a = (a.0, below es a.1)

nat_is : (a b : ℕ) → eq_by_cmp nat_cmp a b ≡ true → a ≡ b
nat_is a b e = eqb-true a b (nat_ties a b ∙ e)

pub same_echo : (a b c : ℕ) (e : Echo) → a ≡ e.source → b ≡ e.sent → c ≡ e.held → (let x : Echo = record { source = a; sent = b; held = c } in x ≡ e)
same_echo a b c e p q r = ap (λ (n : ℕ). let x : Echo = record { source = n; sent = b; held = c } in x) p ∙ ap (λ (n : ℕ). let x : Echo = record { source = e.source; sent = n; held = c } in x) q ∙ ap (λ (n : ℕ). let x : Echo = record { source = e.source; sent = e.sent; held = n } in x) r

-- an echo to each sender that is remembered, and no other
pub echoes_heard : (me now : ℕ) (calls : List KeeperCall) (heard : List (ℕ × Heard)) → IsStrictlySortedBy nat_cmp (keys_of heard) → ((source : ℕ) → heard_at heard source ≡ last_heard me calls source) → Lists echo_cmp (IsEchoTo me calls now) (echoes_at now heard)
echoes_heard me now calls heard rises same = record {
  rising = rising now heard rises;
  members = λ e. (found e, there e);
} where
  pair : (p : ℕ × Heard) → Contains heard p → Contains heard (p.0, p.1)
  pair (k, h) c = c

  found : (e : Echo) → Contains (echoes_at now heard) e → IsEchoTo me calls now e
  found e c =
      let at : Any (λ p. echo_at now p ≡ e) heard = Any-from_map (echo_at now) heard e c in
      let p = at.1 in
      let told = sym (same p.0) ∙ lookup-from_Contains (eq_by_cmp_equiv nat_cmp_total) p.0 p.1 heard (IsDistinct-from_sorted nat_cmp (keys_of heard) rises) (pair p (at.0, at.2, at.3)) in
      (p.1, ap (λ (x : Echo). last_heard me calls x.source) (sym at.4) ∙ told, ap (λ (x : Echo). x.sent) (sym at.4), ap (λ (x : Echo). x.held) (sym at.4))

  there : (e : Echo) → IsEchoTo me calls now e → Contains (echoes_at now heard) e
  there e (h, told, sent, held) =
      let c = Contains-from_lookup nat_is e.source h heard (same e.source ∙ told) in
      let is : echo_at now (e.source, h) ≡ e = same_echo e.source h.sent (now - h.at) e refl (sym sent) (sym held) in
      Contains-map (echo_at now) heard e (c.0, (e.source, h), c.1, c.2, is)
