-- When two origins are the same.
use Rattle.std.proofs.Common.{◌≡◌, ◌∙◌, true, ap, arith, ℕ, Option, refl, sym, true≢false}
use Rattle.std.specs.Prelude.{Some, None, nat_eq}
use Rattle.std.proofs.lemmas.Bool.{and_parts, eq-eqb, eqb-true}
use Rattle.wb_judge.specs.Origins.{same_origin, same_owner}
use Rattle.wb_judge.specs.declared.origin.Origin.{Origin}

same_owners : (a b : Option ℕ) → same_owner a b ≡ true → a ≡ b
same_owners None None e = refl
same_owners None (Some b) e = absurd (true≢false (sym e))
same_owners (Some a) None e = absurd (true≢false (sym e))
same_owners (Some a) (Some b) e = ap Some (eqb-true a b e)

-- an origin by its parts
abbrev made : ℕ → Option ℕ → Origin
made place owner = record { place = place; owner = owner }

pub same_origins : (o p : Origin) → same_origin o p ≡ true → o ≡ p
same_origins o p e =
    let parts = and_parts (nat_eq o.place p.place) (same_owner o.owner p.owner) e in
    ap (λ place. made place o.owner) (eqb-true o.place p.place parts.0) ∙ ap (made p.place) (same_owners o.owner p.owner parts.1)

itself : (a : Option ℕ) → same_owner a a ≡ true
itself None = refl
itself (Some a) = eq-eqb a a refl

pub same_itself : (o : Origin) → same_origin o o ≡ true
same_itself o = grind (arith, eq-eqb o.place o.place refl, itself o.owner)
