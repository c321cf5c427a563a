-- What sources gave and sinks took, step after step.
use Rattle.std.proofs.Common.{◌≡◌, ℕ, List, [], ◌++◌, refl, ap, ◌∙◌, append_assoc, sym, append-nil, Option, Some, None}
use Rattle.std.specs.Io.KnownBytes.{Appends, Consumes}
use Rattle.wb_lines.specs.Output.{SendsOut}

pub Appends-then : (a b c : Option (List ℕ)) (x y : List ℕ) → Appends a b x → Appends b c y → Appends a c (x ++ y)
Appends-then None b c x y p q = tt
Appends-then (Some xs) None c x y p q = absurd p
Appends-then (Some xs) (Some ys) None x y p q = absurd q
Appends-then (Some xs) (Some ys) (Some zs) x y p q = q ∙ ap (λ (t : List ℕ). t ++ y) p ∙ append_assoc xs x y

pub Consumes-then : (a b c : Option (List ℕ)) (x y : List ℕ) → Consumes a b x → Consumes b c y → Consumes a c (x ++ y)
Consumes-then None b c x y p q = tt
Consumes-then (Some xs) None c x y p q = absurd p
Consumes-then (Some xs) (Some ys) None x y p q = absurd q
Consumes-then (Some xs) (Some ys) (Some zs) x y p q = p ∙ ap (λ (t : List ℕ). x ++ t) q ∙ sym (append_assoc x y zs)

pub Appends-none : (a : Option (List ℕ)) → Appends a a []
Appends-none None = tt
Appends-none (Some xs) = sym (append-nil xs)

pub Consumes-none : (a : Option (List ℕ)) → Consumes a a []
Consumes-none None = tt
Consumes-none (Some xs) = refl

pub SendsOut-none : (a : Option (List ℕ)) (x : List ℕ) → SendsOut a x a x []
SendsOut-none a x = ([], Appends-none a, append-nil x)

pub SendsOut-more : (a : Option (List ℕ)) (x y text : List ℕ) → y ≡ x ++ text → SendsOut a x a y text
SendsOut-more a x y text e = ([], Appends-none a, sym e)

pub SendsOut-then : (a b c : Option (List ℕ)) (x y z text more : List ℕ) → SendsOut a x b y text → SendsOut b y c z more → SendsOut a x c z (text ++ more)
SendsOut-then a b c x y z text more p q = (
  p.0 ++ q.0,
  Appends-then a b c p.0 q.0 p.1 q.1,
  sym (append_assoc x text more) ∙ ap (λ (t : List ℕ). t ++ more) p.2 ∙ append_assoc p.0 y more ∙ ap (λ (t : List ℕ). p.0 ++ t) q.2 ∙ sym (append_assoc p.0 q.0 z),
)
