-- Bytes that a sink takes, a part at a time.
use Rattle.std.proofs.Common.{◌≡◌, ℕ, ◌+◌, ◌-◌, ◌≤◌, List, ◌++◌, length, take, drop, ap, ◌∙◌, sym, subst, arith, append_assoc, length-drop}
use Rattle.std.proofs.Math.Seq.{take-add}
use Rattle.std.specs.Prelude.{Option, Some, None}
use Rattle.std.specs.Io.KnownBytes.{Appends}
use Rattle.std.proofs.lemmas.List.{take_rest}
use Rattle.wb_names.specs.Stream.{Pushes}

appends_then : (a b c : Option (List ℕ)) (x y : List ℕ) → Appends a b x → Appends b c y → Appends a c (x ++ y)
appends_then None b c x y p q = tt
appends_then (Some xs) None c x y p q = absurd p
appends_then (Some xs) (Some ys) None x y p q = absurd q
appends_then (Some xs) (Some ys) (Some zs) x y p q = q ∙ ap (λ (t : List ℕ). t ++ y) p ∙ append_assoc xs x y

-- a sink that took the first bytes takes some more
pub sent_more : (a b c : Option (List ℕ)) (bytes : List ℕ) (sent n : ℕ) → sent ≤ length bytes → Appends a b (take sent bytes) → Pushes b c (Some n) (take (length bytes - sent) (drop sent bytes)) → (sent + n ≤ length bytes) × Appends a c (take (sent + n) bytes)
sent_more a b c bytes sent n within first next =
    let rest : take (length bytes - sent) (drop sent bytes) ≡ drop sent bytes = take_rest bytes sent in
    let few : n ≤ length (drop sent bytes) = subst (λ (t : List ℕ). n ≤ length t) rest next.1 in
    let taken : Appends b c (take n (drop sent bytes)) = subst (λ (t : List ℕ). Appends b c (take n t)) rest next.2 in
    (omega (arith, length-drop sent bytes), subst (λ (t : List ℕ). Appends a c t) (sym (take-add sent n bytes)) (appends_then a b c (take sent bytes) (take n (drop sent bytes)) first taken))
