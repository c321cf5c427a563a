-- What a call spends of the credit.
use Rattle.std.proofs.Common.{◌≡◌, ℕ, ◌≤◌, ◌∷◌, arith, inl, inr, ⊎_elim}
use Rattle.std.specs.Prelude.{◌⊎◌, Contains}
use Rattle.wb_names.specs.Values.{NameValue}
use Rattle.wb_policy.specs.Credit.{spent}
use Rattle.wb_member.specs.declared.calls.Call.TheVariants.{Ask}
use Rattle.wb_keeping.specs.Kept.{Calls}
use Rattle.wb_kept_progress.specs.Whole.{IsHeldBySome, there}
use Rattle.wb_kept_progress.proofs.Causes.{goes}
use Rattle.wb_kept_progress.proofs.Moments.{moment_of}
use Rattle.wb_kept_progress.proofs.AskedInCalls.{IsMore, more_differs}
use Rattle.wb_kept_progress.proofs.Courses.{IsCourse}
use Rattle.wb_kept_progress.proofs.WholeParts.{CreditIsSpent, HeldWasHeld, does}

at_most : (a b : ℕ) → a ≡ b → a ≤ b
at_most a b e = omega (arith, e)

pub credit_is_spent : HeldWasHeld → CreditIsSpent
credit_is_spent held_was hosts terms trace newer older e session split late =
    let k = there hosts older e.place in
    let next = there hosts (e ∷ older) e.place in
    let now = moment_of e.event in
    ⊎_elim
    (λ (more : IsMore k next). inr (inl (more_differs k next more)))
    (λ (c : IsCourse (λ n. IsHeldBySome hosts terms trace n) k now (does hosts e older) next). ⊎_elim
    (λ (h : (n : NameValue) × Contains (does hosts e older) (Calls (Ask n)) × IsHeldBySome hosts terms trace n). inl h)
    (λ (rest : (next.policy.owed ≡ k.policy.owed) ⊎ ((k.policy.pace.due ≤ now) × (next.policy.owed ≡ spent k.policy.owed now))). ⊎_elim
    (λ (same : next.policy.owed ≡ k.policy.owed). inr (inr (inl (at_most _ _ same))))
    (λ (one : (k.policy.pace.due ≤ now) × (next.policy.owed ≡ spent k.policy.owed now)). inr (inr (inr (one.0, at_most _ _ one.1))))
    rest)
    c.owed)
    (goes held_was hosts terms trace session newer older e split late)
