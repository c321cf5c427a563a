-- What a member gives for a call that it does, and for one that it refuses.
use Rattle.std.proofs.Common.{◌≡◌, ℕ, List, ◌++◌, true, false, Option, Some, None, Result, Ok, Err, IfOk, MatchResult, refl, sym, ap, ◌∙◌, append_assoc}
use Rattle.std.specs.Prelude.{IsTrue, is_some, map}
use Rattle.wb_names.specs.Arrivals.{Outcome}
use Rattle.wb_codec.specs.declared.datagram.Datagram.{Datagram}
use Rattle.wb_keeper.specs.declared.keep_fault.KeepFault.TheVariants as keep_faults
use Rattle.wb_keeping.specs.Calls.{became_of, doing_of}
use Rattle.wb_keeping.specs.Laws.{KeptLine, fault_of}
use Rattle.wb_keeping.specs.Performing.{IsKeptAt, Keeping, KeptValue, after_doing, sent_by_doing}
use Rattle.wb_keeping.specs.Refusing.{IsRefusedBy}
use Rattle.wb_keeping.specs.declared.kept_fault.KeptFault.{KeptFault}
use Rattle.wb_keeping.specs.declared.kept_fault.KeptFault.TheVariants as kept_faults
use Rattle.wb_c.specs.Performing.{Performs, PerformsBy, became_events}
use Rattle.wb_c.specs.Statuses.{done, is_memory, kept_status}
use Rattle.wb_c.specs.declared.event.Event.{Event}
use Rattle.wb_c.specs.declared.event.Event.TheVariants.{Sent}

abbrev fault_in : {X : Type 0} → KeptFault → Result X KeptFault → KeptFault
fault_in f (Ok x) = f
fault_in f (Err e) = e

not_memory : (e : KeptFault) → is_memory e ≡ false → e ≡ kept_faults.Host keep_faults.Memory → ⊥
not_memory e is same = absurd (let both : true ≡ false = sym (ap is_memory same) ∙ is in cc)

pub refuses_by : (X : Type 0) (line : KeptLine) (k : Keeping) (old new : KeptValue) (before : List Event) (status : ℕ) (fault : Option KeptFault) (e : KeptFault) → IsRefusedBy {X = X} fault (Err e)
    → (IsTrue (is_some fault) → new ≡ old) → is_memory e ≡ false → status ≡ kept_status e → PerformsBy fault line k old new before before status
refuses_by X line k old new before status (Some f) e is same not_so told = (told ∙ ap kept_status (ap (fault_in {X = X} f) is), same refl, refl)
refuses_by X line k old new before status None e is same not_so told = absurd (not_memory e not_so is)

pub refuses_line : (X : Type 0) {E : Type 0} (line : KeptLine) (old new : KeptValue) (before : List Event) (r : Result ℕ E) (e : KeptFault) → MatchResult r (λ status. (is_memory e ≡ false) × (status ≡ kept_status e)) (λ _. is_memory e ≡ true)
    → ((k : Keeping) → IsKeptAt old k → IsRefusedBy {X = X} (fault_of line k) (Err e)) → ((k : Keeping) → IsKeptAt old k → IsTrue (is_some (fault_of line k)) → new ≡ old)
    → IfOk r (Performs line old new before before)
refuses_line X line old new before (Ok status) e told is same = λ k at. refuses_by X line k old new before status (fault_of line k) e (is k at) (same k at) told.0 told.1
refuses_line X line old new before (Err f) e told is same = tt

-- ---- it does the call

performs_by : {X : Type 0} (x : X) (line : KeptLine) (k : Keeping) (old new : KeptValue) (before after : List Event) (sent : List Datagram) (outcome : Outcome) (fault : Option KeptFault) → IsRefusedBy {X = X} fault (Ok x)
    → sent ≡ sent_by_doing (doing_of line) k → IsKeptAt new (after_doing (doing_of line) k) → outcome ≡ became_of line k.host → after ≡ before ++ (map Sent sent ++ became_events line outcome) → PerformsBy fault line k old new before after done
performs_by x line k old new before after sent outcome None is sends at becomes all =
    (refl, at, all ∙ ap (λ (s : List Datagram). before ++ (map Sent s ++ became_events line outcome)) sends ∙ ap (λ (o : Outcome). before ++ (map Sent (sent_by_doing (doing_of line) k) ++ became_events line o)) becomes)
performs_by x line k old new before after sent outcome (Some fault) is sends at becomes all = absurd cc

-- What it sent, and then what became of a drawop, are its events.
pub performs_line : {X : Type 0} (x : X) (line : KeptLine) (old new : KeptValue) (before mid after : List Event) (sent : List Datagram) (outcome : Outcome) → ((k : Keeping) → IsKeptAt old k → IsRefusedBy {X = X} (fault_of line k) (Ok x))
    → ((k : Keeping) → IsKeptAt old k → (sent ≡ sent_by_doing (doing_of line) k) × IsKeptAt new (after_doing (doing_of line) k)) → ((k : Keeping) → IsKeptAt old k → outcome ≡ became_of line k.host)
    → mid ≡ before ++ map Sent sent → after ≡ mid ++ became_events line outcome → Performs line old new before after done
performs_line x line old new before mid after sent outcome is does becomes first rest = λ k at.
    performs_by x line k old new before after sent outcome (fault_of line k) (is k at) (does k at).0 (does k at).1 (becomes k at)
    (rest ∙ ap (λ (es : List Event). es ++ became_events line outcome) first ∙ append_assoc before (map Sent sent) (became_events line outcome))
