-- What refuses a call, and what becomes of a drawop that comes.
use Rattle.std.proofs.Common.{◌≡◌, ℕ, Bool, true, false, [], ◌∷◌, refl, subst, sym}
use Rattle.std.specs.Prelude.{Option, None, Some, Result, Ok, Err, not}
use Rattle.wb_names.specs.Faults.{fault_unless, first_of, value_unless}
use Rattle.wb_codec.specs.declared.datagram.Datagram.{Datagram}
use Rattle.wb_codec.specs.declared.datagram.Datagram.TheVariants.{Draw, Session, Request, AskPages, PageState}
use Rattle.wb_keeper.specs.declared.keep_fault.KeepFault.TheVariants.{BackInTime, Memory}
use Rattle.wb_member.specs.Opened.{Opened, ticked}
use Rattle.wb_keeping.specs.Refusing.{IsRefusedBy, came_as}
use Rattle.wb_keeping.specs.declared.kept_fault.KeptFault.{KeptFault}
use Rattle.wb_keeping.specs.declared.kept_fault.KeptFault.TheVariants.{Host, Listening}

pub came_later : (v : Datagram) (now : ℕ) (host : Opened) → came_as v (ticked now host) ≡ came_as v host
came_later (Draw d) now host = refl
came_later (Session sender sent page marks echoes) now host = refl
came_later (Request asker name) now host = refl
came_later (AskPages asker) now host = refl
came_later (PageState sender page marks) now host = refl

-- ---- faults

pub refused_by : {X : Type 0} (f : Option KeptFault) (e : KeptFault) (r : Result X KeptFault) → f ≡ Some e → r ≡ Err e → IsRefusedBy f r
refused_by {X} f e r is same = subst (λ (o : Option KeptFault). IsRefusedBy o r) (sym is) same

pub taken_by : {X : Type 0} (f : Option KeptFault) (x : X) → f ≡ None → IsRefusedBy f (Ok x)
taken_by {X} f x is = subst (λ (o : Option KeptFault). IsRefusedBy o (Ok x)) (sym is) tt

pub failed_by : (X : Type 0) (f : Option KeptFault) (r : Result X KeptFault) → f ≡ None → r ≡ Err (Host Memory) → IsRefusedBy f r
failed_by X f r is same = subst (λ (r : Result X KeptFault). IsRefusedBy f r) (sym same) (subst (λ (o : Option KeptFault). IsRefusedBy {X = X} o (Err (Host Memory))) (sym is) refl)

-- a value, or a fault
pub value_is : {A F : Type 0} (f : Option F) (x d : A) → Ok d ≡ value_unless f x → (f ≡ None) × (d ≡ x)
value_is {A} {F} None x d e = (refl, cc)
value_is {A} {F} (Some f) x d e = absurd cc

pub fault_is : {A F : Type 0} (f : Option F) (x : A) (e : F) → Err e ≡ value_unless f x → f ≡ Some e
fault_is {A} {F} None x e is = absurd cc
fault_is {A} {F} (Some f) x e is = cc

-- the faults of a drawing, where it does not wait
pub then_fault : (on_time waits : Bool) (f : Option KeptFault) → on_time ≡ true → waits ≡ false → first_of (first_of (fault_unless on_time (Host BackInTime) ∷ fault_unless (not waits) Listening ∷ []) ∷ f ∷ []) ≡ f
then_fault true false None a b = refl
then_fault true false (Some f) a b = refl
then_fault true true f a b = absurd cc
then_fault false waits f a b = absurd cc
