-- What a result tells, once it is known whether it is an error.
use Rattle.std.proofs.Common.{◌≡◌, true, false, ap, ◌∙◌, sym, Option, None, Result, Ok, Err, true≢false}
use Rattle.std.specs.Prelude.{OnOk, OnErr, IsSome, is_err, is_some}

pub on_no_err : {T E P : Type 0} (r : Result T E) → is_err r ≡ false → OnOk r P → P
on_no_err (Ok x) e p = p
on_no_err (Err x) e p = absurd (true≢false e)

pub on_err : {T E P : Type 0} (r : Result T E) → is_err r ≡ true → OnErr r P → P
on_err (Ok x) e p = absurd (true≢false (sym e))
on_err (Err x) e p = p

pub even_on_err : {T E P : Type 0} (r : Result T E) → P → OnErr r P
even_on_err (Ok x) p = tt
even_on_err (Err x) p = p

-- of a name that is there, nothing is refused that only a name without a place is
pub on_present : {T E P X : Type 0} (r : Result T E) (o : Option X) → OnErr r (o ≡ None) → IsSome o → OnOk r P → P
on_present (Ok x) o absent some p = p
on_present (Err x) o absent some p = absurd (true≢false (sym some ∙ ap is_some absent))
