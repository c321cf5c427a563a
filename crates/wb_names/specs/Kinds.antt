-- The kinds of operations: what each does, without its fields. A key of a kind, as its number or its word, tells it.
use Rattle.std.proofs.lemmas.Bool.{and_parts}
use Rattle.std.proofs.Common.{arith}
use Rattle.std.proofs.lemmas.Bool.Decides.{nat_tests}
use Rattle.std.specs.Prelude.{◌≡◌, Bool, true, false, List, [], ◌∷◌, Option, Some, None, find, cond, refl}
use Rattle.std.specs.List.{list_all, list_any}
use Rattle.std.specs.Option.{option_map_or}
use Rattle.wb_names.specs.declared.parts.Figure.{Figure}
use Rattle.wb_names.specs.declared.parts.Figure.TheVariants.{Line, Frame}
use Rattle.wb_names.specs.declared.parts.Change.{Change}
use Rattle.wb_names.specs.declared.parts.Change.TheVariants.{Delete, Restore}
use Rattle.wb_names.specs.declared.parts.OpKind.{OpKind}
use Rattle.wb_names.specs.declared.parts.OpKind.TheVariants.{Drawn, Text, Aimed}
use Rattle.wb_names.specs.declared.parts.Op.{Op}
use Rattle.wb_names.specs.declared.parts.Op.TheVariants as ops

abbrev pub op_kind : Op → OpKind
op_kind (ops.Drawn figure s) = Drawn figure
op_kind (ops.Text x y text) = Text
op_kind (ops.Aimed change t) = Aimed change

abbrev pub op_kinds : List OpKind
op_kinds = Drawn Line ∷ Drawn Frame ∷ Text ∷ Aimed Delete ∷ Aimed Restore ∷ []

-- the kind with a key
abbrev pub kind_with : {X : Type 0} → (X → X → Bool) → (OpKind → X) → X → Option OpKind
kind_with eq key x = find (λ kind. eq x (key kind)) op_kinds

abbrev pub same_figure : Figure → Figure → Bool
same_figure Line Line = true
same_figure Frame Frame = true
same_figure figure other = false

abbrev pub same_change : Change → Change → Bool
same_change Delete Delete = true
same_change Restore Restore = true
same_change change other = false

abbrev pub same_kind : OpKind → OpKind → Bool
same_kind (Drawn figure) (Drawn f) = same_figure figure f
same_kind Text Text = true
same_kind (Aimed change) (Aimed c) = same_change change c
same_kind kind other = false

-- ---- these tests tell whether two are equal

pub same_figure-here : (f : Figure) → same_figure f f ≡ true
same_figure-here Line = refl
same_figure-here Frame = refl

pub same_figure-is : (f g : Figure) → same_figure f g ≡ true → f ≡ g
same_figure-is Line Line e = refl
same_figure-is Frame Frame e = refl
same_figure-is f g e = cc

pub same_change-here : (c : Change) → same_change c c ≡ true
same_change-here Delete = refl
same_change-here Restore = refl

pub same_change-is : (c d : Change) → same_change c d ≡ true → c ≡ d
same_change-is Delete Delete e = refl
same_change-is Restore Restore e = refl
same_change-is c d e = cc

same_kind-is : (k l : OpKind) → same_kind k l ≡ true → k ≡ l
same_kind-is (Drawn figure) (Drawn f) e = let is = same_figure-is figure f e in cc
same_kind-is Text Text e = refl
same_kind-is (Aimed change) (Aimed c) e = let is = same_change-is change c e in cc
same_kind-is k l e = cc

-- ---- kinds by a key

is_listed : (kind : OpKind) → list_any (same_kind kind) op_kinds ≡ true
is_listed (Drawn Line) = refl
is_listed (Drawn Frame) = refl
is_listed Text = refl
is_listed (Aimed Delete) = refl
is_listed (Aimed Restore) = refl

-- what all kinds of the list pass, every kind passes
pub every_kind : (test : OpKind → Bool) → list_all test op_kinds ≡ true → (kind : OpKind) → test kind ≡ true
every_kind test e kind = grind (arith, nat_tests, is_listed, and_parts, same_kind-is)

-- a key is of its kind alone
abbrev pub tells : {X : Type 0} → (X → X → Bool) → (OpKind → X) → OpKind → Bool
tells eq key kind = option_map_or (same_kind kind) (kind_with eq key (key kind)) false

-- where each key tells its kind, the kind is found by it
pub kind_with-key : {X : Type 0} (eq : X → X → Bool) (key : OpKind → X) → list_all (tells eq key) op_kinds ≡ true → (kind : OpKind) → kind_with eq key (key kind) ≡ Some kind
kind_with-key eq key e kind = known (kind_with eq key (key kind)) (every_kind (tells eq key) e kind) where
  known : (found : Option OpKind) → option_map_or (same_kind kind) found false ≡ true → found ≡ Some kind
  known None h = cc
  known (Some k) h = let is = same_kind-is kind k h in cc

-- the kind found by a key has it
pub kind_with-is : {X : Type 0} (eq : X → X → Bool) (key : OpKind → X) → ((x y : X) → eq x y ≡ true → x ≡ y) → (x : X) (kind : OpKind) → kind_with eq key x ≡ Some kind → x ≡ key kind
kind_with-is {X = X} eq key sound x kind e = sound x (key kind) (passed op_kinds e) where
  passed : (kinds : List OpKind) → find (λ k. eq x (key k)) kinds ≡ Some kind → eq x (key kind) ≡ true
  passed [] h = cc
  passed (k ∷ kinds) h = by (eq x (key k)) refl (λ g. passed kinds g) h where
    by : (b : Bool) → eq x (key k) ≡ b → (find (λ l. eq x (key l)) kinds ≡ Some kind → eq x (key kind) ≡ true) → cond b (Some k) (find (λ l. eq x (key l)) kinds) ≡ Some kind → eq x (key kind) ≡ true
    by true t more g = cc
    by false t more g = more g
