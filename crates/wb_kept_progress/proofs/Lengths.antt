-- How long datagrams are as they are spelled.
use Rattle.std.proofs.Common.{◌≡◌, ℕ, ◌+◌, ◌*◌, ◌≤◌, Bool, true, false, cond, List, [], ◌∷◌, ◌++◌, arith, length, length-append, refl}
use Rattle.std.specs.Prelude.{filter}
use Rattle.std.specs.List.{flat_map}
use Rattle.std.specs.Int.{w16, to_be_bytes}
use Rattle.wb_names.specs.Drawing.{text_of}
use Rattle.wb_names.specs.Values.{DrawopValue, MarkValue, NameValue}
use Rattle.wb_names.specs.declared.echo.Echo.{Echo}
use Rattle.wb_names.specs.declared.name.PageId.{PageId}
use Rattle.wb_names.specs.declared.parts.Op.{Op}
use Rattle.wb_names.specs.declared.parts.Op.TheVariants.{Aimed, Drawn, Text}
use Rattle.wb_codec.specs.Spelling.{echo_bytes, mark_bytes, op_bytes, spelling}
use Rattle.wb_codec.specs.declared.datagram.Datagram.{Datagram}
use Rattle.wb_codec.specs.declared.datagram.Datagram.TheVariants.{AskPages, Draw, PageState, Request, Session}
use Rattle.wb_kept_progress.specs.Traffic.{how_many}

-- ---- each of some datagrams

abbrev pub Every : {X : Type 0} → (X → Type 0) → List X → Type 0
Every P [] = Unit {0}
Every P (x ∷ xs) = P x × Every P xs

module _ {X : Type 0} (P : X → Type 0) where
  pub every_both : (one other : List X) → Every P one → Every P other → Every P (one ++ other)
  every_both [] other a b = b
  every_both (x ∷ one) other a b = (a.0, every_both one other a.1 b)

  pub every_parts : (one other : List X) → Every P (one ++ other) → Every P one × Every P other
  every_parts [] other are = (tt, are)
  every_parts (x ∷ one) other are = let rest = every_parts one other are.1 in ((are.0, rest.0), rest.1)

-- ---- bytes of many

each_wide : {X : Type 0} (f : X → List ℕ) (wide : ℕ) → ((x : X) → length (f x) ≡ wide) → (xs : List X) → length (flat_map f xs) ≡ length xs * wide
each_wide f wide is [] = omega arith
each_wide f wide is (x ∷ xs) =
    let both = length-append (f x) (flat_map f xs) in
    let one = is x in
    let rest = each_wide f wide is xs in
    omega (arith, both, one, rest)

module _ (kind : Datagram → Bool) (f : Datagram → List ℕ) (most : ℕ) where
  -- `most` bytes for each of a kind, if none has more
  pub few_bytes : (sent : List Datagram) → Every (λ v. kind v ≡ true → length (f v) ≤ most) sent → length (flat_map f (filter kind sent)) ≤ how_many kind sent * most
  few_bytes [] are = omega arith
  few_bytes (v ∷ sent) are = by (kind v) refl (few_bytes sent are.1) where
    by : (b : Bool) → kind v ≡ b → length (flat_map f (filter kind sent)) ≤ how_many kind sent * most
        → length (flat_map f (cond b (v ∷ filter kind sent) (filter kind sent))) ≤ length (cond b (v ∷ filter kind sent) (filter kind sent)) * most
    by true e rest =
        let both = length-append (f v) (flat_map f (filter kind sent)) in
        let one = are.0 e in
        omega (arith, both, one, rest)
    by false e rest = rest

  -- and exactly these, if each has `most`
  pub same_bytes : ((v : Datagram) → kind v ≡ true → length (f v) ≡ most) → (sent : List Datagram) → length (flat_map f (filter kind sent)) ≡ how_many kind sent * most
  same_bytes is [] = omega arith
  same_bytes is (v ∷ sent) = by (kind v) refl (same_bytes is sent) where
    by : (b : Bool) → kind v ≡ b → length (flat_map f (filter kind sent)) ≡ how_many kind sent * most
        → length (flat_map f (cond b (v ∷ filter kind sent) (filter kind sent))) ≡ length (cond b (v ∷ filter kind sent) (filter kind sent)) * most
    by true e rest =
        let both = length-append (f v) (flat_map f (filter kind sent)) in
        let one = is v e in
        omega (arith, both, one, rest)
    by false e rest = rest

-- ---- each kind

marks_long : (marks : List MarkValue) → length (flat_map mark_bytes marks) ≡ length marks * 8
marks_long marks = each_wide mark_bytes 8 (λ m. refl) marks

echoes_long : (echoes : List Echo) → length (flat_map echo_bytes echoes) ≡ length echoes * 20
echoes_long echoes = each_wide echo_bytes 20 (λ e. refl) echoes

pub session_long : (sender sent : ℕ) (page : PageId) (marks : List MarkValue) (echoes : List Echo) → length (spelling (Session sender sent page marks echoes)) ≡ 32 + 8 * length marks + 20 * length echoes
session_long sender sent page marks echoes =
    let ms = marks_long marks in
    let es = echoes_long echoes in
    let both = length-append (flat_map mark_bytes marks) (to_be_bytes w16 (length echoes) ++ flat_map echo_bytes echoes) in
    omega (arith, both, ms, es)

pub state_long : (sender : ℕ) (page : PageId) (marks : List MarkValue) → length (spelling (PageState sender page marks)) ≡ 22 + 8 * length marks
state_long sender page marks =
    let ms = marks_long marks in
    omega (arith, ms)

pub question_long : (asker : ℕ) → length (spelling (AskPages asker)) ≡ 12
question_long asker = refl

pub request_long : (asker : ℕ) (name : NameValue) → length (spelling (Request asker name)) ≡ 28
request_long asker name = refl

op_long : (op : Op) → length (text_of op) ≤ 64 → length (op_bytes op) ≤ 70
op_long (Drawn figure s) few = omega arith
op_long (Text x y text) few = omega (arith, few)
op_long (Aimed change t) few = omega arith

pub drawop_long : (d : DrawopValue) → length (text_of d.op) ≤ 64 → length (spelling (Draw d)) ≤ 102
drawop_long d few =
    let op = op_long d.op few in
    omega (arith, op)
