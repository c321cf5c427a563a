-- While nothing new comes, a live host that lacks what another holds asks for something that another holds: it wants it in time, or has no credit,
-- and then it asked for something lately.
use Rattle.std.proofs.Common.{◌≡◌, ℕ, ◌+◌, ◌<◌, ◌≤◌, List, [], ◌++◌, ◌∙◌, ap, append_assoc, arith, refl, subst, sym, ⊎_elim}
use Rattle.std.specs.Prelude.{Contains}
use Rattle.wb_progress.specs.Turns.{Terms}
use Rattle.wb_kept_progress.specs.Promises.{Holds, IsAsking, IsLate, IsStill, LackIsAsked}
use Rattle.wb_kept_progress.specs.Sessions.{Opening}
use Rattle.wb_kept_progress.specs.Timed.{AreInOrder, At, performed, time_of}
use Rattle.wb_kept_progress.specs.Whole.{Sizes, asked_within, request_span}
use Rattle.wb_kept_progress.proofs.CallParts.{lines_end}
use Rattle.wb_kept_progress.proofs.KeptInTime.{front_of}
use Rattle.wb_kept_progress.proofs.NextDue.{still_newer}
use Rattle.wb_kept_progress.proofs.WholeParts.{HasNoCredit, LackIsWanted, NoCreditIsAsked}
use Rattle.wb_keeping.specs.Laws.{KeptLine}
use Rattle.wb_member.specs.Lines.{Line}
use Rattle.wb_progress.proofs.Parts.{order_of}

module _ (no_credit : NoCreditIsAsked) (hosts : ℕ → Opening) (terms : Terms) (trace : List (At KeptLine)) (sizes : Sizes) (wait most : ℕ) (all : Holds hosts terms trace sizes wait most) (base : List (At KeptLine)) (late : IsLate terms sizes wait base)
    (i : ℕ) (live : Contains terms.live i) where
  abbrev from : ℕ
  from = time_of base + 21000000 + terms.drift + request_span terms

  abbrev by : ℕ
  by = time_of base + asked_within terms sizes

  -- it asks for what another holds, so late and by then
  abbrev IsAskedFor : List (At KeptLine) → Type 0
  IsAskedFor window = (back : List (At Line)) × IsAsking hosts terms trace (window ++ base) i back × (time_of base + request_span terms < time_of back) × (time_of back ≤ by)

  -- what is asked for in a part of a window
  widened : (front part : List (At KeptLine)) (back : List (At Line)) → IsAsking hosts terms trace (part ++ base) i back → IsAsking hosts terms trace ((front ++ part) ++ base) i back
  widened front part back a =
      let f = front_of hosts front (part ++ base) in record {
        front = f.0 ++ a.front;
        split = ap (performed hosts) (append_assoc front part base) ∙ f.1 ∙ ap (λ (t : List (At Line)). f.0 ++ t) a.split ∙ sym (append_assoc f.0 a.front back);
        name = a.name;
        ask = a.ask;
        stands = a.stands;
        held = a.held;
      }

  without : (newest front part : List (At KeptLine)) → IsStill hosts terms trace newest (front ++ part) base → from < time_of (part ++ base) → time_of (part ++ base) ≤ by
      → HasNoCredit hosts terms (part ++ base) i → IsAskedFor (front ++ part)
  without newest front part still behind soon none =
      let s = still_newer hosts terms trace newest front part base still in
      let found = no_credit hosts terms trace (newest ++ front) part base [] part sizes wait most i all s late.known live refl (omega (arith, behind)) none in
      let back = found.0 in
      let a = found.1 in
      let since = found.2 in
      let order : AreInOrder (part ++ base) = order_of (newest ++ front) (part ++ base) (subst AreInOrder s.split all.session.order) in
      let last : time_of back ≤ time_of (part ++ base) = lines_end hosts (part ++ base) a.front back order a.split in
      (back, widened front part back a, omega (arith, since, behind), omega (arith, last, soon))

pub lack_is_asked : LackIsWanted → NoCreditIsAsked → LackIsAsked
lack_is_asked wanted no_credit hosts terms trace newest window base sizes wait most i n all still late live held lacks lt =
    let first = from no_credit hosts terms trace sizes wait most all base late i live in
    let w = wanted hosts terms trace newest window base sizes wait most i first n all still late live held lacks (omega arith) (omega (arith, lt)) in
    let behind = w.behind in
    let soon = w.soon in
    ⊎_elim
    (λ (a : (back : List (At Line)) × IsAsking hosts terms trace (window ++ base) i back × (time_of back ≡ time_of (w.part ++ base))).
    let at = a.2 in
    (a.0, a.1, omega (arith, at, behind), omega (arith, at, soon)))
    (λ (none : HasNoCredit hosts terms (w.part ++ base) i).
    subst (λ (t : List (At KeptLine)). IsAskedFor no_credit hosts terms trace sizes wait most all base late i live t) (sym w.split)
    (without no_credit hosts terms trace sizes wait most all base late i live newest w.front w.part (subst (λ (t : List (At KeptLine)). IsStill hosts terms trace newest t base) w.split still) behind (omega (arith, soon)) none))
    w.wants
