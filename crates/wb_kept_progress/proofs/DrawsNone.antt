-- If nobody draws by some calls, no drawing is performed.
use Rattle.std.proofs.Common.{◌≡◌, ℕ, ◌<◌, Bool, true, false, cond, List, [], ◌∷◌, ◌++◌, ◌∙◌, append_assoc, arith, subst, sym, ⊎_elim}
use Rattle.std.specs.Prelude.{Contains, nat_eq}
use Rattle.std.proofs.lemmas.List.Elements.{Contains-append_cases}
use Rattle.wb_names.specs.Values.{DrawopValue}
use Rattle.wb_names.proofs.Listings.{Contains-cases, Contains-here, Contains-none, Contains-there}
use Rattle.wb_codec.specs.declared.datagram.Datagram.TheVariants.{Draw}
use Rattle.wb_progress.specs.Turns.{Terms}
use Rattle.wb_member.specs.Opened.{Opened}
use Rattle.wb_keeping.specs.Kept.{Line, Says}
use Rattle.wb_keeping.specs.Laws.{KeptLine, doing_of, expand}
use Rattle.wb_keeping.specs.Performing.{Keeping, after_doing, after_line, sees}
use Rattle.wb_kept_progress.specs.Sessions.{Opening}
use Rattle.wb_kept_progress.specs.Timed.{AreInOrder, At, time_of}
use Rattle.wb_kept_progress.specs.Whole.{IsTimelySession, there}
use Rattle.wb_kept_progress.proofs.FirstLines.{AreLinesOf, IsLineOf, lines_of_call}
use Rattle.wb_kept_progress.proofs.Handed.{handed, performs_in}
use Rattle.wb_kept_progress.proofs.TurnsApart.{DrawsNothing}
use Rattle.wb_progress.proofs.Parts.{before_end}

-- ---- lines

abbrev pub HasNoDrawing : List Line → Type 0
HasNoDrawing lines = (d : DrawopValue) → Contains lines (Says (Draw d)) → ⊥

call_draws_none : (call : KeptLine) → DrawsNothing call → (start host : Opened) (lines : List Line) → AreLinesOf call start host lines → HasNoDrawing lines
call_draws_none call none start host [] are d c = Contains-none (Says (Draw d)) c
call_draws_none call none start host (line ∷ lines) are d c = ⊎_elim
    (λ (is : line ≡ Says (Draw d)). let a = subst (IsLineOf call start host) is are.0 in none a.0 a.1 a.2 a.3 a.4)
    (λ (later : Contains lines (Says (Draw d))). call_draws_none call none start (after_line line host) lines are.1 d later)
    (Contains-cases line (Says (Draw d)) lines c)

all_draw_none : (calls : List KeptLine) (k : Keeping) → ((call : KeptLine) → Contains calls call → DrawsNothing call) → HasNoDrawing (expand calls k)
all_draw_none [] k none d c = Contains-none (Says (Draw d)) c
all_draw_none (call ∷ calls) k none d c =
    let next = after_doing (doing_of call) k in
    let lines = (doing_of call (sees k.host) k.policy).lines in
    ⊎_elim
    (λ (now : Contains lines (Says (Draw d))). call_draws_none call (none call (Contains-here call calls)) k.host k.host lines (lines_of_call call k) d now)
    (λ (later : Contains (expand calls next) (Says (Draw d))). all_draw_none calls next (λ l c. none l (Contains-there call l calls c)) d later)
    (Contains-append_cases lines (expand calls next) (Says (Draw d)) c)

-- ---- calls

abbrev pub NoneDraws : List (At KeptLine) → Type 0
NoneDraws [] = Unit {0}
NoneDraws (e ∷ calls) = DrawsNothing e.event × NoneDraws calls

handed_draw_none : (i : ℕ) (calls : List (At KeptLine)) → NoneDraws calls → (line : KeptLine) → Contains (handed i calls) line → DrawsNothing line
handed_draw_none i [] none line c = absurd (Contains-none line c)
handed_draw_none i (e ∷ calls) none line c = by (nat_eq e.place i) (handed_draw_none i calls none.1 line) c where
  by : (b : Bool) → (Contains (handed i calls) line → DrawsNothing line) → Contains (cond b (handed i calls ++ e.event ∷ []) (handed i calls)) line → DrawsNothing line
  by false rest c = rest c
  by true rest c = ⊎_elim
      (λ (older : Contains (handed i calls) line). rest older)
      (λ (one : Contains (e.event ∷ []) line). ⊎_elim
      (λ (is : e.event ≡ line). subst DrawsNothing is none.0)
      (λ (other : Contains [] line). absurd (Contains-none line other))
      (Contains-cases e.event line [] one))
      (Contains-append_cases (handed i calls) (e.event ∷ []) line c)

pub performs_no_drawing : (hosts : ℕ → Opening) (i : ℕ) (calls base : List (At KeptLine)) → NoneDraws calls → HasNoDrawing (performs_in hosts i calls base)
performs_no_drawing hosts i calls base none = all_draw_none (handed i calls) (there hosts base i) (handed_draw_none i calls none)

-- ---- once nobody draws any more

module _ (hosts : ℕ → Opening) (terms : Terms) (trace : List (At KeptLine)) (session : IsTimelySession hosts terms trace) where
  abbrev pub AreLate : List (At KeptLine) → Type 0
  AreLate [] = Unit {0}
  AreLate (e ∷ calls) = (terms.quiet < e.time) × AreLate calls

  pub late_behind : (calls base : List (At KeptLine)) → AreInOrder (calls ++ base) → terms.quiet < time_of base → AreLate calls
  late_behind [] base order late = tt
  late_behind (e ∷ calls) base order late =
      let o = order.0 in
      let ends = before_end calls base order.1 in
      (omega (arith, o, ends, late), late_behind calls base order.1 late)

  pub late_from : (calls base : List (At KeptLine)) (first : At KeptLine) → AreInOrder (calls ++ first ∷ base) → terms.quiet < first.time → AreLate (calls ++ first ∷ [])
  late_from [] base first order late = (late, tt)
  late_from (e ∷ calls) base first order late =
      let o = order.0 in
      let ends = before_end calls (first ∷ base) order.1 in
      (omega (arith, o, ends, late), late_from calls base first order.1 late)

  pub none_draws : (newer calls base : List (At KeptLine)) → trace ≡ newer ++ (calls ++ base) → AreLate calls → NoneDraws calls
  none_draws newer [] base split late = tt
  none_draws newer (e ∷ calls) base split late = (
    λ now page time op. session.drawn newer (calls ++ base) e now page time op split late.0,
    none_draws (newer ++ e ∷ []) calls base (split ∙ sym (append_assoc newer (e ∷ []) (calls ++ base))) late.1,
  )
