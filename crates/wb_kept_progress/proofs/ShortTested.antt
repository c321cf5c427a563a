-- A test of the delays of a session that computes, and what it tells: none is above a bound of its own.
use Rattle.std.proofs.Common.{◌≡◌, ℕ, ◌≤◌, Bool, true, false, ◌&&◌, cond, List, [], ◌∷◌, ◌++◌, eqb-true, nat_eq, nat_le, refl, subst, sym}
use Rattle.std.specs.Prelude.{Option, None, Some, unwrap_or}
use Rattle.std.specs.List.{find}
use Rattle.std.specs.Option.{option_or}
use Rattle.std.proofs.lemmas.Bool.{and_parts, leb-true}
use Rattle.wb_codec.specs.declared.datagram.Datagram.{Datagram}
use Rattle.wb_codec.specs.declared.datagram.Datagram.TheVariants.{Draw, Session, Request, AskPages, PageState}
use Rattle.wb_progress.specs.Turns.{Terms}
use Rattle.wb_keeper.specs.Keeper.{delay_given, delay_by, is_own, newest}
use Rattle.wb_member.specs.Judged.{delay}
use Rattle.wb_member.specs.Opened.{Opened, has_room_for, heard, may_ask, opened_with, present}
use Rattle.wb_member.specs.declared.calls.Call.TheVariants.{Hear, SetDelay, Ask}
use Rattle.wb_keeping.specs.Kept.{Line, Says, Calls}
use Rattle.wb_keeping.specs.Laws.{KeptLine, doing_of}
use Rattle.wb_keeping.specs.Performing.{Keeping, after_doing, after_line, after_lines, sees}
use Rattle.wb_keeping.proofs.KeptDelays.{AreSo, ticks_so}
use Rattle.wb_keeping.proofs.SpacedLines.{either_host, missing}
use Rattle.wb_kept_progress.specs.Sessions.{Opening}
use Rattle.wb_kept_progress.specs.Timed.{At, GoByShort, performed, start_of}
use Rattle.wb_kept_progress.specs.Whole.{there}
use Rattle.wb_kept_progress.proofs.CallLines.{host_before, lines_have_calls}

module _ (hosts : ℕ → Opening) (terms : Terms) where
  abbrev IsNear : ℕ → Type 0
  IsNear micros = micros ≤ terms.far

  -- ---- what a line tells

  abbrev is_near : Option ℕ → Bool
  is_near None = true
  is_near (Some micros) = nat_le micros terms.far

  -- the delay that an echo of this member tells in what is heard
  abbrev tells_near : (me now : ℕ) → Datagram → Bool
  tells_near me now (Session sender sent page marks echoes) = is_near (delay_by now (find (λ e. nat_eq e.source me) echoes))
  tells_near me now (Draw d) = true
  tells_near me now (Request asker name) = true
  tells_near me now (AskPages asker) = true
  tells_near me now (PageState sender page marks) = true

  abbrev line_near : Opened → Line → Bool
  line_near host (Calls (Hear v)) = tells_near host.is.number (present host) v
  line_near host (Calls (SetDelay source micros)) = nat_le micros terms.far
  line_near host line = true

  -- lines, one after the other, and those of each call
  abbrev pub told_near : List Line → Opened → Bool
  told_near [] host = true
  told_near (line ∷ lines) host = line_near host line && told_near lines (after_line line host)

  abbrev pub call_near : At KeptLine → Keeping → Bool
  call_near e k = told_near (doing_of e.event (sees k.host) k.policy).lines k.host

  abbrev pub calls_near : List (At KeptLine) → Bool
  calls_near [] = true
  calls_near (e ∷ older) = call_near e (there hosts older e.place) && calls_near older

  -- ---- what it tells of delays

  abbrev told_last : ℕ → Opened → Option ℕ
  told_last source host = newest (delay_given host.is.number source) host.is.calls

  option_near : (o : Option ℕ) → is_near o ≡ true → (host : Opened) → (source : ℕ) → IsNear (delay host source) → IsNear (unwrap_or (option_or o (told_last source host)) 100000)
  option_near None near host source so = so
  option_near (Some micros) near host source so = leb-true _ _ near

  one_of : (b : Bool) (o : Option ℕ) → is_near o ≡ true → is_near (cond b o None) ≡ true
  one_of true o near = near
  one_of false o near = refl

  none_of : (b : Bool) (o : Option ℕ) → is_near o ≡ true → is_near (cond b None o) ≡ true
  none_of true o near = refl
  none_of false o near = near

  -- what tells none leaves each delay as it was
  none_near : (b : Bool) (host : Opened) (source : ℕ) → IsNear (delay host source) → IsNear (unwrap_or (option_or (cond b None None) (told_last source host)) 100000)
  none_near true host source so = so
  none_near false host source so = so

  heard_near : (v : Datagram) (host : Opened) → tells_near host.is.number (present host) v ≡ true → AreSo IsNear host → AreSo IsNear (heard v host)
  heard_near (Session sender sent page marks echoes) host near so source =
      let own = is_own host.is.number (Session sender sent page marks echoes) in
      let told = delay_by (present host) (find (λ e. nat_eq e.source host.is.number) echoes) in
      let given = cond (nat_eq sender source) told None in
      option_near (cond own None given) (none_of own given (one_of (nat_eq sender source) told near)) host source (so source)
  heard_near (Draw d) host near so source = none_near (is_own host.is.number (Draw d)) host source (so source)
  heard_near (Request asker name) host near so source = none_near (is_own host.is.number (Request asker name)) host source (so source)
  heard_near (AskPages asker) host near so source = none_near (is_own host.is.number (AskPages asker)) host source (so source)
  heard_near (PageState sender page marks) host near so source = none_near (is_own host.is.number (PageState sender page marks)) host source (so source)

  after_near : (line : Line) (host : Opened) → line_near host line ≡ true → AreSo IsNear host → AreSo IsNear (after_line line host)
  after_near (Calls (Hear v)) host near so = either_host (AreSo IsNear) (has_room_for v host) (heard v host) host (heard_near v host near so) so
  after_near (Calls (Ask name)) host near so = either_host (AreSo IsNear) (may_ask name host) (missing name host) host (λ source. so source) so
  after_near (Calls (SetDelay source micros)) host near so = λ other. option_near (cond (nat_eq source other) (Some micros) None) (one_of (nat_eq source other) (Some micros) near) host other (so other)
  after_near (Says (Draw d)) host near so = λ source. so source
  after_near line host near so = λ source. so source

  pub all_near : (lines : List Line) (host : Opened) → told_near lines host ≡ true → AreSo IsNear host → AreSo IsNear (after_lines lines host)
  all_near [] host near so = so
  all_near (line ∷ lines) host near so =
      let p = and_parts (line_near host line) _ near in
      all_near lines (after_line line host) p.1 (after_near line host p.0 so)

  pub near_at : (one other : List Line) (line : Line) (host : Opened) → told_near (one ++ line ∷ other) host ≡ true → AreSo IsNear host → AreSo IsNear (after_lines one host)
  near_at [] other line host near so = so
  near_at (first ∷ one) other line host near so =
      let p = and_parts (line_near host first) _ near in
      near_at one other line (after_line first host) p.1 (after_near first host p.0 so)

  near_before : (newer older : List (At KeptLine)) → calls_near (newer ++ older) ≡ true → calls_near older ≡ true
  near_before [] older near = near
  near_before (e ∷ newer) older near = near_before newer older (and_parts (call_near e (there hosts (newer ++ older) e.place)) _ near).1

  module _ (unknown : 100000 ≤ terms.far) where
    are_near : (calls : List (At KeptLine)) → calls_near calls ≡ true → (i : ℕ) → AreSo IsNear (there hosts calls i).host
    are_near [] near i = ticks_so IsNear (hosts i).moments (opened_with (hosts i).constants (hosts i).number (hosts i).cells (hosts i).seed) (λ source. unknown)
    are_near (e ∷ older) near i = by (nat_eq e.place i) refl (are_near older p.1 i) where
      k : Keeping
      k = there hosts older i

      p : (call_near e (there hosts older e.place) ≡ true) × (calls_near older ≡ true)
      p = and_parts _ _ near

      by : (b : Bool) → nat_eq e.place i ≡ b → AreSo IsNear (there hosts older i).host → AreSo IsNear (cond b (after_doing (doing_of e.event) (there hosts older i)) (there hosts older i)).host
      by true here so = all_near (doing_of e.event (sees k.host) k.policy).lines k.host (subst (λ (j : ℕ). call_near e (there hosts older j) ≡ true) (eqb-true e.place i here) p.0) so
      by false apart so = so

    pub go_by_short : (trace : List (At KeptLine)) → calls_near trace ≡ true → GoByShort (λ j. start_of (hosts j)) terms (performed hosts trace)
    go_by_short trace near newer older x source split live goes =
        let c = lines_have_calls hosts trace newer x older split in
        let k = there hosts c.older c.e.place in
        let here = near_before c.newer (c.e ∷ c.older) (subst (λ (calls : List (At KeptLine)). calls_near calls ≡ true) c.split near) in
        let p = and_parts (call_near c.e k) _ here in
        let told = subst (λ (lines : List Line). told_near lines k.host ≡ true) c.lines p.0 in
        let so = near_at c.before c.later x.event k.host told (are_near c.older p.1 c.e.place) in
        let back = subst (AreSo IsNear) (sym (host_before hosts trace x older c)) so in
        back source
