-- Each line that hosts perform belongs to a call, and what a call does stands in what they perform.
use Rattle.std.proofs.Common.{◌≡◌, ◌⊎◌, ℕ, true, false, List, [], ◌∷◌, ◌++◌, ◌∙◌, ap, append_assoc, inl, inr, refl, subst, sym, ⊎_elim}
use Rattle.std.specs.Prelude.{Contains, nat_eq}
use Rattle.std.proofs.lemmas.List.Elements.{Contains-append_left, Contains-append_right}
use Rattle.wb_names.proofs.Listings.{Contains-here}
use Rattle.wb_codec.specs.declared.datagram.Datagram.{Datagram}
use Rattle.wb_member.specs.Opened.{Opened}
use Rattle.wb_member.specs.Lines.{IsOfPolicy}
use Rattle.wb_member.specs.declared.calls.Call.{Call}
use Rattle.wb_keeping.specs.Kept.{Calls, Line}
use Rattle.wb_keeping.specs.Performing.{after_line, after_lines, sent_by_line, sent_by_lines}
use Rattle.wb_keeping.proofs.Performed.{sent_by_both}
use Rattle.wb_kept_progress.specs.Sessions.{Opening}
use Rattle.wb_kept_progress.specs.Timed.{At, host_after, performed, performed_then, start_of}
use Rattle.wb_kept_progress.specs.Whole.{there}
use Rattle.wb_kept_progress.proofs.CallParts.{host_is}
use Rattle.wb_kept_progress.proofs.FirstLines.{made_in_call}
use Rattle.wb_kept_progress.proofs.KeptInTime.{at_place, front_of, then_both, then_front}
use Rattle.wb_kept_progress.proofs.Performed.{after_all}
use Rattle.wb_kept_progress.proofs.Repairs.{is_itself}
use Rattle.wb_kept_progress.proofs.WholeParts.{IsOfCall, LinesHaveCalls, does}
use Rattle.wb_progress.proofs.Parts.{heads, tails, nil_ends}
use Rattle.wb_keeping.specs.Laws.{KeptLine}

-- ---- lists that end in others

abbrev pub Ends : List (At Line) → List (At Line) → Type 0
Ends whole part = (front : List (At Line)) × (whole ≡ front ++ part)

pub ends_both : (one other part : List (At Line)) → Ends one other → Ends other part → Ends one part
ends_both one other part a b = (a.0 ++ b.0, a.1 ∙ ap (λ (t : List (At Line)). a.0 ++ t) b.1 ∙ sym (append_assoc a.0 b.0 part))

-- ---- the call of a line

-- a line is one of those that a call performs
record IsAmong (time place : ℕ) (lines : List Line) (older : List (At Line)) (x : At Line) (back : List (At Line)) : Type 0 where
  before : List Line
  later : List Line
  split : lines ≡ before ++ x.event ∷ later
  place_is : x.place ≡ place
  time_is : x.time ≡ time
  back_is : back ≡ performed_then time place before older

newest : (time place : ℕ) (line : Line) (lines : List Line) (older front : List (At Line)) (x : At Line) (back : List (At Line)) → at_place time place line ∷ older ≡ front ++ x ∷ back → IsAmong time place (line ∷ lines) older x back ⊎ Ends older (x ∷ back)
newest time place line lines older [] x back same =
    let is = heads (at_place time place line) x older back same in
    inl (record {
      before = [];
      later = lines;
      split = ap (λ (e : At Line). e.event ∷ lines) is;
      place_is = sym (ap (λ (e : At Line). e.place) is);
      time_is = sym (ap (λ (e : At Line). e.time) is);
      back_is = sym (tails (at_place time place line) x older back same);
    })
newest time place line lines older (z ∷ front) x back same = inr (front, tails (at_place time place line) z older (front ++ x ∷ back) same)

-- it is, or was performed before
among : (time place : ℕ) (lines : List Line) (older front : List (At Line)) (x : At Line) (back : List (At Line)) → performed_then time place lines older ≡ front ++ x ∷ back → IsAmong time place lines older x back ⊎ Ends older (x ∷ back)
among time place [] older front x back same = inr (front, same)
among time place (line ∷ lines) older front x back same = ⊎_elim
    (λ (a : IsAmong time place lines (at_place time place line ∷ older) x back).
    inl (record { before = line ∷ a.before; later = a.later; split = ap (λ (ls : List Line). line ∷ ls) a.split; place_is = a.place_is; time_is = a.time_is; back_is = a.back_is }))
    (λ (w : Ends (at_place time place line ∷ older) (x ∷ back)). newest time place line lines older w.0 x back w.1)
    (among time place lines (at_place time place line ∷ older) front x back same)

pub lines_have_calls : LinesHaveCalls
lines_have_calls hosts [] front x back same = absurd (nil_ends front x back same)
lines_have_calls hosts (e ∷ older) front x back same = ⊎_elim
    (λ (a : IsAmong e.time e.place (does hosts e older) (performed hosts older) x back).
    record { newer = []; e = e; older = older; split = refl; before = a.before; later = a.later; lines = a.split; place = a.place_is; time = a.time_is; back_is = a.back_is })
    (λ (w : Ends (performed hosts older) (x ∷ back)).
    let c = lines_have_calls hosts older w.0 x back w.1 in
    record { newer = e ∷ c.newer; e = c.e; older = c.older; split = ap (λ (t : List (At KeptLine)). e ∷ t) c.split; before = c.before; later = c.later; lines = c.lines; place = c.place; time = c.time; back_is = c.back_is })
    (among e.time e.place (does hosts e older) (performed hosts older) front x back same)

-- ---- lines of a call

-- a line stands in what its call does
pub among_call : (hosts : ℕ → Opening) (trace : List (At KeptLine)) (x : At Line) (back : List (At Line)) (c : IsOfCall hosts trace x back) → Contains (does hosts c.e c.older) x.event
among_call hosts trace x back c = subst (λ (ls : List Line). Contains ls x.event) (sym c.lines) (Contains-append_right c.before (x.event ∷ c.later) x.event (Contains-here x.event c.later))

-- a policy makes each call of a member
pub made_by_policy : (hosts : ℕ → Opening) (trace : List (At KeptLine)) (front back : List (At Line)) (x : At Line) (call : Call) → performed hosts trace ≡ front ++ x ∷ back → x.event ≡ Calls call → IsOfPolicy call
made_by_policy hosts trace front back x call split is =
    let c = lines_have_calls hosts trace front x back split in
    made_in_call c.e.event (there hosts c.older c.e.place) call (subst (Contains (does hosts c.e c.older)) is (among_call hosts trace x back c))

-- what one of some lines sends, they send
pub sent_in : (lines before later : List Line) (line : Line) (host : Opened) (v : Datagram) → lines ≡ before ++ line ∷ later → Contains (sent_by_line line (after_lines before host)) v → Contains (sent_by_lines lines host) v
sent_in lines before later line host v split sent =
    let h = after_lines before host in
    let rest = sent_by_lines later (after_line line h) in
    let all : sent_by_lines lines host ≡ sent_by_lines before host ++ (sent_by_line line h ++ rest) = ap (λ (ls : List Line). sent_by_lines ls host) split ∙ sent_by_both before (line ∷ later) host in
    subst (λ (vs : List Datagram). Contains vs v) (sym all) (Contains-append_right (sent_by_lines before host) (sent_by_line line h ++ rest) v (Contains-append_left (sent_by_line line h) rest v sent))

module _ (hosts : ℕ → Opening) where
  -- a line of a call stands in what is performed
  pub line_ends : (older : List (At KeptLine)) (e : At KeptLine) (before later : List Line) (line : Line) → does hosts e older ≡ before ++ line ∷ later → Ends (performed hosts (e ∷ older)) (at_place e.time e.place line ∷ performed_then e.time e.place before (performed hosts older))
  line_ends older e before later line lines =
      let base = performed_then e.time e.place before (performed hosts older) in
      let g = then_front e.time e.place later (at_place e.time e.place line ∷ base) in
      (g.0, ap (λ (ls : List Line). performed_then e.time e.place ls (performed hosts older)) lines ∙ then_both e.time e.place before (line ∷ later) (performed hosts older) ∙ g.1)

  pub line_stands : (trace newer older : List (At KeptLine)) (e : At KeptLine) (before later : List Line) (line : Line) → trace ≡ newer ++ e ∷ older → does hosts e older ≡ before ++ line ∷ later
      → Ends (performed hosts trace) (at_place e.time e.place line ∷ performed_then e.time e.place before (performed hosts older))
  line_stands trace newer older e before later line split lines =
      let f = front_of hosts newer (e ∷ older) in
      let base = performed_then e.time e.place before (performed hosts older) in
      ends_both (performed hosts trace) (performed hosts (e ∷ older)) (at_place e.time e.place line ∷ base) (f.0, ap (performed hosts) split ∙ f.1) (line_ends older e before later line lines)

  -- as the line itself
  pub call_ends : (trace : List (At KeptLine)) (x : At Line) (back : List (At Line)) (c : IsOfCall hosts trace x back) → Ends (performed hosts (c.e ∷ c.older)) (x ∷ back)
  call_ends trace x back c =
      let f = line_ends c.older c.e c.before c.later x.event c.lines in
      (f.0, f.1 ∙ ap (λ (t : List (At Line)). f.0 ++ t) same) where
        same : at_place c.e.time c.e.place x.event ∷ performed_then c.e.time c.e.place c.before (performed hosts c.older) ≡ x ∷ back
        same = λ i. at_place (sym c.time i) (sym c.place i) x.event ∷ sym c.back_is i

  -- ---- hosts in the middle of a call

  pub host_amid : (time place : ℕ) (lines : List Line) (calls : List (At KeptLine)) → host_after (λ j. start_of (hosts j)) (performed_then time place lines (performed hosts calls)) place ≡ after_lines lines (there hosts calls place).host
  host_amid time place lines calls =
      after_all (λ j. start_of (hosts j)) time place lines (performed hosts calls) place true (is_itself place) ∙ ap (after_lines lines) (host_is hosts calls place)

  pub host_apart : (time place : ℕ) (lines : List Line) (calls : List (At KeptLine)) (i : ℕ) → nat_eq place i ≡ false → host_after (λ j. start_of (hosts j)) (performed_then time place lines (performed hosts calls)) i ≡ (there hosts calls i).host
  host_apart time place lines calls i other =
      after_all (λ j. start_of (hosts j)) time place lines (performed hosts calls) i false other ∙ host_is hosts calls i

  -- the host before a line
  pub host_before : (trace : List (At KeptLine)) (x : At Line) (back : List (At Line)) (c : IsOfCall hosts trace x back) → host_after (λ j. start_of (hosts j)) back x.place ≡ after_lines c.before (there hosts c.older c.e.place).host
  host_before trace x back c =
      ap (λ (i : ℕ). host_after (λ j. start_of (hosts j)) back i) c.place
      ∙ ap (λ (t : List (At Line)). host_after (λ j. start_of (hosts j)) t c.e.place) c.back_is
      ∙ host_amid c.e.time c.e.place c.before c.older
