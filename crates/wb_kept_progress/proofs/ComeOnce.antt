-- What was asked for and came is of distinct names.
use Rattle.std.proofs.Common.{◌≡◌, ◌+◌, Bool, true, false, cond, List, [], ◌∷◌, ◌∙◌, ap, arith, length, refl, subst, sym, true≢false, ⊎_elim}
use Rattle.std.specs.Prelude.{Contains, not}
use Rattle.std.proofs.lemmas.Bool.{and_parts, not-true}
use Rattle.std.proofs.lemmas.List.Elements.{Contains-append_right}
use Rattle.wb_names.specs.Values.{DrawopValue, NameValue}
use Rattle.wb_names.proofs.Listings.{Contains-cases, Contains-here, Contains-none, Contains-there}
use Rattle.wb_codec.specs.declared.datagram.Datagram.TheVariants.{Draw}
use Rattle.wb_keeper.proofs.KeptCalls.{holds_from}
use Rattle.wb_progress.specs.InTime.{AreApart}
use Rattle.wb_progress.proofs.Giving.{held_as}
use Rattle.wb_member.specs.Judged.{holds, is_full}
use Rattle.wb_member.specs.Opened.{Opened}
use Rattle.wb_keeping.specs.Bounds.{answer_count, is_answer}
use Rattle.wb_keeping.specs.Kept.{Arrives, Line, Says}
use Rattle.wb_keeping.specs.Performing.{after_line, after_lines, view_of}
use Rattle.wb_keeping.specs.Views as views
use Rattle.wb_kept_progress.proofs.DrawsNone.{HasNoDrawing}
use Rattle.wb_kept_progress.proofs.Lines.{line_grows, lines_grow}
use Rattle.wb_kept_progress.proofs.Repairs.{taken_in}
use Rattle.wb_kept_progress.proofs.StopCauses.{room_before}

-- ---- one line

stays_held : (line : Line) (host : Opened) (n : NameValue) → holds host n ≡ true → holds (after_line line host) n ≡ true
stays_held line host n h = let d = held_as host.is.held n h in holds_from (after_line line host).is.held n d.0 ((line_grows line host).kept d.0 d.1) d.2

lacked_first : (line : Line) (host : Opened) (n : NameValue) → holds (after_line line host) n ≡ false → holds host n ≡ false
lacked_first line host n lacks = by (holds host n) refl where
  by : (b : Bool) → holds host n ≡ b → b ≡ false
  by false e = refl
  by true e = absurd (true≢false (sym (stays_held line host n e) ∙ lacks))

-- ---- what was asked for and came

answered : (line : Line) (host : Opened) → ((d : DrawopValue) → line ≡ Says (Draw d) → ⊥) → is_answer line host ≡ true → (d : DrawopValue) × (line ≡ Arrives d) × (holds host d.name ≡ false)
answered (Arrives d) host undrawn e = (d, refl, not-true (views.holds (view_of host) d.name) (and_parts (not (views.holds (view_of host) d.name)) (views.is_asked (view_of host) d.name) e).0)
answered (Says (Draw d)) host undrawn e = absurd (undrawn d refl)
answered line host undrawn e = absurd (true≢false (sym e))

-- as many names, of which none was held before, and each is afterwards
pub record HaveCome (lines : List Line) (host : Opened) : Type 0 where
  pub names : List NameValue
  pub apart : AreApart names
  pub count : answer_count lines host ≡ length names
  pub lacked : (n : NameValue) → Contains names n → holds host n ≡ false
  pub held : (n : NameValue) → Contains names n → holds (after_lines lines host) n ≡ true

pub have_come : (lines : List Line) (host : Opened) → HasNoDrawing lines → is_full (after_lines lines host) ≡ false → HaveCome lines host
have_come [] host none room = record { names = []; apart = tt; count = refl; lacked = λ n c. absurd (Contains-none n c); held = λ n c. absurd (Contains-none n c) }
have_come (line ∷ lines) host none room = by (is_answer line host) refl (have_come lines (after_line line host) (λ d c. none d (Contains-there line (Says (Draw d)) lines c)) room) where
  undrawn : (d : DrawopValue) → line ≡ Says (Draw d) → ⊥
  undrawn d is = none d (subst (λ (l : Line). Contains (l ∷ lines) (Says (Draw d))) (sym is) (Contains-here (Says (Draw d)) lines))

  next : Opened
  next = after_line line host

  came : (d : DrawopValue) → line ≡ Arrives d → holds host d.name ≡ false → Contains next.is.held d
  came d is lacks =
      subst (λ (l : Line). Contains (after_line l host).is.held d) (sym is)
      (subst (λ (held : List DrawopValue). Contains held d) (sym (taken_in host d lacks (room_before (line ∷ lines) host (after_lines (line ∷ lines) host) refl room))) (Contains-append_right host.is.held (d ∷ []) d (Contains-here d [])))

  by : (b : Bool) → is_answer line host ≡ b → HaveCome lines next → HaveCome (line ∷ lines) host
  by false e rest = record {
    names = rest.names;
    apart = rest.apart;
    count = let none = ap (λ (b : Bool). cond b 1 0 + answer_count lines next) e in let count = rest.count in omega (arith, none, count);
    lacked = λ n c. lacked_first line host n (rest.lacked n c);
    held = rest.held;
  }
  by true e rest =
      let a = answered line host undrawn e in
      let c = came a.0 a.1 a.2 in
      record {
        names = a.0.name ∷ rest.names;
        apart = (λ again. true≢false (sym (holds_from next.is.held a.0.name a.0 c refl) ∙ rest.lacked a.0.name again), rest.apart);
        count = let one = ap (λ (b : Bool). cond b 1 0 + answer_count lines next) e in let count = rest.count in omega (arith, one, count);
        lacked = λ n d. ⊎_elim
            (λ (is : a.0.name ≡ n). subst (λ (m : NameValue). holds host m ≡ false) is a.2)
            (λ (old : Contains rest.names n). lacked_first line host n (rest.lacked n old))
            (Contains-cases a.0.name n rest.names d);
        held = λ n d. ⊎_elim
            (λ (is : a.0.name ≡ n). subst (λ (m : NameValue). holds (after_lines lines next) m ≡ true) is (holds_from (after_lines lines next).is.held a.0.name a.0 ((lines_grow lines next).kept a.0 c) refl))
            (λ (old : Contains rest.names n). rest.held n old)
            (Contains-cases a.0.name n rest.names d);
      }
