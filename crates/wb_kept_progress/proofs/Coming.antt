-- Any number that one host holds and another lacks comes: a report has its top, which comes, and then it has its turn.
use Rattle.std.proofs.Common.{◌≡◌, ℕ, suc, ◌+◌, ◌<◌, ◌≤◌, Bool, true, false, List, [], ◌∷◌, ◌++◌, ◌∙◌, None, ap, append_assoc, arith, eqb-true, leb-true, length, max, refl, subst, sym, true≢false}
use Rattle.std.specs.Prelude.{◌&&◌, ◌||◌, Contains, filter, nat_eq, nat_le, not}
use Rattle.std.proofs.lemmas.List.Elements.{Contains-append_right}
use Rattle.wb_names.specs.History.{IsHeld, highest, name_of}
use Rattle.wb_names.specs.Orders.{same_name}
use Rattle.wb_names.specs.Values.{DrawopValue, MarkValue, NameValue}
use Rattle.wb_names.specs.declared.name.PageId.{PageId}
use Rattle.wb_names.proofs.Listings.{Contains-filter, Contains-here}
use Rattle.wb_names.proofs.Orders.{same_name-is}
use Rattle.wb_codec.specs.declared.datagram.Datagram.{Datagram}
use Rattle.wb_codec.specs.declared.datagram.Datagram.TheVariants.{Session}
use Rattle.wb_gaps.specs.Answers.{top_mark}
use Rattle.wb_gaps.specs.Gaps.{IsMissing}
use Rattle.wb_gaps.proofs.HeldNames.{held-by, held-from}
use Rattle.wb_gaps.proofs.Reports.{greatest_held}
use Rattle.wb_keeper.specs.Keeper.{holds}
use Rattle.wb_keeper.proofs.KeptCalls.{holds_one_more}
use Rattle.wb_progress.specs.Repairs.{asking_wait}
use Rattle.wb_member.specs.Judged.{is_full}
use Rattle.wb_member.specs.Opened.{Opened, asks_for, present}
use Rattle.wb_policy.specs.Choices.{told_names}
use Rattle.wb_keeping.specs.Kept.{came}
use Rattle.wb_keeping.specs.Laws.{Came, KeptLine, fault_of}
use Rattle.wb_keeping.specs.Performing.{Keeping, after_doing}
use Rattle.wb_policy.proofs.HeldTops.{below_top, page_there, top_held, top_told}
use Rattle.wb_policy.proofs.Reporting.{each_mark_is_told}
use Rattle.wb_kept_progress.specs.Repairs.{ComesToTell, HasCome, IsBrought, IsLost, LostCanCome, MarksComeToBeTold, host_at, repair}
use Rattle.wb_kept_progress.specs.Sessions.{AreHosts, AreSent, AreTaken, At, Opening, at, kept_at}
use Rattle.wb_kept_progress.proofs.Hearing.{report_asks, report_holds}
use Rattle.wb_kept_progress.proofs.Repairs.{asked_can_come, fine_at, idle, is_itself, moved, of_opening, places_differ, session_in_time}
use Rattle.wb_kept_progress.proofs.Turning.{answers_at, brought_behind, by_turn, comes_to_tell, count_of, in_map, not_ours, others_stay, sent_both, some_ticks, ticks_sent}
use Rattle.wb_kept_progress.proofs.Leaving.{told_of}
use Rattle.std.proofs.lemmas.Bool.{false_from_ne_true, lt-leb}
use Rattle.std.proofs.Math.Bool.{and-false}

-- ---- marks

-- what a mark tells is among the names of its report, if it is no forged number
pub named_in : (me : ℕ) (n : NameValue) (marks : List MarkValue) → n.seq < 2147483648 → Contains marks (record { source = n.source; high = n.seq }) → Contains (told_names me n.page marks) n
named_in me n marks small among = in_map (λ (m : MarkValue). name_of n.page m.source m.high) (filter p marks) mark (Contains-filter p marks mark among passes) where
  p : MarkValue → Bool
  p m = not (nat_eq m.source me && nat_le 2147483648 m.high)

  mark : MarkValue
  mark = record { source = n.source; high = n.seq }

  passes : p mark ≡ true
  passes = ap (λ (b : Bool). not (nat_eq n.source me && b)) (lt-leb 2147483648 mark.high small) ∙ ap not (and-false (nat_eq n.source me))

pub marks_come_to_be_told : MarksComeToBeTold
marks_come_to_be_told hosts older j page m taken among there =
    let k = kept_at hosts older j in
    let told = each_mark_is_told k.host.is.held (told_of k.policy) page m among there in
    let less = told.1 in
    let many = count_of hosts older j (suc told.0) in
    (some_ticks hosts older j (suc told.0), comes_to_tell hosts older j page m told.0 taken told.2 told.3, under (length (some_ticks hosts older j (suc told.0))) told.0 _ many less) where
      under : (a b c : ℕ) → a ≡ suc b → b < c → a ≤ c
      under a b c e lt = omega (arith, e, lt)

-- ---- what is missing

pub is_lacked : (held : List DrawopValue) (n : NameValue) → holds held n ≡ false → IsHeld held n.page n.source n.seq → ⊥
is_lacked held n lacks h = true≢false (sym (held-from held n.page n.source n.seq h) ∙ lacks)

-- a number below one that is held
pub missing_below : (held : List DrawopValue) (n : NameValue) (high : ℕ) → 1 ≤ n.seq → n.seq ≤ high → holds held n ≡ false → IsHeld held n.page n.source high → IsMissing held n.page [] n.source n.seq
missing_below held n high counted le lacks h =
    let most = (greatest_held held n.page n.source).bound high h in
    record { counted = counted; below = under n.seq high (highest n.page n.source held) le most; not_held = is_lacked held n lacks } where
      under : (a b c : ℕ) → a ≤ b → b ≤ c → a ≤ max c 0
      under a b c p q = omega (arith, p, q)

-- ---- the top of a source

pub has_room : (host : Opened) → length host.is.held < host.is.cells → is_full host ≡ false
has_room host lt = false_from_ne_true (nat_le host.is.cells (length host.is.held)) (λ e. let le = leb-true host.is.cells (length host.is.held) e in omega (arith, le, lt))

module _ (hosts : ℕ → Opening) (are : AreHosts hosts) where
  -- the board of a host has as many cells as ever
  pub same_cells : (lines others : List (At KeptLine)) (i : ℕ) → (host_at hosts lines i).is.cells ≡ (host_at hosts others i).is.cells
  same_cells lines others i = (of_opening hosts lines i).cells ∙ sym (of_opening hosts others i).cells

  pub same_room : (lines others : List (At KeptLine)) (i : ℕ) → (host_at hosts lines i).is.held ≡ (host_at hosts others i).is.held → is_full (host_at hosts lines i) ≡ is_full (host_at hosts others i)
  same_room lines others i e = ap (λ (h : List DrawopValue). nat_le (host_at hosts lines i).is.cells (length h)) e ∙ ap (λ (c : ℕ). nat_le c (length (host_at hosts others i).is.held)) (same_cells lines others i)

  -- A drawop that is lost comes, where it is the top of its source at the one that holds it.
  module _ (older : List (At KeptLine)) (i j : ℕ) (d : DrawopValue) (taken : AreTaken hosts older) (lost : IsLost hosts older i j d) (counted : 1 ≤ d.name.seq) (small : d.name.seq < 2147483648) (is_top : d.name.seq ≡ highest d.name.page d.name.source (host_at hosts older j).is.held) where
    abbrev k : Keeping
    k = kept_at hosts older i

    abbrev held_j : List DrawopValue
    held_j = (host_at hosts older j).is.held

    abbrev n : NameValue
    n = d.name

    abbrev mark : MarkValue
    mark = top_mark held_j n.page n.source

    differ : i ≡ j → ⊥
    differ = places_differ hosts older i j d lost

    abbrev count : ℕ
    count = suc (each_mark_is_told held_j (told_of (kept_at hosts older j).policy) n.page mark (page_there held_j d lost.held counted) (top_told held_j d lost.held counted)).0

    abbrev ticks_j : List (At KeptLine)
    ticks_j = some_ticks hosts older j count

    told : ComesToTell hosts ticks_j older j n.page mark
    told =
        let t = each_mark_is_told held_j (told_of (kept_at hosts older j).policy) n.page mark (page_there held_j d lost.held counted) (top_told held_j d lost.held counted) in
        comes_to_tell hosts older j n.page mark t.0 taken t.2 t.3

    abbrev l1 : List (At KeptLine)
    l1 = ticks_j ++ older

    here_1 : kept_at hosts l1 i ≡ k
    here_1 = others_stay hosts older j count i (λ e. differ (sym e))

    abbrev now : ℕ
    now = max (present k.host + asking_wait) k.policy.owed

    abbrev v : Datagram
    v = Session (host_at hosts older j).is.number told.moment n.page told.marks told.echoes

    abbrev l2 : List (At KeptLine)
    l2 = at i (Came now v) ∷ l1

    late : present k.host + asking_wait ≤ now
    late = omega arith

    paid : k.policy.owed ≤ now
    paid = omega arith

    in_time : fault_of (Came now v) k ≡ None
    in_time = session_in_time k now (host_at hosts older j).is.number told.moment n.page told.marks told.echoes (before (present k.host) k.policy.owed) where
      before : (a b : ℕ) → a ≤ max (a + asking_wait) b
      before a b = omega arith

    taken_2 : AreTaken hosts l2
    taken_2 = (subst (λ (x : Keeping). fault_of (Came now v) x ≡ None) (sym here_1) in_time, told.taken)

    here_2 : kept_at hosts l2 i ≡ after_doing (came now v) k
    here_2 = moved hosts l1 i (Came now v) ∙ ap (after_doing (came now v)) here_1

    there_2 : (host_at hosts l2 j).is.held ≡ held_j
    there_2 = ap (λ (x : Keeping). x.host.is.held) (idle hosts l1 (at i (Came now v)) j differ) ∙ told.same

    other : (host_at hosts older j).is.number ≡ k.host.is.number → ⊥
    other e = differ (are.distinct i j (sym (of_opening hosts older i).number ∙ sym e ∙ (of_opening hosts older j).number))

    among : Contains (told_names k.host.is.number n.page told.marks) n
    among = subst (λ (s : ℕ). Contains (told_names k.host.is.number n.page told.marks) (name_of n.page n.source s)) (sym is_top)
        (named_in k.host.is.number (name_of n.page n.source mark.high) told.marks (omega (arith, small, is_top)) told.among)

    module _ (none : asks_for n k.host ≡ false) where
      same_2 : (host_at hosts l2 i).is.held ≡ k.host.is.held
      same_2 = ap (λ (x : Keeping). x.host.is.held) here_2
          ∙ report_holds k (fine_at hosts are older taken i) (answers_at hosts older i) now late paid (host_at hosts older j).is.number told.moment n.page told.marks told.echoes other told.few n among lost.lost lost.room none

      asked_2 : asks_for n (host_at hosts l2 i) ≡ true
      asked_2 = ap (λ (x : Keeping). asks_for n x.host) here_2
          ∙ report_asks k (fine_at hosts are older taken i) (answers_at hosts older i) now late paid (host_at hosts older j).is.number told.moment n.page told.marks told.echoes other told.few n among lost.lost lost.room none

      lost_2 : IsLost hosts l2 i j d
      lost_2 = record {
        held = subst (λ (h : List DrawopValue). Contains h d) (sym there_2) lost.held;
        lost = ap (λ (h : List DrawopValue). holds h n) same_2 ∙ lost.lost;
        room = same_room l2 older i same_2 ∙ lost.room;
        known = not_ours n (host_at hosts l2 i) small;
      }

      sent_2 : AreSent hosts (at i (Came now v) ∷ ticks_j) older
      sent_2 = (told.sent, ticks_sent hosts older j count)

      by_report : (newer : List (At KeptLine)) × IsBrought hosts newer older i j d
      by_report = (
        repair i j (host_at hosts l2 i) (host_at hosts l2 j) d ++ (at i (Came now v) ∷ ticks_j),
        brought_behind hosts (repair i j (host_at hosts l2 i) (host_at hosts l2 j) d) (at i (Came now v) ∷ ticks_j) older i j d sent_2 same_2 there_2 (asked_can_come hosts l2 i j d are taken_2 lost_2 asked_2),
      )

    pub top_comes : (newer : List (At KeptLine)) × IsBrought hosts newer older i j d
    top_comes = by (asks_for n k.host) refl where
      by : (b : Bool) → asks_for n k.host ≡ b → (newer : List (At KeptLine)) × IsBrought hosts newer older i j d
      by true asked = (repair i j (host_at hosts older i) (host_at hosts older j) d, asked_can_come hosts older i j d are taken lost asked)
      by false none = by_report none

  -- ---- any of them

  has_come : (newer older : List (At KeptLine)) (i j : ℕ) (d : DrawopValue) → IsBrought hosts newer older i j d → HasCome hosts newer older i d
  has_come newer older i j d b = record {
    taken = b.taken;
    sent = b.sent;
    held = subst (λ (h : List DrawopValue). Contains h d) (sym b.held) (Contains-append_right (host_at hosts older i).is.held (d ∷ []) d (Contains-here d []));
  }

  come_behind : (newer more older : List (At KeptLine)) (i : ℕ) (d : DrawopValue) → AreSent hosts more older → HasCome hosts newer (more ++ older) i d → HasCome hosts (newer ++ more) older i d
  come_behind newer more older i d sent c =
      let e = sym (append_assoc newer more older) in
      record {
        taken = subst (AreTaken hosts) e c.taken;
        sent = sent_both hosts more older newer c.sent sent;
        held = subst (λ (lines : List (At KeptLine)). Contains (host_at hosts lines i).is.held d) e c.held;
      }

  module _ (older : List (At KeptLine)) (i j : ℕ) (d : DrawopValue) (taken : AreTaken hosts older) (counted : 1 ≤ d.name.seq) (held : Contains (host_at hosts older j).is.held d) (lacks : holds (host_at hosts older i).is.held d.name ≡ false) (room : length (host_at hosts older i).is.held + 2 ≤ (host_at hosts older i).is.cells)
      (small : highest d.name.page d.name.source (host_at hosts older j).is.held < 2147483648) where
    abbrev page : PageId
    page = d.name.page

    abbrev source : ℕ
    source = d.name.source

    abbrev top : ℕ
    top = highest page source (host_at hosts older j).is.held

    abbrev held_i : List DrawopValue
    held_i = (host_at hosts older i).is.held

    under : d.name.seq ≤ top
    under = below_top (host_at hosts older j).is.held d held counted

    d_small : d.name.seq < 2147483648
    d_small = let le = under in omega (arith, le, small)

    lost : IsLost hosts older i j d
    lost = record { held = held; lost = lacks; room = has_room (host_at hosts older i) (omega (arith, room)); known = not_ours d.name (host_at hosts older i) d_small }

    -- the drawop of the greatest number
    abbrev its_top : IsHeld (host_at hosts older j).is.held page source top
    its_top = top_held (host_at hosts older j).is.held d held counted

    abbrev t : DrawopValue
    t = its_top.1

    t_name : t.name ≡ name_of page source top
    t_name = its_top.4

    t_held : Contains (host_at hosts older j).is.held t
    t_held = (its_top.0, its_top.2, its_top.3)

    seq_of : t.name.seq ≡ top
    seq_of = ap (λ (n : NameValue). n.seq) t_name

    t_counted : 1 ≤ t.name.seq
    t_counted = let le = under in let e = seq_of in omega (arith, le, e, counted)

    t_small : t.name.seq < 2147483648
    t_small = let e = seq_of in omega (arith, e, small)

    t_top : t.name.seq ≡ highest t.name.page t.name.source (host_at hosts older j).is.held
    t_top = subst (λ (n : NameValue). n.seq ≡ highest n.page n.source (host_at hosts older j).is.held) (sym t_name) refl

    -- once the top is held, it has its turn
    by_its_turn : (lines : List (At KeptLine)) → AreTaken hosts lines → IsLost hosts lines i j d → IsHeld (host_at hosts lines i).is.held page source top → (newer : List (At KeptLine)) × HasCome hosts newer lines i d
    by_its_turn lines taken_then lost_then top_then =
        let b = by_turn hosts lines i j d are taken_then lost_then (missing_below (host_at hosts lines i).is.held d.name top counted under lost_then.lost top_then) d_small in
        (b.0, has_come b.0 lines i j d b.1)

    module _ (t_lacks : holds held_i t.name ≡ false) (differ : d.name.seq ≡ top → ⊥) where
      t_lost : IsLost hosts older i j t
      t_lost = record { held = t_held; lost = t_lacks; room = lost.room; known = not_ours t.name (host_at hosts older i) t_small }

      abbrev first : (newer : List (At KeptLine)) × IsBrought hosts newer older i j t
      first = top_comes older i j t taken t_lost t_counted t_small t_top

      abbrev more : List (At KeptLine)
      more = first.0

      b : IsBrought hosts more older i j t
      b = first.1

      other_name : same_name t.name d.name ≡ false
      other_name = false_from_ne_true (same_name t.name d.name) (λ same. differ (sym (ap (λ (n : NameValue). n.seq) (same_name-is t.name d.name same)) ∙ seq_of))

      lost_then : IsLost hosts (more ++ older) i j d
      lost_then = record {
        held = subst (λ (h : List DrawopValue). Contains h d) (sym b.kept) held;
        lost = ap (λ (h : List DrawopValue). holds h d.name) b.held ∙ holds_one_more held_i t d.name ∙ ap (λ (x : Bool). x || same_name t.name d.name) lacks ∙ other_name;
        room = has_room (host_at hosts (more ++ older) i) (fits (length held_i) (length (host_at hosts (more ++ older) i).is.held) (host_at hosts older i).is.cells (host_at hosts (more ++ older) i).is.cells (ap (λ (h : List DrawopValue). length h) b.held ∙ one_longer held_i) (same_cells (more ++ older) older i) room);
        known = not_ours d.name (host_at hosts (more ++ older) i) d_small;
      } where
        one_longer : (h : List DrawopValue) → length (h ++ t ∷ []) ≡ length h + 1
        one_longer [] = omega arith
        one_longer (x ∷ h) = let e = one_longer h in omega (arith, e)

        fits : (a b c e : ℕ) → b ≡ a + 1 → e ≡ c → a + 2 ≤ c → b < e
        fits a b c e p q r = omega (arith, p, q, r)

      top_then : IsHeld (host_at hosts (more ++ older) i).is.held page source top
      top_then =
          let there : Contains (host_at hosts (more ++ older) i).is.held t = subst (λ (h : List DrawopValue). Contains h t) (sym b.held) (Contains-append_right held_i (t ∷ []) t (Contains-here t [])) in
          (there.0, t, there.1, there.2, t_name)

      by_top : (newer : List (At KeptLine)) × HasCome hosts newer older i d
      by_top =
          let rest = by_its_turn (more ++ older) b.taken lost_then top_then in
          (rest.0 ++ more, come_behind rest.0 more older i d b.sent rest.1)

    pub comes : (newer : List (At KeptLine)) × HasCome hosts newer older i d
    comes = by (nat_eq d.name.seq top) refl (holds held_i t.name) refl where
      same : d.name.seq ≡ top → (newer : List (At KeptLine)) × HasCome hosts newer older i d
      same e = let b = top_comes older i j d taken lost counted d_small e in (b.0, has_come b.0 older i j d b.1)

      by : (b : Bool) → nat_eq d.name.seq top ≡ b → (h : Bool) → holds held_i t.name ≡ h → (newer : List (At KeptLine)) × HasCome hosts newer older i d
      by true e h f = same (eqb-true d.name.seq top e)
      by false e true f = by_its_turn older taken lost (held-by held_i page source top (ap (holds held_i) (sym t_name) ∙ f))
      by false e false f = by_top f (λ same. true≢false (sym (ap (nat_eq d.name.seq) (sym same) ∙ is_itself d.name.seq) ∙ e))

pub lost_can_come : LostCanCome
lost_can_come hosts older i j d are taken counted held lacks room small = comes hosts are older i j d taken counted held lacks room small
