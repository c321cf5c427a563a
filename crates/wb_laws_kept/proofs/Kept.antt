-- What self-managing members do, members do.
use Rattle.std.proofs.Common.{◌≡◌, ℕ, ◌≤◌, List, [], ◌∷◌, ◌++◌, ◌∙◌, ap, append-nil, arith, length, map, refl, subst, sym, ⊎_elim}
use Rattle.std.specs.Prelude.{Contains}
use Rattle.std.proofs.lemmas.List.Elements.{Contains-append_cases}
use Rattle.wb_names.specs.Values.{DrawopValue}
use Rattle.wb_names.specs.declared.name.PageId.{PageId}
use Rattle.wb_names.specs.declared.parts.Op.{Op}
use Rattle.wb_names.proofs.Listings.{Contains-cases, Contains-here, Contains-none, Contains-there}
use Rattle.wb_codec.specs.declared.datagram.Datagram.{Datagram}
use Rattle.wb_codec.specs.declared.datagram.Datagram.TheVariants.{AskPages, Draw, PageState, Request, Session}
use Rattle.wb_member.specs.Lines.{Line, Arrives, Calls, Says, after_line, ticks_at}
use Rattle.wb_member.specs.Opened.{Opened, becomes, opened_with, present, ticked}
use Rattle.wb_member.specs.declared.calls.Call.TheVariants as calls
use Rattle.wb_keeping.specs.Kept.{adds, and_then, came, drawing, drew, ends_full, ticks, timed}
use Rattle.wb_keeping.specs.Laws.{Added, Came, Ticked, Tuned, doing_of, expand}
use Rattle.wb_keeping.specs.Performing.{Keeping, sees, view_of}
use Rattle.wb_keeping.proofs.EachLine.{Each, each_both, ends_each, then_each}
use Rattle.wb_laws_sessions.specs.Members.{new_where, Does, member}
use Rattle.wb_laws_sessions.proofs.Honest.{IsGiven}
use Rattle.wb_laws_sessions.proofs.Drawn.{new_is}
use Rattle.wb_laws_kept.specs.Openings.{opened}
use Rattle.wb_laws_kept.proofs.Steps.{call_is}
use Rattle.wb_laws_kept.proofs.Honest.{came_given, moments_given, of_policy, record_given, ticks_given, timed_given}
use Rattle.wb_laws_machines.specs.Honest.{IsLawful}
use Rattle.wb_laws_kept.specs.Kept.{deeds_of, drawn_by, gained_by, kept, kept_map}
use Rattle.wb_laws_machines.specs.Machines.{AreAllTaken, drawn_by_all, gained_by_all}
use Rattle.wb_laws_machines.specs.Maps.{IsMap}
use Rattle.wb_laws_machines.proofs.Mapped.{lawful_over}
use Rattle.wb_laws_sessions.proofs.Members.{member_is_lawful, new_few}
use Rattle.wb_laws_kept.specs.Calls.{Begins, Call, drawops_in, given_lines, Handed}

-- ---- lines that draw nothing

module _ (comes : DrawopValue → Type 0) where
  one_draws : (line : Line) (host : Opened) → IsGiven comes line → member.drawn (Does line) host ≡ []
  one_draws (Says (Draw d)) host is = absurd is
  one_draws line host is = refl

  none_drawn : (lines : List Line) (host : Opened) → Each (IsGiven comes) lines → drawn_by_all member (map Does lines) host ≡ []
  none_drawn [] host each = refl
  none_drawn (line ∷ lines) host each =
      ap (λ (ds : List DrawopValue). ds ++ member.drawn (Does line) host) (none_drawn lines (after_line line host) each.1)
      ∙ one_draws line host each.0

  one_gains : (line : Line) (host : Opened) → IsGiven comes line → (d : DrawopValue) → Contains (member.gained (Does line) host) d → comes d
  one_gains (Arrives x) host is d c = subst comes (new_is x d (becomes x host) c) is
  one_gains (Says v) host is d c = absurd (Contains-none d c)
  one_gains (Calls call) host is d c = absurd (Contains-none d c)

  all_gained : (lines : List Line) (host : Opened) → Each (IsGiven comes) lines → (d : DrawopValue) → Contains (gained_by_all member (map Does lines) host) d → comes d
  all_gained [] host each d c = absurd (Contains-none d c)
  all_gained (line ∷ lines) host each d c = ⊎_elim
      (λ (now : Contains (member.gained (Does line) host) d). one_gains line host each.0 d now)
      (λ (then : Contains (gained_by_all member (map Does lines) (after_line line host)) d). all_gained lines (after_line line host) each.1 d then)
      (Contains-append_cases (member.gained (Does line) host) (gained_by_all member (map Does lines) (after_line line host)) d c)

-- ---- a drawing

module _ (now : ℕ) (page : PageId) (told : ℕ) (op : Op) (k : Keeping) where
  abbrev its : DrawopValue
  its = drawing (view_of (ticked now k.host)) page told op

  abbrev more : List Line
  more = (and_then ends_full timed (λ (lines : List Line). sees k.host (Calls (calls.Tick now) ∷ (Says (Draw its) ∷ lines))) (drew its (view_of (ticked now k.host)) k.policy)).lines

  abbrev none : DrawopValue → Type 0
  none d = ⊥

  more_given : Each (IsGiven none) more
  more_given = then_each (IsGiven none) ends_full timed (ends_each (IsGiven none) (of_policy none)) (timed_given none) (λ (lines : List Line). sees k.host (Calls (calls.Tick now) ∷ (Says (Draw its) ∷ lines))) (drew its (view_of (ticked now k.host)) k.policy)

  abbrev with_its : Opened
  with_its = after_line (Says (Draw its)) (ticked now k.host)

  adds_draws : drawn_by_all member (map Does (adds now page told op (sees k.host) k.policy).lines) k.host ≡ new_where its (becomes its (ticked now k.host))
  adds_draws =
      ap (λ (ds : List DrawopValue). (ds ++ new_where its (becomes its (ticked now k.host))) ++ []) (none_drawn none more with_its more_given)
      ∙ append-nil (new_where its (becomes its (ticked now k.host)))

  adds_gain : (d : DrawopValue) → Contains (gained_by_all member (map Does (adds now page told op (sees k.host) k.policy).lines) k.host) d → ⊥
  adds_gain d c = all_gained none more with_its more_given d c

-- ---- calls

abbrev any : DrawopValue → Type 0
any d = Unit {0}

begins_given : (comes : DrawopValue → Type 0) (first : Keeping) (moments : List ℕ) (given : List Datagram) → ((d : DrawopValue) → Contains given (Draw d) → comes d)
    → Each (IsGiven comes) (ticks_at moments ++ expand (given_lines first given) first)
begins_given comes first moments given all =
    each_both (IsGiven comes) (ticks_at moments) (expand (given_lines first given) first) (moments_given comes moments) (record_given comes (present first.host) given first all)

draws : (call : Call) (k : Keeping) → drawn_by_all member (deeds_of call k) k.host ≡ drawn_by call k
draws (Handed (Came now v)) k = none_drawn any (came now v (sees k.host) k.policy).lines k.host (came_given any now v (λ d is. tt) (sees k.host) k.policy)
draws (Handed (Ticked now)) k = none_drawn any (ticks now (sees k.host) k.policy).lines k.host (ticks_given any now (sees k.host) k.policy)
draws (Handed (Added now page told op)) k = adds_draws now page told op k
draws (Handed (Tuned constants)) k = refl
draws (Begins o given) k =
    let first : Keeping = opened k.host.is.number o in
    ap (λ (ds : List DrawopValue). ds ++ []) (none_drawn any (ticks_at o.moments ++ expand (given_lines first given) first) (opened_with o.constants k.host.is.number o.cells o.seed)
    (begins_given any first o.moments given (λ d c. tt)))

in_given : (given : List Datagram) (d : DrawopValue) → Contains given (Draw d) → Contains (drawops_in given) d
in_given [] d c = absurd (Contains-none (Draw d) c)
in_given (Draw x ∷ given) d c = ⊎_elim
    (λ (is : Draw x ≡ Draw d). let e : x ≡ d = cc in subst (Contains (x ∷ drawops_in given)) e (Contains-here x (drawops_in given)))
    (λ (later : Contains given (Draw d)). Contains-there x d (drawops_in given) (in_given given d later))
    (Contains-cases (Draw x) (Draw d) given c)
in_given (Session sender sent page marks echoes ∷ given) d c = ⊎_elim (λ (is : Session sender sent page marks echoes ≡ Draw d). absurd cc) (λ (later : Contains given (Draw d)). in_given given d later) (Contains-cases (Session sender sent page marks echoes) (Draw d) given c)
in_given (Request asker name ∷ given) d c = ⊎_elim (λ (is : Request asker name ≡ Draw d). absurd cc) (λ (later : Contains given (Draw d)). in_given given d later) (Contains-cases (Request asker name) (Draw d) given c)
in_given (AskPages asker ∷ given) d c = ⊎_elim (λ (is : AskPages asker ≡ Draw d). absurd cc) (λ (later : Contains given (Draw d)). in_given given d later) (Contains-cases (AskPages asker) (Draw d) given c)
in_given (PageState sender page marks ∷ given) d c = ⊎_elim (λ (is : PageState sender page marks ≡ Draw d). absurd cc) (λ (later : Contains given (Draw d)). in_given given d later) (Contains-cases (PageState sender page marks) (Draw d) given c)

gains : (call : Call) (k : Keeping) (d : DrawopValue) → Contains (gained_by_all member (deeds_of call k) k.host) d → Contains (gained_by call) d
gains (Handed (Came now v)) k d c =
    all_gained (Contains (gained_by (Handed (Came now v)))) (came now v (sees k.host) k.policy).lines k.host
    (came_given (Contains (gained_by (Handed (Came now v)))) now v
    (λ x is. subst (λ (w : Datagram). Contains (gained_by (Handed (Came now w))) x) (sym is) (Contains-here x [])) (sees k.host) k.policy) d c
gains (Handed (Ticked now)) k d c = absurd (all_gained (λ x. ⊥) (ticks now (sees k.host) k.policy).lines k.host (ticks_given (λ x. ⊥) now (sees k.host) k.policy) d c)
gains (Handed (Added now page told op)) k d c = absurd (adds_gain now page told op k d c)
gains (Handed (Tuned constants)) k d c = absurd (Contains-none d c)
gains (Begins o given) k d c =
    let first : Keeping = opened k.host.is.number o in
    all_gained (Contains (drawops_in given)) (ticks_at o.moments ++ expand (given_lines first given) first) (opened_with o.constants k.host.is.number o.cells o.seed)
    (begins_given (Contains (drawops_in given)) first o.moments given (in_given given)) d c

lines_taken : (lines : List Line) (host : Opened) → AreAllTaken member (map Does lines) host
lines_taken [] host = tt
lines_taken (line ∷ lines) host = (tt, lines_taken lines (after_line line host))

takes : (call : Call) (k : Keeping) → kept.IsTaken call k → AreAllTaken member (deeds_of call k) k.host
takes (Handed line) k taken = lines_taken (doing_of line (sees k.host) k.policy).lines k.host
takes (Begins o given) k taken =
    let first : Keeping = opened k.host.is.number o in
    (taken.0.small, lines_taken (ticks_at o.moments ++ expand (given_lines first given) first) (opened_with o.constants k.host.is.number o.cells o.seed))

pub kept_is_map : IsMap kept member kept_map
kept_is_map = record {
  member = λ k. refl;
  starts = λ n. refl;
  goes = call_is;
  draws = draws;
  gains = gains;
  sound = λ n. tt;
  stays = λ call k is. tt;
  takes = λ call k is taken. takes call k taken;
  says = λ call k is taken v c. (v, c, refl);
}

pub few : (call : Call) (k : Keeping) → length (drawn_by call k) ≤ 1
few (Begins o given) k = omega arith
few (Handed (Came now v)) k = omega arith
few (Handed (Ticked now)) k = omega arith
few (Handed (Added now page told op)) k = new_few (its now page told op k) (becomes (its now page told op k) (ticked now k.host))
few (Handed (Tuned constants)) k = omega arith

pub kept_is_lawful : IsLawful kept
kept_is_lawful = lawful_over kept_is_map member_is_lawful few
