-- What judged members do, self-managing members do.
use Rattle.std.proofs.Common.{◌≡◌, ℕ, ◌≤◌, List, [], ◌∷◌, ◌++◌, ◌∙◌, ap, append-nil, arith, length, map, refl, subst, sym, ⊎_elim}
use Rattle.std.specs.Prelude.{Contains, nat_eq, not}
use Rattle.wb_names.specs.declared.echo.Echo.{Echo}
use Rattle.wb_judging.proofs.Heard.{filter_of_filter}
use Rattle.std.proofs.lemmas.List.Elements.{Contains-append_cases, Contains-append_left, Contains-append_right}
use Rattle.wb_names.specs.Values.{DrawopValue}
use Rattle.wb_names.proofs.Listings.{Contains-none}
use Rattle.wb_codec.specs.declared.datagram.Datagram.{Datagram}
use Rattle.wb_codec.specs.declared.datagram.Datagram.TheVariants.{AskPages, Draw, PageState, Request, Session}
use Rattle.wb_judge.specs.Days.{time_of_day}
use Rattle.wb_member.specs.Opened.{present}
use Rattle.wb_keeping.specs.Laws.{Added, Came, KeptLine, Ticked, Tuned, after_kept, doing_of}
use Rattle.wb_keeping.specs.Performing.{Keeping, after_doing, sees, sent_by_doing}
use Rattle.wb_judging.specs.Handing.{handed, recalled, verdict_on}
use Rattle.wb_judging.specs.Judged.{Judged}
use Rattle.wb_judging.specs.declared.call.Call.{Call}
use Rattle.wb_judging.specs.declared.call.Call.TheVariants.{CameFrom, Held, Passed, UserDrew}
use Rattle.wb_judging.specs.Laws.{after_all as after_lines_judged, drawops_in, drawops_of, expanded, sends_in}
use Rattle.wb_judging.specs.Performing.{after_judged, after_kept_line, events_of}
use Rattle.wb_judging.specs.declared.record.RecordLine.{RecordLine}
use Rattle.wb_judging.proofs.AsKept.{judged_members_are_kept}
use Rattle.wb_judging.proofs.Numbers.{own_stays}
use Rattle.wb_laws_sessions.proofs.Several.{sent_performed}
use Rattle.wb_laws_machines.specs.Maps.{HasSame, IsMap, plain}
use Rattle.wb_judged_sessions.specs.Judged.{calls_of, judged, judged_map}
use Rattle.wb_judged_sessions.specs.Calls.{after_call, AreLinesTaken, brought_by, drawn_by, IsTaken, JudgedCall, plain_line, sent_by, sent_by_lines, started, Starts, Takes, Tunes}
use Rattle.wb_judged_sessions.proofs.Drawn.{DrawNone, DrawsNone, came_draws, gained_added, plain_draws, record_draws}
use Rattle.wb_judged_sessions.proofs.Plain.{of_others, plain_after, plain_came, plain_fault, plain_sent}
use Rattle.wb_judged_sessions.proofs.Sent.{line_sends}
use Rattle.wb_judged_sessions.proofs.Terms.{IsOwn, fault_none, in_range, recalled_came}
use Rattle.wb_laws_machines.specs.Honest.{IsLawful}
use Rattle.wb_laws_kept.specs.Kept.{gained_by_line, kept}
use Rattle.wb_laws_machines.specs.Machines.{AreAllTaken, after_all, drawn_by_all, gained_by_all, sent_by_all}
use Rattle.wb_laws_kept.proofs.Kept.{kept_is_lawful}
use Rattle.wb_laws_machines.proofs.Mapped.{lawful_over}
use Rattle.wb_laws_kept.specs.Calls.{Begins, Handed}

-- ---- what becomes of it

handed_all : (lines : List KeptLine) (k : Keeping) → after_all kept (map Handed lines) k ≡ after_kept lines k
handed_all [] k = refl
handed_all (line ∷ lines) k = handed_all lines (after_doing (doing_of line) k)

goes : (call : JudgedCall) (h : Judged) → after_all kept (calls_of call h) h.kept ≡ (after_call call h).kept
unfolding after_kept_line
goes (Starts start given) h =
    let first : Judged = started h.kept.host.is.number start in
    handed_all (expanded (map Held given) first) first.kept ∙ sym (judged_members_are_kept (map Held given) first).0
goes (Takes line) h = plain_after (handed line h) h.kept
goes (Tunes constants) h = refl

-- ---- what it draws

line_draws_none : (line : KeptLine) (k : Keeping) → DrawsNone line → kept.drawn (Handed line) k ≡ []
line_draws_none (Came now v) k is = refl
line_draws_none (Ticked now) k is = refl
line_draws_none (Added now page time op) k is = absurd is
line_draws_none (Tuned constants) k is = refl

lines_draw_none : (lines : List KeptLine) (k : Keeping) → DrawNone lines → drawn_by_all kept (map Handed lines) k ≡ []
lines_draw_none [] k is = refl
lines_draw_none (line ∷ lines) k is =
    ap (λ (ds : List DrawopValue). ds ++ kept.drawn (Handed line) k) (lines_draw_none lines (after_doing (doing_of line) k) is.1)
    ∙ line_draws_none line k is.0

pub line_draws : (line : Call) (h : Judged) → kept.drawn (Handed (plain_line (handed line h))) h.kept ≡ drawn_by (Takes line) h
line_draws (CameFrom now o v) h = line_draws_none (plain_line (handed (CameFrom now o v) h)) h.kept (came_draws now v (verdict_on now o v h).why)
line_draws (Passed now news) h = refl
line_draws (Held line) h = line_draws_none (plain_line (recalled (present h.kept.host) line)) h.kept (plain_draws (recalled (present h.kept.host) line) (record_draws (line ∷ []) h).0)
line_draws (UserDrew now page op) h = sym (gained_added now page (time_of_day h.judge.clock now) op h.kept)

draws : (call : JudgedCall) (h : Judged) → drawn_by_all kept (calls_of call h) h.kept ≡ drawn_by call h
draws (Starts start given) h =
    let first : Judged = started h.kept.host.is.number start in
    ap (λ (ds : List DrawopValue). ds ++ []) (lines_draw_none (expanded (map Held given) first) first.kept (record_draws given first))
draws (Takes line) h = line_draws line h
draws (Tunes constants) h = refl

-- ---- what it takes in

record_gains : (given : List RecordLine) (h : Judged) (k : Keeping) → gained_by_all kept (map Handed (expanded (map Held given) h)) k ≡ drawops_of given
record_gains [] h k = refl
record_gains (line ∷ given) h k =
    let lines = expanded (map Held given) (after_judged (Held line) h) in
    let now = present h.kept.host in
    ap (λ (ds : List DrawopValue). ds ++ gained_by_all kept (map Handed lines) (after_doing (doing_of (recalled now line)) k)) (recalled_came now line)
    ∙ ap (λ (ds : List DrawopValue). drawops_in line ++ ds) (record_gains given (after_judged (Held line) h) (after_doing (doing_of (recalled now line)) k))

gains : (call : JudgedCall) (h : Judged) (d : DrawopValue) → Contains (gained_by_all kept (calls_of call h) h.kept) d → Contains (brought_by call h) d
gains (Starts start given) h d c =
    let first : Judged = started h.kept.host.is.number start in
    subst (λ (ds : List DrawopValue). Contains ds d) (record_gains given first first.kept) c
gains (Takes line) h d c =
    subst (λ (ds : List DrawopValue). Contains ds d) (append-nil (gained_by_line (plain_line (handed line h))) ∙ plain_came (handed line h)) c
gains (Tunes constants) h d c = c

-- ---- what it sends

pub kept_sends : (line : KeptLine) (k : Keeping) → kept.sends (Handed line) k ≡ sent_by_doing (doing_of line) k
kept_sends line k = sent_performed (doing_of line (sees k.host) k.policy).lines k.host

record_sends : (given : List RecordLine) (h : Judged) → IsOwn h → AreLinesTaken (map Held given) h → (v : Datagram) → Contains (sent_by_lines (map Held given) h) v
    → Contains (sent_by_all kept (map Handed (expanded (map Held given) h)) h.kept) (plain v)
unfolding after_kept_line
record_sends [] h own taken v c = absurd (Contains-none v c)
record_sends (line ∷ given) h own taken v c =
    let next = after_judged (Held line) h in
    let one = kept.sends (Handed (handed (Held line) h)) h.kept in
    let rest = sent_by_all kept (map Handed (expanded (map Held given) next)) next.kept in
    ⊎_elim
    (λ (now : Contains (sends_in (events_of (Held line) h)) v). Contains-append_left one rest (plain v)
    (subst (λ (vs : List Datagram). Contains vs (plain v)) (sym (kept_sends (handed (Held line) h) h.kept)) (line_sends (Held line) h own taken.0 v now)))
    (λ (later : Contains (sent_by_lines (map Held given) next) v). Contains-append_right one rest (plain v) (record_sends given next (own_stays (Held line) h own) taken.1 v later))
    (Contains-append_cases (sends_in (events_of (Held line) h)) (sent_by_lines (map Held given) next) v c)

others_same : (sender : ℕ) (echoes : List Echo) → of_others sender (of_others sender echoes) ≡ of_others sender echoes
others_same sender echoes = filter_of_filter (λ (e : Echo). not (nat_eq e.source sender)) (λ (e : Echo). not (nat_eq e.source sender)) (λ (e : Echo) is. is) echoes

pub plain_twice : (v : Datagram) → plain (plain v) ≡ plain v
plain_twice (Draw d) = refl
plain_twice (Session sender sent page marks echoes) = ap (Session sender sent page marks) (others_same sender echoes)
plain_twice (Request asker name) = refl
plain_twice (AskPages asker) = refl
plain_twice (PageState sender page marks) = refl

says : (call : JudgedCall) (h : Judged) → IsOwn h → IsTaken call h → (v : Datagram) → Contains (sent_by call h) v → HasSame (sent_by_all kept (calls_of call h) h.kept) v
says (Starts start given) h own taken v c =
    let first : Judged = started h.kept.host.is.number start in (
      plain v,
      Contains-append_right (kept.sends (Begins start.opening []) h.kept) (sent_by_all kept (map Handed (expanded (map Held given) first)) first.kept) (plain v)
          (record_sends given first refl taken.1 v c),
      plain_twice v,
    )
says (Takes line) h own taken v c =
    let low = plain_line (handed line h) in (
      plain v,
      Contains-append_left (kept.sends (Handed low) h.kept) [] (plain v)
          (subst (λ (vs : List Datagram). Contains vs (plain v)) (sym (kept_sends low h.kept ∙ plain_sent (handed line h) h.kept)) (line_sends line h own taken v c)),
      plain_twice v,
    )
says (Tunes constants) h own taken v c = absurd (Contains-none v c)

-- ---- what is taken

record_taken : (given : List RecordLine) (h : Judged) → IsOwn h → AreLinesTaken (map Held given) h → AreAllTaken kept (map Handed (expanded (map Held given) h)) h.kept
unfolding after_kept_line
record_taken [] h own taken = tt
record_taken (line ∷ given) h own taken =
    (fault_none (Held line) h own taken.0, record_taken given (after_judged (Held line) h) (own_stays (Held line) h own) taken.1)

takes : (call : JudgedCall) (h : Judged) → IsOwn h → IsTaken call h → AreAllTaken kept (calls_of call h) h.kept
takes (Starts start given) h own taken =
    let first : Judged = started h.kept.host.is.number start in
    ((taken.0, tt), record_taken given first refl taken.1)
takes (Takes line) h own taken = (plain_fault (handed line h) h.kept ∙ fault_none line h own taken, tt)
takes (Tunes constants) h own taken = (in_range constants h.kept taken, tt)

-- ---- a judge has the number of its member

own_through : (lines : List Call) (h : Judged) → IsOwn h → IsOwn (after_lines_judged lines h)
own_through [] h own = own
own_through (line ∷ lines) h own = own_through lines (after_judged line h) (own_stays line h own)

stays : (call : JudgedCall) (h : Judged) → IsOwn h → IsOwn (after_call call h)
stays (Starts start given) h own = own_through (map Held given) (started h.kept.host.is.number start) refl
stays (Takes line) h own = own_stays line h own
stays (Tunes constants) h own = own

pub judged_is_map : IsMap judged kept judged_map
judged_is_map = record {
  member = λ h. refl;
  starts = λ n. refl;
  goes = goes;
  draws = draws;
  gains = gains;
  sound = λ n. refl;
  stays = stays;
  takes = takes;
  says = says;
}

few : (call : JudgedCall) (h : Judged) → length (drawn_by call h) ≤ 1
few (Starts start given) h = omega arith
few (Takes line) h = subst (λ (ds : List DrawopValue). length ds ≤ 1) (line_draws line h) (kept_is_lawful.few (Handed (plain_line (handed line h))) h.kept)
few (Tunes constants) h = omega arith

pub judged_is_lawful : IsLawful judged
judged_is_lawful = lawful_over judged_is_map kept_is_lawful few
