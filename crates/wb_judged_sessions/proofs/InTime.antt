-- What judged members send comes in time.
use Rattle.std.proofs.Common.{◌≡◌, ◌+◌, ◌<◌, ◌≤◌, ℕ, Bool, true, false, List, [], ◌∷◌, ◌++◌, ◌∙◌, None, ap, append_assoc, arith, inl, inr, refl, subst, sym}
use Rattle.std.specs.Prelude.{◌≢◌, ◌⊎◌, Contains, Option, Some}
use Rattle.std.proofs.lemmas.List.{append_cancel_right}
use Rattle.wb_names.specs.declared.echo.Echo.{Echo}
use Rattle.wb_names.specs.declared.name.PageId.{PageId}
use Rattle.wb_names.specs.declared.parts.Op.{Op}
use Rattle.wb_names.proofs.Listings.{Contains-map, Contains-none}
use Rattle.wb_codec.specs.declared.datagram.Datagram.{Datagram}
use Rattle.wb_codec.specs.declared.datagram.Datagram.TheVariants.{AskPages, Draw, PageState, Request, Session}
use Rattle.wb_judge.specs.Aliens.{alien_at}
use Rattle.wb_judge.specs.Adding.{own_echo}
use Rattle.wb_judge.specs.declared.origin.Origin.{Origin}
use Rattle.wb_judge.specs.declared.verdict.Why.{Why}
use Rattle.wb_progress.specs.Turns.{Terms, settled_by}
use Rattle.wb_member.specs.Judged.{is_full}
use Rattle.wb_member.specs.Opened.{Opened}
use Rattle.wb_keeping.specs.Laws.{Added, Came, KeptLine, doing_of}
use Rattle.wb_keeping.specs.Performing.{Keeping, due, sent_by_doing}
use Rattle.wb_judging.specs.Echoing.{echoing}
use Rattle.wb_judging.specs.Handing.{handed, handed_for, verdict_on}
use Rattle.wb_judging.specs.Judged.{Judged, moment_of}
use Rattle.wb_judging.specs.declared.call.Call.{Call}
use Rattle.wb_judging.specs.declared.call.Call.TheVariants.{CameFrom, Held, Passed, UserDrew}
use Rattle.wb_judging.specs.Laws.{sends_in}
use Rattle.wb_judging.specs.Members.{IsOfMember, needs}
use Rattle.wb_judging.specs.Performing.{events_of, judging, sent_by_kept_line}
use Rattle.wb_judging.specs.declared.record.RecordLine.{RecordLine}
use Rattle.wb_judging.proofs.AsKept.{sends_as_kept}
use Rattle.wb_judging.proofs.MembersIn.{needed_is_handed_in}
use Rattle.wb_judging.proofs.Numbers.{me_judging}
use Rattle.wb_laws_kept.specs.Sessions.{At, kept_at}
use Rattle.wb_kept_progress.specs.Since.{IsHandedIn, IsSpared, IsTimelyWithStartsBut, WasSentBy as WasKeptSent}
use Rattle.wb_kept_progress.proofs.Since.{always_short_since}
use Rattle.wb_judged_sessions.specs.Calls.{IsLineTaken, IsTaken, JudgedCall, plain_line, Starts, Takes, Tunes}
use Rattle.wb_judged_sessions.specs.Sessions.{judged_at, kept_calls}
use Rattle.wb_laws_machines.specs.Maps.{plain}
use Rattle.wb_judged_sessions.specs.Terms.{AreTaken}
use Rattle.wb_judged_sessions.specs.Timely.{Arrives, IsNoStart, IsTimelyBut, JudgedAlwaysShort, JudgedIsTimely}
use Rattle.wb_judged_sessions.proofs.Drawn.{DrawsNone, came_draws}
use Rattle.wb_judged_sessions.proofs.Echoes.{call_sends, plain_again}
use Rattle.wb_judged_sessions.proofs.Kept.{at, calls_split, judged_is_kept}
use Rattle.wb_judged_sessions.proofs.Plain.{plain_sent}
use Rattle.wb_judged_sessions.proofs.Sent.{echo_mine, line_sends}
use Rattle.wb_judged_sessions.proofs.Terms.{fault_none, own_at, taken_kept}
use Rattle.wb_judged_sessions.proofs.Timely.{FromCall, called_kept, fit_kept, from_call, line_for, line_is, order_kept, taken_at, taken_call, takes_is}
use Rattle.wb_laws_kept.specs.Calls.{Call as KeptCall, Handed}
use Rattle.wb_kept_progress.specs.Timed.{AreInOrder, time_of}
use Rattle.wb_progress.proofs.Parts.{order_of}

-- ---- the datagram without the echo

needs_plain : (host : Opened) (v : Datagram) → needs host (plain v) ≡ needs host v
needs_plain host (Draw d) = refl
needs_plain host (Session sender sent page marks echoes) = refl
needs_plain host (Request asker name) = refl
needs_plain host (AskPages asker) = refl
needs_plain host (PageState sender page marks) = refl

-- ---- what a line is

handed_one : (a b : KeptLine) → Handed a ≡ Handed b → a ≡ b
handed_one a b e = cc

came_one : (now then : ℕ) (v w : Datagram) → Came now v ≡ Came then w → (now ≡ then) × (v ≡ w)
came_one now then v w e = (cc, cc)

-- It draws nothing, unless its user draws.
none_drawn : (call : JudgedCall) (steady : IsNoStart call) (h : Judged) → ((now : ℕ) (page : PageId) (op : Op) → call ≡ Takes (UserDrew now page op) → ⊥)
    → ((recalled : RecordLine) → call ≡ Takes (Held recalled) → ⊥) → DrawsNone (line_for call steady h)
none_drawn (Starts start given) steady h drew held = absurd steady
none_drawn (Takes (CameFrom now o v)) steady h drew held = came_draws now v (verdict_on now o v h).why
none_drawn (Takes (Passed now news)) steady h drew held = tt
none_drawn (Takes (UserDrew now page op)) steady h drew held = absurd (drew now page op refl)
none_drawn (Takes (Held line)) steady h drew held = absurd (held line refl)
none_drawn (Tunes constants) steady h drew held = tt

-- If it hands a datagram in, that came and was let in.
record LetIn (call : JudgedCall) (h : Judged) (v : Datagram) : Type 0 where
  now : ℕ
  origin : Origin
  whole : Datagram
  is : call ≡ Takes (CameFrom now origin whole)
  lets : handed (CameFrom now origin whole) h ≡ Came now whole
  same : plain whole ≡ v

let_in : (call : JudgedCall) (steady : IsNoStart call) (h : Judged) (now : ℕ) (v : Datagram) → ((recalled : RecordLine) → call ≡ Takes (Held recalled) → ⊥) → line_for call steady h ≡ Came now v
    → LetIn call h v
let_in (Starts start given) steady h now v held e = absurd steady
let_in (Takes (CameFrom then o w)) steady h now v held e = by (verdict_on then o w h).why refl e where
  by : (why : Option Why) → (verdict_on then o w h).why ≡ why → plain_line (handed_for then w why) ≡ Came now v → LetIn (Takes (CameFrom then o w)) h v
  by None is e = record { now = then; origin = o; whole = w; is = refl; lets = ap (λ (why : Option Why). handed_for then w why) is; same = (came_one then now (plain w) v e).1 }
  by (Some why) is e = absurd cc
let_in (Takes (Passed then news)) steady h now v held e = absurd cc
let_in (Takes (UserDrew then page op)) steady h now v held e = absurd cc
let_in (Takes (Held line)) steady h now v held e = absurd (held line refl)
let_in (Tunes constants) steady h now v held e = absurd cc

-- ---- what a line sends

-- What the self-managing member sends, the judged one sends with an echo or without.
record SaysAs (call : JudgedCall) (h : Judged) (v : Datagram) : Type 0 where
  line : Call
  takes : call ≡ Takes line
  whole : Datagram
  sent : Contains (sends_in (events_of line h)) whole
  same : plain whole ≡ v

says_as : (line : Call) (h : Judged) → h.judge.me ≡ h.kept.host.is.number → IsLineTaken line h → (v : Datagram) → Contains (sent_by_doing (doing_of (handed line h)) h.kept) v → SaysAs (Takes line) h v
unfolding sent_by_kept_line
says_as line h own taken v c =
    let j = judging line h in
    let echo = own_echo (moment_of line h) j in
    let mine : (e : Echo) → echo ≡ Some e → e.source ≡ h.kept.host.is.number = λ e is. echo_mine j.me (moment_of line h) (alien_at (moment_of line h) j.aliens) e is ∙ me_judging line h ∙ own in
    record {
      line = line;
      takes = refl;
      whole = echoing echo v;
      sent = subst (λ (vs : List Datagram). Contains vs (echoing echo v)) (sym (sends_as_kept line h))
          (Contains-map (echoing echo) (sent_by_doing (doing_of (handed line h)) h.kept) (echoing echo v) (c.0, v, c.1, c.2, refl));
      same = plain_again h.kept.host.is.number echo mine v (call_sends (handed line h) h.kept (fault_none line h own taken) v c);
    }

call_says : (call : JudgedCall) (steady : IsNoStart call) (h : Judged) → h.judge.me ≡ h.kept.host.is.number → IsTaken call h → (v : Datagram)
    → Contains (sent_by_doing (doing_of (line_for call steady h)) h.kept) v → SaysAs call h v
call_says (Starts start given) steady h own taken v c = absurd steady
call_says (Takes line) steady h own taken v c = says_as line h own taken v (subst (λ (vs : List Datagram). Contains vs v) (plain_sent (handed line h) h.kept) c)
call_says (Tunes constants) steady h own taken v c = absurd (Contains-none v c)

-- ---- the terms

module _ {Delays : Type 0} (numbers : ℕ → ℕ) (terms : Terms) (calls : List (At JudgedCall)) (s : IsTimelyBut (λ newer base i j by v. Arrives numbers newer base j by v) Delays numbers terms calls) where
  abbrev kept : List (At KeptCall)
  kept = kept_calls numbers calls

  from : (newer older : List (At KeptCall)) (e : At KeptCall) → kept ≡ newer ++ e ∷ older → terms.quiet < e.time → FromCall numbers calls e older
  from newer older e split late = from_call numbers terms.quiet calls s.order (λ newer older e split late. (s.alone newer older e split late).1) newer older e split late

  module _ (newer older : List (At KeptCall)) (e : At KeptCall) (split : kept ≡ newer ++ e ∷ older) (late : terms.quiet < e.time) where
    abbrev f : FromCall numbers calls e older
    f = from newer older e split late

    abbrev h : Judged
    h = judged_at numbers f.before f.call.place

    time_is : e.time ≡ f.call.time
    time_is = ap (λ (c : At KeptCall). c.time) f.is

    place_is : e.place ≡ f.call.place
    place_is = ap (λ (c : At KeptCall). c.place) f.is

    abbrev line_is_for : KeptLine
    line_is_for = line_for f.call.event f.steady h

    call_is : e.event ≡ Handed line_is_for
    call_is = ap (λ (c : At KeptCall). c.event) f.is

    later_than : terms.quiet < f.call.time
    later_than = let same = time_is in omega (arith, late, same)

    base_is : e ∷ older ≡ kept_calls numbers (f.call ∷ f.before)
    base_is =
        ap (λ (c : At KeptCall). c ∷ older) f.is
        ∙ ap (λ (cs : List (At KeptCall)). at f.call.time f.call.place line_is_for ∷ cs) f.older_is
        ∙ sym (line_is numbers f.call f.before f.steady)

    there_is : (i : ℕ) → kept_at numbers older i ≡ (judged_at numbers f.before i).kept
    there_is i = ap (λ (cs : List (At KeptCall)). kept_at numbers cs i) f.older_is ∙ sym (judged_is_kept numbers f.before i)

    not_held : (line : RecordLine) → f.call.event ≡ Takes (Held line) → ⊥
    not_held line is = s.recalled f.later f.before f.call line f.split later_than is

    not_drawn : (now : ℕ) (page : PageId) (op : Op) → f.call.event ≡ Takes (UserDrew now page op) → ⊥
    not_drawn now page op is = s.drawn f.later f.before f.call now page op f.split later_than is

    alone_kept : Contains terms.live e.place × ((line : KeptLine) × (e.event ≡ Handed line))
    alone_kept = (subst (Contains terms.live) (sym place_is) (s.alone f.later f.before f.call f.split later_than).0, (line_is_for, call_is))

    drawn_kept : (now : ℕ) (page : PageId) (time : ℕ) (op : Op) → e.event ≡ Handed (Added now page time op) → ⊥
    drawn_kept now page time op is =
        subst DrawsNone (handed_one line_is_for (Added now page time op) (sym call_is ∙ is)) (none_drawn f.call.event f.steady h not_drawn not_held)

    soon_kept : (i : ℕ) → Contains terms.live i → e.time ≤ due (kept_at numbers older i) + (terms.lag i + terms.late)
    soon_kept i live =
        subst (λ (t : ℕ). t ≤ due (kept_at numbers older i) + (terms.lag i + terms.late)) (sym time_is)
        (subst (λ (k : Keeping). f.call.time ≤ due k + (terms.lag i + terms.late)) (sym (there_is i)) (s.soon f.later f.before f.call i f.split live later_than))

    room_kept : (i : ℕ) → Contains terms.live i → is_full (kept_at numbers (e ∷ older) i).host ≡ false
    room_kept i live =
        subst (λ (cs : List (At KeptCall)). is_full (kept_at numbers cs i).host ≡ false) (sym base_is)
        (subst (λ (k : Keeping). is_full k.host ≡ false) (judged_is_kept numbers (f.call ∷ f.before) i) (s.room f.later (f.call ∷ f.before) i f.split live later_than))

    -- ---- what is sent comes

    sends : (line : KeptLine) → e.event ≡ Handed line → (v : Datagram) → Contains (sent_by_doing (doing_of line) (kept_at numbers older e.place)) v → SaysAs f.call.event h v
    sends line called v c =
        let is : line ≡ line_is_for = handed_one line line_is_for (sym called ∙ call_is) in
        let here : kept_at numbers older e.place ≡ h.kept = ap (λ (i : ℕ). kept_at numbers older i) place_is ∙ there_is f.call.place in
        let said = subst (λ (k : Keeping). Contains (sent_by_doing (doing_of line_is_for) k) v) here
        (subst (λ (l : KeptLine). Contains (sent_by_doing (doing_of l) (kept_at numbers older e.place)) v) is c) in
        call_says f.call.event f.steady h (own_at numbers f.before f.call.place) (taken_call numbers f.later f.before f.call (subst (AreTaken numbers) f.split s.taken)) v said

    module _ (j : ℕ) (v whole : Datagram) (same : plain whole ≡ v) (a : Arrives numbers f.later (f.call ∷ f.before) j (f.call.time + terms.delivery) whole) where
      abbrev base : List (At JudgedCall)
      base = f.call ∷ f.before

      abbrev mid : List (At JudgedCall)
      mid = a.between ++ base

      abbrev there : Judged
      there = judged_at numbers mid a.call.place

      abbrev line : KeptLine
      line = plain_line (handed (CameFrom a.now a.origin whole) there)

      abbrev arrival : At KeptCall
      arrival = at a.call.time a.call.place line

      abbrev front : List (At KeptCall)
      front = (calls_split numbers a.later (a.call ∷ mid)).0

      abbrev between : List (At KeptCall)
      between = (calls_split numbers a.between base).0

      calls_are : calls ≡ a.later ++ a.call ∷ mid
      calls_are = f.split ∙ ap (λ (cs : List (At JudgedCall)). cs ++ base) a.split ∙ append_assoc a.later (a.call ∷ a.between) base

      mid_is : kept_calls numbers mid ≡ between ++ e ∷ older
      mid_is = (calls_split numbers a.between base).1 ∙ ap (λ (cs : List (At KeptCall)). between ++ cs) (sym base_is)

      newer_is : newer ≡ front ++ arrival ∷ between
      newer_is = append_cancel_right newer (front ++ arrival ∷ between) (e ∷ older) (
          sym split ∙ ap (kept_calls numbers) calls_are
          ∙ (calls_split numbers a.later (a.call ∷ mid)).1
          ∙ ap (λ (cs : List (At KeptCall)). front ++ cs) (takes_is numbers a.call mid (CameFrom a.now a.origin whole) a.is ∙ ap (λ (cs : List (At KeptCall)). arrival ∷ cs) mid_is)
          ∙ sym (append_assoc front (arrival ∷ between) (e ∷ older)))

      by_time : a.call.time ≤ e.time + terms.delivery
      by_time = let soon = a.soon in let time = time_is in omega (arith, soon, time)

      mid_time : time_of (between ++ e ∷ older) ≤ a.call.time
      mid_time =
          let order = subst AreInOrder calls_are s.order in
          let le = (order_of a.later (a.call ∷ mid) order).0 in
          subst (λ (t : ℕ). t ≤ a.call.time) (sym (called_kept numbers mid) ∙ ap time_of mid_is) le

      host_is : (kept_at numbers (between ++ e ∷ older) j).host ≡ there.kept.host
      host_is =
          ap (λ (cs : List (At KeptCall)). (kept_at numbers cs j).host) (sym mid_is)
          ∙ ap (λ (k : Keeping). k.host) (sym (judged_is_kept numbers mid j))
          ∙ ap (λ (i : ℕ). (judged_at numbers mid i).kept.host) (sym a.place)

      abbrev IsOfMemberAt : ℕ → Type 0
      IsOfMemberAt i = IsOfMember a.now a.origin whole (judged_at numbers mid i)

      comes : needs there.kept.host whole ≡ true → IsHandedIn newer j (e.time + terms.delivery) v
      comes needed =
          let let_in : handed (CameFrom a.now a.origin whole) there ≡ Came a.now whole =
          needed_is_handed_in a.now a.origin whole there (subst IsOfMemberAt (sym a.place) a.member) needed in
          record {
            later = front;
            call = arrival;
            between = between;
            split = newer_is;
            place = a.place;
            soon = by_time;
            now = a.now;
            is = ap (λ (l : KeptLine). Handed (plain_line l)) let_in ∙ ap (λ (w : Datagram). Handed (Came a.now w)) same;
          }

      spared : needs there.kept.host whole ≡ false → IsSpared numbers newer (e ∷ older) j (e.time + terms.delivery) v
      spared none = record {
        later = front ++ arrival ∷ [];
        between = between;
        split = newer_is ∙ sym (append_assoc front (arrival ∷ []) between);
        soon = let early = mid_time in let le = by_time in omega (arith, early, le);
        spared = ap (λ (host : Opened). needs host v) host_is ∙ ap (λ (w : Datagram). needs there.kept.host w) (sym same) ∙ needs_plain there.kept.host whole ∙ none;
      }

      arrives : IsHandedIn newer j (e.time + terms.delivery) v ⊎ IsSpared numbers newer (e ∷ older) j (e.time + terms.delivery) v
      arrives = by (needs there.kept.host whole) refl where
        by : (b : Bool) → needs there.kept.host whole ≡ b → IsHandedIn newer j (e.time + terms.delivery) v ⊎ IsSpared numbers newer (e ∷ older) j (e.time + terms.delivery) v
        by true is = inl (comes is)
        by false is = inr (spared is)

    delivered_kept : (line : KeptLine) (j : ℕ) (v : Datagram) → e.event ≡ Handed line → Contains terms.live j → e.place ≢ j
        → Contains (sent_by_doing (doing_of line) (kept_at numbers older e.place)) v
        → e.time + terms.delivery < time_of kept → IsHandedIn newer j (e.time + terms.delivery) v ⊎ IsSpared numbers newer (e ∷ older) j (e.time + terms.delivery) v
    delivered_kept line j v called live apart c long =
        let said = sends line called v c in
        let time = time_is in
        let end = called_kept numbers calls in
        arrives j v said.whole said.same
        (s.delivered f.later f.before f.call said.line j said.whole f.split said.takes live (λ here. apart (place_is ∙ here)) later_than said.sent (omega (arith, long, time, end)))

    -- ---- what comes was sent

    fresh_kept : settled_by terms < e.time → (now : ℕ) (v : Datagram) → e.event ≡ Handed (Came now v) → WasKeptSent numbers older e.time terms.delivery v
    fresh_kept settled now v called =
        let l = let_in f.call.event f.steady h now v not_held (handed_one line_is_for (Came now v) (sym call_is ∙ called)) in
        let time = time_is in
        let w = s.fresh f.later f.before f.call l.now l.origin l.whole f.split (omega (arith, settled, time)) l.is l.lets in
        let sender = judged_at numbers w.before w.e.place in
        let line = plain_line (handed w.line sender) in
        let part = calls_split numbers w.newer (w.e ∷ w.before) in
        let among = order_and_taken w.newer w.before w.e w.split in
        record {
          newer = part.0;
          e = at w.e.time w.e.place line;
          before = kept_calls numbers w.before;
          split = f.older_is ∙ ap (kept_calls numbers) w.split ∙ part.1 ∙ ap (λ (cs : List (At KeptCall)). part.0 ++ cs) (takes_is numbers w.e w.before w.line w.call);
          soon = let soon = w.soon in omega (arith, soon, time);
          line = line;
          call = refl;
          sent = subst (λ (k : Keeping). Contains (sent_by_doing (doing_of line) k) v) (judged_is_kept numbers w.before w.e.place)
              (subst (λ (vs : List Datagram). Contains vs v) (sym (plain_sent (handed w.line sender) sender.kept))
              (subst (λ (x : Datagram). Contains (sent_by_doing (doing_of (handed w.line sender)) sender.kept) x) l.same
              (line_sends w.line sender (own_at numbers w.before w.e.place) (taken_at numbers w.newer w.before w.e w.line among w.call) l.whole w.sent)));
        } where
          taken_before : (newer older : List (At JudgedCall)) → AreTaken numbers (newer ++ older) → AreTaken numbers older
          taken_before [] older all = all
          taken_before (x ∷ newer) older all = taken_before newer older all.1

          order_and_taken : (newer before : List (At JudgedCall)) (e : At JudgedCall) → f.before ≡ newer ++ e ∷ before → AreTaken numbers (newer ++ e ∷ before)
          order_and_taken newer before e is = subst (AreTaken numbers) is (taken_before f.later (f.call ∷ f.before) (subst (AreTaken numbers) f.split s.taken)).1

  room_all : (newer older : List (At KeptCall)) (i : ℕ) → kept ≡ newer ++ older → Contains terms.live i → terms.quiet < time_of older → is_full (kept_at numbers older i).host ≡ false
  room_all newer [] i split live late = absurd (omega (arith, late))
  room_all newer (e ∷ older) i split live late = room_kept newer older e split late i live

  keeps_to_times : IsTimelyWithStartsBut Delays numbers terms kept
  keeps_to_times = record {
    apart = s.apart;
    taken = taken_kept numbers calls s.taken;
    order = order_kept numbers calls s.order;
    covered = s.covered;
    delays = s.delays;
    fitting = λ i live. fit_kept numbers terms i calls (s.fitting i live);
    alone = λ newer older e split late. alone_kept newer older e split late;
    drawn = λ newer older e now page time op split late is. drawn_kept newer older e split late now page time op is;
    soon = λ newer older e i split live late. soon_kept newer older e split late i live;
    room = room_all;
    delivered = λ newer older e line j v split called live apart late c long. delivered_kept newer older e split late line j v called live apart c long;
    fresh = λ newer older e now v split settled called. fresh_kept newer older e split (omega (arith, settled)) settled now v called;
  }

pub judged_is_timely : JudgedIsTimely
judged_is_timely numbers terms calls s = keeps_to_times numbers terms calls s

pub judged_always_short : JudgedAlwaysShort
judged_always_short numbers terms calls s = record {
  apart = s.apart;
  taken = s.taken;
  order = s.order;
  covered = s.covered;
  delays = (always_short_since numbers terms (kept_calls numbers calls) (keeps_to_times numbers terms calls s)).delays;
  fitting = s.fitting;
  alone = s.alone;
  drawn = s.drawn;
  recalled = s.recalled;
  soon = s.soon;
  room = s.room;
  delivered = s.delivered;
  fresh = s.fresh;
}
