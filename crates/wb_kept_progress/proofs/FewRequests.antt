-- A self-managing host sends few requests: each name is requested at most 15 times in ten minutes for each time that it is asked for, and 15 times if
-- a timer of it stood at first.
use Rattle.std.proofs.Common.{◌≡◌, ◌⊎◌, ℕ, ◌+◌, ◌-◌, ◌*◌, ◌≤◌, Bool, true, false, List, [], ◌∷◌, ◌++◌, ◌∙◌, Option, Some, None, ap, append-nil, append_assoc, arith, length, refl, subst, sym, true≢false, ⊎_elim}
use Rattle.std.specs.Prelude.{Contains, filter, is_some}
use Rattle.std.proofs.lemmas.List.{take_all}
use Rattle.std.proofs.lemmas.List.Elements.{Contains-append_cases}
use Rattle.wb_names.specs.Orders.{name_cmp}
use Rattle.wb_names.specs.Values.{NameValue}
use Rattle.wb_names.specs.Listing.{Lists}
use Rattle.wb_names.proofs.Listings.{Contains-cases, Contains-from_filter, Contains-none}
use Rattle.wb_names.proofs.Orders.{same_name-is}
use Rattle.wb_codec.specs.declared.datagram.Datagram.{Datagram}
use Rattle.wb_codec.specs.declared.datagram.Datagram.TheVariants.{AskPages, Draw, PageState, Request, Session}
use Rattle.wb_recovery.specs.Timing.{are_constants}
use Rattle.wb_recovery.specs.declared.timers.AskTimer.{AskTimer}
use Rattle.wb_recovery.specs.declared.timers.Timers.{Timers}
use Rattle.wb_recovery.specs.declared.tuning.Tuning.{Tuning}
use Rattle.wb_recovery.proofs.NameLists.{listed_of}
use Rattle.wb_progress.proofs.NamesApart.{no_longer}
use Rattle.wb_member.specs.Judged.{asked_names}
use Rattle.wb_member.specs.Opened.{Opened, events, present}
use Rattle.wb_member.specs.declared.calls.Call.TheVariants.{Ask}
use Rattle.wb_policy.specs.Policy.{Policy}
use Rattle.wb_keeping.specs.Bounds.{answer_count, ask_count, is_ask, is_request, new_keeping, request_count, requests, timer_count}
use Rattle.wb_keeping.specs.Kept.{Calls, Line}
use Rattle.wb_keeping.specs.Laws.{AreTaken, KeptLine, after_kept, expand, sent_by_kept}
use Rattle.wb_keeping.specs.Performing.{Keeping, after_line, after_lines, sent_by_line, sent_by_lines}
use Rattle.wb_keeping.proofs.AptLines.{apt_from_new, apt_parts, new_spaced}
use Rattle.wb_keeping.proofs.BackedOff.{Backs, Rests}
use Rattle.wb_keeping.proofs.FewTimers.{few_timers_stand}
use Rattle.wb_keeping.proofs.KeptHosts.{kept_hosts_are_hosts}
use Rattle.wb_keeping.proofs.LittleSaid.{few_names_are_asked}
use Rattle.wb_keeping.proofs.Performed.{after_both, sent_by_both}
use Rattle.wb_keeping.proofs.SeldomRequested.{names_are_seldom_requested}
use Rattle.wb_keeping.proofs.SpacedLines.{AreApt, IsSpacedHost, ask_at, line_later, line_moves, line_spaced, lines_later, lines_spaced}
use Rattle.wb_kept_progress.specs.Traffic.{FewRequestsAreSent, how_many}
use Rattle.wb_kept_progress.proofs.Handed.{asked_in, expand_both, one_ask, taken_both}
use Rattle.wb_kept_progress.proofs.Named.{all_by_names, apart_passing, count, count_more, filter_fewer, filter_same, for_itself, is_for, names_by_all, names_of, one_if, passing, sums_rise, sums_scale}
use Rattle.wb_kept_progress.proofs.SentKinds.{kind_both}

-- ---- the names of requests, and of lines that ask for one

abbrev requested : Datagram → Option NameValue
requested (Draw d) = None
requested (Session sender sent page marks echoes) = None
requested (Request asker name) = Some name
requested (AskPages asker) = None
requested (PageState sender page marks) = None

one_request : (v : Datagram) → is_request v ≡ is_some (requested v)
one_request (Draw d) = refl
one_request (Session sender sent page marks echoes) = refl
one_request (Request asker name) = refl
one_request (AskPages asker) = refl
one_request (PageState sender page marks) = refl

for_name : (n : NameValue) (v : Datagram) → requests n v ≡ is_for n (requested v)
for_name n (Draw d) = refl
for_name n (Session sender sent page marks echoes) = refl
for_name n (Request asker name) = refl
for_name n (AskPages asker) = refl
for_name n (PageState sender page marks) = refl

abbrev asks_it : NameValue → Line → Bool
asks_it n line = is_for n (asked_in line)

abbrev asked : NameValue → List Line → ℕ
asked n lines = count asked_in n lines

-- it is asked for
is_asked : (n : NameValue) (line : Line) → asks_it n line ≡ true → line ≡ Calls (Ask n)
is_asked n (Calls (Ask name)) e = ap (λ (x : NameValue). Calls (Ask x)) (same_name-is name n e)
is_asked n line e = absurd (true≢false (sym e))

asked_more : (n : NameValue) (line : Line) (lines : List Line) (b : Bool) → asks_it n line ≡ b → asked n (line ∷ lines) ≡ one_if b + asked n lines
asked_more n line lines b e = count_more asked_in n line lines ∙ ap (λ (b : Bool). one_if b + asked n lines) e

-- ---- one name, in some lines

module _ (constants : Tuning) (number cells seed : ℕ) (moments : List ℕ) (policy : Policy) (earlier lines : List KeptLine) (in_range : are_constants constants ≡ true) (usual : 10000 ≤ policy.usual)
    (taken : AreTaken earlier (new_keeping constants number cells seed moments policy)) (taken_then : AreTaken lines (after_kept earlier (new_keeping constants number cells seed moments policy)))
    (short : present (after_kept lines (after_kept earlier (new_keeping constants number cells seed moments policy))).host - present (after_kept earlier (new_keeping constants number cells seed moments policy)).host ≤ 600000000) where
  abbrev start : Keeping
  start = new_keeping constants number cells seed moments policy

  abbrev k : Keeping
  k = after_kept earlier start

  abbrev before : List Line
  before = expand earlier start

  abbrev window : List Line
  window = expand lines k

  all_taken : AreTaken (earlier ++ lines) start
  all_taken = taken_both earlier lines start taken taken_then

  all_is : expand (earlier ++ lines) start ≡ before ++ window
  all_is = expand_both earlier lines start

  host_is : k.host ≡ after_lines before start.host
  host_is = (kept_hosts_are_hosts earlier start).0

  end_is : (after_kept lines k).host ≡ after_lines window k.host
  end_is = (kept_hosts_are_hosts lines k).0

  both_apt : AreApt before start.host × AreApt window (after_lines before start.host)
  both_apt = apt_parts before window start.host (subst (λ (ls : List Line). AreApt ls start.host) all_is (apt_from_new constants number cells seed moments policy (earlier ++ lines) usual all_taken))

  apt : AreApt window k.host
  apt = subst (AreApt window) (sym host_is) both_apt.1

  spaced : IsSpacedHost k.host
  spaced = subst IsSpacedHost (sym host_is) (lines_spaced before start.host both_apt.0 (new_spaced constants number cells seed moments policy in_range))

  ends : present (after_lines window k.host) ≤ present k.host + 600000000
  ends = let e = ap present end_is in omega (arith, short, e)

  module _ (n : NameValue) where
    abbrev at : List Line → Opened
    at front = after_lines front k.host

    abbrev sends : List Line → List Line → ℕ
    sends front part = request_count n (sent_by_lines part (at front))

    counts : (front one other : List Line) → sends front (one ++ other) ≡ sends front one + sends (front ++ one) other
    counts front one other =
        ap (request_count n) (sent_by_both one other (at front)) ∙ kind_both (requests n) (sent_by_lines one (at front)) (sent_by_lines other (after_lines one (at front)))
        ∙ ap (λ (h : Opened). sends front one + request_count n (sent_by_lines other h)) (sym (after_both front one k.host))

    -- where it is not asked for anew
    segment : (front part later : List Line) → window ≡ front ++ (part ++ later) → (Contains part (Calls (Ask n)) → ⊥) → sends front part ≤ 15
    segment front [] later split never = omega arith
    segment front (first ∷ rest) later split never =
        let apt_front = apt_parts front ((first ∷ rest) ++ later) k.host (subst (λ (ls : List Line). AreApt ls k.host) split apt) in
        let apt_part = apt_parts (first ∷ rest) later (at front) apt_front.1 in
        let one = lines_later front k.host apt_front.0 in
        let two = line_later first (at front) apt_part.0.0 in
        let three = lines_later later (after_lines (first ∷ rest) (at front)) apt_part.1 in
        let four : present (after_lines window k.host) ≡ present (after_lines later (after_lines (first ∷ rest) (at front))) = ap (λ (ls : List Line). present (after_lines ls k.host)) split ∙ ap present (after_both front ((first ∷ rest) ++ later) k.host ∙ after_both (first ∷ rest) later (at front)) in
        let five = ends in
        let there : after_lines (before ++ front) start.host ≡ at front = after_both before front start.host ∙ ap (after_lines front) (sym host_is) in
        let whole : expand (earlier ++ lines) start ≡ (before ++ front) ++ ((first ∷ rest) ++ later) = all_is ∙ ap (λ (ls : List Line). before ++ ls) split ∙ sym (append_assoc before front ((first ∷ rest) ++ later)) in
        subst (λ (h : Opened). request_count n (sent_by_lines (first ∷ rest) h) ≤ 15) there
        (names_are_seldom_requested constants number cells seed moments policy (earlier ++ lines) (before ++ front) first rest later n in_range usual all_taken whole never
        (subst (λ (h : Opened). present (after_lines (first ∷ rest) h) ≤ present (after_line first h) + 600000000) (sym there) (omega (arith, one, two, three, four, five))))

    -- an ask sends nothing
    ask_silent : (front : List Line) (line : Line) → line ≡ Calls (Ask n) → sends front (line ∷ []) ≡ 0
    ask_silent front line is = ap (λ (l : Line). sends front (l ∷ [])) is

    bound : (front part rest : List Line) → window ≡ front ++ (part ++ rest) → (Contains part (Calls (Ask n)) → ⊥) → sends front (part ++ rest) ≤ 15 * (1 + asked n rest)
    bound front part [] split never =
        let le = segment front part [] split never in
        let same = counts front part [] in
        omega (arith, le, same)
    bound front part (line ∷ rest) split never = by (asks_it n line) refl
        (bound (front ++ (part ++ line ∷ [])) [] rest)
        (bound front (part ++ line ∷ []) rest) where
          moved : part ++ line ∷ rest ≡ (part ++ line ∷ []) ++ rest
          moved = sym (append_assoc part (line ∷ []) rest)

          by : (b : Bool) → asks_it n line ≡ b
              → (window ≡ (front ++ (part ++ line ∷ [])) ++ ([] ++ rest) → (Contains [] (Calls (Ask n)) → ⊥) → sends (front ++ (part ++ line ∷ [])) ([] ++ rest) ≤ 15 * (1 + asked n rest))
              → (window ≡ front ++ ((part ++ line ∷ []) ++ rest) → (Contains (part ++ line ∷ []) (Calls (Ask n)) → ⊥) → sends front ((part ++ line ∷ []) ++ rest) ≤ 15 * (1 + asked n rest))
              → sends front (part ++ line ∷ rest) ≤ 15 * (1 + asked n (line ∷ rest))
          by true e anew on =
              let whole : window ≡ (front ++ (part ++ line ∷ [])) ++ rest = split ∙ ap (λ (ls : List Line). front ++ ls) moved ∙ sym (append_assoc front (part ++ line ∷ []) rest) in
              let le = segment front part (line ∷ rest) split never in
              let again = anew whole (λ c. Contains-none (Calls (Ask n)) c) in
              let one = ap (sends front) moved ∙ counts front (part ++ line ∷ []) rest in
              let two = counts front part (line ∷ []) in
              let three = ask_silent (front ++ part) line (is_asked n line e) in
              let more = asked_more n line rest true e in
              omega (arith, le, again, one, two, three, more)
          by false e anew on =
              let le = on (split ∙ ap (λ (ls : List Line). front ++ ls) moved) (λ c. ⊎_elim
              never
              (λ (d : Contains (line ∷ []) (Calls (Ask n))). ⊎_elim (λ (is : line ≡ Calls (Ask n)). true≢false (sym (ap (asks_it n) is ∙ for_itself n) ∙ e)) (λ (none : Contains [] (Calls (Ask n))). Contains-none (Calls (Ask n)) none) (Contains-cases line (Calls (Ask n)) [] d))
              (Contains-append_cases part (line ∷ []) (Calls (Ask n)) c)) in
              let same = ap (sends front) moved in
              let more = asked_more n line rest false e in
              omega (arith, le, same, more)

    -- where no timer of it stands
    silent : (front rest : List Line) → window ≡ front ++ rest → IsSpacedHost (at front) → ask_at n (at front) ≡ None → sends front rest ≤ 15 * asked n rest
    silent front [] split is none = omega arith
    silent front (line ∷ rest) split is none = by (asks_it n line) refl (silent (front ++ line ∷ []) rest) where
      next : Opened
      next = after_line line (at front)

      there : at (front ++ line ∷ []) ≡ next
      there = after_both front (line ∷ []) k.host

      whole : window ≡ (front ++ line ∷ []) ++ rest
      whole = split ∙ sym (append_assoc front (line ∷ []) rest)

      apt_line : AreApt (line ∷ rest) (at front)
      apt_line = (apt_parts front (line ∷ rest) k.host (subst (λ (ls : List Line). AreApt ls k.host) split apt)).1

      no_timer : (x : AskTimer) → ask_at n (at front) ≡ Some x → ⊥
      no_timer x e = other (ask_at n (at front)) none e where
        other : (o : Option AskTimer) → o ≡ None → o ≡ Some x → ⊥
        other o e f = cc

      by : (b : Bool) → asks_it n line ≡ b → (window ≡ (front ++ line ∷ []) ++ rest → IsSpacedHost (at (front ++ line ∷ [])) → ask_at n (at (front ++ line ∷ [])) ≡ None → sends (front ++ line ∷ []) rest ≤ 15 * asked n rest)
          → sends front (line ∷ rest) ≤ 15 * asked n (line ∷ rest)
      by true e on =
          let le = bound (front ++ line ∷ []) [] rest whole (λ c. Contains-none (Calls (Ask n)) c) in
          let one = counts front (line ∷ []) rest in
          let two = ask_silent front line (is_asked n line e) in
          let more = asked_more n line rest true e in
          omega (arith, le, one, two, more)
      by false e on = ⊎_elim
          (λ (r : Rests (ask_at n (at front)) (ask_at n next) × (request_count n (sent_by_line line (at front)) ≡ 0)).
          let still : ask_at n next ≡ None = ⊎_elim (λ (same : ask_at n next ≡ ask_at n (at front)). same ∙ none) (λ (gone : ask_at n next ≡ None). gone) r.0 in
          let le = on whole (subst IsSpacedHost (sym there) (line_spaced line (at front) apt_line.0 is)) (ap (ask_at n) there ∙ still) in
          let one = counts front (line ∷ []) rest in
          let two : sends front (line ∷ []) ≡ 0 = ap (request_count n) (append-nil (sent_by_line line (at front))) ∙ r.1 in
          let more = asked_more n line rest false e in
          omega (arith, le, one, two, more))
          (λ (moves : ((b : Backs (present next) (ask_at n (at front)) (ask_at n next)) × (request_count n (sent_by_line line (at front)) ≤ 1) × ((request_count n (sent_by_line line (at front)) ≡ 0) ⊎ (b.x.due ≤ present next))) ⊎ (line ≡ Calls (Ask n))). absurd (⊎_elim
          (λ (b : (b : Backs (present next) (ask_at n (at front)) (ask_at n next)) × (request_count n (sent_by_line line (at front)) ≤ 1) × ((request_count n (sent_by_line line (at front)) ≡ 0) ⊎ (b.x.due ≤ present next))). no_timer b.0.x b.0.was)
          (λ (is_ask : line ≡ Calls (Ask n)). true≢false (sym (ap (asks_it n) is_ask ∙ for_itself n) ∙ e))
          moves))
          (line_moves n line (at front) apt_line.0 is)

    -- as often as it is asked for, and once more if a timer of it stands at first
    abbrev stands : Bool
    stands = is_some (ask_at n k.host)

    one_name : request_count n (sent_by_lines window k.host) ≤ 15 * (one_if stands + asked n window)
    one_name = by (ask_at n k.host) refl where
      by : (o : Option AskTimer) → ask_at n k.host ≡ o → sends [] window ≤ 15 * (one_if (is_some o) + asked n window)
      by None none = let le = silent [] window refl spaced none in omega (arith, le)
      by (Some ask) is = bound [] [] window refl (λ c. Contains-none (Calls (Ask n)) c)

  -- ---- all names

  few_stand : timer_count k.host ≤ 64
  few_stand = subst (λ (h : Opened). timer_count h ≤ 64) (ap (λ (ls : List Line). after_lines ls start.host) (take_all (length before) before (omega arith)) ∙ sym host_is)
      (few_timers_stand constants number cells seed moments policy earlier (length before) taken)

  listed : Lists name_cmp (λ n. is_some (ask_at n k.host) ≡ true) (asked_names k.host)
  listed = listed_of (λ (s : Timers). is_some s.ask) refl k.host.is.constants (events k.host)

  all_requests : how_many is_request (sent_by_lines window k.host) ≤ 15 * (64 + ask_count window)
  all_requests =
      let sent = sent_by_lines window k.host in
      let r = names_of requested sent in
      let p : NameValue → Bool = λ n. stands n in
      let each = all_by_names requested r.names sent r.covers in
      let same = filter_same is_request (λ v. is_some (requested v)) one_request sent in
      let bounded = sums_rise (λ n. count requested n sent) (λ n. 15 * (one_if (p n) + asked n window)) r.names (λ n. let one = one_name n in let e = filter_same (requests n) (λ v. is_for n (requested v)) (for_name n) sent in omega (arith, one, e)) in
      let scaled = sums_scale 15 (λ n. one_if (p n)) (λ n. asked n window) r.names in
      let standing = passing p r.names in
      let among_asked = no_longer (filter p r.names) (asked_names k.host) (apart_passing p r.names r.apart) (λ n c. (listed.members n).1 (Contains-from_filter p r.names n c).1) in
      let few = few_stand in
      let asks = names_by_all asked_in r.names r.apart window in
      let all_asks = filter_fewer (λ line. is_some (asked_in line)) is_ask one_ask window in
      omega (arith, each, same, bounded, scaled, standing, among_asked, few, asks, all_asks)

  few_requests : how_many is_request (sent_by_kept lines k) * 250000 ≤ 15 * ((64 + 64 + 2 * answer_count window k.host) * 250000 + (present (after_kept lines k).host - present k.host))
  few_requests =
      let few = subst (λ (sent : List Datagram). how_many is_request sent ≤ 15 * (64 + ask_count window)) (sym (kept_hosts_are_hosts lines k).1) all_requests in
      let asks = few_names_are_asked lines k taken_then in
      omega (arith, few, asks)

pub few_requests_are_sent : FewRequestsAreSent
few_requests_are_sent constants number cells seed moments policy earlier lines in_range usual taken taken_then short =
    few_requests constants number cells seed moments policy earlier lines in_range usual taken taken_then short
