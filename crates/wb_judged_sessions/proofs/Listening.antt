-- What a judged member hears of its own number while it listens.
use Rattle.std.proofs.Common.{◌≡◌, ◌≤◌, ◌<◌, ℕ, List, [], ◌∷◌, ◌++◌, ◌∙◌, ap, append_assoc, map, refl, subst, sym, ⊎_elim}
use Rattle.std.specs.Prelude.{Contains}
use Rattle.std.proofs.lemmas.List.Elements.{Contains-append_cases}
use Rattle.wb_names.specs.Ascending.{AreMarks}
use Rattle.wb_names.specs.Values.{MarkValue}
use Rattle.wb_names.specs.declared.name.PageId.{PageId}
use Rattle.wb_names.proofs.Listings.{Contains-here, Contains-none, Contains-there}
use Rattle.wb_codec.specs.declared.datagram.Datagram.{Datagram}
use Rattle.wb_codec.specs.declared.datagram.Datagram.TheVariants.{AskPages, Draw, PageState, Request, Session}
use Rattle.wb_keeper.specs.Hearing.{marks_in}
use Rattle.wb_member.specs.Opened.{last_number}
use Rattle.wb_keeping.specs.Laws.{Came, KeptLine, Tuned}
use Rattle.wb_keeping.specs.Performing.{Keeping}
use Rattle.wb_judge.specs.declared.origin.Origin.{Origin}
use Rattle.wb_judging.specs.Handing.{handed}
use Rattle.wb_judging.specs.Judged.{Judged}
use Rattle.wb_judging.specs.declared.call.Call.TheVariants.{CameFrom, Held}
use Rattle.wb_judging.specs.Laws.{expanded}
use Rattle.wb_judging.specs.declared.record.RecordLine.{RecordLine}
use Rattle.wb_laws_kept.specs.Listening.{IsHeardWhole, TellsMark}
use Rattle.wb_laws_kept.specs.Openings.{Opening}
use Rattle.wb_laws_kept.specs.Sessions.{At, kept_at}
use Rattle.wb_laws_kept.proofs.Listening.{listening_tells as kept_listening_tells}
use Rattle.wb_laws_sessions.proofs.Sending.{one_of}
use Rattle.wb_judged_sessions.specs.Laws.{HasNotStarted, ListeningTells}
use Rattle.wb_judged_sessions.specs.Calls.{JudgedCall, plain_line, Start, started, Starts, Takes, Tunes}
use Rattle.wb_judged_sessions.specs.Sessions.{judged_at, kept_calls, kept_then, lines_then}
use Rattle.wb_laws_machines.specs.Maps.{plain}
use Rattle.wb_judged_sessions.proofs.Kept.{at, judged_is_kept}
use Rattle.wb_laws_kept.specs.Calls.{Begins, Call, Handed}

-- ---- the same of a datagram without the echo

marks_plain : (page : PageId) (v : Datagram) → marks_in page v ≡ marks_in page (plain v)
marks_plain page (Draw d) = refl
marks_plain page (Session sender sent on marks echoes) = refl
marks_plain page (Request asker name) = refl
marks_plain page (AskPages asker) = refl
marks_plain page (PageState sender on marks) = refl

tells_plain : (v : Datagram) (me : ℕ) (page : PageId) (m : MarkValue) → TellsMark v me page m → TellsMark (plain v) me page m
tells_plain (Draw d) me page m tells = tells
tells_plain (Session sender sent on marks echoes) me page m tells = tells
tells_plain (Request asker name) me page m tells = tells
tells_plain (AskPages asker) me page m tells = tells
tells_plain (PageState sender on marks) me page m tells = tells

whole_plain : (now : ℕ) (v : Datagram) (k : Keeping) → IsHeardWhole now v k → IsHeardWhole now (plain v) k
whole_plain now (Draw d) k whole = whole
whole_plain now (Session sender sent on marks echoes) k whole = whole
whole_plain now (Request asker name) k whole = whole
whole_plain now (AskPages asker) k whole = whole
whole_plain now (PageState sender on marks) k whole = whole

-- ---- who did not start

-- a call of a self-managing member that comes of these
abbrev NoStart : ℕ → At Call → Type 0
NoStart i c = (o : Opening) (given : List Datagram) → c.place ≡ i → c.event ≡ Begins o given → ⊥

pub not_begun : (line : KeptLine) (o : Opening) (given : List Datagram) → Handed line ≡ Begins o given → ⊥
not_begun line o given e = cc

-- some calls come before these, none of which is a start at the place
record Front (i : ℕ) (calls older : List (At Call)) : Type 0 where
  front : List (At Call)
  split : calls ≡ front ++ older
  none : (c : At Call) → Contains front c → NoStart i c

then_more : (i : ℕ) (calls : List (At Call)) (c : At Call) (older : List (At Call)) → NoStart i c → Front i calls (c ∷ older) → Front i calls older
then_more i calls c older not f = record {
  front = f.front ++ c ∷ [];
  split = f.split ∙ sym (append_assoc f.front (c ∷ []) older);
  none = λ d within. ⊎_elim
      (λ (before : Contains f.front d). f.none d before)
      (λ (last : Contains (c ∷ []) d). subst (NoStart i) (one_of c d last) not)
      (Contains-append_cases f.front (c ∷ []) d within);
}

module _ (i time place : ℕ) where
  of_lines : (lines : List KeptLine) (older : List (At Call)) → Front i (lines_then time place lines older) older
  of_lines [] older = record { front = []; split = refl; none = λ c within. absurd (Contains-none c within) }
  of_lines (line ∷ lines) older =
      then_more i (lines_then time place lines (at time place line ∷ older)) (at time place line) older (λ o given is call. not_begun line o given call) (of_lines lines (at time place line ∷ older))

  of_call : (call : JudgedCall) (h : Judged) (older : List (At Call)) → ((start : Start) (given : List RecordLine) → place ≡ i → call ≡ Starts start given → ⊥)
      → Front i (kept_then time place call h older) older
  of_call (Takes line) h older not = of_lines (plain_line (handed line h) ∷ []) older
  of_call (Tunes constants) h older not = of_lines (Tuned constants ∷ []) older
  of_call (Starts start given) h older not =
      let begins : At Call = record { time = time; place = place; event = Begins start.opening [] } in
      let lines = expanded (map Held given) (started h.kept.host.is.number start) in
      then_more i (lines_then time place lines (begins ∷ older)) begins older (λ o began is call. not start given is refl) (of_lines lines (begins ∷ older))

module _ (numbers : ℕ → ℕ) (i : ℕ) where
  of_calls : (newer older : List (At JudgedCall)) → HasNotStarted newer i → Front i (kept_calls numbers (newer ++ older)) (kept_calls numbers older)
  of_calls [] older not = record { front = []; split = refl; none = λ c within. absurd (Contains-none c within) }
  of_calls (e ∷ newer) older not =
      let calls = newer ++ older in
      let rest = of_calls newer older (λ c start given within is call. not c start given (Contains-there e c newer within) is call) in
      let one = of_call i e.time e.place e.event (judged_at numbers calls e.place) (kept_calls numbers calls) (λ start given is call. not e start given (Contains-here e newer) is call) in
      record {
        front = one.front ++ rest.front;
        split = one.split ∙ ap (λ (cs : List (At Call)). one.front ++ cs) rest.split ∙ sym (append_assoc one.front rest.front (kept_calls numbers older));
        none = λ c within. ⊎_elim (λ (now : Contains one.front c). one.none c now) (λ (before : Contains rest.front c). rest.none c before) (Contains-append_cases one.front rest.front c within);
      }

-- a datagram that is let in is handed in
came_call : (numbers : ℕ → ℕ) (older : List (At JudgedCall)) (e : At JudgedCall) (now : ℕ) (o : Origin) (v : Datagram) → e.event ≡ Takes (CameFrom now o v)
    → handed (CameFrom now o v) (judged_at numbers older e.place) ≡ Came now v → kept_calls numbers (e ∷ older) ≡ at e.time e.place (Came now (plain v)) ∷ kept_calls numbers older
came_call numbers older e now o v called lets =
    ap (λ (call : JudgedCall). kept_then e.time e.place call (judged_at numbers older e.place) (kept_calls numbers older)) called
    ∙ ap (λ (line : KeptLine). at e.time e.place (plain_line line) ∷ kept_calls numbers older) lets

pub listening_tells : ListeningTells
listening_tells numbers newer older e now o v page m called lets listens are tells mine low whole not =
    let f = of_calls numbers e.place newer (e ∷ older) not in
    let same = judged_is_kept numbers older e.place in
    let came = at e.time e.place (Came now (plain v)) in
    let there = kept_listening_tells numbers f.front (kept_calls numbers older) came now (plain v) page m refl
    (subst (λ (k : Keeping). now < k.policy.ready) same listens)
    (subst AreMarks (marks_plain page v) are) (tells_plain v (numbers e.place) page m tells) mine low
    (subst (λ (k : Keeping). IsHeardWhole now (plain v) k) same (whole_plain now v (judged_at numbers older e.place).kept whole))
    (λ c opening given within is call. f.none c within opening given is call) in
    let all : kept_calls numbers (newer ++ e ∷ older) ≡ f.front ++ came ∷ kept_calls numbers older =
    f.split ∙ ap (λ (cs : List (At Call)). f.front ++ cs) (came_call numbers older e now o v called lets) in
    subst (λ (k : Keeping). m.high ≤ last_number page k.host) (sym (judged_is_kept numbers (newer ++ e ∷ older) e.place))
    (subst (λ (cs : List (At Call)). m.high ≤ last_number page (kept_at numbers cs e.place).host) (sym all) there)
