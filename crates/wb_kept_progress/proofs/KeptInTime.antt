-- By when what is asked for comes to self-managing hosts: as to the hosts that perform their lines.
use Rattle.std.proofs.Common.{◌≡◌, ℕ, ◌+◌, ◌<◌, ◌≤◌, true, List, [], ◌∷◌, ◌++◌, ◌∙◌, ap, append_assoc, inl, inr, max, refl, subst, sym, ⊎_elim}
use Rattle.std.specs.Prelude.{Contains}
use Rattle.std.proofs.lemmas.List.Elements.{Contains-append_cases}
use Rattle.wb_names.specs.Values.{NameValue}
use Rattle.wb_names.proofs.Listings.{Contains-none}
use Rattle.wb_codec.specs.declared.datagram.Datagram.{Datagram}
use Rattle.wb_codec.specs.declared.datagram.Datagram.TheVariants.{Request}
use Rattle.wb_recovery.specs.Events.{timers_of}
use Rattle.wb_progress.specs.InTime.{answering_by, known_from, repairing}
use Rattle.wb_progress.specs.Turns.{Terms}
use Rattle.wb_member.specs.Judged.{holds}
use Rattle.wb_member.specs.Opened.{Opened, events}
use Rattle.wb_member.specs.declared.calls.Call.TheVariants.{Tick, Tune}
use Rattle.wb_keeping.specs.Kept.{Calls, Line}
use Rattle.wb_keeping.specs.Laws.{KeptLine, Came, Ticked, Added, Tuned, doing_of}
use Rattle.wb_keeping.specs.Performing.{after_line, after_lines, sees, sent_by_line, sent_by_lines}
use Rattle.wb_policy.specs.Policy.{Policy}
use Rattle.wb_keeping.specs.Views.{View}
use Rattle.wb_kept_progress.specs.Sessions.{Opening, kept_at}
use Rattle.wb_kept_progress.specs.Timed.{AllHoldBehind, AllKeptHoldBehind, At, IsGivenUp, IsKeptTimely, KeptRequestIsAnswered, KeptTimerLeadsOrIsGivenUp, Start, host_after, performed, performed_then, start_of, time_of}
use Rattle.wb_kept_progress.proofs.Performed.{after_all, kept_is_performed}
use Rattle.wb_kept_progress.proofs.Repairs.{is_itself}
use Rattle.wb_kept_progress.proofs.GivenUp.{request_is_answered, timer_leads_or_is_given_up}

abbrev pub at_place : ℕ → ℕ → Line → At Line
at_place time place line = record { time = time; place = place; event = line }

-- lines that are performed stand before the older ones
pub then_front : (time place : ℕ) (lines : List Line) (older : List (At Line)) → (front : List (At Line)) × (performed_then time place lines older ≡ front ++ older)
then_front time place [] older = ([], refl)
then_front time place (line ∷ lines) older =
    let rest = then_front time place lines (at_place time place line ∷ older) in
    (rest.0 ++ at_place time place line ∷ [], rest.1 ∙ sym (append_assoc rest.0 (at_place time place line ∷ []) older))

pub then_both : (time place : ℕ) (one other : List Line) (older : List (At Line)) → performed_then time place (one ++ other) older ≡ performed_then time place other (performed_then time place one older)
then_both time place [] other older = refl
then_both time place (line ∷ one) other older = then_both time place one other (at_place time place line ∷ older)

pub then_time : (time place : ℕ) (lines : List Line) (line : Line) (older : List (At Line)) → time_of (performed_then time place lines (at_place time place line ∷ older)) ≡ time
then_time time place [] line older = refl
then_time time place (next ∷ lines) line older = then_time time place lines next (at_place time place line ∷ older)

-- the line that sends a datagram, of some that are performed
pub record IsSentBy (lines : List Line) (host : Opened) (v : Datagram) : Type 0 where
  pub before : List Line
  pub line : Line
  pub later : List Line
  pub split : lines ≡ before ++ line ∷ later
  pub sent : Contains (sent_by_line line (after_lines before host)) v

pub sent_by_one : (lines : List Line) (host : Opened) (v : Datagram) → Contains (sent_by_lines lines host) v → IsSentBy lines host v
sent_by_one [] host v c = absurd (Contains-none v c)
sent_by_one (line ∷ lines) host v c = ⊎_elim
    (λ (h : Contains (sent_by_line line host) v). record { before = []; line = line; later = lines; split = refl; sent = h })
    (λ (h : Contains (sent_by_lines lines (after_line line host)) v).
    let rest = sent_by_one lines (after_line line host) v h in
    record { before = line ∷ rest.before; line = rest.line; later = rest.later; split = ap (λ (ls : List Line). line ∷ ls) rest.split; sent = rest.sent })
    (Contains-append_cases (sent_by_line line host) (sent_by_lines lines (after_line line host)) v c)

-- the first line of what a call performs
pub first_of_call : (line : KeptLine) (see : List Line → View) (p : Policy) → (first : Line) × (rest : List Line) × ((doing_of line see p).lines ≡ first ∷ rest)
first_of_call (Came now v) see p = (Calls (Tick now), _, refl)
first_of_call (Ticked now) see p = (Calls (Tick now), _, refl)
first_of_call (Added now page time op) see p = (Calls (Tick now), _, refl)
first_of_call (Tuned constants) see p = (Calls (Tune constants), [], refl)

module _ (hosts : ℕ → Opening) where
  abbrev pub starts : ℕ → Start
  starts j = start_of (hosts j)

  abbrev does : At KeptLine → List (At KeptLine) → List Line
  does e older = let k = kept_at hosts older e.place in (doing_of e.event (sees k.host) k.policy).lines

  pub front_of : (newer older : List (At KeptLine)) → (front : List (At Line)) × (performed hosts (newer ++ older) ≡ front ++ performed hosts older)
  front_of [] older = ([], refl)
  front_of (e ∷ newer) older =
      let a = then_front e.time e.place (does e (newer ++ older)) (performed hosts (newer ++ older)) in
      let b = front_of newer older in
      (a.0 ++ b.0, a.1 ∙ ap (λ (t : List (At Line)). a.0 ++ t) b.1 ∙ sym (append_assoc a.0 b.0 (performed hosts older)))

  pub time_is : (trace : List (At KeptLine)) → time_of (performed hosts trace) ≡ time_of trace
  time_is [] = refl
  time_is (e ∷ older) =
      let k = kept_at hosts older e.place in
      let b = first_of_call e.event (sees k.host) k.policy in
      ap (λ (lines : List Line). time_of (performed_then e.time e.place lines (performed hosts older))) b.2 ∙ then_time e.time e.place b.1 b.0 (performed hosts older)

  module _ (terms : Terms) (trace : List (At KeptLine)) (is : IsKeptTimely hosts terms trace) where
    same : (part : List (At KeptLine)) (i : ℕ) → host_after starts (performed hosts part) i ≡ (kept_at hosts part i).host
    same part i = (kept_is_performed hosts part).same i

    pub holding : (n : NameValue) (time : ℕ) → AllHoldBehind starts terms (performed hosts trace) time n → AllKeptHoldBehind hosts terms trace time n
    holding n time all newer later i split lt live =
        let f = front_of newer later in
        sym (ap (λ (h : Opened). holds h n) (same later i))
        ∙ all f.0 (performed hosts later) i (ap (performed hosts) split ∙ f.1) (subst (λ (t : ℕ). time < t) (sym (time_is later)) lt) live

pub kept_timer_leads_or_is_given_up : KeptTimerLeadsOrIsGivenUp
kept_timer_leads_or_is_given_up hosts terms trace newer older i n ask due is split live from stands by a =
    let f = front_of hosts newer older in
    let time = time_is hosts older in
    ⊎_elim
    (λ (h : AllHoldBehind (starts hosts) terms (performed hosts trace) (max (time_of (performed hosts older)) due + repairing terms) n). inl (holding hosts terms trace is n (max (time_of older) due + repairing terms)
    (subst (λ (t : ℕ). AllHoldBehind (starts hosts) terms (performed hosts trace) (max t due + repairing terms) n) time h)))
    (λ (g : IsGivenUp (starts hosts) (performed hosts trace) (performed hosts older) i n ask (max (time_of (performed hosts older)) due + terms.late)). inr
    (subst (λ (t : ℕ). IsGivenUp (starts hosts) (performed hosts trace) (performed hosts older) i n ask (max t due + terms.late)) time g))
    (timer_leads_or_is_given_up (starts hosts) terms (performed hosts trace) f.0 (performed hosts older) i n ask due is (ap (performed hosts) split ∙ f.1) live (subst (λ (t : ℕ). known_from terms ≤ t) (sym time) from)
    (ap (λ (h : Opened). (timers_of h.is.constants (events h) n).ask) (same hosts terms trace is older i) ∙ stands) by a)

pub kept_request_is_answered : KeptRequestIsAnswered
kept_request_is_answered hosts terms trace newer older e asker n is split late later sent a =
    let k = kept_at hosts older e.place in
    let s = sent_by_one (does hosts e older) k.host (Request asker n) sent in
    let f = front_of hosts newer (e ∷ older) in
    let base = performed_then e.time e.place s.before (performed hosts older) in
    let x = at_place e.time e.place s.line in
    let g = then_front e.time e.place s.later (x ∷ base) in
    let parted : performed hosts (e ∷ older) ≡ g.0 ++ x ∷ base = ap (λ (lines : List Line). performed_then e.time e.place lines (performed hosts older)) s.split ∙ then_both e.time e.place s.before (s.line ∷ s.later) (performed hosts older) ∙ g.1 in
    let whole : performed hosts trace ≡ (f.0 ++ g.0) ++ x ∷ base = ap (performed hosts) split ∙ f.1 ∙ ap (λ (t : List (At Line)). f.0 ++ t) parted ∙ sym (append_assoc f.0 g.0 (x ∷ base)) in
    let there : host_after (starts hosts) base e.place ≡ after_lines s.before k.host =
    after_all (starts hosts) e.time e.place s.before (performed hosts older) e.place true (is_itself e.place) ∙ ap (after_lines s.before) (same hosts terms trace is older e.place) in
    holding hosts terms trace is n (e.time + answering_by terms)
    (request_is_answered (starts hosts) terms (performed hosts trace) (f.0 ++ g.0) base x asker n is whole late later (subst (λ (h : Opened). Contains (sent_by_line s.line h) (Request asker n)) (sym there) s.sent) a)
