-- A session with starts as one of hosts that keep themselves from their last openings on.
use Rattle.std.proofs.Common.{◌≡◌, ◌+◌, ◌<◌, ◌≤◌, ℕ, Bool, true, false, cond, List, [], ◌∷◌, ◌++◌, ◌∙◌, None, ap, eqb-true, length, refl, subst, sym, true≢false}
use Rattle.std.specs.Prelude.{Contains, nat_eq}
use Rattle.wb_names.specs.History.{highest}
use Rattle.wb_names.specs.Values.{DrawopValue}
use Rattle.wb_codec.specs.declared.datagram.Datagram.{Datagram}
use Rattle.wb_recovery.specs.Timing.{are_constants}
use Rattle.wb_member.specs.Judged.{holds}
use Rattle.wb_keeping.specs.Laws.{AreTaken as AreLinesTaken, KeptLine, after_kept, doing_of, fault_of}
use Rattle.wb_keeping.specs.Performing.{Keeping, after_doing, sent_by_doing}
use Rattle.wb_laws_machines.specs.Honest.{AreApart}
use Rattle.wb_laws_kept.specs.Openings.{Opening, DoNotGoBack}
use Rattle.wb_laws_kept.specs.Openings as openings
use Rattle.wb_laws_kept.specs.Calls.{Begins, Call, Handed, IsTaken, after_call, given_lines}
use Rattle.wb_laws_kept.specs.Sessions.{AreTaken, At, kept_at}
use Rattle.wb_laws_kept.proofs.Honest.{number_of_kept}
use Rattle.wb_kept_progress.specs.Sessions.{WasSent}
use Rattle.wb_kept_progress.specs.Sessions as hosts
use Rattle.wb_kept_progress.specs.Since.{elsewhere, handed_at, hosts_of, opening_at, opening_by, since, since_by, with_number}
use Rattle.wb_kept_progress.specs.Starts.{AreSent, HasCome, NoStateIsADeadEnd, calls_of, sent_since}
use Rattle.wb_kept_progress.specs.Repairs as repairs
use Rattle.wb_kept_progress.proofs.Coming.{lost_can_come}
use Rattle.wb_kept_progress.proofs.Repairs.{is_itself}
use Rattle.std.proofs.lemmas.Bool.{false_from_ne_true}

-- ---- the lines since the last opening of each member

-- a line that is handed in at a time
abbrev pub line_at : ℕ → ℕ → KeptLine → At KeptLine
line_at time p line = record { time = time; place = p; event = line }

pub same_either : {A : Type 0} (b : Bool) (x : A) → cond b x x ≡ x
same_either true x = refl
same_either false x = refl

module _ (numbers : ℕ → ℕ) where
  -- ---- one host depends on its own opening and its own lines

  other_place : (h : ℕ → hosts.Opening) (e : At KeptLine) (lines : List (At KeptLine)) (q : ℕ) → nat_eq e.place q ≡ false → hosts.kept_at h (e ∷ lines) q ≡ hosts.kept_at h lines q
  other_place h e lines q unlike = ap (λ (b : Bool). cond b (after_doing (doing_of e.event) (hosts.kept_at h lines q)) (hosts.kept_at h lines q)) unlike

  same_place : (h : ℕ → hosts.Opening) (time p : ℕ) (line : KeptLine) (lines : List (At KeptLine)) → hosts.kept_at h (line_at time p line ∷ lines) p ≡ after_doing (doing_of line) (hosts.kept_at h lines p)
  same_place h time p line lines = ap (λ (b : Bool). cond b (after_doing (doing_of line) (hosts.kept_at h lines p)) (hosts.kept_at h lines p)) (is_itself p)

  pub same_opening : (one other : ℕ → hosts.Opening) (q : ℕ) → one q ≡ other q → (lines : List (At KeptLine)) → hosts.kept_at one lines q ≡ hosts.kept_at other lines q
  same_opening one other q is [] = ap hosts.opened is
  same_opening one other q is (e ∷ lines) = ap (λ (k : Keeping). cond (nat_eq e.place q) (after_doing (doing_of e.event) k) k) (same_opening one other q is lines)

  module _ (h : ℕ → hosts.Opening) (p : ℕ) where
    -- there the host is as it was opened
    none_left : (lines : List (At KeptLine)) → hosts.kept_at h (elsewhere p lines) p ≡ hosts.opened (h p)
    none_left [] = refl
    none_left (e ∷ lines) = by (none_left lines) (nat_eq e.place p) refl where
      by : hosts.kept_at h (elsewhere p lines) p ≡ hosts.opened (h p) → (b : Bool) → nat_eq e.place p ≡ b → hosts.kept_at h (cond b (elsewhere p lines) (e ∷ elsewhere p lines)) p ≡ hosts.opened (h p)
      by rest true is = rest
      by rest false unlike = other_place h e (elsewhere p lines) p unlike ∙ rest

    -- and elsewhere as before
    all_left : (q : ℕ) → (p ≡ q → ⊥) → (lines : List (At KeptLine)) → hosts.kept_at h (elsewhere p lines) q ≡ hosts.kept_at h lines q
    all_left q differ [] = refl
    all_left q differ (e ∷ lines) = by (all_left q differ lines) (nat_eq e.place p) refl where
      by : hosts.kept_at h (elsewhere p lines) q ≡ hosts.kept_at h lines q → (b : Bool) → nat_eq e.place p ≡ b → hosts.kept_at h (cond b (elsewhere p lines) (e ∷ elsewhere p lines)) q ≡ hosts.kept_at h (e ∷ lines) q
      by rest true is = rest ∙ sym (other_place h e lines q (false_from_ne_true (nat_eq e.place q) (λ same. differ (sym (eqb-true e.place p is) ∙ eqb-true e.place q same))))
      by rest false unlike = ap (λ (k : Keeping). cond (nat_eq e.place q) (after_doing (doing_of e.event) k) k) rest

    given_here : (time : ℕ) (given : List KeptLine) (lines : List (At KeptLine)) → hosts.kept_at h (handed_at time p given lines) p ≡ after_kept given (hosts.kept_at h lines p)
    given_here time [] lines = refl
    given_here time (line ∷ given) lines = given_here time given (line_at time p line ∷ lines) ∙ ap (after_kept given) (same_place h time p line lines)

    given_elsewhere : (time q : ℕ) → (p ≡ q → ⊥) → (given : List KeptLine) (lines : List (At KeptLine)) → hosts.kept_at h (handed_at time p given lines) q ≡ hosts.kept_at h lines q
    given_elsewhere time q differ [] lines = refl
    given_elsewhere time q differ (line ∷ given) lines = given_elsewhere time q differ given (line_at time p line ∷ lines) ∙ other_place h (line_at time p line) lines q (false_from_ne_true (nat_eq p q) (λ same. differ (eqb-true p q same)))

    -- ---- no line is refused

    without_taken : (other : ℕ → hosts.Opening) → ((q : ℕ) → (p ≡ q → ⊥) → h q ≡ other q) → (lines : List (At KeptLine)) → hosts.AreTaken other lines → hosts.AreTaken h (elsewhere p lines)
    without_taken other same [] taken = tt
    without_taken other same (e ∷ lines) taken = by (without_taken other same lines taken.1) (nat_eq e.place p) refl where
      by : hosts.AreTaken h (elsewhere p lines) → (b : Bool) → nat_eq e.place p ≡ b → hosts.AreTaken h (cond b (elsewhere p lines) (e ∷ elsewhere p lines))
      by rest true is = rest
      by rest false unlike =
          let differ : p ≡ e.place → ⊥ = λ is. true≢false (sym (ap (nat_eq e.place) is ∙ is_itself e.place) ∙ unlike) in
          (subst (λ (k : Keeping). fault_of e.event k ≡ None) (sym (all_left e.place differ lines ∙ same_opening h other e.place (same e.place differ) lines)) taken.0, rest)

    given_taken : (time : ℕ) (given : List KeptLine) (lines : List (At KeptLine)) → AreLinesTaken given (hosts.kept_at h lines p) → hosts.AreTaken h lines → hosts.AreTaken h (handed_at time p given lines)
    given_taken time [] lines given_are taken = taken
    given_taken time (line ∷ given) lines given_are taken = given_taken time given (line_at time p line ∷ lines)
        (subst (AreLinesTaken given) (sym (same_place h time p line lines)) given_are.1) (given_are.0, taken)

  -- ---- the same hosts

  abbrev call_at : ℕ → ℕ → Call → At Call
  call_at time p call = record { time = time; place = p; event = call }

  module _ (time p : ℕ) (older : List (At Call)) (rest : (q : ℕ) → hosts.kept_at (hosts_of numbers older) (since numbers older) q ≡ kept_at numbers older q) where
    abbrev now : Call → ℕ → hosts.Opening
    now call = hosts_of numbers (call_at time p call ∷ older)

    stays : (line : KeptLine) (q : ℕ) → now (Handed line) q ≡ hosts_of numbers older q
    stays line q = ap (with_number (numbers q)) (same_either (nat_eq p q) (opening_at older q))

    other_stays : (call : Call) (q : ℕ) → (p ≡ q → ⊥) → now call q ≡ hosts_of numbers older q
    other_stays call q differ = ap (λ (b : Bool). with_number (numbers q) (cond b (opening_by call (opening_at older q)) (opening_at older q))) (false_from_ne_true (nat_eq p q) (λ same. differ (eqb-true p q same)))

    begins_here : (o : Opening) (given : List Datagram) → now (Begins o given) p ≡ with_number (numbers p) o
    begins_here o given = ap (λ (b : Bool). with_number (numbers p) (cond b o (opening_at older p))) (is_itself p)

    -- as the one that was just opened
    just_opened : (o : Opening) (given : List Datagram) → hosts.kept_at (now (Begins o given)) (elsewhere p (since numbers older)) p ≡ openings.opened (numbers p) o
    just_opened o given = none_left (now (Begins o given)) p (since numbers older) ∙ ap hosts.opened (begins_here o given)

    one_call : (call : Call) (q : ℕ) → hosts.kept_at (now call) (since_by (numbers p) time p call (since numbers older)) q ≡ kept_at numbers (call_at time p call ∷ older) q
    one_call (Handed line) q = ap (λ (k : Keeping). cond (nat_eq p q) (after_doing (doing_of line) k) k)
        (same_opening (now (Handed line)) (hosts_of numbers older) q (stays line q) (since numbers older) ∙ rest q)
    one_call (Begins o given) q = by (nat_eq p q) refl where
      gives : Keeping → List KeptLine
      gives first = given_lines first given

      first_is : openings.opened (numbers p) o ≡ openings.opened (kept_at numbers older p).host.is.number o
      first_is = ap (λ (n : ℕ). openings.opened n o) (sym (number_of_kept numbers older p))

      here : hosts.kept_at (now (Begins o given)) (since_by (numbers p) time p (Begins o given) (since numbers older)) p ≡ after_call (Begins o given) (kept_at numbers older p)
      here =
          given_here (now (Begins o given)) p time (gives (openings.opened (numbers p) o)) (elsewhere p (since numbers older))
          ∙ ap (after_kept (gives (openings.opened (numbers p) o))) (just_opened o given)
          ∙ ap (λ (first : Keeping). after_kept (gives first) first) first_is

      by : (b : Bool) → nat_eq p q ≡ b → hosts.kept_at (now (Begins o given)) (since_by (numbers p) time p (Begins o given) (since numbers older)) q ≡ cond b (after_call (Begins o given) (kept_at numbers older q)) (kept_at numbers older q)
      by true is = subst (λ (k : ℕ). hosts.kept_at (now (Begins o given)) (since_by (numbers p) time p (Begins o given) (since numbers older)) k ≡ after_call (Begins o given) (kept_at numbers older k)) (eqb-true p q is) here
      by false unlike =
          let differ : p ≡ q → ⊥ = λ same. true≢false (sym (ap (nat_eq p) (sym same) ∙ is_itself p) ∙ unlike) in
          given_elsewhere (now (Begins o given)) p time q differ (gives (openings.opened (numbers p) o)) (elsewhere p (since numbers older))
          ∙ all_left (now (Begins o given)) p q differ (since numbers older)
          ∙ same_opening (now (Begins o given)) (hosts_of numbers older) q (other_stays (Begins o given) q differ) (since numbers older)
          ∙ rest q

    same_taken : (one other : ℕ → hosts.Opening) → ((q : ℕ) → one q ≡ other q) → (lines : List (At KeptLine)) → hosts.AreTaken other lines → hosts.AreTaken one lines
    same_taken one other same [] taken = tt
    same_taken one other same (e ∷ lines) taken = (subst (λ (k : Keeping). fault_of e.event k ≡ None) (sym (same_opening one other e.place (same e.place) lines)) taken.0, same_taken one other same lines taken.1)

    call_taken : (call : Call) → IsTaken call (kept_at numbers older p) → hosts.AreTaken (hosts_of numbers older) (since numbers older) → hosts.AreTaken (now call) (since_by (numbers p) time p call (since numbers older))
    call_taken (Handed line) is taken = (
      subst (λ (k : Keeping). fault_of line k ≡ None) (sym (same_opening (now (Handed line)) (hosts_of numbers older) p (stays line p) (since numbers older) ∙ rest p)) is,
      same_taken (now (Handed line)) (hosts_of numbers older) (stays line) (since numbers older) taken,
    )
    call_taken (Begins o given) is taken =
        given_taken (now (Begins o given)) p time (given_lines (openings.opened (numbers p) o) given) (elsewhere p (since numbers older))
        (subst (AreLinesTaken (given_lines (openings.opened (numbers p) o) given)) (sym (just_opened o given))
        (subst (λ (n : ℕ). AreLinesTaken (given_lines (openings.opened n o) given) (openings.opened n o)) (number_of_kept numbers older p) is.1))
        (without_taken (now (Begins o given)) p (hosts_of numbers older) (other_stays (Begins o given)) (since numbers older) taken)

  pub is_kept : (calls : List (At Call)) (q : ℕ) → hosts.kept_at (hosts_of numbers calls) (since numbers calls) q ≡ kept_at numbers calls q
  is_kept [] q = refl
  is_kept (e ∷ older) q = one_call e.time e.place older (is_kept older) e.event q

  pub are_taken : (calls : List (At Call)) → AreTaken numbers calls → hosts.AreTaken (hosts_of numbers calls) (since numbers calls)
  are_taken [] taken = tt
  are_taken (e ∷ older) taken = call_taken e.time e.place older (is_kept older) e.event taken.0 (are_taken older taken.1)

  -- ---- they are hosts

  pub record IsFit (o : Opening) : Type 0 where
    pub moments : DoNotGoBack 0 o.moments
    in_range : are_constants o.constants ≡ true

  pub are_fit : (calls : List (At Call)) → AreTaken numbers calls → (i : ℕ) → IsFit (opening_at calls i)
  are_fit [] taken i = record { moments = tt; in_range = refl }
  are_fit (e ∷ older) taken i = by (are_fit older taken.1 i) (nat_eq e.place i) where
    called : (call : Call) → IsTaken call (kept_at numbers older e.place) → IsFit (opening_at older i) → IsFit (opening_by call (opening_at older i))
    called (Begins o given) is rest = record { moments = is.0.moments; in_range = is.0.in_range }
    called (Handed line) is rest = rest

    by : IsFit (opening_at older i) → (b : Bool) → IsFit (cond b (opening_by e.event (opening_at older i)) (opening_at older i))
    by rest true = called e.event taken.0 rest
    by rest false = rest

  are_hosts : AreApart numbers → (calls : List (At Call)) → AreTaken numbers calls → hosts.AreHosts (hosts_of numbers calls)
  are_hosts apart calls taken = record {
    distinct = apart;
    moments = λ i. (are_fit calls taken i).moments;
    in_range = λ i. (are_fit calls taken i).in_range;
  }

  -- ---- the lines after them

  module _ (time : ℕ) (older : List (At Call)) where
    abbrev h : ℕ → hosts.Opening
    h = hosts_of numbers older

    abbrev start : List (At KeptLine)
    start = since numbers older

    is_behind : (newer : List (At KeptLine)) (q : ℕ) → hosts.kept_at h (newer ++ start) q ≡ kept_at numbers (calls_of time newer ++ older) q
    is_behind [] q = is_kept older q
    is_behind (e ∷ newer) q = ap (λ (k : Keeping). cond (nat_eq e.place q) (after_doing (doing_of e.event) k) k) (is_behind newer q)

    taken_behind : (newer : List (At KeptLine)) → AreTaken numbers older → hosts.AreTaken h (newer ++ start) → AreTaken numbers (calls_of time newer ++ older)
    taken_behind [] taken are = taken
    taken_behind (e ∷ newer) taken are = (subst (λ (k : Keeping). fault_of e.event k ≡ None) (is_behind newer e.place) are.0, taken_behind newer taken are.1)

    sent_behind : (newer : List (At KeptLine)) → hosts.sent_since h newer start ≡ sent_since numbers time newer older
    sent_behind [] = refl
    sent_behind (e ∷ newer) =
        ap (λ (k : Keeping). sent_by_doing (doing_of e.event) k ++ hosts.sent_since h newer start) (is_behind newer e.place)
        ∙ ap (λ (before : List Datagram). sent_by_doing (doing_of e.event) (kept_at numbers (calls_of time newer ++ older) e.place) ++ before) (sent_behind newer)

    are_sent : (newer : List (At KeptLine)) → hosts.AreSent h newer start → AreSent numbers time newer older
    are_sent [] sent = tt
    are_sent (e ∷ newer) sent = (subst (λ (before : List Datagram). WasSent before e.event) (sent_behind newer) sent.0, are_sent newer sent.1)

    has_come : (newer : List (At KeptLine)) (i : ℕ) (d : DrawopValue) → AreTaken numbers older → repairs.HasCome h newer start i d → HasCome numbers time newer older i d
    has_come newer i d taken c = record {
      taken = taken_behind newer taken c.taken;
      sent = are_sent newer c.sent;
      held = subst (λ (k : Keeping). Contains k.host.is.held d) (is_behind newer i) c.held;
    }

pub no_state_is_a_dead_end : NoStateIsADeadEnd
no_state_is_a_dead_end numbers time older i j d apart taken counted held lacks room small =
    let h = hosts_of numbers older in
    let start = since numbers older in
    let one = sym (is_kept numbers older i) in
    let other = sym (is_kept numbers older j) in
    let come = lost_can_come h start i j d (are_hosts numbers apart older taken) (are_taken numbers older taken) counted
    (subst (λ (k : Keeping). Contains k.host.is.held d) other held)
    (subst (λ (k : Keeping). holds k.host d.name ≡ false) one lacks)
    (subst (λ (k : Keeping). length k.host.is.held + 2 ≤ k.host.is.cells) one room)
    (subst (λ (k : Keeping). highest d.name.page d.name.source k.host.is.held < 2147483648) other small) in
    (come.0, has_come numbers time older come.0 i d taken come.1)
